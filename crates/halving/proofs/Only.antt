-- The contract of the public function, as the check reads it off the source, leaves one answer only, whatever the type that is searched.
use Prim.Native.Nat.{ℕ, zero, suc, ◌+◌, ◌^◌, ◌≤◌}
use native.Mathlib.Omega.{arith}
use native.Mathlib.Nat.{pow-succ'}
use lib.Pow.{pow_pos}
use denote.RattleType.{RattleType}
use denote.Param.Laws.{Laws}
use mir.Syntax.{Dict}
use Rattle.determined.specs.Determined.{OneResult, by_value}
use Rattle.halving.specs.declared.Search.{Ghosts}
use Rattle.halving.proofs.halve.Kinds as halve
use Rattle.halving.proofs.halve.Reads as halve-reads

-- so many halvings are enough
enough : (n : ℕ) → n ≤ 2 ^ n
enough zero = omega arith
enough (suc n) = omega (arith, pow-succ' 2 n, enough n, pow_pos n)

pub halve_only : (T : RattleType) (laws : Laws T) (search : Ghosts T.Denot) (d : Dict) → OneResult 2 (halve.ps T laws) (halve.r T laws) (halve-reads.Post T laws search d)
halve_only T laws search d κs a x y s t p q =
    let low = a.1.0 in
    let high = a.1.1.0 in
    let wide : high ≤ low + 2 ^ high = omega (arith, enough high) in
    by_value _ (p high wide) (q high wide)
