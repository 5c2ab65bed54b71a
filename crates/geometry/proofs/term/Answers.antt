-- `geometry::term` meets its contract: what is left out before the factor ten is whole turns, and ten times that still is.
use mathlib.Core.Path.{◌≡◌, sym, ap, ◌∙◌}
use Prim.Native.Nat.{ℕ, ◌+◌, ◌*◌, ◌/◌, ◌%◌}
use native.Mathlib.Nat.{mul-add, mul_assoc, mod-add-div', add-mul-mod_self_right}
use Rattle.angle.specs.Turn.{turn}
use Rattle.kepler.specs.Kepler.{phase_of}
use Rattle.geometry.specs.Visible.{ten_turns, term_at}
use Rattle.geometry.proofs.term.Goals as goal

-- k times t is as far in its turn as k times what is left of t
rest-alike : (p k t : ℕ) → phase_of p (k * (t % p)) ≡ phase_of p (k * t)
unfolding phase_of
rest-alike p k t =
    let parts : k * t ≡ k * (t % p) + k * (t / p) * p = ap (λ (n : ℕ). k * n) (sym (mod-add-div' t p)) ∙ mul-add k (t % p) (t / p * p) ∙ ap (λ (n : ℕ). k * (t % p) + n) (sym (mul_assoc k (t / p) p)) in
    ap (λ (n : ℕ). n * turn / p) (sym (ap (λ (n : ℕ). n % p) parts ∙ add-mul-mod_self_right (k * (t % p)) (k * (t / p)) p))

pub returns : goal.returns
unfolding term_at
returns c = (rw c.from.ensures at c.phase.ensures) ∙ rest-alike ten_turns 10 _
