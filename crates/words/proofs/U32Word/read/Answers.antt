-- `u32::read` meets its contract: the bytes one by one, by the law of one byte and the rest.
use Prim.Native.Nat.{ℕ, ◌+◌, ◌*◌}
use mathlib.Core.Path.{◌≡◌}
use mathlib.Core.List.{List}
use native.Mathlib.Omega.{arith}
use lib.ListN.{get_or}
use Rattle.words.specs.Little.{read_of, Holds}
use Rattle.words.proofs.Laws.{read_none, read_byte}
use Rattle.words.proofs.U32Word.read.Goals as goal

-- four bytes, one by one
four : (s : List ℕ) (at : ℕ) → Holds 4 s at → read_of 4 s at ≡ get_or s at 0 + 256 * (get_or s (at + 1) 0 + 256 * (get_or s (at + 2) 0 + 256 * get_or s (at + 3) 0))
four s at h =
    let second : at + 1 + 1 ≡ at + 2 = omega arith in
    let third : at + 2 + 1 ≡ at + 3 = omega arith in
    rw (
      read_byte 3 s at h,
      read_byte 2 s (at + 1) (omega arith),
      second,
      read_byte 1 s (at + 2) (omega arith),
      third,
      read_byte 0 s (at + 3) (omega arith),
      read_none s (at + 3 + 1),
    )
    (omega arith)

pub returns : goal.returns
returns c = omega (arith, four c.args.s.now c.args.at c.requires)
