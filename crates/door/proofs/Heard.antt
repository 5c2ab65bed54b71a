-- What a call returns and leaves behind, by whether 32 bytes are lent for the answer: the tests of the definitions, decided.
use Prim.Native.Nat.{ℕ}
use mathlib.Core.Path.{◌≡◌, refl, ap, ◌∙◌}
use mathlib.Core.Bool.{true, false}
use mathlib.Core.List.{List}
use lib.ListN.{length}
use borrow.Author.Tests.{eqb-false}
use Rattle.door.specs.declared.Answer.{Answer}
use Rattle.door.specs.Answer.{answer_bytes, answer_in, answer_size}
use Rattle.door.specs.Door.{heard_in, returned_of, behind, answer_behind, ReadsBack}

-- of one call: the lent answer, what came of the call, and a buffer as it was lent and as it is to be
module _ (answer : List ℕ) (told : Answer) (old new : List ℕ) where
  -- what each contract says: of what is returned, the buffer, the answer, and the numbers read off it
  abbrev Meets : ℕ → List ℕ → List ℕ → Type 0
  Meets r buffer after = (r ≡ returned_of answer) × ((buffer ≡ behind answer new old) × ((after ≡ answer_behind answer told) × ReadsBack answer told after))

  -- with 32 bytes: 1, the buffer as it is to be, and what came of the call
  pub heard_all : heard_in answer ≡ true → {a : Answer} {buffer after : List ℕ} → a ≡ told → buffer ≡ new → after ≡ answer_bytes a → answer_in after ≡ a → Meets 1 buffer after
  unfolding returned_of behind
  heard_all long is put wrote back = rw long (refl, (put, (wrote ∙ ap answer_bytes is, λ _. back ∙ is)))

  -- with any other number of bytes: 0, and nothing at all is written
  pub unheard_all : heard_in answer ≡ false → Meets 0 old answer
  unfolding returned_of behind
  unheard_all other = rw other (refl, (refl, (refl, λ long. absurd (eqb-false (length answer) answer_size other long))))
