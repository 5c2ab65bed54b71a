-- Of an input whose bytes are known, how much `fill` gives and where `run` cuts are determined.
use Prim.Native.Nat.{ℕ, ◌+◌, ◌%◌, ◌≤◌, ◌<◌}
use mathlib.Core.Path.{◌≡◌, refl, sym, ap, ◌∙◌}
use mathlib.Core.Logic.{◌⊎◌, inl, inr}
use mathlib.Core.List.{List, [], ◌∷◌, ◌++◌}
use native.Mathlib.Omega.{arith}
use lib.ListN.{length, take, drop, length-append}
use lib.Seq.{length-take-le, take_at, drop_at}
use denote.Ref.{Bor}
use Rattle.std.specs.Prelude.{Option, Some, None, Result, min}
use Rattle.std.specs.List.{All, concat}
use Rattle.std.specs.Io.KnownBytes.{Consumes, IsAtEnd}
use Rattle.std.specs.Fn.{Mut}
use Rattle.std.proofs.Math.Nat.{min-eq_left, min-eq_right}
use Rattle.std.proofs.lemmas.Bool.{cases_lt}
use Rattle.std.proofs.lemmas.List.Elements.{All-head, All-tail}
use Rattle.streams.specs.declared.Failure.{Failure}
use Rattle.streams.specs.Answered.{Whole, Answered}

-- ---- fill

-- of x bytes n are taken and r are left; a buffer has room for b, and is not full only where none is left
as_many : (n b x r : ℕ) → n ≤ b → x ≡ n + r → (n < b → r ≡ 0) → (n < b) ⊎ (b ≤ n) → n ≡ min b x
as_many n b x r fits sum end (inl less) = let none = end less in let all : n ≡ x = omega (arith, sum, none) in all ∙ sym (min-eq_right (omega (arith, sum, none)))
as_many n b x r fits sum end (inr full) = let same : n ≡ b = omega arith in same ∙ sym (min-eq_left (omega (arith, sum)))

-- all there is of xs, or as many of its bytes as the buffer holds
pub fills : (xs buf : List ℕ) (new : Option (List ℕ)) (n : ℕ) → n ≤ length buf → Consumes (Some xs) new (take n buf) → (n < length buf → IsAtEnd new)
    → (n ≡ min (length buf) (length xs)) × (take n buf ≡ take n xs)
fills xs buf None n fits gave end = absurd gave
fills xs buf (Some ys) n fits gave end =
    let long : length (take n buf) ≡ n = length-take-le n buf fits in
    let sum : length xs ≡ n + length ys = omega (arith, ap length gave, length-append (take n buf) ys, long) in
    (as_many n (length buf) (length xs) (length ys) fits sum (λ less. ap length (end less)) (cases_lt n (length buf)), sym (ap (take n) gave ∙ take_at (take n buf) ys n long))

-- ---- run

-- the pieces are whole records
long-whole : (room : ℕ) (pieces : List (List ℕ)) → All (Whole room) pieces → length (concat pieces) % 136 ≡ 0
long-whole room [] h = refl
long-whole room (s ∷ ps) h =
    let here = (All-head (Whole room) s ps h).1 in
    omega (arith, here, long-whole room ps (All-tail (Whole room) s ps h), length-append s (concat ps))

-- so there is one place alone to cut behind them
one-cut : (f t f' t' : List ℕ) → f ++ t ≡ f' ++ t' → length f % 136 ≡ 0 → length f' % 136 ≡ 0 → length t < 136 → length t' < 136 → (f ≡ f') × (t ≡ t')
one-cut f t f' t' is h h' short short' =
    let e : length f ≡ length f' = omega (arith, ap length is, length-append f t, length-append f' t') in
    (sym (take_at f t (length f) refl) ∙ ap (take (length f)) is ∙ take_at f' t' (length f) (sym e), sym (drop_at f t (length f) refl) ∙ ap (drop (length f)) is ∙ drop_at f' t' (length f) (sym e))

-- two runs that hand over all of one input, by way of whatever buffers and to whatever is called
module _ {room room' : ℕ} {F F' : Type 0} {g : Mut F (Bor (List ℕ) × Unit {0}) (Result (Unit {0}) Failure)} {g' : Mut F' (Bor (List ℕ) × Unit {0}) (Result (Unit {0}) Failure)}
    {f : F} {f' : F'} {xs : List ℕ} where
  -- the whole records are the same, which are those of the pieces in their order, and so is the short piece
  abbrev pub SameAnswered : Answered room g f xs → Answered room' g' f' xs → Type 0
  SameAnswered u v = (u.front ≡ v.front) × (u.tail ≡ v.tail) × (concat u.taken.pieces ≡ u.front) × (concat v.taken.pieces ≡ v.front)

  pub cut_only : (u : Answered room g f xs) (v : Answered room' g' f' xs) → SameAnswered u v
  cut_only u v =
      let cut = one-cut u.front u.tail v.front v.tail (sym u.are ∙ v.are) (ap (λ (l : List ℕ). length l % 136) u.taken.are ∙ long-whole room u.taken.pieces u.taken.whole)
      (ap (λ (l : List ℕ). length l % 136) v.taken.are ∙ long-whole room' v.taken.pieces v.taken.whole) u.short v.short in
      (cut.0, cut.1, sym u.taken.are, sym v.taken.are)
