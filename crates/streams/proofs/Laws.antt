-- The laws of the input's buffer: a read behind what is there, and the tail that is kept.
use Prim.Native.Nat.{ℕ, ◌+◌, ◌-◌, ◌%◌, ◌≤◌}
use mathlib.Core.Path.{◌≡◌, refl, sym, ap, ◌∙◌}
use mathlib.Core.List.{List, ◌++◌, append_assoc}
use native.Mathlib.Omega.{arith}
use lib.ListN.{length, take, drop, length-drop}
use lib.Seq.{paste, sets, sets-eq, length-take-le, take_at, take-append-add, take-append-le}
use Rattle.std.specs.Prelude.{Option, Some, None}
use Rattle.std.specs.Io.KnownBytes.{Consumes}
use Rattle.streams.specs.Buffer.{tail_of}

-- what is read is what was read before and what is read now
pub reads_on : (a b c : Option (List ℕ)) (xs ys : List ℕ) → Consumes a b xs → Consumes b c ys → Consumes a c (xs ++ ys)
reads_on None b c xs ys p q = tt
reads_on (Some r) None c xs ys p q = absurd p
reads_on (Some r) (Some s) None xs ys p q = absurd q
reads_on (Some r) (Some s) (Some t) xs ys p q = p ∙ ap (λ (l : List ℕ). xs ++ l) q ∙ sym (append_assoc xs ys t)

-- got bytes more stand behind the first n
pub read_more : (buf s rest : List ℕ) (n got : ℕ) → n ≤ length buf → got ≤ length s → take (n + got) (take n buf ++ (s ++ rest)) ≡ take n buf ++ take got s
read_more buf s rest n got h room =
    let long : length (take n buf) ≡ n = length-take-le n buf h in
    let same : n + got ≡ length (take n buf) + got = omega (arith, long) in
    rw (same, take-append-add (take n buf) (s ++ rest) got, take-append-le got s rest room) refl

module _ (filled : ℕ) (buf : List ℕ) (h : filled ≤ length buf) where
  length-tail : length (tail_of filled buf) ≡ filled % 136
  unfolding tail_of
  length-tail = length-take-le (filled % 136) (drop (filled - filled % 136) buf) (simp length-drop (omega arith))

  -- the bytes that `copy_within` moves are the tail
  pub tail_moved : (from : ℕ) (new : List ℕ) → from ≡ filled - filled % 136 → new ≡ paste buf 0 (drop from buf) (filled - from) → new ≡ sets buf 0 (tail_of filled buf)
  unfolding tail_of
  tail_moved from new e moved =
      let n : filled - from ≡ filled % 136 = omega arith in
      let fits : 0 + length (tail_of filled buf) ≤ length buf = omega (arith, length-tail) in
      moved ∙ rw (n, e) (sym (sets-eq (tail_of filled buf) buf 0 fits ∙ rw (length-tail) refl))

  -- and stand at the start afterwards
  pub tail_kept : (new : List ℕ) → new ≡ sets buf 0 (tail_of filled buf) → take (filled % 136) new ≡ tail_of filled buf
  tail_kept new e =
      let fits : 0 + length (tail_of filled buf) ≤ length buf = omega (arith, length-tail) in
      rw (e, sets-eq (tail_of filled buf) buf 0 fits) (take_at (tail_of filled buf) (drop (0 + length (tail_of filled buf)) buf) (filled % 136) length-tail)
