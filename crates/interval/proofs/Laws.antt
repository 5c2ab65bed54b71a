-- The record's bytes: four numbers one behind the other. Both round trips, through the laws of little-endian numbers.
use Prim.Native.Nat.{ℕ, ◌+◌, ◌<◌}
use mathlib.Core.Path.{◌≡◌, refl, sym, ◌∙◌}
use mathlib.Core.List.{List, [], ◌++◌, append_assoc, append-nil}
use native.Mathlib.Omega.{arith}
use lib.ListN.{length, length-append}
use borrow.Author.Tests.{eq-eqb, ne_eqb}
use Rattle.std.specs.Prelude.{Some, None}
use Rattle.words.specs.Little.{bytes_of, read_of, put_of, Bytes}
use Rattle.words.proofs.Stores.{sets-append, sets-all}
use Rattle.words.proofs.Laws.{length-bytes, put-read, read_among}
use Rattle.interval.specs.declared.Interval.{Interval}
use Rattle.interval.specs.Record.{record_bytes, record_of, parsed_of, write_of, Sized}

-- ---- writing

-- four numbers put one behind the other are the record
pub record_puts : (l : List ℕ) {l₁ l₂ l₃ l₄ : List ℕ} (at : ℕ) (r : Interval) → l₁ ≡ put_of 4 l at r.job → l₂ ≡ put_of 4 l₁ (at + 4) r.flags → l₃ ≡ put_of 8 l₂ (at + 8) r.first → l₄ ≡ put_of 8 l₃ (at + 16) r.last → l₄ ≡ write_of l at r
unfolding write_of record_bytes put_of
record_puts l at r p q s t = rw (t, s, q, p) (simp (sets-append, length-append, length-bytes))

pub length-record : (r : Interval) → length (record_bytes r) ≡ 24
unfolding record_bytes
length-record r = simp (length-append, length-bytes)

-- ---- any 24 bytes read as one record, and any other length answers that there is no record

pub reads : (s : List ℕ) → length s ≡ 24 → parsed_of s ≡ Some (record_of s)
unfolding parsed_of
reads s n = rw (eq-eqb (length s) 24 n)

pub reads-not : (s : List ℕ) → (length s ≡ 24 → ⊥) → parsed_of s ≡ None
unfolding parsed_of
reads-not s n = rw (ne_eqb (length s) 24 n)

-- ---- there and back: 24 bytes are written back as they were read

module _ (s : List ℕ) (b : Bytes s) (n : length s ≡ 24) where
  put_back : write_of s 0 (record_of s) ≡ s
  unfolding record_of
  put_back =
      let same : (k at : ℕ) → at + k < 25 → s ≡ put_of k s at (read_of k s at) = λ k at h. sym (put-read k s at (omega arith) b) in
      sym (record_puts s 0 (record_of s) (same 4 0 (omega arith)) (same 4 4 (omega arith)) (same 8 8 (omega arith)) (same 8 16 (omega arith)))

  pub written_back : record_bytes (record_of s) ≡ s
  unfolding write_of
  written_back = sym (sets-all (record_bytes (record_of s)) s (n ∙ sym (length-record (record_of s)))) ∙ put_back

-- ---- and the other way: a record is read as it was written

pub read_back : (r : Interval) → Sized r → record_of (record_bytes r) ≡ r
unfolding record_of record_bytes
read_back r z =
    let a = bytes_of 4 r.job in
    let b = bytes_of 4 r.flags in
    let c = bytes_of 8 r.first in
    let d = bytes_of 8 r.last in
    let s = a ++ b ++ c ++ d in
    let job : read_of 4 s 0 ≡ r.job = read_among 4 r.job s [] (b ++ (c ++ d)) 0 z.job-fits refl (simp append_assoc) in
    let flags : read_of 4 s 4 ≡ r.flags = read_among 4 r.flags s a (c ++ d) 4 z.flags-fits (length-bytes 4 r.job) (simp append_assoc) in
    let first : read_of 8 s 8 ≡ r.first = read_among 8 r.first s (a ++ b) d 8 z.first_fits (simp (length-append, length-bytes)) (simp append_assoc) in
    let last : read_of 8 s 16 ≡ r.last = read_among 8 r.last s (a ++ b ++ c) [] 16 z.last_fits (simp (length-append, length-bytes)) (simp (append_assoc, append-nil)) in
    λ i. record { job = job i; flags = flags i; first = first i; last = last i }
