-- A record is refused exactly if the refusal's row applies and each before it passes, and read exactly if all pass; then the elements are accepted.
use Prim.Native.Nat.{ℕ, ◌-◌, ◌<◌}
use mathlib.Core.Path.{◌≡◌, refl, sym, ap, subst, ◌∙◌}
use mathlib.Core.Logic.{◌↔◌}
use mathlib.Core.Bool.{false, not}
use mathlib.Core.List.{List}
use native.Mathlib.Omega.{arith}
use borrow.Author.Tests.{eq-eqb, ne_eqb}
use lib.Dec.{T, lit<}
use lib.ListN.{length, take, drop}
use lib.Ieee.{Float, binary64, sub, fits, le, lt}
use lib.Ieee.Bits.{of_bits-fits}
use lib.Ieee.Exact.{HasValue}
use lib.Ieee.Positive.{num, den, positive}
use Rattle.nearest.specs.Nearest.{decimal, number}
use Rattle.words.specs.Little.{Bytes}
use Rattle.refusal.specs.Refusal.{order_of, value_of}
use Rattle.std.specs.Prelude.{Ok, Err}
use Rattle.refusal.specs.Rows.{Verdict, passed, ◌then◌, first, row_at, Gives, Passes}
use Rattle.refusal.specs.declared.Refusal.{Refusal}
use Rattle.refusal.specs.declared.Refusal.TheVariants.{Length, TooClose}
use Rattle.refusal.proofs.Order.{first-cons, first_parts, when-refused, first-each, first-exactly, passed-exactly}
use Rattle.elements.specs.Field.{bits_in, float_of}
use Rattle.elements.specs.Closest.{closest_of}
use Rattle.elements.specs.Reading.{WholeRecord, elements_of, word_row, field_rows, close_row, rows_from_fields, rows_from, record_rows, read_from, reading_of, Returns}
use Rattle.elements.specs.Accepted.{Accepted}
use Rattle.elements.proofs.Distance.{distance_positive}
use Rattle.elements.proofs.Sterbenz.{exact-from_half}
use Rattle.elements.specs.declared.reading.Elements.{Elements}
use Rattle.elements.proofs.Rows.{told, ordered, field_in, passed-accepted, named_later, length-passed}

-- ---- the reading and the verdict

read-from : (v : Verdict) (x e : Elements) → read_from v x ≡ Ok e → (v ≡ passed) × (e ≡ x)
read-from (Ok t) x e h = (refl, cc)
read-from (Err r) x e h = let z : ◌≡◌ {A = ℕ} 0 1 = cc in absurd (omega arith)

refused-from : (v : Verdict) (x : Elements) (r : Refusal) → read_from v x ≡ Err r → v ≡ Err r
refused-from (Ok t) x r h = let z : ◌≡◌ {A = ℕ} 0 1 = cc in absurd (omega arith)
refused-from (Err q) x r h = cc

module _ (s : List ℕ) where
  -- refused exactly if the refusal's own row gives it and each row before passes: the "exactly if" of 1 to 5
  pub refused-exactly : (r : Refusal) → (reading_of s ≡ Err r) ↔ Gives (record_rows s) (order_of r) r
  unfolding reading_of
  refused-exactly r =
      let exactly = first-exactly (record_rows s) (ordered s) r in (
        λ h. exactly.0 (refused-from (first (record_rows s)) (elements_of s) r h),
        λ g. ap (λ (v : Verdict). read_from v (elements_of s)) (exactly.1 g),
      )

  -- ---- what a refusal hands back

  -- the field's own float and bits, where it names one: then the first row, of the length, passed
  pub refused_returns : (r : Refusal) → Bytes s → reading_of s ≡ Err r → Returns s r
  unfolding reading_of row_at
  refused_returns r b h named =
      let later : 0 < order_of r = named_later r named in
      let w = length-passed s (((refused-exactly r).0 h).none_before 0 later) in
      (first-each (record_rows s) (told s) r (refused-from (first (record_rows s)) (elements_of s) r h)).1.1 w b named

  -- refusal 5 the closest distance, which is a finite number above 0
  pub refused_distance : (d : Float) → reading_of s ≡ Err (TooClose d) → (d ≡ closest_of (float_of s 1) (float_of s 2)) × T (positive d)
  unfolding field_rows elements_of row_at
  refused_distance d h =
      let g = (refused-exactly (TooClose d)).0 h in
      let own = closest_of (float_of s 1) (float_of s 2) in
      let same : own ≡ d = ap value_of (when-refused (not (lt (float_of s 7) own)) (TooClose own) (TooClose d) g.applies).1 in
      let above = distance_positive (float_of s 1) (float_of s 2) (field_in s 1 _ (g.none_before 2 (lit< tt))) (field_in s 2 _ (g.none_before 3 (lit< tt))) in
      (sym same, subst (λ (x : Float). T (positive x)) same above)

  -- ---- what is read

  -- read exactly if every row passes, and then the elements are the record's floats
  pub read-exactly : (e : Elements) → (reading_of s ≡ Ok e) ↔ (Passes (record_rows s) × (e ≡ elements_of s))
  unfolding reading_of
  read-exactly e =
      let exactly = passed-exactly (record_rows s) in (
        λ h. let p = read-from (first (record_rows s)) (elements_of s) e h in (exactly.0 p.0, p.1),
        λ p. ap (λ (v : Verdict). read_from v (elements_of s)) (exactly.1 p.0) ∙ ap (λ (x : Elements). Ok x) (sym p.1),
      )

  -- and they are accepted
  pub read-accepted : (e : Elements) → reading_of s ≡ Ok e → Accepted e
  read-accepted e h = let p = (read-exactly e).0 h in subst Accepted (sym p.1) (passed-accepted s p.0)

  pub read_whole : (e : Elements) → reading_of s ≡ Ok e → WholeRecord s
  unfolding row_at
  read_whole e h = length-passed s (((read-exactly e).0 h).0 0)

  -- from an eccentricity of 0.5 on, 1 − e is exact
  pub read-exact : (e : Elements) → reading_of s ≡ Ok e → T (le (decimal 1 2) e.eccentricity) → let x = e.eccentricity in HasValue (sub binary64 (number 1) x) false (den x - num x) (den x)
  unfolding elements_of
  read-exact e h half =
      let p = ((read-exactly e).0 h).1 in
      let fit = subst (λ (x : Elements). T (fits binary64 x.eccentricity)) (sym p) (of_bits-fits binary64 (bits_in s 2)) in
      exact-from_half e.eccentricity fit half (read-accepted e h).eccentricity_in_lem

  -- ---- by the record's length

  pub not-whole : (length s ≡ 136 → ⊥) → reading_of s ≡ Err Length
  unfolding reading_of first ◌then◌
  not-whole h = rw (ne_eqb (length s) 136 h)

  -- otherwise by what the rows behind the first say
  pub whole : {v : Verdict} {x : List ℕ} {e : Elements} → length s ≡ 136 → x ≡ s → e ≡ elements_of x → v ≡ first (rows_from x e) → read_from v e ≡ reading_of s
  unfolding reading_of first ◌then◌
  whole {v} {x} {e} n same is h = rw (eq-eqb (length s) 136 n, h, is, same) refl

-- ---- rows 2 to 5 in the parts that the code tries

pub in_parts : (s : List ℕ) (e : Elements) → first (rows_from s e) ≡ (word_row s then first (take 7 (field_rows s e)) then first (drop 7 (field_rows s e)) then close_row e)
in_parts s e = first-cons (word_row s) (rows_from_fields s e) ∙ ap (λ (v : Verdict). word_row s then v) (first_parts 7 (field_rows s e) (close_row e))
