-- The table's rows: each gives only refusals of its own order, which hand back what the table says, and passes only what is accepted; row 1 + k is field k's.
use Prim.Native.Nat.{ℕ, zero, suc, ◌+◌, ◌≤◌, ◌<◌}
use mathlib.Core.Path.{◌≡◌, refl, sym, ap, subst, ◌∙◌}
use mathlib.Core.Bool.{Bool, true, false, not, cond}
use mathlib.Core.List.{List, [], ◌∷◌}
use native.Mathlib.Omega.{arith}
use borrow.Author.Tests.{eqb-true, not-false}
use lib.Dec.{T, eqb, lit≤, lit<}
use lib.ListN.{length}
use lib.Ieee.{Float, nan, inf, fin, binary64, is_nan, lt}
use lib.Ieee.Bits.{to_bits-of_bits}
use lib.Ieee.Scale.{finite}
use Rattle.words.specs.Little.{read_of, Bytes}
use Rattle.words.proofs.Laws.{read-lt}
use Rattle.refusal.specs.Refusal.{order_of, field_of}
use Rattle.std.specs.Prelude.{Err}
use Rattle.refusal.specs.Rows.{Verdict, passed, when, row_at, Passes}
use Rattle.refusal.specs.declared.Refusal.{Refusal}
use Rattle.refusal.specs.declared.Refusal.TheVariants.{Length, Word, NotFinite, OutOfRange, TooClose, Window, Step, Question, Room}
use Rattle.refusal.proofs.Order.{not-both, when-refused, when-passed, when-order, row-append, Each, Ordered, each_weaker}
use Rattle.refusal.proofs.Order.Each.{done, ◌also◌}
use Rattle.elements.specs.Field.{field_at, HasField, bits_in, float_of, judge}
use Rattle.elements.specs.Closest.{closest_of}
use Rattle.elements.specs.Reading.{WholeRecord, elements_of, field_rows, close_row, record_rows, Returns}
use Rattle.elements.specs.Accepted.{Accepted}

-- ---- a row's refusals: their order, and what they hand back

abbrev pub Told : List ℕ → ℕ → Refusal → Type 0
Told s n r = (order_of r ≡ n) × (WholeRecord s → Bytes s → Returns s r)

-- of a row that names no field
pub plain : (s : List ℕ) (test : Bool) (q r : Refusal) → field_of q ≡ 0 → when test q ≡ Err r → Told s (order_of q) r
plain s test q r none h =
    let e : field_of r ≡ 0 = ap field_of (sym (when-refused test q r h).1) ∙ none in
    (when-order test q r h, λ w b named. absurd (omega arith))

-- a finite float's bits are those that it was read from
finite_no_nan : (x : Float) → finite x ≡ true → T (not (is_nan x))
unfolding is_nan
finite_no_nan nan h = subst T (sym h) tt
finite_no_nan (inf s) h = tt
finite_no_nan (fin s m e) h = tt

-- of field k, which passes only what is accepted
module _ (s : List ℕ) (k : ℕ) where
  abbrev x : Float
  x = float_of s k

  out_of_range : HasField s k → Bytes s → finite x ≡ true → Returns s (OutOfRange k x)
  out_of_range h b f named = (refl, to_bits-of_bits binary64 (bits_in s k) (read-lt 8 s (field_at k) h b) (finite_no_nan x f))

  field_told : k ≤ 13 → (accepted : Bool) (r : Refusal) → judge s k x accepted ≡ Err r → Told s (1 + k) r
  unfolding judge
  field_told within accepted r h = go (finite x) refl h
    where
      go : (f : Bool) → finite x ≡ f → cond f (when (not accepted) (OutOfRange k x)) (Err (NotFinite k x (bits_in s k))) ≡ Err r → Told s (1 + k) r
      go true f h = (
        when-order (not accepted) (OutOfRange k x) r h,
        λ w b. subst (Returns s) (when-refused (not accepted) (OutOfRange k x) r h).1 (out_of_range (omega arith) b f),
      )
      go false f h = (
        when-order true (NotFinite k x (bits_in s k)) r h,
        λ w b. subst (Returns s) (when-refused true (NotFinite k x (bits_in s k)) r h).1 (λ named. (refl, refl)),
      )

  pub field_in : (accepted : Bool) → judge s k x accepted ≡ passed → T accepted
  unfolding judge
  field_in accepted h = go (finite x) h
    where
      go : (f : Bool) → cond f (when (not accepted) (OutOfRange k x)) (Err (NotFinite k x (bits_in s k))) ≡ passed → T accepted
      go true h = subst T (sym (not-false accepted (when-passed (not accepted) (OutOfRange k x) h))) tt
      go false h = absurd (not-both h refl)

-- ---- the table

pub told : (s : List ℕ) → Each (Told s) 0 (record_rows s)
unfolding field_rows elements_of
told s =
    let e = elements_of s in
    let d = closest_of e.axis e.eccentricity in
    (λ r h. plain s (not (eqb (length s) 136)) Length r refl h)
    also (λ r h. plain s (not (eqb (read_of 4 s 4) 0)) Word r refl h)
    also field_told s 1 (lit≤ tt) _
    also field_told s 2 (lit≤ tt) _
    also field_told s 3 (lit≤ tt) _
    also field_told s 4 (lit≤ tt) _
    also field_told s 5 (lit≤ tt) _
    also field_told s 6 (lit≤ tt) _
    also field_told s 7 (lit≤ tt) _
    also field_told s 8 (lit≤ tt) _
    also field_told s 9 (lit≤ tt) _
    also field_told s 10 (lit≤ tt) _
    also field_told s 11 (lit≤ tt) _
    also field_told s 12 (lit≤ tt) _
    also field_told s 13 (lit≤ tt) _
    also (λ r h. plain s (not (lt e.radius d)) (TooClose d) r refl h)
    also done

pub ordered : (s : List ℕ) → Ordered (record_rows s)
ordered s = each_weaker (λ n r t. t.0) (told s)

pub passed-accepted : (s : List ℕ) → Passes (record_rows s) → Accepted (elements_of s)
unfolding field_rows elements_of row_at
passed-accepted s p =
    let e = elements_of s in
    let d = closest_of e.axis e.eccentricity in
    record {
      axis_in_lem = field_in s 1 _ (p 2);
      eccentricity_in_lem = field_in s 2 _ (p 3);
      inclination_in_lem = field_in s 3 _ (p 4);
      node_in = field_in s 4 _ (p 5);
      periapsis_in = field_in s 5 _ (p 6);
      period_in_lem = field_in s 6 _ (p 7);
      radius_in_lem = field_in s 7 _ (p 8);
      ascension_in = field_in s 8 _ (p 9);
      declination_in = field_in s 9 _ (p 10);
      latitude_in_lem = field_in s 10 _ (p 11);
      longitude_in = field_in s 11 _ (p 12);
      greenwich_in = field_in s 12 _ (p 13);
      elevation_in_lem = field_in s 13 _ (p 14);
      clear = subst T (sym (not-false (lt e.radius d) (when-passed (not (lt e.radius d)) (TooClose d) (p 15)))) tt;
    }

-- ---- each field has its own row

infixr 10 ◌next◌
-- the rows of a table are those of the fields from n on
data Fields (s : List ℕ) : ℕ → List Verdict → Type 0 where
  none : {n : ℕ} → Fields s n []
  ◌next◌ : {n : ℕ} {v : Verdict} {vs : List Verdict} → (accepted : Bool) × (v ≡ judge s n (float_of s n) accepted) → Fields s (suc n) vs → Fields s n (v ∷ vs)

thirteen : (s : List ℕ) → Fields s 1 (field_rows s (elements_of s))
unfolding field_rows elements_of
thirteen s =
    (_, refl)
    next (_, refl)
    next (_, refl)
    next (_, refl)
    next (_, refl)
    next (_, refl)
    next (_, refl)
    next (_, refl)
    next (_, refl)
    next (_, refl)
    next (_, refl)
    next (_, refl)
    next (_, refl)
    next none

fields_at : (s : List ℕ) (n : ℕ) (vs : List Verdict) → Fields s n vs → (k : ℕ) → k < length vs → (accepted : Bool) × (row_at vs k ≡ judge s (n + k) (float_of s (n + k)) accepted)
unfolding row_at
fields_at s n [] none k h = absurd (omega arith)
fields_at s n (v ∷ vs) (own next rest) zero h = let same : n ≡ n + 0 = omega arith in subst (λ (m : ℕ). (accepted : Bool) × (v ≡ judge s m (float_of s m) accepted)) same own
fields_at s n (v ∷ vs) (own next rest) (suc k) h =
    let same : suc n + k ≡ n + suc k = omega arith in
    subst (λ (m : ℕ). (accepted : Bool) × (row_at vs k ≡ judge s m (float_of s m) accepted)) same (fields_at s (suc n) vs rest k (omega arith))

-- row 1 + k is field k's, for k from 1 to 13
pub field_row : (s : List ℕ) (k : ℕ) → 1 ≤ k → k ≤ 13 → (accepted : Bool) × (row_at (record_rows s) (1 + k) ≡ judge s k (float_of s k) accepted)
unfolding field_rows row_at
field_row s zero p q = absurd (omega arith)
field_row s (suc k) p q =
    let own = fields_at s 1 (field_rows s (elements_of s)) (thirteen s) k (omega arith) in
    let same : 1 + k ≡ suc k = omega arith in
    let here : 1 + suc k ≡ suc (suc k) = omega arith in (
      own.0,
      ap (row_at (record_rows s)) here
          ∙ row-append (field_rows s (elements_of s)) (close_row (elements_of s) ∷ []) k (omega arith)
          ∙ own.1
          ∙ ap (λ (n : ℕ). judge s n (float_of s n) own.0) same,
    )

-- a refusal that names a field is not the first row's
pub named_later : (r : Refusal) → 0 < field_of r → 0 < order_of r
named_later Length h = h
named_later Word h = lit< tt
named_later (NotFinite k x b) h = omega arith
named_later (OutOfRange k x) h = omega arith
named_later (TooClose d) h = lit< tt
named_later Window h = lit< tt
named_later Step h = lit< tt
named_later Question h = lit< tt
named_later Room h = lit< tt

pub length-passed : (s : List ℕ) → when (not (eqb (length s) 136)) Length ≡ passed → WholeRecord s
length-passed s h = eqb-true (length s) 136 (not-false (eqb (length s) 136) (when-passed (not (eqb (length s) 136)) Length h))
