-- The records of several days: how long they are, one stretch of days behind the other, and where the same is counted the same bytes.
use Prim.Native.Nat.{ℕ, zero, suc, ◌+◌, ◌*◌, ◌≤◌, ◌<◌}
use mathlib.Core.Path.{◌≡◌, refl, sym, ap, ◌∙◌}
use mathlib.Core.List.{List, [], ◌∷◌, ◌++◌, append_assoc, append-nil}
use mathlib.Core.Bool.{false}
use native.Mathlib.Omega.{arith}
use borrow.Author.Tests.{ltb-false}
use lib.ListN.{length, length-append}
use lib.Seq.{sets}
use Rattle.words.specs.Little.{put_of}
use Rattle.words.proofs.Laws.{length-bytes}
use Rattle.words.proofs.Stores.{sets-append}
use native.Mathlib.Nat.{zero-add}
use Rattle.finder.specs.declared.Window.{Window}
use Rattle.finder.specs.Spans.{Span}
use Rattle.finder.specs.Fits.{listed}
use Rattle.days.specs.Days.{day_length, day_of, start_of, days_of}
use Rattle.days.specs.Counts.{instants_in, instants_under, touches, touching}
use Rattle.days.specs.Summary.{day_bytes, day_record, records_from, summary_of}
use Rattle.days.specs.Given.{bad_span, bad_spans}
use Rattle.days.specs.State.{next_from}
use Rattle.days.proofs.Counting.{count_none}
use Rattle.days.proofs.Touched.{stay}

pub length-day : (d intervals instants : ℕ) → length (day_bytes d intervals instants) ≡ 16
unfolding day_bytes
length-day d intervals instants = simp (length-append, length-bytes)

-- three numbers put one behind the other are a day's record
pub day_puts : (l : List ℕ) {l₁ l₂ l₃ : List ℕ} (at d intervals instants : ℕ) → l₁ ≡ put_of 4 l at d → l₂ ≡ put_of 4 l₁ (at + 4) intervals → l₃ ≡ put_of 8 l₂ (at + 8) instants → l₃ ≡ sets l at (day_bytes d intervals instants)
unfolding day_bytes put_of
day_puts l at d intervals instants p q r = rw (r, q, p) (simp (sets-append, length-append, length-bytes))

module _ (l : List Span) where
  pub length-days : (d n : ℕ) → length (records_from l d n) ≡ 16 * n
  unfolding records_from day_record
  length-days d zero = refl
  length-days d (suc n) = length-append (day_record l d) (records_from l (suc d) n) ∙ omega (arith, length-day d (touching l d) (instants_in l d), length-days (suc d) n)

  pub days-add : (d m n : ℕ) → records_from l d (m + n) ≡ records_from l d m ++ records_from l (d + m) n
  unfolding records_from
  days-add d zero n = let e : d + 0 ≡ d = omega arith in let z : 0 + n ≡ n = omega arith in rw (e, z) refl
  days-add d (suc m) n =
      let more : suc m + n ≡ suc (m + n) = omega arith in
      let e : suc d + m ≡ d + suc m = omega arith in
      rw more (ap (λ (r : List ℕ). day_record l d ++ r) (days-add (suc d) m n) ∙ sym (append_assoc (day_record l d) (records_from l (suc d) m) (records_from l (suc d + m) n)) ∙ rw e refl)

  -- one day
  pub day-one : (d : ℕ) → records_from l d 1 ≡ day_record l d
  unfolding records_from
  day-one d = append-nil (day_record l d)

pub length-summary : (w : Window) (l : List Span) → length (summary_of w l) ≡ 16 * days_of w
unfolding summary_of
length-summary w l = length-days l (day_of w.t0) (days_of w)

-- two lists of which the same is counted on these days
pub days-same : (l m : List Span) (d n : ℕ) → ((j : ℕ) → d ≤ j → j < d + n → (touching l j ≡ touching m j) × (instants_in l j ≡ instants_in m j)) → records_from l d n ≡ records_from m d n
unfolding records_from day_record
days-same l m d zero same = refl
days-same l m d (suc n) same =
    let here = same d (omega arith) (omega arith) in
    rw (here.0, here.1) (ap (λ (r : List ℕ). day_bytes d (touching m d) (instants_in m d) ++ r) (days-same l m (suc d) n (λ j p q. same j (omega arith) (omega arith))))

-- a day that one interval more does not touch
pub day-stays : (low high : ℕ) (l : List Span) (s : Span) → bad_spans low high l ≡ false → bad_span (next_from low l) high s ≡ false → (d : ℕ) → touches s d ≡ false → day_record (l ++ s ∷ []) d ≡ day_record l d
unfolding day_record
day-stays low high l s before next d none =
    let same = stay low high l s before next d (omega (arith, ltb-false 0 (instants_under s d) none)) in
    rw (same.0, same.1) refl

-- ---- no interval

-- nothing is counted
none-counted : (d : ℕ) → (touching [] d ≡ 0) × (instants_in [] d ≡ 0)
unfolding touching instants_in listed
none-counted d = (refl, count_none (listed []) (start_of d) day_length (λ t. refl))

-- one day more of the summary of none
pub none_more : (old : List ℕ) (start i : ℕ) {out out' : List ℕ} → out ≡ sets old 0 (records_from [] start i) → out' ≡ sets out (16 * i) (day_bytes (start + i) 0 0) → out' ≡ sets old 0 (records_from [] start (i + 1))
unfolding day_record
none_more old start i so put =
    let xs = records_from [] start i in
    let more : records_from [] start (i + 1) ≡ xs ++ day_record [] (start + i) = days-add [] start i 1 ∙ ap (λ (r : List ℕ). xs ++ r) (day-one [] (start + i)) in
    put ∙ rw (so, more, (none-counted (start + i)).0, (none-counted (start + i)).1, sets-append xs (day_bytes (start + i) 0 0) old 0, zero-add (length xs), length-days [] start i) refl
