-- The first that applies: `first` gives a refusal exactly if its own row does and each row before it passes; by induction on the table.
use Prim.Native.Nat.{ℕ, zero, suc, ◌+◌, ◌<◌}
use mathlib.Core.Path.{◌≡◌, refl, sym, ap, subst, ◌∙◌}
use mathlib.Core.Logic.{◌↔◌}
use mathlib.Core.Bool.{Bool, true, false}
use mathlib.Core.List.{List, [], ◌∷◌, ◌++◌}
use native.Mathlib.Omega.{arith}
use lib.ListN.{length, take, drop, take-append-drop}
use Rattle.refusal.specs.Refusal.{order_of}
use Rattle.std.specs.Prelude.{Ok, Err}
use Rattle.refusal.specs.Rows.{Verdict, passed, when, ◌then◌, first, row_at, Gives, Passes}
use Rattle.refusal.specs.declared.Refusal.{Refusal}

-- no row both passes and refuses
pub not-both : {v : Verdict} {r : Refusal} → v ≡ passed → v ≡ Err r → ⊥
not-both p h = let z : ◌≡◌ {A = ℕ} 0 1 = cc in absurd (omega arith)

-- ---- one row after another

pub then_assoc : (a b c : Verdict) → (a then b) then c ≡ a then b then c
unfolding ◌then◌
then_assoc (Ok t) b c = refl
then_assoc (Err r) b c = refl

pub then-passed : (a : Verdict) → a then passed ≡ a
unfolding ◌then◌
then-passed (Ok t) = refl
then-passed (Err r) = refl

-- what is said of each of two rows is said of both
pub then-told : {v a b a' b' : Verdict} → v ≡ (a then b) → a ≡ a' → b ≡ b' → v ≡ (a' then b')
then-told {v} {a} {b} {a'} e p q = e ∙ ap (λ (x : Verdict). x then b) p ∙ ap (λ (x : Verdict). a' then x) q

-- of two parts the first stops, or lets the second decide
module _ (v a b : Verdict) (parts : v ≡ (a then b)) where
  pub stops : (r : Refusal) → a ≡ Err r → v ≡ Err r
  unfolding ◌then◌
  stops r h = parts ∙ rw h

  pub goes : a ≡ passed → v ≡ b
  unfolding ◌then◌
  goes h = parts ∙ rw h

-- what `?` does: a row that passes goes on to those behind it, and a refusal ends them
pub goes_on : (a b : Verdict) {v : Verdict} {t : Unit {0}} → Ok t ≡ a → v ≡ b → v ≡ (a then b)
unfolding ◌then◌
goes_on a b p q = q ∙ ap (λ (x : Verdict). x then b) p

pub ends_at : (a b : Verdict) {v : Verdict} {r : Refusal} → v ≡ Err r → Err r ≡ a → v ≡ (a then b)
unfolding ◌then◌
ends_at a b h p = h ∙ ap (λ (x : Verdict). x then b) p

pub is_last : (a : Verdict) {v : Verdict} → v ≡ a → v ≡ (a then passed)
is_last a h = h ∙ sym (then-passed a)

-- of a row: of its test
pub when-told : {v : Verdict} {t t' : Bool} (r : Refusal) → v ≡ when t r → t ≡ t' → v ≡ when t' r
when-told r e p = e ∙ ap (λ (x : Bool). when x r) p

-- a row, then those behind it
pub first-cons : (v : Verdict) (vs : List Verdict) → first (v ∷ vs) ≡ (v then first vs)
unfolding first
first-cons v vs = refl

-- a table in two parts: where the first part passes, the second decides
pub first-append : (xs ys : List Verdict) → first (xs ++ ys) ≡ first xs then first ys
unfolding first ◌then◌
first-append [] ys = refl
first-append (x ∷ xs) ys = ap (λ (v : Verdict). x then v) (first-append xs ys) ∙ sym (then_assoc x (first xs) (first ys))

-- a row of its first part
pub row-append : (xs ys : List Verdict) (k : ℕ) → k < length xs → row_at (xs ++ ys) k ≡ row_at xs k
unfolding row_at
row-append [] ys k h = absurd (omega arith)
row-append (x ∷ xs) ys zero h = refl
row-append (x ∷ xs) ys (suc k) h = row-append xs ys k (omega arith)

-- of a table cut anywhere
pub first_split : (k : ℕ) (vs : List Verdict) → first (take k vs) then first (drop k vs) ≡ first vs
first_split k vs = sym (first-append (take k vs) (drop k vs)) ∙ ap first (take-append-drop k vs)

-- rows and another row behind them
pub first-last : (vs : List Verdict) (z : Verdict) → first (vs ++ z ∷ []) ≡ (first vs then z)
unfolding first
first-last vs z = first-append vs (z ∷ []) ∙ ap (λ (v : Verdict). first vs then v) (then-passed z)

-- which are in two parts themselves
pub first_parts : (k : ℕ) (vs : List Verdict) (z : Verdict) → first (vs ++ z ∷ []) ≡ (first (take k vs) then (first (drop k vs) then z))
first_parts k vs z =
    first-last vs z
    ∙ ap (λ (v : Verdict). v then z) (sym (first_split k vs))
    ∙ then_assoc (first (take k vs)) (first (drop k vs)) z

-- ---- a row and its test

pub when-refused : (test : Bool) (q r : Refusal) → when test q ≡ Err r → (test ≡ true) × (q ≡ r)
when-refused true q r h = (refl, cc)
when-refused false q r h = absurd (not-both refl h)

pub when-passed : (test : Bool) (q : Refusal) → when test q ≡ passed → test ≡ false
when-passed true q h = absurd (not-both h refl)
when-passed false q h = refl

-- ---- every row passes

first_passes : (vs : List Verdict) → first vs ≡ passed → Passes vs
unfolding first ◌then◌ row_at
first_passes [] h k = refl
first_passes (Ok t ∷ vs) h zero = refl
first_passes (Ok t ∷ vs) h (suc k) = first_passes vs h k
first_passes (Err r ∷ vs) h k = absurd (not-both h refl)

passes-first : (vs : List Verdict) → Passes vs → first vs ≡ passed
unfolding first ◌then◌ row_at
passes-first [] h = refl
passes-first (v ∷ vs) h = rw (h 0) (passes-first vs (λ k. h (suc k)))

pub passed-exactly : (vs : List Verdict) → (first vs ≡ passed) ↔ Passes vs
passed-exactly vs = (first_passes vs, passes-first vs)

-- ---- some row refuses

module _ {r : Refusal} where
  later : {vs : List Verdict} {k : ℕ} → Gives vs k r → Gives (passed ∷ vs) (suc k) r
  unfolding row_at
  later {vs} {k} g = record { applies = g.applies; none_before = none }
    where
      none : (j : ℕ) → j < suc k → row_at (passed ∷ vs) j ≡ passed
      none zero h = refl
      none (suc j) h = g.none_before j (omega arith)

  first_gives : (vs : List Verdict) → first vs ≡ Err r → (k : ℕ) × Gives vs k r
  unfolding first ◌then◌ row_at
  first_gives [] h = absurd (not-both refl h)
  first_gives (Err q ∷ vs) h = (0, record { applies = h; none_before = λ j l. absurd (omega arith) })
  first_gives (Ok t ∷ vs) h = let g = first_gives vs h in (suc g.0, later g.1)

  gives_first : (vs : List Verdict) (k : ℕ) → Gives vs k r → first vs ≡ Err r
  unfolding first ◌then◌ row_at
  gives_first [] k g = absurd (not-both refl g.applies)
  gives_first (Err q ∷ vs) zero g = g.applies
  gives_first (Err q ∷ vs) (suc k) g = absurd (not-both (g.none_before 0 (omega arith)) refl)
  gives_first (Ok t ∷ vs) zero g = absurd (not-both refl g.applies)
  gives_first (Ok t ∷ vs) (suc k) g = gives_first vs k (record { applies = g.applies; none_before = λ j l. g.none_before (suc j) (omega arith) })

-- ---- what holds of each row's refusals holds of the one that is given

infixr 10 ◌also◌
-- each row of a table, counted from n, gives only refusals r with Q n r
pub data Each (Q : ℕ → Refusal → Type 0) : ℕ → List Verdict → Type 0 where
  done : {n : ℕ} → Each Q n []
  ◌also◌ : {n : ℕ} {v : Verdict} {vs : List Verdict} → ((r : Refusal) → v ≡ Err r → Q n r) → Each Q (suc n) vs → Each Q n (v ∷ vs)

-- each row gives only refusals whose order is its own
abbrev pub Ordered : List Verdict → Type 0
Ordered vs = Each (λ n r. order_of r ≡ n) 0 vs

module _ {Q : ℕ → Refusal → Type 0} where
  each_at : (n : ℕ) (vs : List Verdict) → Each Q n vs → (k : ℕ) (r : Refusal) → row_at vs k ≡ Err r → Q (n + k) r
  unfolding row_at
  each_at n [] done k r h = absurd (not-both refl h)
  each_at n (v ∷ vs) (own also rest) zero r h = let same : n ≡ n + 0 = omega arith in subst (λ (m : ℕ). Q m r) same (own r h)
  each_at n (v ∷ vs) (own also rest) (suc k) r h =
      let same : suc n + k ≡ n + suc k = omega arith in
      subst (λ (m : ℕ). Q m r) same (each_at (suc n) vs rest k r h)

  pub first-each : (vs : List Verdict) → Each Q 0 vs → (r : Refusal) → first vs ≡ Err r → (k : ℕ) × Q k r
  first-each vs all r h = let g = first_gives vs h in (_, each_at 0 vs all g.0 r g.1.applies)

  pub each_weaker : {R : ℕ → Refusal → Type 0} → ((n : ℕ) (r : Refusal) → Q n r → R n r) → {n : ℕ} {vs : List Verdict} → Each Q n vs → Each R n vs
  each_weaker f done = done
  each_weaker f {n} (own also rest) = (λ r h. f n r (own r h)) also each_weaker f rest

  -- a table in two parts
  pub each_append : {n : ℕ} (xs ys : List Verdict) → Each Q n xs → Each Q (n + length xs) ys → Each Q n (xs ++ ys)
  each_append {n} [] ys done all = let same : n + 0 ≡ n = omega arith in subst (λ (m : ℕ). Each Q m ys) same all
  each_append {n} (x ∷ xs) ys (own also rest) all =
      let same : n + suc (length xs) ≡ suc n + length xs = omega arith in
      own also each_append xs ys rest (subst (λ (m : ℕ). Each Q m ys) same all)

-- ---- each refusal has its own row

pub when-order : (test : Bool) (q r : Refusal) → when test q ≡ Err r → order_of r ≡ order_of q
when-order test q r h = ap order_of (sym (when-refused test q r h).1)

pub first-exactly : (vs : List Verdict) → Ordered vs → (r : Refusal) → (first vs ≡ Err r) ↔ Gives vs (order_of r) r
first-exactly vs p r = (there, gives_first vs (order_of r))
  where
    there : first vs ≡ Err r → Gives vs (order_of r) r
    there h =
        let g = first_gives vs h in
        let e : order_of r ≡ g.0 = each_at 0 vs p g.0 r g.1.applies ∙ omega arith in
        rw e g.1
