-- The list that the finder defines fits its samples (`walk-fits`), and what follows from fitting alone: order, samples, changes, endpoints.
use Prim.Native.Nat.{ℕ, suc, ◌+◌, ◌≤◌, ◌<◌}
use mathlib.Core.Path.{◌≡◌, refl, sym, ◌∙◌}
use mathlib.Core.Logic.{inl, inr}
use mathlib.Core.List.{List, [], ◌∷◌, ◌++◌}
use mathlib.Core.Bool.{Bool, true, false, and-false, true≢false}
use native.Mathlib.Omega.{arith}
use lib.Dec.{leb}
use lib.ListN.{length, get_or}
use borrow.Author.Tests.{le-leb, lt-leb}
use Rattle.halving.specs.declared.Edge.{Edge}
use Rattle.finder.specs.Samples.{longest_step}
use Rattle.finder.specs.Spans.{Span, span, edge, closed_in, first_after, ended, walk}
use Rattle.finder.specs.Fits.{Changes, Fits, InOrder, within, listed, Follows, Rising, Short, last_of, SomeStep, Begun, Endpoints}
use Rattle.finder.specs.Fits.Fits.{shut, closes, stays, begins, ends}
use Rattle.finder.proofs.OneStep.{closed_same, first-same, closed_ends, first_ends, closed_begins, first-begins}
use Rattle.finder.proofs.Edged.{Edged, edged}

-- the change between them
changes : (f : ℕ → Bool) (a b : ℕ) {e : Edge} {x y : Bool} → Edged f a b e → f a ≡ x → f b ≡ y → Changes f x y a b e.low
changes f a b k p q = record { at_a = p; at_b = q; from = k.from; to = k.to; before = k.low ∙ p; after = k.high ∙ q }

-- ---- the list fits

clash : {x : Bool} → x ≡ true → x ≡ false → ⊥
clash p q = true≢false (sym p ∙ q)

module _ (f : ℕ → Bool) where
  one-step : (first a b : ℕ) (ts : List ℕ) → a ≤ b → b ≤ a + longest_step → ((g : ℕ) → Fits f g b ts (walk f g b ts)) → (x y : Bool) → f a ≡ x → f b ≡ y → Fits f first a (b ∷ ts) (closed_in f first a b ++ walk f (first_after f first a b) b ts)
  one-step first a b ts h wide rest true true p q =
      rw (closed_same f first a b (p ∙ sym q), first-same f first a b (p ∙ sym q)) (stays (p ∙ sym q) (rest first))
  one-step first a b ts h wide rest false false p q =
      rw (closed_same f first a b (p ∙ sym q), first-same f first a b (p ∙ sym q)) (stays (p ∙ sym q) (rest first))
  one-step first a b ts h wide rest true false p q =
      let k = edged f a b h wide (λ e. clash p (e ∙ q)) in
      rw (closed_ends f first a b p q, first_ends f first a b p q) (ends (changes f a b k p q) (rest first))
  one-step first a b ts h wide rest false true p q =
      let k = edged f a b h wide (λ e. clash q (sym e ∙ p)) in
      rw (closed_begins f first a b p q, first-begins f first a b p q, k.next) (begins (changes f a b k p q) (rest ((edge f a b).low + 1)))

  no_step : (first a : ℕ) (x : Bool) → f a ≡ x → Fits f first a [] (ended (f a) first a)
  no_step first a true p = rw p (closes p)
  no_step first a false p = rw p (shut p)

  pub walk-fits : (first a : ℕ) (ts : List ℕ) → Rising a ts → Short a ts → Fits f first a ts (walk f first a ts)
  unfolding walk
  walk-fits first a [] h n = no_step first a (f a) refl
  walk-fits first a (b ∷ ts) h n = one-step first a b ts h.0 n.0 (λ g. walk-fits g b ts h.1 n.1) (f a) (f b) refl refl

  -- ---- what fits is in order and inside

  last-most : (a : ℕ) (ts : List ℕ) → Rising a ts → a ≤ last_of a ts
  unfolding last_of
  last-most a [] h = omega arith
  last-most a (b ∷ ts) h = omega (arith, last-most b ts h.1, h.0)

  -- the bound that holds before the sample a: of the open interval, or of the next
  abbrev From : ℕ → ℕ → ℕ → Type 0
  From low first a = (f a ≡ true → (low ≤ first) × (first ≤ a)) × (f a ≡ false → low ≤ a + 1)

  pub in_order : {first a : ℕ} {ts : List ℕ} {l : List Span} (low high : ℕ) → Rising a ts → last_of a ts ≤ high → From low first a → Fits f first a ts l → InOrder low l high
  unfolding last_of
  in_order low high h top from (shut p) = tt
  in_order low high h top from (closes p) = ((from.0 p).0, (from.0 p).1, top, tt)
  in_order low high h top from (stays {first} {a} {b} {ts} {l} e r) =
      in_order low high h.1 top ((λ p. let k = from.0 (e ∙ p) in (k.0, omega (arith, h.0, k.1))), (λ p. let k = from.1 (e ∙ p) in omega (arith, h.0))) r
  in_order low high h top from (begins {first} {a} {b} {e} c r) =
      in_order low high h.1 top ((λ z. (let k = from.1 c.at_a in omega arith, omega arith)), (λ z. absurd (clash c.at_b z))) r
  in_order low high h top from (ends {first} {a} {b} {e} {ts} c r) =
      let k = from.0 c.at_a in
      (k.0, omega (arith, k.1), omega (arith, last-most b ts h.1), in_order (e + 2) high h.1 top ((λ z. absurd (clash z c.at_b)), (λ z. omega arith)) r)

-- ---- which instants lie in an interval

pub before : (low high : ℕ) (l : List Span) (t : ℕ) → InOrder low l high → t < low → listed l t ≡ false
unfolding listed
before low high [] t o h = refl
before low high (s ∷ l) t o h =
    rw (lt-leb s.first t (omega (arith, o.0))) (before (s.last + 2) high l t o.3 (omega (arith, o.0, o.1)))

within_yes : (s : Span) (t : ℕ) → s.first ≤ t → t ≤ s.last → within s t ≡ true
within_yes s t p q = rw (le-leb s.first t p, le-leb t s.last q)

pub past : (s : Span) (l : List Span) (t : ℕ) → s.last < t → listed (s ∷ l) t ≡ listed l t
unfolding listed
past s l t h = rw (lt-leb t s.last h, and-false (leb s.first t))

pub inside : (s : Span) (l : List Span) (t : ℕ) → s.first ≤ t → t ≤ s.last → listed (s ∷ l) t ≡ true
unfolding listed
inside s l t p q = rw (within_yes s t p q)

-- the interval that is open at a sample
record Head (first a : ℕ) (l : List Span) : Type 0 where
  to : ℕ
  rest : List Span
  is : l ≡ span first to ∷ rest
  far : a ≤ to

module _ (f : ℕ → Bool) where
  heads : {first a : ℕ} {ts : List ℕ} {l : List Span} → Rising a ts → f a ≡ true → Fits f first a ts l → Head first a l
  heads h yes' (shut p) = absurd (clash yes' p)
  heads h yes' (closes {first} {a} p) = record { to = a; rest = []; is = refl; far = omega arith }
  heads h yes' (stays e r) = let k = heads h.1 (sym e ∙ yes') r in record { to = k.to; rest = k.rest; is = k.is; far = omega (arith, h.0, k.far) }
  heads h yes' (begins c r) = absurd (clash yes' c.at_a)
  heads h yes' (ends {first} {a} {b} {e} {ts} {l} c r) = record { to = e; rest = l; is = refl; far = c.from }

  -- while an interval is open each instant lies in it
  open_yes : {first a : ℕ} {l : List Span} → Head first a l → (t : ℕ) → first ≤ t → t ≤ a → listed l t ≡ true
  open_yes {first} k t p q = rw k.is (inside (span first k.to) k.rest t p (omega (arith, k.far)))

  -- after a no, none does up to that sample
  shut_no : {first b : ℕ} {ts : List ℕ} {l : List Span} → Rising b ts → f b ≡ false → Fits f first b ts l → (t : ℕ) → t ≤ b → listed l t ≡ false
  shut_no {first} {b} {ts} {l} h p r t q =
      before (b + 1) (last_of b ts) l t (in_order f (b + 1) (last_of b ts) h (omega arith) ((λ z. absurd (clash z p)), (λ z. omega arith)) r) (omega arith)

  -- what follows f is not asked before its first sample
  follows-from : (g g' : ℕ → Bool) (a : ℕ) (ts : List ℕ) → Rising a ts → ((t : ℕ) → a ≤ t → g' t ≡ g t) → Follows f g a ts → Follows f g' a ts
  follows-from g g' a [] h same k = same a (omega arith) ∙ k
  follows-from g g' a (b ∷ ts) h same k =
      let s = k.0 in (
        record {
          e = s.e;
          from = s.from;
          to = s.to;
          as_a = λ t p q. same t p ∙ s.as_a t p q;
          as_b = λ t p q. same t (omega (arith, s.from)) ∙ s.as_b t p q;
          low = s.low;
          high = s.high;
          differs = s.differs;
        },
        follows-from g g' b ts h.1 (λ t p. same t (omega (arith, h.0))) k.1,
      )

  -- the list has f's answer at each sample, changes once in each step whose ends differ, as f does there, and in no other step
  pub follows : {first a : ℕ} {ts : List ℕ} {l : List Span} → Rising a ts → (f a ≡ true → first ≤ a) → Fits f first a ts l → Follows f (listed l) a ts
  unfolding listed
  follows h from (shut p) = sym p
  follows h from (closes {first} {a} p) = inside (span first a) [] a (from p) (omega arith) ∙ sym p
  follows h from (stays {first} {a} {b} {ts} {l} same r) =
      let still = steady l h.1 (λ p. from (same ∙ p)) r (f b) refl in (
        record {
          e = b;
          from = h.0;
          to = omega arith;
          as_a = λ t p q. still t p q ∙ sym same;
          as_b = λ t p q. absurd (omega arith);
          low = sym same;
          high = λ p. absurd (omega arith);
          differs = λ d. absurd (d same);
        },
        follows h.1 (λ p. omega (arith, h.0, from (same ∙ p))) r,
      )
    where
      steady : {first a b : ℕ} {ts : List ℕ} (l : List Span) → Rising b ts → (f b ≡ true → first ≤ a) → Fits f first b ts l → (x : Bool) → f b ≡ x → (t : ℕ) → a ≤ t → t ≤ b → listed l t ≡ f b
      steady l h from r true p t u v = open_yes (heads h p r) t (omega (arith, from p)) v ∙ sym p
      steady l h from r false p t u v = shut_no h p r t v ∙ sym p
  follows h from (begins {first} {a} {b} {e} {ts} {l} c r) =
      let o = in_order f (e + 1) (last_of b ts) h.1 (omega arith) ((λ z. (omega arith, omega arith)), (λ z. absurd (clash c.at_b z))) r in (
        record {
          e = e;
          from = c.from;
          to = omega arith;
          as_a = λ t m n. before (e + 1) (last_of b ts) l t o (omega arith) ∙ sym c.at_a;
          as_b = λ t m n. open_yes (heads h.1 c.at_b r) t (omega arith) n ∙ sym c.at_b;
          low = c.before ∙ sym c.at_a;
          high = λ m. c.after ∙ sym c.at_b;
          differs = λ d. c.to;
        },
        follows h.1 (λ z. omega arith) r,
      )
  follows h from (ends {first} {a} {b} {e} {ts} {l} c r) = (
    record {
      e = e;
      from = c.from;
      to = omega arith;
      as_a = λ t m n. inside (span first e) l t (omega (arith, from c.at_a)) n ∙ sym c.at_a;
      as_b = λ t m n. past (span first e) l t m ∙ shut_no h.1 c.at_b r t n ∙ sym c.at_b;
      low = c.before ∙ sym c.at_a;
      high = λ m. c.after ∙ sym c.at_b;
      differs = λ d. c.to;
    },
    follows-from (listed l) (listed (span first e ∷ l)) b ts h.1 (λ t m. past (span first e) l t (omega arith)) (follows h.1 (λ z. absurd (clash z c.at_b)) r),
  )

  -- each interval begins and ends at a change of a step or at a bound: what holds of some step of the samples left holds of all, which are t0 and us
  pub endpoints : {first a : ℕ} {ts : List ℕ} {l : List Span} (t0 : ℕ) (us : List ℕ) → ((P : ℕ → ℕ → Type 0) → SomeStep P a ts → SomeStep P t0 us) → last_of a ts ≡ last_of t0 us
      → (f a ≡ true → Begun f t0 us first) → Fits f first a ts l → Endpoints f t0 us l
  unfolding last_of
  endpoints t0 us all end from (shut p) = tt
  endpoints t0 us all end from (closes p) = ((from p, inl end), tt)
  endpoints t0 us all end from (stays e r) = endpoints t0 us (λ P k. all P (inr k)) end (λ p. from (e ∙ p)) r
  endpoints t0 us all end from (begins {first} {a} {b} {e} c r) = endpoints t0 us (λ P k. all P (inr k)) end (λ z. inr (all _ (inl (e, refl, c)))) r
  endpoints t0 us all end from (ends c r) =
      ((from c.at_a, inr (all _ (inl c))), endpoints t0 us (λ P k. all P (inr k)) end (λ z. absurd (clash z c.at_b)) r)

  -- a yes at the first sample opens an interval there
  pub yes_first : {first a : ℕ} {ts : List ℕ} {l : List Span} → Rising a ts → f a ≡ true → Fits f first a ts l → (0 < length l) × ((get_or l 0 (span 0 0)).first ≡ first)
  yes_first h p r = let k = heads h p r in rw k.is (omega arith, refl)

  -- a yes at the last sample closes one there
  pub yes_last : {first a : ℕ} {ts : List ℕ} {l : List Span} → f (last_of a ts) ≡ true → Fits f first a ts l → (j : ℕ) × (j < length l) × ((get_or l j (span 0 0)).last ≡ last_of a ts)
  unfolding last_of
  yes_last p (shut q) = absurd (clash p q)
  yes_last p (closes q) = (0, omega arith, refl)
  yes_last p (stays e r) = yes_last p r
  yes_last p (begins c r) = yes_last p r
  yes_last p (ends c r) = let k = yes_last p r in (suc k.0, omega (arith, k.1), k.2)
