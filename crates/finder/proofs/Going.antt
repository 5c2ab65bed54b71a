-- The loop over the samples: at each turn what is counted and written, with what is still to come, is the whole list.
use Prim.Native.Nat.{ℕ, suc, ◌+◌, ◌-◌, ◌*◌, ◌≤◌, ◌<◌}
use mathlib.Core.Path.{◌≡◌, refl, sym, ap, ◌∙◌}
use mathlib.Core.List.{List, [], ◌∷◌, ◌++◌}
use mathlib.Core.Bool.{Bool, true, false}
use Rattle.std.specs.Bool.{then_some}
use native.Mathlib.Omega.{arith}
use lib.ListN.{length, length-append}
use Rattle.std.specs.Prelude.{Option, is_some}
use lib.Seq.{length-sets}
use Rattle.geometry.specs.declared.Sight.{Sight}
use Rattle.finder.specs.declared.Begun.{Begun}
use Rattle.finder.specs.declared.State.{State}
use Rattle.finder.specs.declared.Window.{Window}
use Rattle.finder.specs.Samples.{Good, steps_of, sample_at, samples_from, samples}
use Rattle.finder.specs.Spans.{Span, closed_in, first_after, ended, walk, list_of}
use Rattle.finder.specs.Asked.{middles_in, asked_after, instants_of}
use Rattle.finder.specs.Records.{records_of, written, found_of, room_of, HasRoom}
use Rattle.finder.specs.State.{next, Stretch, Along, AtEnd, Few, RoomFor, was_of, first_in, first_of, opened, advanced, finished}
use Rattle.finder.proofs.Samples.{sample-next, sample-from, sample-first, sample-inside, sample-end, steps-fit}
use Rattle.finder.proofs.Flags.{first_cut}
use Rattle.finder.proofs.OneStep.{closed_same, first-same, closed_begins, first-begins}
use Rattle.finder.proofs.Records.{written_both}
use Rattle.finder.proofs.Advanced.{opened-was, opened-again}
use Rattle.finder.proofs.Counts.{list-most, instants-few}

-- the samples behind sample i
abbrev to-go : Window → ℕ → List ℕ
to-go w i = samples_from w (suc i) (steps_of w - i)

-- at sample i: what is counted and written, with what is still to come, is the whole list
pub record Going (f : ℕ → Bool) (g : ℕ → Sight) (w : Window) (out₀ out : List ℕ) (s : State) (i : ℕ) : Type 0 where
  pub most : i ≤ steps_of w
  pub here : s.at ≡ sample_at w i
  pub long : length out ≡ length out₀
  pub begun : s.begun ≡ opened g w (f s.at) (first_of s)
  pub counted : s.count + length (walk f (first_of s) s.at (to-go w i)) ≡ length (list_of f w)
  pub asked : s.asked + length (asked_after f s.at (to-go w i)) ≡ length (instants_of f w)
  pub bytes : written g w out s.count (walk f (first_of s) s.at (to-go w i)) ≡ written g w out₀ 0 (list_of f w)

-- after a no it does not matter what the walk takes for the open interval's first
walk-shut : (f : ℕ → Bool) (x y a : ℕ) (ts : List ℕ) → f a ≡ false → walk f x a ts ≡ walk f y a ts
unfolding walk
walk-shut f x y a [] no' = rw no'
walk-shut f x y a (b ∷ ts) no' = by (f b) refl (walk-shut f x y b ts)
  where
    by : (told : Bool) → f b ≡ told → (f b ≡ false → walk f x b ts ≡ walk f y b ts)
        → closed_in f x a b ++ walk f (first_after f x a b) b ts ≡ closed_in f y a b ++ walk f (first_after f y a b) b ts
    by true e rest =
        rw (closed_begins f x a b no' e, closed_begins f y a b no' e, first-begins f x a b no' e, first-begins f y a b no' e)
    by false e rest =
        let same : f a ≡ f b = no' ∙ sym e in
        rw (closed_same f x a b same, closed_same f y a b same, first-same f x a b same, first-same f y a b same) (rest e)

-- so it is enough to know the first of what is open
walk-opened : (f : ℕ → Bool) (g : ℕ → Sight) (w : Window) (first a : ℕ) (ts : List ℕ)
    → walk f (first_in (opened g w (f a) first)) a ts ≡ walk f first a ts
walk-opened f g w first a ts = by (f a) refl
  where
    by : (told : Bool) → f a ≡ told → walk f (first_in (opened g w told first)) a ts ≡ walk f first a ts
    by true e = refl
    by false e = walk-shut f 0 first a ts e

pub going_start : (f : ℕ → Bool) (g : ℕ → Sight) (w : Window) (out₀ : List ℕ) → Good w
    → (begun : Option Begun) → begun ≡ then_some (f w.t0) (record { first = w.t0; flags = 1 })
    → Going f g w out₀ out₀ (record { at = w.t0; begun = begun; count = 0; asked = 1 }) 0
unfolding list_of instants_of samples
going_start f g w out₀ good begun e =
    let all : steps_of w - 0 ≡ steps_of w = omega arith in
    let first : begun ≡ opened g w (f w.t0) w.t0 = rw first_cut e in
    let walked = walk-opened f g w w.t0 w.t0 (samples_from w 1 (steps_of w)) in
    rw first
    record {
      most = omega arith;
      here = sample-first w good;
      long = refl;
      begun = opened-again g w (f w.t0) w.t0;
      counted = rw (all, walked) (omega arith);
      asked = rw all (omega arith);
      bytes = rw (all, walked);
    }

module _ {f : ℕ → Bool} {g : ℕ → Sight} {w : Window} {out₀ : List ℕ} (good : Good w) {out : List ℕ} {s : State} {i : ℕ} (r : Going f g w out₀ out s i) where
  -- what one step supposes
  pub going_inside : s.at ≤ w.t1
  going_inside = rw r.here (sample-inside w i)

  answered : was_of s ≡ f s.at
  answered = ap is_some r.begun ∙ opened-was g w (f s.at) (first_of s)

  abbrev b : ℕ
  b = next w s.at

  going_stretch : Stretch f s.at b (was_of s)
  going_stretch =
      record {
        from = omega (arith, going_inside);
        near = omega (arith, good.short);
        answered = answered;
      }

  going_few : Few s
  going_few = omega (arith, r.asked, instants-few f w, steps-fit w good)

  -- where a step is left, to the sample b
  module _ (more : i < steps_of w) where
    next-is : sample_at w (suc i) ≡ b
    next-is = sym (sample-next w i) ∙ ap (next w) (sym r.here)

    left-is : steps_of w - i ≡ suc (steps_of w - suc i)
    left-is = omega arith

    -- what is to come: what the step to b closes, and what is behind it
    abbrev here_closed : List Span
    here_closed = closed_in f (first_of s) s.at b

    abbrev behind : List Span
    behind = walk f (first_of (advanced f g w s b)) b (to-go w (suc i))

    same_behind : behind ≡ walk f (first_after f (first_of s) s.at b) b (to-go w (suc i))
    unfolding advanced
    same_behind = walk-opened f g w (first_after f (first_of s) s.at b) b (to-go w (suc i))

    to_come : walk f (first_of s) s.at (to-go w i) ≡ here_closed ++ behind
    unfolding samples_from walk
    to_come = rw (left-is, next-is, same_behind)

    to_ask : length (asked_after f s.at (to-go w i)) ≡ suc (length (middles_in f s.at b)) + length (asked_after f b (to-go w (suc i)))
    unfolding samples_from asked_after
    to_ask = rw (left-is, next-is, length-append (middles_in f s.at b) (asked_after f b (to-go w (suc i)))) (omega arith)

    to-count : s.count + (length here_closed + length behind) ≡ length (list_of f w)
    to-count = rw (← length-append here_closed behind, ← to_come) r.counted

    step_room : HasRoom w out₀ → RoomFor s.count (length here_closed) out
    unfolding room_of
    step_room room = omega (arith, to-count, r.long, list-most f w)

    pub going_along : HasRoom w out₀ → Along f g w s b out
    going_along room =
        record {
          stretch = going_stretch;
          from = rw r.here (sample-from w good i);
          to = omega arith;
          here = r.begun;
          few = going_few;
          room = step_room room;
        }

    pub going_on : (out' : List ℕ) → out' ≡ written g w out s.count here_closed → Going f g w out₀ out' (advanced f g w s b) (suc i)
    unfolding advanced
    going_on out' e =
        record {
          most = omega arith;
          here = sym next-is;
          long = ap length e ∙ length-sets out (24 * s.count) (records_of g w here_closed) ∙ r.long;
          begun = opened-again g w (f b) (first_after f (first_of s) s.at b);
          counted = omega (arith, to-count);
          asked = omega (arith, to_ask, r.asked);
          bytes =
              ap (λ (l : List ℕ). written g w l (s.count + length here_closed) behind) e
              ∙ written_both g w out s.count here_closed behind
              ∙ ap (written g w out s.count) (sym to_come)
              ∙ r.bytes;
        }

  -- no step is left: what closes there is the end of the list
  module _ (none : steps_of w ≤ i) where
    none-left : steps_of w - i ≡ 0
    none-left = omega arith

    last-is : walk f (first_of s) s.at (to-go w i) ≡ ended (was_of s) (first_of s) s.at
    unfolding samples_from walk
    last-is = rw none-left (ap (λ (x : Bool). ended x (first_of s) s.at) (sym answered))

    none-asked : length (asked_after f s.at (to-go w i)) ≡ 0
    unfolding samples_from asked_after
    none-asked = rw none-left

    pub end-found : finished s ≡ found_of f w
    unfolding finished found_of
    end-found =
        let n : s.count + length (ended (was_of s) (first_of s) s.at) ≡ length (list_of f w) = omega (arith, ap length last-is, r.counted) in
        let m : s.asked ≡ length (instants_of f w) = omega (arith, none-asked, r.asked) in
        cc

    at_last : s.at ≡ w.t1
    at_last = let last : i ≡ steps_of w = omega (arith, r.most) in r.here ∙ ap (sample_at w) last ∙ sample-end w good

    pub at-end : HasRoom w out₀ → AtEnd f g w s out
    unfolding room_of
    at-end room = record { last = at_last; here = r.begun; room = omega (arith, ap length last-is, r.counted, r.long, list-most f w) }

    pub end_out : (out' : List ℕ) → out' ≡ written g w out s.count (ended (was_of s) (first_of s) s.at) → out' ≡ written g w out₀ 0 (list_of f w)
    end_out out' e = e ∙ ap (written g w out s.count) (sym last-is) ∙ r.bytes
