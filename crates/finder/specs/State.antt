-- One step of the finder, for the contracts of its private functions. No rule of document 01.
use Rattle.std.specs.Prelude.{ℕ, suc, ◌+◌, ◌*◌, ◌≤◌, ◌<◌, min, ◌≡◌, List, Bool, not, length, Option, Some, None, is_some}
use Rattle.std.specs.Bool.{then_some}
use Rattle.halving.specs.declared.Edge.{Edge}
use Rattle.geometry.specs.declared.Sight.{Sight}
use Rattle.interval.specs.declared.Interval.{Interval}
use Rattle.interval.specs.Record.{write_of}
use Rattle.finder.specs.declared.Begun.{Begun}
use Rattle.finder.specs.declared.State.{State}
use Rattle.finder.specs.declared.Found.{Found}
use Rattle.finder.specs.declared.Window.{Window}
use Rattle.finder.specs.Samples.{longest_step}
use Rattle.finder.specs.Spans.{first_after, closed_in, ended}
use Rattle.finder.specs.Asked.{middles_in}
use Rattle.finder.specs.Flags.{first_flags}

-- the sample after the sample `at`
abbrev pub next : Window → ℕ → ℕ
next w at = min (at + w.step) w.t1

-- a step that is not too long, whose low end answered `was`
pub record Stretch (f : ℕ → Bool) (low high : ℕ) (was : Bool) : Type 0 where
  pub from : low ≤ high
  pub near : high ≤ low + longest_step
  pub answered : was ≡ f low

-- neighbours of which the low one answered `was` and the high one the other way
pub record Turned (f : ℕ → Bool) (e : Edge) (was : Bool) : Type 0 where
  pub low : was ≡ f e.low
  pub high : not was ≡ f e.high

-- a count of instants below 2^40, far from the end of 64 bits
abbrev pub Few : State → Type 0
Few s = s.asked < 1099511627776

-- room for n records behind `count` records
abbrev pub RoomFor : ℕ → ℕ → List ℕ → Type 0
RoomFor count n out = 24 * (count + n) ≤ length out

-- whether an interval is open
abbrev pub was_of : State → Bool
was_of s = is_some s.begun

-- the first of an interval that may be open; 0 where none is
abbrev pub first_in : Option Begun → ℕ
first_in None = 0
first_in (Some o) = o.first

-- that of the state's
abbrev pub first_of : State → ℕ
first_of s = first_in s.begun

-- the interval that is open behind a sample that answered `told`, with the flags of its first
abbrev pub opened : (ℕ → Sight) → Window → Bool → ℕ → Option Begun
opened g w told first = then_some told (record { first = first; flags = first_flags g w first })

-- what one step supposes, to the sample b of the window: what is open is as f answered, and there is room for what the step closes
pub record Along (f : ℕ → Bool) (g : ℕ → Sight) (w : Window) (s : State) (b : ℕ) (out : List ℕ) : Type 0 where
  pub stretch : Stretch f s.at b (was_of s)
  pub from : w.t0 ≤ s.at
  pub to : b ≤ w.t1
  pub here : s.begun ≡ opened g w (f s.at) (first_of s)
  pub few : Few s
  pub room : RoomFor s.count (length (closed_in f (first_of s) s.at b)) out

-- flags of an interval that begins as the open one does: below 256, where a closing record's begin
abbrev pub Flagged : Begun → ℕ → Type 0
Flagged o flags = o.flags + flags < 256

-- the record of the open interval, closed at `last` with these flags for it
abbrev pub closing : Window → Begun → ℕ → ℕ → Interval
closing w o last flags = record { job = w.job; flags = o.flags + flags; first = o.first; last = last }

-- `out` with that record behind the `count` that are there
abbrev pub closed_out : Window → ℕ → Begun → ℕ → ℕ → List ℕ → List ℕ
closed_out w count o last flags out = write_of out (24 * count) (closing w o last flags)

-- the state after the step to the sample b
unfoldable pub advanced : (ℕ → Bool) → (ℕ → Sight) → Window → State → ℕ → State
advanced f g w s b = record {
  at = b;
  begun = opened g w (f b) (first_after f (first_of s) s.at b);
  count = s.count + length (closed_in f (first_of s) s.at b);
  asked = s.asked + suc (length (middles_in f s.at b));
}

-- what the end supposes: the last sample was reached, what is open is as f answered there, and there is room for what that closes
pub record AtEnd (f : ℕ → Bool) (g : ℕ → Sight) (w : Window) (s : State) (out : List ℕ) : Type 0 where
  pub last : s.at ≡ w.t1
  pub here : s.begun ≡ opened g w (f s.at) (first_of s)
  pub room : RoomFor s.count (length (ended (was_of s) (first_of s) s.at)) out

-- what is found after the last sample: a yes there, at t1, closes an interval too
unfoldable pub finished : State → Found
finished s = record { intervals = s.count + length (ended (was_of s) (first_of s) s.at); asked = s.asked }
