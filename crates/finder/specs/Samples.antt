-- The samples of a window (document 01, "The list").
use Rattle.std.specs.Prelude.{ℕ, zero, suc, ◌+◌, ◌-◌, ◌*◌, ◌/◌, ◌≤◌, ◌<◌, min, List, [], ◌∷◌}
use Rattle.finder.specs.declared.Window.{Window}

-- the last end of a window, in ms: 31 days (document 01, "Turned away", 6)
abbrev pub last_end : ℕ
last_end = 2678400000

-- the longest step, in ms: 2^20 (document 01, "Turned away", 7)
abbrev pub longest_step : ℕ
longest_step = 1048576

-- the most steps (document 01, "Turned away", 7)
abbrev pub most_steps : ℕ
most_steps = 4096

-- a window and a step that refusals 6 and 7 let through, however many steps there are
pub record Good (w : Window) : Type 0 where
  pub window : w.t0 < w.t1
  pub end : w.t1 ≤ last_end
  pub some : 1 ≤ w.step
  pub short : w.step ≤ longest_step

-- ceil(a / b)
abbrev pub ceil_div : ℕ → ℕ → ℕ
ceil_div a b = (a + (b - 1)) / b

-- n steps, the last of which may be shorter
unfoldable pub steps_of : Window → ℕ
steps_of w = ceil_div (w.t1 - w.t0) w.step

-- sample i of 0 .. n: t0, t0 + step, .., and t1 last
unfoldable pub sample_at : Window → ℕ → ℕ
sample_at w i = min (w.t0 + i * w.step) w.t1

-- k samples, from sample i on
unfoldable pub samples_from : Window → ℕ → ℕ → List ℕ
samples_from w i zero = []
samples_from w i (suc k) = sample_at w i ∷ samples_from w (suc i) k

-- the n samples after t0
unfoldable pub samples : Window → List ℕ
samples w = samples_from w 1 (steps_of w)
