-- The place in the orbit (document 01, "Place in the orbit"): M, Kepler's equation and its search. Anomalies are in units of 2^-32 turns.
use Rattle.std.specs.Prelude.{Bool, ℕ, ◌+◌, ◌*◌, ◌/◌, ◌%◌, ◌≤◌, ◌<◌, ℤ, pos, ◌-ℤ◌}
use Rattle.std.specs.Int.Signed.{le_z}
use Rattle.fixed.specs.Scaled.{one, ◌∘◌}
use Rattle.nearest.specs.Nearest.{most_eccentric}
use Rattle.angle.specs.Turn.{turn}
use Rattle.sine.specs.Sine.{sine_of}
use Rattle.halving.specs.declared.Edge.{Edge}
use Rattle.halving.specs.Halving.{halve}

-- what may be a period: no turn takes no time
abbrev pub Period : ℕ → Type 0
Period p = 0 < p

-- M = floor((t mod p)·2^32/p): how far t lies in a turn that takes p, the craft's or the station's
unfoldable pub phase_of : ℕ → ℕ → ℕ
phase_of p t = t % p * turn / p

-- at most that of 0.95 (document 01, field 2)
abbrev pub Eccentricity : ℕ → Type 0
Eccentricity e = e ≤ most_eccentric

-- 683,565,276 is the nearest whole number to 2^32/2π (`radian-nearest` in proofs/Laws.antt)
abbrev pub radian : ℕ
radian = 683565276

-- K(E) = E − floor((e∘sin E)·683,565,276 / 2^30), and such a floor is ∘; at E = 2^32 the sine is that of 0.
-- Kepler's equation is source 002's equation 10, nT = E − e sin E, and its listing's, FUNCTION EA: EA=E-(XN*YTIME)-(EPS*DSIN(E))
unfoldable pub K : ℕ → ℕ → ℤ
K e E = pos E -ℤ (pos e ∘ sine_of (E % turn) ∘ pos radian)

-- for the contracts of private functions, no rule of document 01: E up to a turn, and how far from 0 its K(E) may be
abbrev pub UpToATurn : ℕ → Type 0
UpToATurn E = E ≤ turn

abbrev pub most_mean : ℕ
most_mean = turn + one

-- K(E) ≤ M
unfoldable pub reached : ℕ → ℕ → ℕ → Bool
reached e M E = le_z (K e E) (pos M)

-- the search: low 0, high 2^32, low moves to the middle if K(middle) ≤ M, else high does; until they are neighbours, as they are after 32 halvings (`one-wide` in proofs/Laws.antt)
unfoldable pub search_of : ℕ → ℕ → Edge
search_of e M = halve (reached e M) 32 0 turn 0

-- E = low
unfoldable pub kepler_of : ℕ → ℕ → ℕ
kepler_of e M = (search_of e M).low
