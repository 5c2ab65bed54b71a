-- What tells why an interval begins or ends: the hidden answer and the up answer at one instant (document 02, wish 1).
use Rattle.std.specs.Prelude.{◌≡◌, Bool, false, cond, ℕ, eqb}
use Rattle.geometry.specs.declared.Orbit.{Orbit}
use Rattle.geometry.specs.declared.Sight.{Sight}
use Rattle.geometry.specs.Hidden.{hidden_at}
use Rattle.geometry.specs.Visible.{up_at, answer_at}

-- both at t. Question 1 uses only hidden: its up is no at every instant, so that it never differs
unfoldable pub sight_at : Orbit → ℕ → ℕ → Sight
sight_at o question t = record { hidden = hidden_at o t; up = cond (eqb question 1) false (up_at o t) }

-- `told` is the answer at t
abbrev pub Answered : Orbit → ℕ → ℕ → Bool → Type 0
Answered o question t told = told ≡ answer_at o question t
