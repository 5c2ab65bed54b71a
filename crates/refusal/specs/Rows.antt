-- A table of rows, and the first of them that applies (document 01, "Turned away", the order).
use Rattle.std.specs.Prelude.{ℕ, zero, suc, ◌<◌, ◌≡◌, Bool, cond, List, [], ◌∷◌, Result, Ok, Err}
use Rattle.refusal.specs.declared.Refusal.{Refusal}

-- what one row says: `Ok` lets the job through
abbrev pub Verdict : Type 0
Verdict = Result (Unit {0}) Refusal

abbrev pub passed : Verdict
passed = Ok tt

infixr 20 ◌then◌
-- a row: its refusal where its test holds
abbrev pub when : Bool → Refusal → Verdict
when test r = cond test (Err r) passed

-- the refusal of the first, or else what the second says
unfoldable pub ◌then◌ : Verdict → Verdict → Verdict
Err r then b = Err r
Ok t then b = b

-- the first that applies
unfoldable pub first : List Verdict → Verdict
first [] = passed
first (v ∷ vs) = v then first vs

-- row k of a table, counted from 0
unfoldable pub row_at : List Verdict → ℕ → Verdict
row_at [] k = passed
row_at (v ∷ vs) zero = v
row_at (v ∷ vs) (suc k) = row_at vs k

-- r is what row k says, and each row before it passes
pub record Gives (vs : List Verdict) (k : ℕ) (r : Refusal) : Type 0 where
  pub applies : row_at vs k ≡ Err r
  pub none_before : (j : ℕ) → j < k → row_at vs j ≡ passed

-- every row passes
abbrev pub Passes : List Verdict → Type 0
Passes vs = (k : ℕ) → row_at vs k ≡ passed
