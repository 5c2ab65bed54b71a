-- What a job answers, and what its list holds afterwards (document 01, "Turned away" and "The list"; document 02, wish 1).
use Rattle.std.specs.Prelude.{ℕ, Bool, List, [], length, Result, Ok, Err}
use Rattle.std.proofs.lemmas.List.Edits.{sets}
use Rattle.refusal.specs.Rows.{Verdict, first}
use Rattle.refusal.specs.declared.Refusal.{Refusal}
use Rattle.elements.specs.declared.reading.Elements.{Elements}
use Rattle.elements.specs.Reading.{elements_of}
use Rattle.elements.specs.Rounding.{wholes_of}
use Rattle.geometry.specs.declared.Orbit.{Orbit}
use Rattle.geometry.specs.declared.Sight.{Sight}
use Rattle.geometry.specs.Prepared.{orbit_of}
use Rattle.geometry.specs.Visible.{answer_at}
use Rattle.geometry.specs.Sight.{sight_at}
use Rattle.finder.specs.declared.Found.{Found}
use Rattle.finder.specs.declared.Window.{Window}
use Rattle.finder.specs.Spans.{list_of}
use Rattle.finder.specs.Records.{records_of, found_of}
use Rattle.job.specs.Table.{window_of, question_of, table_of}

-- what the finder counts, or the refusal
abbrev pub Outcome : Type 0
Outcome = Result Found Refusal

-- ---- an outcome's numbers

-- every refusal returns 0 intervals
abbrev pub intervals_of : Outcome → ℕ
intervals_of (Ok f) = f.intervals
intervals_of (Err r) = 0

-- and 0 instants asked
abbrev pub asked_of : Outcome → ℕ
asked_of (Ok f) = f.asked
asked_of (Err r) = 0

-- ---- by the table's verdict

-- the refusal, or what the finder counts
unfoldable pub outcome_from : Verdict → (ℕ → Bool) → Window → Outcome
outcome_from (Ok t) f w = Ok (found_of f w)
outcome_from (Err r) f w = Err r

-- on success the bytes of the interval records, and none for a refusal
unfoldable pub records_from : Verdict → (ℕ → Bool) → (ℕ → Sight) → Window → List ℕ
records_from (Ok t) f g w = records_of g w (list_of f w)
records_from (Err r) f g w = []

-- ---- by the record

-- what is fixed for a job with the elements e
abbrev pub orbit_with : Elements → Orbit
orbit_with e = orbit_of (wholes_of e)

-- the yes or no at each instant, to question q about the elements e
abbrev pub answers_of : Elements → ℕ → ℕ → Bool
answers_of e q = answer_at (orbit_with e) q

-- and what tells why (document 02, wish 1)
abbrev pub sights_of : Elements → ℕ → ℕ → Sight
sights_of e q = sight_at (orbit_with e) q

-- the outcome by a verdict, and the bytes of its records
abbrev pub outcome_by : Verdict → Elements → ℕ → Window → Outcome
outcome_by v e q w = outcome_from v (answers_of e q) w

abbrev pub records_by : Verdict → Elements → ℕ → Window → List ℕ
records_by v e q w = records_from v (answers_of e q) (sights_of e q) w

-- the yes or no to the record's own question about its own elements
abbrev pub answers_in : List ℕ → ℕ → Bool
answers_in s = answers_of (elements_of s) (question_of s)

-- and what tells why
abbrev pub sights_in : List ℕ → ℕ → Sight
sights_in s = sights_of (elements_of s) (question_of s)

-- the outcome, with room for so many bytes
unfoldable pub outcome_of : List ℕ → ℕ → Outcome
outcome_of s room = outcome_by (first (table_of s room)) (elements_of s) (question_of s) (window_of s)

-- the bytes of its interval records, none for a refusal
unfoldable pub records_in : List ℕ → ℕ → List ℕ
records_in s room = records_by (first (table_of s room)) (elements_of s) (question_of s) (window_of s)

-- the list afterwards: only the interval records are written, from byte 0
unfoldable pub list_after_of : List ℕ → List ℕ → List ℕ
list_after_of s list = sets list 0 (records_in s (length list))
