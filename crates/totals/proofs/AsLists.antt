-- A refused job is answered as by the program `lists`: with room for any reply both write its closing record and nothing else.
use mathlib.Core.Path.{◌≡◌, refl}
use mathlib.Core.List.{List}
use Prim.Native.Nat.{ℕ}
use Rattle.std.specs.Prelude.{Err}
use Rattle.refusal.specs.declared.Refusal.{Refusal}
use Rattle.finder.specs.Records.{room_for_any}
use Rattle.job.specs.Outcome.{records_from, outcome_of, records_in}
use Rattle.job.specs.Reply as lists
use Rattle.job.proofs.Exactly.{refused-first}
use Rattle.totals.specs.Reply.{reply_by, reply_of}

pub refused_as_lists : (s : List ℕ) (r : Refusal) → outcome_of s room_for_any ≡ Err r → reply_of s ≡ lists.reply_of s lists.room_for_reply
unfolding reply_of reply_by lists.reply_of records_in records_from
refused_as_lists s r h = rw (refused-first s room_for_any r h, h) refl
