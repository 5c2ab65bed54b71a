-- `finder::Finder::close` meets its contract: by the answer at the last sample.
use Rattle.finder.proofs.Advanced.{last-room, last_yes, last_no}
use Rattle.finder.proofs.Finder.close.Goals as goal

pub put-requires : goal.put-requires
put-requires c = last-room c.requires c.in-Some.is

pub returns-in-Some : goal.returns-in-Some
returns-in-Some c =
    let made = last_yes c.requires c.in-Some.is c.put.ensures in
    record { value = made.0; out_after = made.1 }

pub returns-in_default : goal.returns-in_default
returns-in_default c =
    let made = last_no c.requires c.in_default.is in
    record { value = made.0; out_after = made.1 }
