-- `refusal::then` meets its contract: by which of the two `a` is.
use Rattle.refusal.specs.Rows.{◌then◌}
use Rattle.refusal.proofs.then.Goals as goal

pub returns-in-Err : goal.returns-in-Err
unfolding ◌then◌
returns-in-Err c = rw c.in-Err.is

pub returns-in-Ok : goal.returns-in-Ok
unfolding ◌then◌
returns-in-Ok c = rw c.in-Ok.is
