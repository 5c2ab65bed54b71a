-- `days::put_day` meets its contract: three numbers, put one behind the other, are the record.
use Rattle.days.proofs.Records.{day_puts}
use Rattle.days.proofs.put_day.Goals as goal

pub returns : goal.returns
returns c =
    let a = c.args in
    day_puts a.out.now a.at a.day a.intervals a.instants c.put.ensures c.put-2.ensures c.put-3.ensures
