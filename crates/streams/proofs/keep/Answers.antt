-- `streams::keep` meets its contract: what `copy_within` moves is the tail.
use Rattle.streams.proofs.Laws.{tail_moved}
use Rattle.std.proofs.Common.{refl}
use Rattle.streams.proofs.keep.Goals as goal

pub returns-clause-buf_after : goal.returns-clause-buf_after
returns-clause-buf_after c = tail_moved c.args.filled c.args.buf.now c.requires _ c.copy_within.new.self refl c.copy_within.ensures.after
