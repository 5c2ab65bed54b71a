-- At each turn fewer bytes than a record are kept, and what the input has given is what was answered and those bytes; each turn took a byte at least.
use Rattle.std.proofs.Common.{◌≤◌, ◌≡◌, length}
use denote.Param.Always.{always_mut}
use Rattle.streams.proofs.Turns.{Along}
use Rattle.streams.proofs.run.Given as goal

abbrev pub invariant-loop-turn : goal.invariant-loop-turn
invariant-loop-turn g l =
    always_mut g.F.FnMut l.answer
    × (136 ≤ length l.buf)
    × (length l.buf ≡ length l.fn.buf)
    × Along (length l.fn.buf) g.F.FnMut l.fn.answer (g.R.Read.remaining l.fn.input) l.answer (g.R.Read.remaining l.input) l.kept l.buf l._turn
