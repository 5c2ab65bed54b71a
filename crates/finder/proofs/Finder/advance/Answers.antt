-- `finder::Finder::advance` meets its contract: by the three cases of a step.
use native.Mathlib.Omega.{arith}
use Rattle.finder.specs.Asking.{answers, sights}
use Rattle.finder.proofs.OneStep.{found-most}
use Rattle.finder.proofs.Flags.{bits_most}
use Rattle.finder.proofs.Advanced.{Parted, stays, turned, begins, ends-room, ends}
use Rattle.finder.proofs.Finder.advance.Goals as goal
use Rattle.finder.proofs.Finder.advance.Goals.{After-halve-e}

-- what is known where the ends differ
parted : (found : After-halve-e) →
    let a = found.args in
    Parted (answers a.self.now) (sights a.self.now) a.self.now.window a.s a.b a.out.now found.answer.result found.halve-e.result
parted found =
    record { along = found.requires; at_b = found.answer.ensures; apart = rw found.is_some-was.ensures at found.if-answer-was.false; found = found.halve-e.ensures }

pub returns-then-answer-was : goal.returns-then-answer-was
returns-then-answer-was c =
    let made = stays c.requires c.answer.ensures (rw c.is_some-was.ensures at c.if-answer-was.true) in
    record { value = made.0; out_after = made.1 }

pub overflow_add-asked-2 : goal.overflow_add-asked-2
overflow_add-asked-2 c =
    let a = c.args in
    omega (arith, found-most (answers a.self.now) a.s.at a.b c.halve-e.result c.halve-e.ensures, c.requires.few)

pub why-flags-requires : goal.why-flags-requires
why-flags-requires c = rw c.is_some-was.ensures (turned (parted (goal.at.why-flags-requires c).After-halve-e))

pub overflow_mul-flags : goal.overflow_mul-flags
overflow_mul-flags c = omega (arith, bits_most _ 4 8 _ _ c.why-flags.ensures)

pub put-requires : goal.put-requires
put-requires c = ends-room (parted (goal.at.put-requires c).After-halve-e) c.why-flags.ensures c.in-Some.is

pub returns-in-None : goal.returns-in-None
returns-in-None c =
    let made = begins (parted (goal.at.returns-in-None c).After-halve-e) c.why-flags.ensures c.in-None.is in
    record { value = made.0; out_after = made.1 }

pub returns-in-Some : goal.returns-in-Some
returns-in-Some c =
    let made = ends (parted (goal.at.returns-in-Some c).After-halve-e) c.why-flags.ensures c.in-Some.is c.put.ensures in
    record { value = made.0; out_after = made.1 }
