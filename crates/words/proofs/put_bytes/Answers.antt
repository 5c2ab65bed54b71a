use Prim.Native.Nat.{◌-◌}
use mathlib.Core.Path.{◌≡◌, sym, ◌∙◌}
use lib.ListN.{length-set}
use lib.Seq.{drop-drop}
use native.Mathlib.Nat.{add-sub_cancel_left, sub-zero, sub-add-eq}
use native.Mathlib.Omega.{arith}
use Rattle.words.specs.Little.{bytes_of, put_of}
use Rattle.words.proofs.Stores.{sets-all}
use Rattle.words.proofs.Laws.{length-bytes, part_length, put_is, put_byte, put-none}
use Rattle.words.proofs.put_bytes.Goals as goal

pub loop-byte-init : goal.loop-byte-init
unfolding put_of
loop-byte-init c =
    let n = c.args.n in
    let long = part_length n c.args.s.now c.args.at c.requires in
    rw (add-sub_cancel_left c.args.at n, sub-zero n) (long, sets-all (bytes_of n c.args.x) _ (long ∙ sym (length-bytes n c.args.x)))

pub loop-byte-preserved : goal.loop-byte-preserved
loop-byte-preserved c =
    let now = c.loop-byte in
    let byte = put_byte (c.args.n - now.byte-index) now.byte-items now.byte-index now.v (omega arith) in
    (simp length-set (omega arith), rw (sub-add-eq c.args.n now.byte-index 1) (sym byte ∙ now.invariant.1))

pub returns : goal.returns
returns c =
    let now = c.loop-byte in
    let all : now.byte-items ≡ bytes_of c.args.n c.args.x = sym (put-none _ now.byte-items now.byte-index now.v (omega arith)) ∙ now.invariant.1 in
    rw (add-sub_cancel_left c.args.at c.args.n, all, put_is c.args.n c.args.s.now c.args.at c.args.x c.requires, drop-drop c.args.n c.args.at c.args.s.now)
