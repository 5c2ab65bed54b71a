-- `words::put_bytes` meets its contract. The loop's invariant: what is put and what is still to come make the whole, byte by byte.
use Prim.Native.Nat.{◌-◌}
use mathlib.Core.Path.{◌≡◌}
use lib.ListN.{length}
use Rattle.words.specs.Little.{bytes_of, put_of}
use Rattle.words.proofs.put_bytes.Given as goal

abbrev pub invariant-loop-byte : goal.invariant-loop-byte
invariant-loop-byte l = (length l.byte-items ≡ l.n) × (put_of (l.n - l.byte-index) l.byte-items l.byte-index l.v ≡ bytes_of l.n l.x)
