-- What stands in the input's buffer: whole records, and the first bytes of one that has not come whole.
use Rattle.std.specs.Prelude.{ℕ, ◌-◌, ◌%◌, ◌≤◌, List, length, take, drop}

-- those bytes: what is left of the first `filled` bytes behind the last whole record
unfoldable pub tail_of : ℕ → List ℕ → List ℕ
tail_of filled buf = take (filled % 136) (drop (filled - filled % 136) buf)

-- the buffer has so many bytes
abbrev pub Filled : ℕ → List ℕ → Type 0
Filled filled buf = filled ≤ length buf

-- the buffer has room for a record
abbrev pub HoldsARecord : List ℕ → Type 0
HoldsARecord buf = 136 ≤ length buf
