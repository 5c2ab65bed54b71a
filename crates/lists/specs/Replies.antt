-- What the program writes at once: the replies to several pieces of its input, one behind the other (document 01, "One job whole").
use Rattle.std.specs.Prelude.{ℕ, zero, suc, ◌+◌, ◌*◌, ◌≤◌, ◌<◌, List, [], ◌++◌, length, take, drop}
use Rattle.job.specs.Reply.{room_for_reply, reply_of}

-- piece n, counted from 0: a record of 136 bytes, or the short piece at the end
abbrev pub piece_of : ℕ → List ℕ → List ℕ
piece_of n s = take 136 (drop (136 * n) s)

-- the reply to a piece, with room for any: 24 bytes for each of 2,049 intervals, and 24 for the closing record
abbrev pub roomy_reply : List ℕ → List ℕ
roomy_reply s = reply_of s room_for_reply

-- the replies to the first n pieces, one behind the other
unfoldable pub replies_of : ℕ → List ℕ → List ℕ
replies_of zero s = []
replies_of (suc n) s = replies_of n s ++ roomy_reply (piece_of n s)

-- ---- what the functions require and ensure

-- piece n begins inside s
abbrev pub Begins : ℕ → List ℕ → Type 0
Begins n s = 136 * n < length s

-- n pieces, of which the last begins inside s
abbrev pub Pieces : ℕ → List ℕ → Type 0
Pieces n s = (0 < n) × (136 * n < length s + 136)

-- room for any reply behind the `used` bytes
abbrev pub RoomBehind : ℕ → List ℕ → Type 0
RoomBehind used out = used + room_for_reply ≤ length out
