-- The laws of the program's buffers: a piece, and the replies one behind the other.
use Prim.Native.Nat.{ℕ, zero, suc, ◌+◌, ◌-◌, ◌*◌, ◌≤◌, ◌<◌, min}
use mathlib.Core.Path.{◌≡◌, refl, sym, ap, ◌∙◌}
use mathlib.Core.List.{List, [], ◌++◌, append-nil}
use native.Mathlib.Omega.{arith}
use native.Mathlib.Nat.{zero-add}
use native.Mathlib.Numerals.{add-one}
use lib.ListN.{length, take, drop, length-append, length-drop, length-take}
use lib.Seq.{sets, length-sets, take_all, take_at, drop_at, drop-drop}
use Rattle.std.proofs.Common.{inl, inr}
use Rattle.std.proofs.lemmas.Bool.{cases_lt}
use Rattle.std.proofs.lemmas.List.{nil_from_length}
use Rattle.job.specs.Reply.{room_for_reply, reply_of}
use Rattle.job.proofs.Parts.{reply-fits}
use Rattle.job.proofs.Roomy.{reply-roomy}
use Rattle.words.proofs.Stores.{sets-append, sets-rest}
use Rattle.lists.specs.Replies.{piece_of, roomy_reply, replies_of, RoomBehind}

-- ---- a piece

-- the first chunk of what is left behind n pieces is piece n, and leaves what is behind it
pub piece_next : {rest next piece : List ℕ} (n : ℕ) (s : List ℕ) → rest ≡ drop (136 * n) s → rest ≡ piece ++ next → length piece ≡ min 136 (length rest)
    → (piece ≡ piece_of n s) × (next ≡ drop (136 * (n + 1)) s)
piece_next {rest} {next} {piece} n s is parts long =
    let sum = ap length parts ∙ length-append piece next in
    let two : 136 * (n + 1) ≡ 136 * n + 136 = omega arith in
    let first : take 136 rest ≡ piece = elim (cases_lt (length rest) 136) [
      | inl short ↦ let none : next ≡ [] = nil_from_length next (omega arith) in take_all 136 rest (omega arith) ∙ parts ∙ rw (none, append-nil) refl
      | inr full ↦ ap (take 136) parts ∙ take_at piece next 136 (omega arith)
    ] in
    let behind : drop 136 rest ≡ next = elim (cases_lt (length rest) 136) [
      | inl short ↦ nil_from_length (drop 136 rest) (simp length-drop (omega arith)) ∙ sym (nil_from_length next (omega arith))
      | inr full ↦ ap (drop 136) parts ∙ drop_at piece next 136 (omega arith)
    ] in
    (sym first ∙ ap (take 136) is, sym behind ∙ ap (drop 136) is ∙ drop-drop 136 (136 * n) s ∙ ap (λ (k : ℕ). drop k s) (sym two))

-- ---- one reply

-- it fits where there is room for any
roomy-fits : (s : List ℕ) → length (roomy_reply s) ≤ room_for_reply
roomy-fits s = reply-fits s room_for_reply

-- a piece was replied to in the rest of `out`, which has m bytes: `new` stands there, of which r bytes are the reply
module _ (s out : List ℕ) (m used r : ℕ) (new : List ℕ) (long : length out ≡ m) (h : RoomBehind used out)
    (told : r ≡ length (reply_of s (length (take (m - used) (drop used out)))))
    (left : new ≡ sets (take (m - used) (drop used out)) 0 (reply_of s (length (take (m - used) (drop used out))))) where
  room : room_for_reply ≤ length (take (m - used) (drop used out))
  room = simp (length-take, length-drop) (omega arith)

  reply-is : reply_of s (length (take (m - used) (drop used out))) ≡ roomy_reply s
  reply-is = reply-roomy s (length (take (m - used) (drop used out))) room

  length-is : r ≡ length (roomy_reply s)
  length-is = told ∙ ap length reply-is

  pub reply-ends : used + r ≤ length out
  reply-ends = omega (arith, length-is, roomy-fits s)

  pub reply-stands : (used + r ≡ used + length (roomy_reply s)) × (take used out ++ (new ++ drop (m - used) (drop used out)) ≡ sets out used (roomy_reply s))
  reply-stands = (
    ap (λ (k : ℕ). used + k) length-is,
    rw (← long) (sets-rest (roomy_reply s) out new used (omega (arith, roomy-fits s)) (rw (← long) at left ∙ ap (λ (xs : List ℕ). sets (take (length out - used) (drop used out)) 0 xs) (rw (← long) at reply-is))),
  )

-- ---- the replies one behind the other

-- the replies to n pieces stand in `out`, which was `old`, in its first `used` bytes
pub record Stand (n : ℕ) (s old out : List ℕ) (used : ℕ) : Type 0 where
  pub counted : used ≡ length (replies_of n s)
  pub stored : out ≡ sets old 0 (replies_of n s)
  pub inside : used ≤ length old

nothing : (s : List ℕ) → length (replies_of 0 s) ≡ 0
unfolding replies_of
nothing s = refl

-- no piece yet
pub stand_none : (s old : List ℕ) → Stand 0 s old old 0
unfolding replies_of
stand_none s old = record { counted = refl; stored = refl; inside = omega arith }

module _ {n : ℕ} {s old out : List ℕ} {used : ℕ} (stand : Stand n s old out used) where
  -- they leave the buffer as long as it was
  pub stand_long : length out ≡ length old
  stand_long = ap length stand.stored ∙ length-sets old 0 (replies_of n s)

  pub stand_fit : used ≤ length out
  stand_fit = omega (arith, stand.inside, stand_long)

  -- without room for one more there is one
  pub stand_some : RoomBehind 0 old → length out - used < room_for_reply → 0 < n
  stand_some room full = by n refl
    where
      by : (k : ℕ) → n ≡ k → 0 < k
      by zero e = absurd (omega (arith, stand.counted, stand_long, ap (λ (k : ℕ). length (replies_of k s)) e, nothing s))
      by (suc k) e = omega arith

  -- one more
  pub stand_more : {piece out' : List ℕ} {used' : ℕ} → piece ≡ piece_of n s → RoomBehind used out → used' ≡ used + length (roomy_reply piece)
      → out' ≡ sets out used (roomy_reply piece) → Stand (n + 1) s old out' used'
  unfolding replies_of
  stand_more is room u o =
      let before = replies_of n s in
      let last = roomy_reply (piece_of n s) in
      rw add-one
      (record {
        counted = u ∙ rw (is, stand.counted) (sym (length-append before last));
        stored = o ∙ rw (is, stand.counted, stand.stored) (sym (rw zero-add at (sets-append before last old 0)));
        inside = omega (arith, u, stand_long, ap (λ (p : List ℕ). length (roomy_reply p)) is, roomy-fits (piece_of n s));
      })
