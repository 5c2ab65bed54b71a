-- The answer's bytes: five numbers one behind the other, and read off them again; through the laws of little-endian numbers.
use Prim.Native.Nat.{ℕ}
use mathlib.Core.Path.{◌≡◌, refl}
use mathlib.Core.List.{List, [], ◌++◌, append_assoc, append-nil}
use lib.ListN.{length-append}
use lib.Seq.{sets}
use Rattle.words.specs.Little.{bytes_of, read_of, put_of}
use Rattle.words.proofs.Stores.{sets-append}
use Rattle.words.proofs.Laws.{length-bytes, read_among}
use Rattle.door.specs.declared.Answer.{Answer}
use Rattle.door.specs.Answer.{answer_bytes, answer_in, AnswerSized, Sized}

pub length-answer : (a : Answer) → AnswerSized (answer_bytes a)
unfolding answer_bytes
length-answer a = simp (length-append, length-bytes)

-- five numbers put one behind the other are stored as one
pub answer_puts : (l : List ℕ) {l₁ l₂ l₃ l₄ l₅ : List ℕ} (a : Answer) → l₁ ≡ put_of 4 l 0 a.refusal → l₂ ≡ put_of 4 l₁ 4 a.field → l₃ ≡ put_of 8 l₂ 8 a.number → l₄ ≡ put_of 8 l₃ 16 a.intervals → l₅ ≡ put_of 8 l₄ 24 a.asked → l₅ ≡ sets l 0 (answer_bytes a)
unfolding answer_bytes put_of
answer_puts l a p q s t u = rw (u, t, s, q, p) (simp (sets-append, length-append, length-bytes))

-- a caller who reads the five numbers off the bytes has the answer
pub answer_back : (a : Answer) → Sized a → answer_in (answer_bytes a) ≡ a
unfolding answer_in answer_bytes
answer_back a z =
    let b = bytes_of 4 a.refusal in
    let c = bytes_of 4 a.field in
    let d = bytes_of 8 a.number in
    let e = bytes_of 8 a.intervals in
    let f = bytes_of 8 a.asked in
    let s = b ++ c ++ d ++ e ++ f in
    let refusal : read_of 4 s 0 ≡ a.refusal = read_among 4 a.refusal s [] (c ++ (d ++ (e ++ f))) 0 z.refusal_fits refl (simp append_assoc) in
    let field : read_of 4 s 4 ≡ a.field = read_among 4 a.field s b (d ++ (e ++ f)) 4 z.field_fits (length-bytes 4 a.refusal) (simp append_assoc) in
    let number : read_of 8 s 8 ≡ a.number = read_among 8 a.number s (b ++ c) (e ++ f) 8 z.number_fits (simp (length-append, length-bytes)) (simp append_assoc) in
    let intervals : read_of 8 s 16 ≡ a.intervals = read_among 8 a.intervals s (b ++ c ++ d) f 16 z.intervals-fits (simp (length-append, length-bytes)) (simp append_assoc) in
    let asked : read_of 8 s 24 ≡ a.asked = read_among 8 a.asked s (b ++ c ++ d ++ e) [] 24 z.asked-fits (simp (length-append, length-bytes)) (simp (append_assoc, append-nil)) in
    λ i. record { refusal = refusal i; field = field i; number = number i; intervals = intervals i; asked = asked i }
