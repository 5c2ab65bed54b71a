-- What `run` hands over: all the input's bytes in their order, cut between records alone.
use Rattle.std.specs.Prelude.{ℕ, ◌%◌, ◌<◌, ◌≤◌, ◌≡◌, ◌⊎◌, List, [], ◌++◌, length, Result, Ok}
use Rattle.std.specs.List.{FoldsTo, All, concat}
use Rattle.std.specs.Fn.{Mut, CalledAt}
use Rattle.streams.specs.declared.Failure.{Failure}
use denote.Ref.{Bor}

-- records, of which there is one at least, in no more bytes than the buffer has
abbrev pub Whole : ℕ → List ℕ → Type 0
Whole room s = (0 < length s) × (length s % 136 ≡ 0) × (length s ≤ room)

-- the buffer has so many bytes
module _ (room : ℕ) {F : Type 0} (g : Mut F (Bor (List ℕ) × Unit {0}) (Result (Unit {0}) Failure)) where
  -- calls at whole records, which together are bs, took f to f'
  pub record Taken (f : F) (bs : List ℕ) (f' : F) : Type 0 where
    pub pieces : List (List ℕ)
    pub whole : All (Whole room) pieces
    pub called : FoldsTo (λ p s q. CalledAt g p s (Ok tt) q) f pieces f'
    pub are : bs ≡ concat pieces

  -- and where a short piece stood behind them, a call at it was the last
  pub record Answered (f : F) (xs : List ℕ) : Type 0 where
    pub front : List ℕ
    pub tail : List ℕ
    pub middle : F
    pub taken : Taken f front middle
    pub short : length tail < 136
    pub last : (tail ≡ []) ⊎ ((f' : F) × CalledAt g middle tail (Ok tt) f')
    pub are : xs ≡ front ++ tail
