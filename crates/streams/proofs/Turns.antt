-- The turns of `run`: what was answered so far, and what is kept of the input.
use Prim.Native.Nat.{ℕ, ◌+◌, ◌-◌, ◌%◌, ◌≤◌, ◌<◌}
use mathlib.Core.Path.{◌≡◌, refl, sym, ap, subst, ◌∙◌}
use mathlib.Core.List.{List, [], ◌∷◌, ◌++◌, append_assoc, append-nil}
use native.Mathlib.Omega.{arith}
use lib.ListN.{length, take, drop, length-append}
use lib.Seq.{sets, length-take-le, take-add}
use denote.Ref.{Bor}
use Rattle.std.specs.Prelude.{Option, Some, None, Result, Ok}
use Rattle.std.specs.List.{concat}
use Rattle.std.specs.Io.KnownBytes.{Consumes}
use Rattle.std.specs.Fn.{Mut, CalledAt}
use Rattle.std.proofs.lemmas.Fn.{FoldsTo-push}
use Rattle.std.proofs.lemmas.List.Elements.{All-nil, All-push}
use Rattle.std.proofs.lemmas.List.Folds.{concat-append}
use Rattle.streams.specs.declared.Failure.{Failure}
use Rattle.streams.specs.Buffer.{tail_of}
use Rattle.streams.specs.Answered.{Whole, Taken}
use Rattle.streams.proofs.Laws.{reads_on, read_more, tail_kept}

-- the buffer has so many bytes
module _ (room : ℕ) {F : Type 0} (g : Mut F (Bor (List ℕ) × Unit {0}) (Result (Unit {0}) Failure)) where
  -- after so many turns, from f and the bytes `old` to f' and `new`
  pub record Along (f : F) (old : Option (List ℕ)) (f' : F) (new : Option (List ℕ)) (kept : ℕ) (buf : List ℕ) (turns : ℕ) : Type 0 where
    pub front : List ℕ
    pub taken : Taken room g f front f'
    pub given : Consumes old new (front ++ take kept buf)
    pub short : kept < 136
    pub counted : turns ≤ length front + kept

  reads-none : (known : Option (List ℕ)) → Consumes known known []
  reads-none None = tt
  reads-none (Some xs) = refl

  -- no turn yet
  pub set_out : (f : F) (known : Option (List ℕ)) (buf : List ℕ) → Along f known f known 0 buf 0
  set_out f known buf = record {
    front = [];
    taken = record { pieces = []; whole = All-nil (Whole room); called = refl; are = refl };
    given = reads-none known;
    short = omega arith;
    counted = omega arith;
  }

  -- one call more, at whole records
  took-more : {f f' f'' : F} {bs : List ℕ} (s : List ℕ) → Taken room g f bs f' → Whole room s → CalledAt g f' s (Ok tt) f'' → Taken room g f (bs ++ s) f''
  took-more {f} {f'} {f''} {bs} s t is call = record {
    pieces = t.pieces ++ s ∷ [];
    whole = All-push (Whole room) t.pieces s t.whole is;
    called = FoldsTo-push (λ p x q. CalledAt g p x (Ok tt) q) f t.pieces f' s f'' t.called call;
    are = ap (λ (xs : List ℕ). xs ++ s) t.are ∙ ap (λ (xs : List ℕ). concat t.pieces ++ xs) (sym (append-nil s)) ∙ sym (concat-append t.pieces (s ∷ []));
  }

  module _ {f : F} {old : Option (List ℕ)} {f' : F} {new : Option (List ℕ)} {kept : ℕ} {buf : List ℕ} {turns : ℕ} (i : Along f old f' new kept buf turns) where
    -- got bytes more, which stand in `after`
    module _ (new' : Option (List ℕ)) (got : ℕ) (s rest after : List ℕ) (stay : kept ≤ length buf) (fits : got ≤ length s)
        (is : after ≡ take kept buf ++ (s ++ rest)) (some : 0 < got) (gave : Consumes new new' (take got s)) where
      stands : take (kept + got) after ≡ take kept buf ++ take got s
      stands = ap (take (kept + got)) is ∙ read_more buf s rest kept got stay fits

      now : Consumes old new' (i.front ++ take (kept + got) after)
      now =
          subst (Consumes old new') (append_assoc i.front (take kept buf) (take got s) ∙ ap (λ (xs : List ℕ). i.front ++ xs) (sym stands))
          (reads_on old new new' (i.front ++ take kept buf) (take got s) i.given gave)

      -- no record has come whole
      pub still_short : kept + got < 136 → Along f old f' new' (kept + got) after (turns + 1)
      still_short h = record { front = i.front; taken = i.taken; given = now; short = h; counted = omega (arith, i.counted) }

      -- the whole records are answered, and the tail is kept
      module _ (f'' : F) (tail : ℕ) (moved : List ℕ) (filled : kept + got ≤ length after) (in_room : length after ≤ room) (h : 136 ≤ kept + got) (t : tail ≡ (kept + got) % 136)
          (m : moved ≡ sets after 0 (tail_of (kept + got) after)) where
        abbrev whole : ℕ
        whole = kept + got - (kept + got) % 136

        long : length (take whole after) ≡ whole
        long = length-take-le whole after (omega arith)

        both : take (kept + got) after ≡ take whole after ++ take tail moved
        unfolding tail_of
        both =
            let sum : kept + got ≡ whole + (kept + got) % 136 = omega arith in
            let cut : take (kept + got) after ≡ take whole after ++ take ((kept + got) % 136) (drop whole after) = ap (λ (k : ℕ). take k after) sum ∙ take-add whole ((kept + got) % 136) after in
            cut ∙ ap (λ (xs : List ℕ). take whole after ++ xs) (sym (ap (λ (k : ℕ). take k moved) t ∙ tail_kept (kept + got) after filled moved m))

        pub answered : CalledAt g f' (take whole after) (Ok tt) f'' → Along f old f'' new' tail moved (turns + 1)
        answered call = record {
          front = i.front ++ take whole after;
          taken = took-more (take whole after) i.taken (omega (arith, long), rw long (omega arith), omega (arith, long)) call;
          given = subst (Consumes old new') (ap (λ (xs : List ℕ). i.front ++ xs) both ∙ sym (append_assoc i.front (take whole after) (take tail moved))) now;
          short = omega arith;
          counted = omega (arith, i.counted, long, length-append i.front (take whole after));
        }
