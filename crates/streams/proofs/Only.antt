-- The contracts, as the check reads them off the source, leave one answer only. That of `told` is an equation. What `fill` and `run` answer hangs on the
-- reader, of which a contract knows the bytes at most: where it does, what they give of an input that does not fail is determined.
use Rattle.std.specs.Prelude.{ℕ, ◌≡◌, ◌<◌, ◌^◌, ◌-◌, List, length, take, min, Some, Ok}
use Rattle.std.proofs.Common.{sym, ap, ◌∙◌}
use contract.Lifetimes.{Lfts}
use denote.RattleType.{RattleType}
use denote.Param.Laws.{Laws}
use denote.Triple.Clauses.{AtExit}
use borrow.Fn.Kinds.{Dens, ended_of}
use mir.Syntax.{Dict}
use Rattle.std.specs.declared.io.Read as Reader
use Rattle.std.specs.declared.io.Eprint.{Ghosts}
use Rattle.determined.specs.Determined.{OneResult, by_value}
use Rattle.streams.specs.contracts.run.F-FnMut as Calls
use Rattle.streams.specs.Answered.{Answered}
use Rattle.streams.proofs.Known.{fills, SameAnswered, cut_only}
use Rattle.streams.proofs.Failure.told.Kinds as told
use Rattle.streams.proofs.Failure.told.Reads as told-reads
use Rattle.streams.proofs.fill.Kinds as fill
use Rattle.streams.proofs.fill.Reads as fill-reads
use Rattle.streams.proofs.run.Kinds as run
use Rattle.streams.proofs.run.Reads as run-reads

pub told_only : (T : RattleType) (laws : Laws T) (prints : Ghosts T.Denot) (d : Dict) → OneResult 3 (told.ps T laws) (told.r T laws) (told-reads.Post T laws prints d)
told_only T laws prints d κs a x y s t p q = ap (λ n. record { status = n }) (by_value _ p q)

module _ (T : RattleType) (laws : Laws T) (reads : Reader.Ghosts T.Denot) (d : Dict) (κs : Lfts 3) where
  -- of an input whose bytes are xs, `fill` gives the first ones: all, or as many as the buffer holds
  pub fill_gives : (a : Dens κs (fill.ps T laws)) (n : ℕ) (s : AtExit (ended_of 3 (fill.ps T laws) (fill.r T laws)) κs)
      → fill-reads.Post T laws reads d κs a (Ok n) s → (xs : List ℕ) → reads.remaining a.0.now ≡ Some xs
      → (n ≡ min (length s.1.0.now) (length xs)) × (take n s.1.0.now ≡ take n xs)
  fill_gives a n s p xs known = let end = p.1 in fills xs s.1.0.now _ n p.0 (rw known at end.0) end.1

  -- so two calls on the same known input, with buffers of the same length, give the same bytes
  pub fill_only : (a b : Dens κs (fill.ps T laws)) (n m : ℕ) (s t : AtExit (ended_of 3 (fill.ps T laws) (fill.r T laws)) κs)
      → fill-reads.Post T laws reads d κs a (Ok n) s → fill-reads.Post T laws reads d κs b (Ok m) t
      → (xs : List ℕ) → reads.remaining a.0.now ≡ Some xs → reads.remaining b.0.now ≡ Some xs → length s.1.0.now ≡ length t.1.0.now
      → (n ≡ m) × (take n s.1.0.now ≡ take m t.1.0.now)
  fill_only a b n m s t p q xs known known' long =
      let u = fill_gives a n s p xs known in
      let v = fill_gives b m t q xs known' in
      let same : n ≡ m = u.0 ∙ ap (λ (k : ℕ). min k (length xs)) long ∙ sym v.0 in
      (same, u.1 ∙ ap (λ (k : ℕ). take k xs) same ∙ sym v.1)

module _ (T U : RattleType) (laws : Laws T) (laws' : Laws U) (reads : Reader.Ghosts T.Denot) (d : Dict) (calls : Calls.Ghosts T U) (e h k : Dict) (κs : Lfts 4) where
  -- of an input whose bytes are xs, `run` hands over all
  pub run_answers : (a : Dens κs (run.ps T U laws laws')) (s : AtExit (ended_of 4 (run.ps T U laws laws') (run.r T U laws laws')) κs)
      → run-reads.Post T U laws laws' reads d calls e h k κs a (Ok tt) s → (xs : List ℕ) → length xs < 2 ^ 64 - 1 → reads.remaining a.0.now ≡ Some xs
      → Answered (length a.1.0.now) calls a.1.1.0 xs
  run_answers a s p xs below known = let all = rw known at p in all below

  -- so two calls on the same known input hand over the same records and the same short piece, whatever their buffers
  pub run_only : (a b : Dens κs (run.ps T U laws laws')) (s t : AtExit (ended_of 4 (run.ps T U laws laws') (run.r T U laws laws')) κs)
      → run-reads.Post T U laws laws' reads d calls e h k κs a (Ok tt) s → run-reads.Post T U laws laws' reads d calls e h k κs b (Ok tt) t
      → (xs : List ℕ) → length xs < 2 ^ 64 - 1 → reads.remaining a.0.now ≡ Some xs → reads.remaining b.0.now ≡ Some xs
      → (u : Answered (length a.1.0.now) calls a.1.1.0 xs) × (v : Answered (length b.1.0.now) calls b.1.1.0 xs) × SameAnswered u v
  run_only a b s t p q xs below known known' =
      let u = run_answers a s p xs below known in
      let v = run_answers b t q xs below known' in
      (u, v, cut_only u v)
