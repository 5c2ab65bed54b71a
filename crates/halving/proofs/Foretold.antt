-- A search that another answer foretells: where two answers tell the same outside the bracket that one of them leads to, both lead there. By the induction that follows the search.
use Prim.Native.Nat.{ℕ, suc, ◌+◌, ◌≤◌, ◌<◌}
use mathlib.Core.Path.{◌≡◌, refl, ◌∙◌}
use mathlib.Core.Bool.{Bool, true, false}
use native.Mathlib.Nat.{le_refl}
use native.Mathlib.Omega.{arith}
use Rattle.halving.specs.declared.Edge.{Edge}
use Rattle.halving.specs.Halving.{halve, middle}
use Rattle.halving.specs.Foretold.{Told}
use Rattle.halving.proofs.Laws.{follow, halve-done, halve-turn}

module _ (f g : ℕ → Bool) where
  -- g's search leads to e, and f's leads there too where both tell the same outside of it
  record Leads (k low high asked : ℕ) (e : Edge) : Type 0 where
    from : low ≤ e.low
    to : e.high ≤ high
    same : Told f g low e.low e.high high → halve f k low high asked ≡ e

  up : {k low high asked : ℕ} {e : Edge} → low + 1 < high → g (middle low high) ≡ true → Leads k (middle low high) high (asked + 1) e → Leads (suc k) low high asked e
  up {k} {low} {high} {asked} {e} far t rest =
      let m = middle low high in
      record {
        from = omega arith;
        to = rest.to;
        same = λ told.
            let answer : f m ≡ true = told.below m (omega arith) rest.from ∙ t in
            halve-turn f k low high asked far ∙ rw answer (rest.same (record { below = λ a l. told.below a (omega arith); above = told.above }));
      }

  down : {k low high asked : ℕ} {e : Edge} → low + 1 < high → g (middle low high) ≡ false → Leads k low (middle low high) (asked + 1) e → Leads (suc k) low high asked e
  down {k} {low} {high} {asked} {e} far t rest =
      let m = middle low high in
      record {
        from = rest.from;
        to = omega arith;
        same = λ told.
            let answer : f m ≡ false = told.above m rest.to (omega arith) ∙ t in
            halve-turn f k low high asked far ∙ rw answer (rest.same (record { below = told.below; above = λ a l h. told.above a l (omega arith) }));
      }

  leads : (k low high asked : ℕ) → Leads k low high asked (halve g k low high asked)
  unfolding halve
  leads =
      follow g Leads
      (λ low high asked. record { from = le_refl low; to = le_refl high; same = λ told. refl })
      (λ k low high asked near. record { from = le_refl low; to = le_refl high; same = λ told. halve-done f k low high asked near })
      (λ k low high asked e far t rest. up far t rest)
      (λ k low high asked e far t rest. down far t rest)

  -- halvings that are told the same outside a bracket reach the same bracket
  pub foretold : (k low high asked : ℕ) → let e = halve g k low high asked in Told f g low e.low e.high high → halve f k low high asked ≡ e
  foretold k low high asked = (leads k low high asked).same
