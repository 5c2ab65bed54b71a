-- `Sky::behind` meets its contract: what is taken away on one side of a test may be added on the other, where its square fits.
use mathlib.Core.Path.{◌≡◌, refl, sym, ap, ◌∙◌}
use mathlib.Core.Bool.{Bool, true, false, cond, ◌&&◌}
use Prim.Native.Nat.{ℕ, zero, suc, ◌+◌, ◌*◌, ◌-◌, ◌≤◌, ◌^◌}
use native.Mathlib.Nat.{mul-le-mul, add-zero}
use native.Mathlib.Omega.{arith}
use borrow.Author.Tests.{lt-ltb, le-ltb, ltb-true, ltb-false}
use lib.Dec.{T, ltb}
use lib.IntN.{ℤ, pos, negsuc, nat_abs, ◌+ℤ◌, ◌-ℤ◌, ◌*ℤ◌}
use lib.Signed.{lt_z}
use Rattle.fixed.specs.Within.{Within, Is}
use Rattle.fixed.proofs.Machine.{loc, fit, held, back, operand, product, sum, told}
use Rattle.elements.specs.Rounding.{most_axis}
use Rattle.geometry.specs.declared.Orbit.{Orbit}
use Rattle.geometry.specs.declared.Place.{Place}
use Rattle.geometry.specs.Hidden.{behind_of}
use Rattle.geometry.proofs.Sky.behind.Goals as goal

square : (z : ℤ) → z *ℤ z ≡ pos (nat_abs z * nat_abs z)
square (pos n) = refl
square (negsuc n) = refl

-- ---- the test on numbers that are not negative
taken-less : (a k c : ℕ) (t : Bool) → ltb a (suc k) ≡ t → lt_z (cond t (negsuc (suc k - suc a)) (pos (a - suc k))) (pos c) ≡ ltb a (c + suc k)
taken-less a k c true e = let h = ltb-true a (suc k) e in sym (lt-ltb a (c + suc k) (omega arith))
taken-less a k c false e = let h = ltb-false a (suc k) e in less (ltb (a - suc k) c) refl h
  where
    less : (t : Bool) → ltb (a - suc k) c ≡ t → suc k ≤ a → ltb (a - suc k) c ≡ ltb a (c + suc k)
    less true f h = f ∙ sym (lt-ltb a (c + suc k) (let g = ltb-true (a - suc k) c f in omega arith))
    less false f h = f ∙ sym (le-ltb a (c + suc k) (let g = ltb-false (a - suc k) c f in omega arith))

-- what is taken away on the left may be added on the right
across : (a b c : ℕ) → lt_z (pos a -ℤ pos b) (pos c) ≡ ltb a (c + b)
across a zero c = rw (add-zero a, add-zero c)
across a (suc k) c = taken-less a k c (ltb a (suc k)) refl

moved : (x y d : ℤ) (r : ℕ) → ltb (nat_abs x * nat_abs x + nat_abs y * nat_abs y) (r + nat_abs d * nat_abs d) ≡ lt_z (x *ℤ x +ℤ y *ℤ y -ℤ d *ℤ d) (pos r)
moved x y d r = rw (square x, square y, square d) (sym (across (nat_abs x * nat_abs x + nat_abs y * nat_abs y) (nat_abs d * nat_abs d) r))

-- the answer on either side of the planet
dark-side : (o : Orbit) (a : Place) (d : ℤ) → lt_z d (pos 0) ≡ true
    → ltb (nat_abs a.x * nat_abs a.x + nat_abs a.y * nat_abs a.y) (o.ellipse.radius2 + nat_abs d * nat_abs d) ≡ behind_of o a d
unfolding behind_of
dark-side o a d e =
    moved a.x a.y d o.ellipse.radius2
    ∙ ap (λ (b : Bool). b && lt_z (a.x *ℤ a.x +ℤ a.y *ℤ a.y -ℤ d *ℤ d) (pos o.ellipse.radius2)) (sym e)

lit-side : (o : Orbit) (a : Place) (d : ℤ) → lt_z d (pos 0) ≡ false → false ≡ behind_of o a d
unfolding behind_of
lit-side o a d e = ap (λ (b : Bool). b && lt_z (a.x *ℤ a.x +ℤ a.y *ℤ a.y -ℤ d *ℤ d) (pos o.ellipse.radius2)) (sym e)

test : {s m s' m' : ℕ} (r : ℕ) → s ≡ s' → m ≡ m' → ltb s (r + m * m) ≡ ltb s' (r + m' * m')
test r e f = cc

-- ---- what the machine holds
squared : {z : ℤ} {n : ℕ} → Within z n → T (ltb n (2 ^ 63)) → Is (loc z *ℤ loc z) (z *ℤ z) (n * n)
squared h t = product (operand h t) (operand h t)

module _ {x y : ℤ} (hx : Within x (2 * most_axis)) (hy : Within y most_axis) where
  plane : Is (loc (loc x *ℤ loc x) +ℤ loc (loc y *ℤ loc y)) (x *ℤ x +ℤ y *ℤ y) (2 * most_axis * (2 * most_axis) + most_axis * most_axis)
  plane = sum (held (squared hx tt) tt) (held (squared hy tt) tt)

  plane-is : loc (loc (loc x *ℤ loc x) +ℤ loc (loc y *ℤ loc y)) ≡ pos (nat_abs x * nat_abs x + nat_abs y * nat_abs y)
  plane-is = (held plane tt).is ∙ rw (square x, square y)

pub overflow_add-square : goal.overflow_add-square
overflow_add-square c = fit (plane c.requires.0.x c.requires.0.y) tt

pub overflow_cast-square : goal.overflow_cast-square
overflow_cast-square c =
    let x = c.requires.0.x in
    let y = c.requires.0.y in
    rw (plane-is x y) (tt, record { fits = omega (arith, mul-le-mul x.within x.within, mul-le-mul y.within y.within) })

pub returns-then-d-lt0 : goal.returns-then-d-lt0
returns-then-d-lt0 c =
    let o = c.self.inside.orbit in
    let below : lt_z c.args.d (pos 0) ≡ true = told (pos 0) c.ranges.d c.if-d-lt0.true in
    rw (← c.self.view_is)
    (test o.ellipse.radius2 (ap nat_abs (plane-is c.requires.0.x c.requires.0.y)) (c.unsigned_abs-deep.ensures.value ∙ ap nat_abs (back c.requires.1 tt)) ∙ dark-side o c.args.a c.args.d below)

pub returns-else-d-lt0 : goal.returns-else-d-lt0
returns-else-d-lt0 c = lit-side c.args.self.now c.args.a c.args.d (told (pos 0) c.ranges.d c.if-d-lt0.false)
