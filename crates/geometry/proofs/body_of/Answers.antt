-- `geometry::body_of` meets its contract, field by field: the rows' entries are within two, and E's within one.
use mathlib.Core.Path.{◌≡◌, ◌∙◌}
use mathlib.Core.List.{List}
use Prim.Native.Nat.{ℕ, ◌*◌, ◌<◌}
use lib.Dec.{lit≤, lit<}
use lib.IntN.{ℤ}
use Rattle.fixed.specs.Scaled.{one, dot_of}
use Rattle.fixed.specs.Within.{Entries}
use Rattle.fixed.proofs.Within.{wider-entries}
use Rattle.fixed.proofs.Machine.{got}
use Rattle.rotation.specs.Rotation.{row_of}
use Rattle.rotation.proofs.Rows.{row-entries}
use Rattle.elements.specs.declared.rounding.Wholes.{Wholes}
use Rattle.geometry.specs.declared.Body.{Body}
use Rattle.geometry.specs.Prepared.{rotation_for, toward_of, body_of}
use Rattle.geometry.proofs.Bounds.{row_within, toward-entries}
use Rattle.geometry.proofs.body_of.Goals as goal

-- the sum over row k of the rotation that was made, and over the direction that was
dots : {m n : List (List ℤ)} {d e : List ℤ} (k : ℕ) → m ≡ n → d ≡ e → dot_of (row_of m k) d ≡ dot_of (row_of n k) e
dots k f g = cc

fields : {p q v w : ℤ} {d e : List ℤ} → p ≡ v → q ≡ w → d ≡ e
    → ◌≡◌ {A = Body} (record { p = p; q = q; toward = d })
    (record { p = v; q = w; toward = e })
fields f g h = cc

-- such a row and the direction are small enough to be multiplied
small : (w : Wholes) (k : ℕ) {m : List (List ℤ)} {e : List ℤ} → k < 2 → m ≡ rotation_for w → e ≡ toward_of w → Entries (row_of m k) (2 * one) × Entries e (2 * one)
small w k h f g = (rw f (row-entries (row_within w k h)), rw g (wider-entries (toward-entries w) (lit≤ tt)))

pub dot-requires : goal.dot-requires
dot-requires c = small _ _ (lit< tt) c.rotation_of-m.ensures c.toward-e.ensures

pub dot-requires-2 : goal.dot-requires-2
dot-requires-2 c = small _ _ (lit< tt) c.rotation_of-m.ensures c.toward-e.ensures

pub returns : goal.returns
unfolding body_of
returns c =
    let m = c.rotation_of-m.ensures in
    fields
    (got c.dot.result c.dot.type_inv ∙ c.dot.ensures ∙ dots 0 m c.toward-e.ensures)
    (got c.dot-2.result c.dot-2.type_inv ∙ c.dot-2.ensures ∙ dots 1 m c.toward-e.ensures)
    c.toward-e.ensures
