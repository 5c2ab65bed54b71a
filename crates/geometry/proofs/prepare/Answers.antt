-- `geometry::prepare` meets its contract, part by part.
use mathlib.Core.Path.{◌≡◌}
use Rattle.geometry.specs.declared.Ellipse.{Ellipse}
use Rattle.geometry.specs.declared.Body.{Body}
use Rattle.geometry.specs.declared.Station.{Station}
use Rattle.geometry.specs.declared.Orbit.{Orbit}
use Rattle.elements.specs.declared.rounding.Wholes.{Wholes}
use Rattle.geometry.specs.Prepared.{ellipse_of, body_of, station_of, orbit_of}
use Rattle.geometry.proofs.prepare.Goals as goal

parts : (w : Wholes) {l : Ellipse} {b : Body} {s : Station} → l ≡ ellipse_of w → b ≡ body_of w → s ≡ station_of w
    → ◌≡◌ {A = Orbit} (record { ellipse = l; body = b; station = s }) (orbit_of w)
unfolding orbit_of
parts w e f g = cc

pub returns : goal.returns
returns c = parts c.args.w c.ellipse_of.ensures c.body_of.ensures c.station_of.ensures
