-- `elements::rounded` meets its contract: each field is small enough for its conversion.
use Rattle.elements.proofs.Range.{axis_range, eccentricity_range, inclination_range, turn_range, period_range, radius_range, latitude_range, elevation_range}
use Rattle.elements.proofs.rounding.rounded.Goals as goal

pub metres-requires : goal.metres-requires
metres-requires c = (axis_range c.args.e.axis c.requires.axis_in_lem).up_to

pub eccentricity-requires : goal.eccentricity-requires
eccentricity-requires c = (eccentricity_range c.args.e.eccentricity c.requires.eccentricity_in_lem).up_to

pub from_degrees-requires : goal.from_degrees-requires
from_degrees-requires c = (inclination_range c.args.e.inclination c.requires.inclination_in_lem).up_to

pub from_degrees-requires-2 : goal.from_degrees-requires-2
from_degrees-requires-2 c = (turn_range c.args.e.node c.requires.node_in).up_to

pub from_degrees-requires-3 : goal.from_degrees-requires-3
from_degrees-requires-3 c = (turn_range c.args.e.periapsis c.requires.periapsis_in).up_to

pub milliseconds-requires : goal.milliseconds-requires
milliseconds-requires c = (period_range c.args.e.period c.requires.period_in_lem).up_to

pub metres-requires-2 : goal.metres-requires-2
metres-requires-2 c = (radius_range c.args.e.radius c.requires.radius_in_lem).up_to

pub from_degrees-requires-4 : goal.from_degrees-requires-4
from_degrees-requires-4 c = (turn_range c.args.e.ascension c.requires.ascension_in).up_to

pub from_degrees-requires-5 : goal.from_degrees-requires-5
from_degrees-requires-5 c = (latitude_range c.args.e.declination c.requires.declination_in).up_to

pub from_degrees-requires-6 : goal.from_degrees-requires-6
from_degrees-requires-6 c = (latitude_range c.args.e.latitude c.requires.latitude_in_lem).up_to

pub from_degrees-requires-7 : goal.from_degrees-requires-7
from_degrees-requires-7 c = (turn_range c.args.e.longitude c.requires.longitude_in).up_to

pub from_degrees-requires-8 : goal.from_degrees-requires-8
from_degrees-requires-8 c = (turn_range c.args.e.greenwich c.requires.greenwich_in).up_to

pub from_degrees-requires-9 : goal.from_degrees-requires-9
from_degrees-requires-9 c = (elevation_range c.args.e.elevation c.requires.elevation_in_lem).up_to
