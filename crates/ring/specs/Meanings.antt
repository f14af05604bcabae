-- What a ring means.
use Rattle.std.specs.Prelude.{Some, None, Option}
use Rattle.machine.specs.Model.{Model, empty}
use Rattle.ring.specs.Rings.{turning}
use Rattle.ring.specs.declared.dome.Dome.{Dome}
use Rattle.ring.specs.declared.Ring.{Ring}

-- where no numbers are in range there are no states and no names
abbrev pub dome_model : Option Dome → Model
dome_model (Some d) = turning d.sectors d.turn d.aim
dome_model None = empty

abbrev pub meaning_of : Ring → Model
meaning_of r = dome_model r.dome
