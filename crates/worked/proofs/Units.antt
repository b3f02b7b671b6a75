-- The fresh units from which the computed runs start.
use Rattle.rules.specs.declared.Size.{Size}
use Rattle.rules.specs.declared.Unit.{Unit}
use Rattle.rules.specs.Calls.{fresh}

abbrev pub eight : Unit
eight = fresh Size.Eight

abbrev pub twenty_four : Unit
twenty_four = fresh Size.TwentyFour
