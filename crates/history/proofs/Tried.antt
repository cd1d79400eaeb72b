-- The tried history, computed.
use mathlib.Core.Path.{refl}
use Rattle.history.specs.Tried.{TriedHolds}

pub tried_holds : TriedHolds
tried_holds = record { roomy = refl; narrow = refl; thirteen = refl }
