use Rattle.std.proofs.Common.{◌≡◌, ◌<◌, length, get_or}
use Rattle.chained_list.specs.Chain.{order, Retagged, Ranked}
use Rattle.chained_list.proofs.renumbering.renumber.Given as goal

abbrev pub invariant-loop-rank : goal.invariant-loop-rank
invariant-loop-rank l =
    let xs = order l.initial.places in
    (l.rank < length xs) × (l.at ≡ get_or xs l.rank 0) × Retagged l.initial.places l.places × Ranked l.places xs l.rank
