use Rattle.std.proofs.Common.{◌≡◌, ◌≤◌, true}
use Rattle.order_list.specs.Order.{has}
use Rattle.chained_list.specs.Chain.{order, tag_of}
use Rattle.chained_list.proofs.tag_range.first_from.Given as goal

abbrev pub invariant-loop-at : goal.invariant-loop-at
invariant-loop-at l = (has (order l.places.members.now) l.at ≡ true) × (l.start ≤ tag_of l.places.members.now l.at) × (tag_of l.places.members.now l.at ≤ tag_of l.places.members.now l.m)

abbrev pub decreases-loop-at : goal.decreases-loop-at
decreases-loop-at l = tag_of l.places.members.now l.at
