use Rattle.std.proofs.Common.{◌≡◌, suc, ◌-◌, ◌<◌, ◌≤◌, true}
use Rattle.order_list.specs.Order.{has}
use Rattle.chained_list.specs.Tags.{among}
use Rattle.chained_list.specs.Chain.{order, tag_of, tags}
use Rattle.chained_list.proofs.tag_range.count_to.Given as goal

abbrev pub invariant-loop-at : goal.invariant-loop-at
invariant-loop-at l =
    (has (order l.places.members.now) l.at ≡ true) × (tag_of l.places.members.now l.first ≤ tag_of l.places.members.now l.at) × (tag_of l.places.members.now l.at < l.end) ×
    (l.count ≡ suc (among (tag_of l.places.members.now l.first) (tag_of l.places.members.now l.at) (tags l.places.members.now)))

abbrev pub decreases-loop-at : goal.decreases-loop-at
decreases-loop-at l = 4294967296 - tag_of l.places.members.now l.at
