use Rattle.std.proofs.Common.{◌≡◌, ℕ, ◌<◌, true}
use Rattle.order_list.specs.Order.{has}
use Rattle.chained_list.specs.Chain.{order, tag_of, tags, Retagged}
use Rattle.chained_list.proofs.Spreads.{partly, AtBlock}
use Rattle.chained_list.proofs.tag_range.spread_out.Given as goal

abbrev pub invariant-loop-j : goal.invariant-loop-j
invariant-loop-j l =
    Retagged l.initial.members l.members ×
    (l.j < l.block.count → AtBlock l.initial.members l.block.start l.block.width l.j l.at) ×
    ((k : ℕ) → has (order l.initial.members) k ≡ true →
    tag_of l.members k ≡ partly l.block.start l.block.width (tags l.initial.members) l.j (tag_of l.initial.members k))
