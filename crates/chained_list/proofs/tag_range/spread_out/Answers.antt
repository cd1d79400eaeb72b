use Rattle.std.proofs.Common.{add-one, arith}
use Rattle.chained_list.proofs.Neighbours.{in_range}
use Rattle.chained_list.proofs.Spreads.{same_more, tags_more, at_more, ends}
use Rattle.chained_list.proofs.tag_range.spread_out.Goals as goal

pub offset_bounds-members-at : goal.offset_bounds-members-at
offset_bounds-members-at c =
    omega (arith, c.requires.few, in_range _ c.requires.holds c.loop-j.at (c.loop-j.invariant.1 c.loop-j-test.true).member)

pub bounds-members-at : goal.bounds-members-at
bounds-members-at c =
    omega (arith, c.loop-j.auto.members, in_range _ c.requires.holds c.loop-j.at (c.loop-j.invariant.1 c.loop-j-test.true).member)

pub loop-j-preserved : goal.loop-j-preserved
loop-j-preserved c =
    let i = c.loop-j.invariant in
    let lt = c.loop-j-test.true in
    rw add-one (
      same_more _ c.requires.holds _ _ _ _ c.requires.ready c.loop-j.members c.loop-j.j c.loop-j.at lt i.0 (i.1 lt) i.2,
      (λ l. at_more _ c.requires.holds _ _ _ _ c.requires.ready c.loop-j.members c.loop-j.j c.loop-j.at lt i.0 (i.1 lt) i.2 l),
      tags_more _ c.requires.holds _ _ _ _ c.requires.ready c.loop-j.members c.loop-j.j c.loop-j.at lt i.0 (i.1 lt) i.2,
    )

pub returns : goal.returns
returns c =
    let i = c.loop-j.invariant in
    ends _ c.requires.holds _ _ _ _ c.requires.ready c.loop-j.members c.loop-j.j (omega arith) i.0 i.2
