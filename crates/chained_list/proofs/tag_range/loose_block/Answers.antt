use Rattle.std.proofs.Common.{◌≤◌, add-one, arith}
use Rattle.chained_list.proofs.Neighbours.{in_range}
use Rattle.chained_list.proofs.Levels.{product_le, found, none_more, never, top_le, three_le}
use Rattle.chained_list.proofs.tag_range.loose_block.Goals as goal

pub offset_bounds-places-m : goal.offset_bounds-places-m
offset_bounds-places-m c = omega (arith, c.args.places.now.sound.few, in_range c.args.places.now.members.now c.args.places.now.sound.holds c.args.m c.requires)

pub bounds-places-m : goal.bounds-places-m
bounds-places-m c = in_range c.args.places.now.members.now c.args.places.now.sound.holds c.args.m c.requires

pub count_to-count-requires-clause-top : goal.count_to-count-requires-clause-top
count_to-count-requires-clause-top c =
    let ps = c.args.places.now.members.now in
    let h = c.args.places.now.sound.holds in
    top_le ps h c.args.places.now.sound.few c.args.m _ _ c.pow-width.ensures (omega arith) (h.ranging.below c.args.m c.requires)

pub overflow_mul-count : goal.overflow_mul-count
overflow_mul-count c =
    let s = c.args.places.now.sound in
    let le : c.loop-level.level ≤ 32 = omega arith in
    omega (arith, product_le _ s.holds s.few _ _ _ c.pow-width.ensures _ _ c.first_from-first.ensures c.count_to-count.ensures le)

pub pow-requires : goal.pow-requires
pow-requires c = let le : c.loop-level.level ≤ 32 = omega arith in omega (arith, three_le c.loop-level.level le)

pub returns-then-count-width : goal.returns-then-count-width
returns-then-count-width c =
    let s = c.args.places.now.sound in
    let low : 4 ≤ c.loop-level.level = omega arith in
    let le : c.loop-level.level ≤ 32 = omega arith in
    found _ s.holds s.few _ _ _ c.pow-width.ensures _ _ c.first_from-first.ensures c.count_to-count.ensures c.loop-level.invariant low le (omega (arith, c.if-count-width.true, c.pow.ensures)) (s.holds.ranging.below c.args.m c.requires)

pub loop-level-preserved : goal.loop-level-preserved
loop-level-preserved c =
    let s = c.args.places.now.sound in
    rw add-one (none_more _ s.holds s.few _ _ _ c.pow-width.ensures _ _ c.first_from-first.ensures c.count_to-count.ensures c.loop-level.invariant (omega (arith, c.if-count-width.false, c.pow.ensures)))

pub unreachable-requires : goal.unreachable-requires
unreachable-requires c = let s = c.args.places.now.sound in never _ s.holds s.few _ _ (omega arith) c.loop-level.invariant
