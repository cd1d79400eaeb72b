use Rattle.std.proofs.Common.{arith}
use Rattle.chained_list.proofs.Neighbours.{in_range, before_member, before_lower, none_before, none_at_base}
use Rattle.chained_list.proofs.tag_range.first_from.Goals as goal

pub offset_bounds-places-at : goal.offset_bounds-places-at
offset_bounds-places-at c = omega (arith, in_range c.args.places.now.members.now c.args.places.now.sound.holds c.loop-at.at c.loop-at.invariant.0)

pub bounds-places-at : goal.bounds-places-at
bounds-places-at c = in_range c.args.places.now.members.now c.args.places.now.sound.holds c.loop-at.at c.loop-at.invariant.0

pub bounds-places-before : goal.bounds-places-before
bounds-places-before c =
    in_range c.args.places.now.members.now c.args.places.now.sound.holds _ (before_member c.args.places.now.members.now c.args.places.now.sound.holds c.loop-at.at c.loop-at.invariant.0 c.loop-at-test.true).0

pub returns-then-tag-start : goal.returns-then-tag-start
returns-then-tag-start c = record {
  member = c.loop-at.invariant.0;
  low = c.loop-at.invariant.1;
  high = c.loop-at.invariant.2;
  none = none_before c.args.places.now.members.now c.args.places.now.sound.holds c.args.start c.loop-at.at c.loop-at.invariant.0 c.loop-at-test.true c.if-tag-start.true;
}

pub loop-at-smaller : goal.loop-at-smaller
loop-at-smaller c = before_lower c.args.places.now.members.now c.args.places.now.sound.holds c.loop-at.at c.loop-at.invariant.0 c.loop-at-test.true

pub loop-at-preserved : goal.loop-at-preserved
loop-at-preserved c =
    let p = before_member c.args.places.now.members.now c.args.places.now.sound.holds c.loop-at.at c.loop-at.invariant.0 c.loop-at-test.true in
    let l = before_lower c.args.places.now.members.now c.args.places.now.sound.holds c.loop-at.at c.loop-at.invariant.0 c.loop-at-test.true in
    (p.0, c.if-tag-start.false, omega (arith, l, c.loop-at.invariant.2))

pub returns : goal.returns
returns c = record {
  member = c.loop-at.invariant.0;
  low = c.loop-at.invariant.1;
  high = c.loop-at.invariant.2;
  none = none_at_base c.args.places.now.members.now c.args.places.now.sound.holds c.args.start c.loop-at.at c.loop-at-test.false;
}
