use Rattle.std.proofs.Common.{arith}
use Rattle.chained_list.proofs.Neighbours.{in_range}
use Rattle.chained_list.proofs.TagInsert.{enough, spread_made, sound_made, behind_over}
use Rattle.chained_list.proofs.tag_range.make_room.Goals as goal

pub offset_bounds-places-m : goal.offset_bounds-places-m
offset_bounds-places-m c = let s = c.args.places.now.sound in omega (arith, s.few, in_range c.args.places.now.members.now s.holds c.args.m c.requires)

pub bounds-places-m : goal.bounds-places-m
bounds-places-m c = in_range c.args.places.now.members.now c.args.places.now.sound.holds c.args.m c.requires

pub overflow_sub-tag_behind : goal.overflow_sub-tag_behind
overflow_sub-tag_behind c = omega (arith, c.tag_behind.ensures, (behind_over c.args.places.now.members.now c.args.m c.args.places.now.sound.holds c.requires).0)

pub invariant_of-places-clause-sound : goal.invariant_of-places-clause-sound
invariant_of-places-clause-sound c =
    let s = c.args.places.now.sound in
    let made = spread_made c.args.places.now.members.now c.spread_out.new.members c.args.m _ _ _ _ s.holds c.requires c.loose_block-block.ensures c.spread_out.ensures
    (omega (arith, c.tag_behind.ensures, c.if-tag_behind-tag-lt2.true)) in
    sound_made _ _ _ _ s made

pub returns-then-tag_behind-tag-lt2-clause-made : goal.returns-then-tag_behind-tag-lt2-clause-made
returns-then-tag_behind-tag-lt2-clause-made c =
    spread_made c.args.places.now.members.now c.spread_out.new.members c.args.m _ _ _ _ c.args.places.now.sound.holds c.requires c.loose_block-block.ensures c.spread_out.ensures
    (omega (arith, c.tag_behind.ensures, c.if-tag_behind-tag-lt2.true))

pub returns-else-tag_behind-tag-lt2-clause-made : goal.returns-else-tag_behind-tag-lt2-clause-made
returns-else-tag_behind-tag-lt2-clause-made c =
    enough c.args.places.now.members.now c.args.m c.args.places.now.sound.holds c.requires (omega (arith, c.tag_behind.ensures, c.if-tag_behind-tag-lt2.false))
