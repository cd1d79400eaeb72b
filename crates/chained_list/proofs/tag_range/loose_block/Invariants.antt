use Rattle.chained_list.proofs.Levels.{NoneBelow}
use Rattle.chained_list.proofs.tag_range.loose_block.Given as goal

abbrev pub invariant-loop-level : goal.invariant-loop-level
invariant-loop-level l = NoneBelow l.places.members.now l.m l.level
