use Rattle.table.proofs.Steps.{begun}
use Rattle.table.proofs.table.run.Run.begin.Goals as goal

pub returns-clause-begins : goal.returns-clause-begins
returns-clause-begins g c =
    let s = c.stamp-start.ensures in
    begun c.args.entry c.requires c.in_ok-place.ensures s.moved s.below c.enter.ensures.puts c.enter.ensures.enters c.own.ensures
