use Rattle.std.proofs.Common.{◌+◌, ◌*◌}
use Rattle.table.proofs.table.run.Run.+run.Given as goal

abbrev pub decreases-run : goal.decreases-run
decreases-run g l = 2 * l.self.now.table.now.room + 1

abbrev pub decreases-make : goal.decreases-make
decreases-make g l = 2 * l.self.now.table.now.room
