use Rattle.std.proofs.Common.{◌≡◌, map, take}
use Rattle.code.specs.Args.{given}
use Rattle.code.specs.Values.{listed}
use Rattle.code.proofs.args.Args.of_run.Given as goal

abbrev pub invariant-loop-k : goal.invariant-loop-k
invariant-loop-k l = listed l.args ≡ map given (take l.k-index l.k-items)
