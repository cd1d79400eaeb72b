use Rattle.std.proofs.Common.{arith}
use Rattle.std.proofs.lemmas.Grind.{common_steps}
use Rattle.code.proofs.Sounds.{run_few, run_below}
use Rattle.code.proofs.args.Args.of_run.Goals as goal

pub input-requires : goal.input-requires
input-requires c = grind (arith, common_steps, run_below c.args.program.now c.loop-k.k-index, c.deref-k-items.ensures.value)

pub push-requires : goal.push-requires
push-requires c = grind (arith, common_steps, run_few c.args.program.now, c.deref-k-items.ensures.value)
