use Rattle.std.proofs.Common.{refl}
use Rattle.program.specs.View.{viewed}
use Rattle.table.proofs.Goes.{ends_over}
use Rattle.table.proofs.Mains.{main_makes, ran_main}
use Rattle.table.proofs.table.run.Run.run_main.Goals as goal

pub returns-in_err-made-clause-ends : goal.returns-in_err-made-clause-ends
returns-in_err-made-clause-ends g c =
    ends_over _ _ _ _ _ c.from_residual.result c.from_residual.ensures.0 (c.in_err-made.ensures.makes.exceeds _ _ (main_makes (viewed c.args.self.now.program.now) c.of_run-args.result c.of_run-args.ensures))

pub returns-clause-ends : goal.returns-clause-ends
returns-clause-ends g c =
    let m = c.in_ok-made.ensures.makes in
    ran_main c.of_run-args.ensures m.begun refl m.ran m.ended c.requires.member (g.met.O.OrderList.lawful _).apart
