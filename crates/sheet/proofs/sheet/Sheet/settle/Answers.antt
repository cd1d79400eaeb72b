use Rattle.std.proofs.Common.{ap, ◌∙◌}
use Rattle.sheet.specs.declared.pass.OpenPass.{OpenPass}
use Rattle.sheet.proofs.Settling.{settled_call, too_large_call, settles_plainly}
use Rattle.sheet.proofs.sheet.Sheet.settle.Goals as goal

pub returns-in-Ok : goal.returns-in-Ok
returns-in-Ok g c =
    record { settles = settles_plainly (settled_call c.args.self.now _ _ c.args.pass.0 c.settled.result.0 (c.settled.ensures ∙ ap (λ (q : OpenPass). q.0) c.in_ok-pass.ensures.1) c.in_ok-pass.ensures.0 c.in-Ok.ensures.anew); back = tt }

pub returns-in-Err : goal.returns-in-Err
returns-in-Err g c =
    record { settles = settles_plainly (too_large_call c.args.self.now _ _ c.args.pass.0 c.unsettled-in-Err.result.0 (c.unsettled-in-Err.ensures ∙ ap (λ (q : OpenPass). q.0) c.in_ok-pass.ensures.1) c.in_ok-pass.ensures.0 c.in-Err.ensures.anew); back = tt }
