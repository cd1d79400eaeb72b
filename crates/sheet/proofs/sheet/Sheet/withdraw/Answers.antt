use Rattle.std.proofs.Common.{ap, ◌∙◌}
use Rattle.sheet.specs.declared.pass.OpenPass.{OpenPass}
use Rattle.sheet.proofs.Calling.{withdrawn_call}
use Rattle.sheet.proofs.sheet.Sheet.withdraw.Goals as goal

pub returns : goal.returns
returns g c =
    let h = c.put_inputs_back.ensures in
    record { serves = withdrawn_call c.args.self.now _ c.args.pass.0 c.unsettled.result.0 (c.unsettled.ensures ∙ ap (λ (q : OpenPass). q.0) c.in_ok-pass.ensures.1) c.in_ok-pass.ensures.0 h.inputs h.noted h.stays; back = tt }
