use Rattle.std.proofs.Common.{ap, ◌∙◌}
use Rattle.sheet.specs.declared.pass.UnsettledPass.{UnsettledPass}
use Rattle.sheet.proofs.Calling.{opened_call}
use Rattle.sheet.proofs.sheet.Sheet.open.Goals as goal

pub returns : goal.returns
returns g c =
    let h = c.note_inputs.ensures in
    record { serves = opened_call c.args.self.now _ c.args.pass.0 c.opened.result.0 (c.opened.ensures ∙ ap (λ (q : UnsettledPass). q.0) c.in_ok-pass.ensures.1) c.in_ok-pass.ensures.0 h.noted h.inputs h.stays; back = tt }
