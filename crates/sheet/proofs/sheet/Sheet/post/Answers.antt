use Rattle.std.proofs.Common.{sym, ap, ◌∙◌}
use Rattle.sheet.specs.declared.pass.OpenPass.{OpenPass}
use Rattle.sheet.specs.Shows.{made_of}
use Rattle.sheet.proofs.Calling.{posted_call, unfit_same}
use Rattle.sheet.proofs.sheet.Sheet.post.Goals as goal

pub returns : goal.returns
returns g c =
    let h = c.post.ensures in
    record { serves = posted_call c.args.self.now _ c.args.pass.0 c.in_ok-pass.pass.0 c.args.input c.args.content (ap (λ (q : OpenPass). q.0) c.in_ok-pass.ensures.1) c.in_ok-pass.ensures.0 (unfit_same (made_of c.args.self.now) c.args.input c.args.content ∙ sym c.in_default.ensures) h.posted h.noted h.stays; back = tt }
