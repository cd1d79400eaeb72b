use Rattle.std.proofs.Common.{◌≡◌, ◌+◌, ◌-◌, take, sym, ap, ◌∙◌, subst, arith}
use Rattle.std.proofs.lemmas.Result.{err_from_is_err_and}
use Rattle.std.proofs.lemmas.List.{take_rest}
use Rattle.text.specs.Lines.{line_of}
use Rattle.text.specs.Reader.{Reads}
use Rattle.text.proofs.Cuts.{reads, falls, unended}
use Rattle.text.proofs.cut.first_line.Goals as goal

pub returns-in_default : goal.returns-in_default
returns-in_default c = unended c.args.number c.args.text.now c.requires (sym c.in_default.ensures.value)

pub returns-in_err-line : goal.returns-in_err-line
returns-in_err-line c =
    let q = err_from_is_err_and c.from_residual.result c.from_residual.ensures.1 in
    let cut : c.in-Some.end ≡ c.in-Some.end - 0 = omega arith in
    let xs = c.args.text.now in
    rw (q.1, q.2) (falls c.args.number c.in-Some.end xs _ (sym c.in-Some.ensures.value) (ap (λ k. line_of c.args.number (take k xs)) cut ∙ sym c.in_err-line.ensures))

pub returns : goal.returns
returns c =
    let xs = c.args.text.now in
    let cut : c.in-Some.end ≡ c.in-Some.end - 0 = omega arith in
    subst (Reads c.args.number xs _) (sym (take_rest xs (c.in-Some.end + 1))) (reads c.args.number c.in-Some.end xs _ (sym c.in-Some.ensures.value) (ap (λ k. line_of c.args.number (take k xs)) cut ∙ sym c.in_ok-line.ensures))
