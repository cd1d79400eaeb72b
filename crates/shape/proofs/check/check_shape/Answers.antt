use Rattle.std.proofs.Common.{◌≡◌, Err, sym, ap, ◌∙◌}
use Rattle.std.proofs.lemmas.Result.{err_from_is_err_and}
use Rattle.text.specs.First.{first, answer}
use Rattle.text.specs.Lines.{lines_of, text_fault}
use Rattle.text.specs.Told.{numbered, said}
use Rattle.text.proofs.Cuts.{lines_standing}
use Rattle.text.proofs.Passes.{looked, latest_is, last_is, pass_on, pass_stop, answer_ok, answer_err}
use Rattle.shape.specs.Shapes.{start, after, shape_rules, shape_fault_of, over_lines}
use Rattle.shape.proofs.check.check_shape.Goals as goal

pub loop-line-init : goal.loop-line-init
loop-line-init c =
    let bs = c.args.text.now in
    let o = c.of.ensures in
    let a = answer_ok tt c.in_ok-check_lines.field-0 (text_fault bs) c.in_ok-check_lines.ensures.value in
    let d = c.default-standing.ensures in
    let begins : c.default-standing.result ≡ start = λ i. record { due = d.0 i; functions = d.1.0 i; steps = d.1.1.0 i; registers = d.1.1.1 i } in
    let none = c.peekable-lines.ensures.peeked in
    let behind = c.peekable-lines.ensures.source in record {
      faults = rw (none, behind, begins, o.left, o.passed) (ap (first after shape_rules start 1) (lines_standing bs a.0));
      latest = rw none tt;
    }

pub loop-line-preserved : goal.loop-line-preserved
loop-line-preserved c =
    let s = c.loop-line.standing in
    let x = c.in-Some.line in
    let r = c.loop-line.lines in
    let m = c.next.new.self in
    let v = c.peek.follows.lender-at-none in
    let looks = c.peek.follows.holds-at-none in
    let st = c.in-Some.ensures.steps in
    let h = looked m.peeked m.iter v.iter v.peeked _ st.0 looks.0 looks.2 in
    let e = last_is m.iter c.peek.result v.iter c.is_none.result h c.is_none.ensures in
    let a = answer_ok (after s (said x)) c.in_ok-standing.standing (shape_rules s (numbered x) (said x) c.is_none.result) c.in_ok-standing.ensures in record {
      faults = pass_on after shape_rules s r.peeked r.iter x m.iter c.loop-line.invariant.latest st.1 c.is_none.result e c.in_ok-standing.standing v.peeked _ v.iter h looks.2 a.0 a.1 ∙ c.loop-line.invariant.faults;
      latest = latest_is m.iter _ v.iter v.peeked h looks.2;
    }

pub returns-in_err-standing : goal.returns-in_err-standing
returns-in_err-standing c =
    let bs = c.args.text.now in
    let s = c.loop-line.standing in
    let x = c.in-Some.line in
    let r = c.loop-line.lines in
    let m = c.next.new.self in
    let v = c.peek.follows.lender-at-none in
    let looks = c.peek.follows.holds-at-none in
    let st = c.in-Some.ensures.steps in
    let h = looked m.peeked m.iter v.iter v.peeked _ st.0 looks.0 looks.2 in
    let e = last_is m.iter c.peek.result v.iter c.is_none.result h c.is_none.ensures in
    let y = c.in_err-standing.field-0.0 in
    let q = err_from_is_err_and c.from_residual-in_err-standing.result c.from_residual-in_err-standing.ensures.1 in
    let a = answer_ok tt c.in_ok-check_lines.field-0 (text_fault bs) c.in_ok-check_lines.ensures.value in
    let b = answer_err (after s (said x)) y (shape_rules s (numbered x) (said x) c.is_none.result) c.in_err-standing.ensures in
    q.1 ∙ ap Err q.2 ∙ ap (answer tt) (sym (ap (λ o. over_lines o (shape_fault_of (lines_of bs))) a.0 ∙ sym c.loop-line.invariant.faults ∙ pass_stop after shape_rules s r.peeked r.iter x m.iter c.loop-line.invariant.latest st.1 c.is_none.result e y b))
