use Rattle.std.proofs.Common.{◌+◌, ap, ◌∙◌}
use Rattle.text.specs.First.{first}
use Rattle.text.specs.Lines.{lines_of}
use Rattle.text.specs.Reader.{left, passed}
use Rattle.text.proofs.Cuts.{lines_standing}
use Rattle.text.proofs.Passes.{answer_ok}
use Rattle.shape.specs.Shapes.{shape_fault}
use Rattle.kinds.specs.Kinds.{heads_of, known_after, kind_rules, unknown}
use Rattle.kinds.proofs.Over.{shaped}
use Rattle.kinds.proofs.check.check_rules.Goals as goal

pub loop-line-init : goal.loop-line-init
loop-line-init c =
    let bs = c.args.text.now in
    let hs = heads_of (lines_of bs) in
    let l = c.into_iter-line-iterator.result in
    let e = (shaped bs (answer_ok tt c.in_ok-check_shape.field-0 (shape_fault bs) c.in_ok-check_shape.ensures).0).0 in (
      c.of-scope.ensures.heads ∙ c.in_ok-heads.ensures,
      ap (λ k. first (known_after hs) (kind_rules hs) k (passed l + 1) (left l)) c.of-scope.ensures.known ∙ ap (λ n. first (known_after hs) (kind_rules hs) unknown (n + 1) (left l)) (ap passed c.into_iter-line-iterator.ensures.into_iter_gives ∙ c.of-line-items.ensures.passed) ∙ ap (first (known_after hs) (kind_rules hs) unknown 1) (ap left c.into_iter-line-iterator.ensures.into_iter_gives ∙ c.of-line-items.ensures.left ∙ lines_standing bs e),
    )
