use Rattle.std.proofs.Common.{◌++◌, vec_items, string_bytes, ap, ◌∙◌}
use Rattle.journal.proofs.Calls.{passed, checked, unknown}
use Rattle.journal.proofs.answer.answer_call.Goals as goal

pub returns-in-Passed : goal.returns-in-Passed
returns-in-Passed c = passed _ _ _ (vec_items c.args.out.now) c.cut_line.ensures c.in-Passed.ensures

pub returns-in_ok-extend_from_slice-in-Text : goal.returns-in_ok-extend_from_slice-in-Text
returns-in_ok-extend_from_slice-in-Text c =
    let before = vec_items c.args.out.now in
    let t = c.cut_text.ensures in
    checked _ _ _ before c.cut_line.ensures _ _ (string_bytes c.in_ok-said-in-Text.said) _ c.in-Text.ensures t.text t.behind t.shorter c.in_ok-said-in-Text.ensures (c.in_ok-extend_from_slice-in-Text.ensures.items ∙ ap (λ xs. before ++ xs) c.as_bytes.ensures.value)

pub returns-in_ok-extend_from_slice-in-Unknown-2 : goal.returns-in_ok-extend_from_slice-in-Unknown-2
returns-in_ok-extend_from_slice-in-Unknown-2 c =
    unknown _ _ _ (vec_items c.args.out.now) c.cut_line.ensures _ _ c.in-Unknown.ensures c.in_ok-extend_from_slice-in-Unknown.ensures.items c.in_ok-extend_from_slice-in-Unknown-2.ensures.items
