use Rattle.std.proofs.Common.{vec_items}
use Rattle.text.specs.Lines.{lines_of}
use Rattle.text.proofs.Rendered.{rendering_of}
use Rattle.program.proofs.Kept.{keeps}
use Rattle.program.proofs.Faultless.{faultless, functions_due, text_read}
use Rattle.program.proofs.read.read_program.Goals as goal

pub read_functions-requires : goal.read_functions-requires
read_functions-requires c = functions_due c.args.text.now c.requires _ _ _ _ _ c.of-lines.ensures.left c.next_fields-inputs.ensures c.next_fields.ensures

pub invariant_of-result : goal.invariant_of-result
invariant_of-result c =
    let bs = c.args.text.now in
    let f = faultless bs c.requires in
    let r = text_read bs c.requires _ _ _ _ _ c.of-lines.ensures.left c.next_fields-inputs.ensures c.next_fields.ensures c.entry.result c.entry-2.result (vec_items c.in_ok-run.run') (vec_items c.in_ok-functions.functions) c.entry.ensures c.entry-2.ensures c.in_ok-run.ensures c.in_ok-functions.ensures in
    record { keeps = keeps c.entry.result c.entry-2.result (vec_items c.in_ok-run.run') (vec_items c.in_ok-functions.functions) (lines_of bs) r f.rules (rendering_of bs f.stand).1 }

pub returns : goal.returns
returns c = text_read c.args.text.now c.requires _ _ _ _ _ c.of-lines.ensures.left c.next_fields-inputs.ensures c.next_fields.ensures c.entry.result c.entry-2.result (vec_items c.in_ok-run.run') (vec_items c.in_ok-functions.functions) c.entry.ensures c.entry-2.ensures c.in_ok-run.ensures c.in_ok-functions.ensures
