use Rattle.std.proofs.Common.{◌<◌, length, refl, ◌∙◌, arith, length-set, rules}
use Rattle.program.specs.declared.value.InputContent.TheVariants.{Empty}
use Rattle.table.proofs.Zeroed.{all_alike, none_zero, one_zero_more, numbers_few}
use Rattle.table.proofs.table.vacant.zeros.Goals as goal

pub loop-k-init : goal.loop-k-init
loop-k-init c = (refl, λ j. all_alike 256 j Empty ∙ none_zero j)

pub offset_bounds-inputs-k : goal.offset_bounds-inputs-k
offset_bounds-inputs-k c = let h = numbers_few c.args.program.now in search rules

pub bounds-inputs-k : goal.bounds-inputs-k
bounds-inputs-k c = let h = numbers_few c.args.program.now in omega arith

pub loop-k-preserved : goal.loop-k-preserved
loop-k-preserved c =
    let long = c.loop-k.invariant.0 in
    let h = numbers_few c.args.program.now in
    let below : c.loop-k.k < length c.loop-k.inputs = omega arith in
    (simp length-set long, one_zero_more c.loop-k.inputs c.loop-k.k below c.loop-k.invariant.1)
