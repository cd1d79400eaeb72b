use Rattle.std.proofs.Common.{vec_items}
use Rattle.program.proofs.Zero.{smallest_is, smallest_keeps}
use Rattle.program.proofs.program.Program.smallest.Goals as goal

pub invariant_of-result : goal.invariant_of-result
invariant_of-result c =
    let run = vec_items c.new.result in
    let fs = vec_items c.in_ok-functions.functions in
    record { keeps = smallest_keeps run fs (smallest_is run fs c.in_ok-writes_zero.field-0 c.new.ensures.items c.in_ok-functions.ensures.items c.in_ok-writes_zero.ensures) }
