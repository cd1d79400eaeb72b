use Rattle.std.proofs.Common.{rules}
use Rattle.program.proofs.Sound.{sound}
use Rattle.sheet.proofs.fitting.input_count.Goals as goal

pub overflow_add-result : goal.overflow_add-result
overflow_add-result c = let h = (sound c.args.program.now).inputs_fit in search rules
