use Rattle.std.proofs.Common.{sym}
use Rattle.journal.proofs.Cutting.{cut_parts, cut_all}
use Rattle.journal.proofs.cut.cut_line.Goals as goal

pub returns-in_default : goal.returns-in_default
returns-in_default c = cut_all c.args.journal.now c.requires (sym c.in_default.ensures.value)

pub returns : goal.returns
returns c = cut_parts c.in-Some.end c.args.journal.now (sym c.in-Some.ensures.value)
