use Rattle.text.proofs.Numbers.{count_is}
use Rattle.text.proofs.fields.Fields.count.Goals as goal

pub returns : goal.returns
returns c = count_is c.args.self.columns.now
