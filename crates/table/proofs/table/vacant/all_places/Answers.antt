use Rattle.std.proofs.Common.{rules}
use Rattle.table.proofs.table.vacant.all_places.Goals as goal

pub returns : goal.returns
returns c = λ i l. let h = (c.from_fn.ensures.items.at i 0 l).2 in search rules
