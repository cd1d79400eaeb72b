use Rattle.std.proofs.Common.{rules}
use Rattle.std.proofs.lemmas.Iterator.{YieldsList-from_map, items_from_collect}
use Rattle.std.proofs.lemmas.Iterator.Consumers.{YieldsList-from_first}
use Rattle.text.specs.Numbers.{kind_of}
use Rattle.text.specs.Values.{values, numbers_left}
use Rattle.kinds.specs.Kinds.{or_number}
use Rattle.kinds.proofs.registers.kinds_of.Goals as goal

pub returns : goal.returns
returns c = items_from_collect _ c.collect.ensures.ran (YieldsList-from_map _ (λ z. or_number (kind_of z)) (YieldsList-from_first (λ x. x) numbers_left (values c.args.fields) (cc)) c.map.ensures.closure (λ x r q h. search rules))
