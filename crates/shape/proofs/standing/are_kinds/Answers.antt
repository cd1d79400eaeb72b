use Rattle.std.proofs.Common.{is_some, rules}
use Rattle.std.proofs.lemmas.Iterator.Consumers.{YieldsList-from_first}
use Rattle.std.proofs.lemmas.Iterator.Search.{all_from_yields_List}
use Rattle.text.specs.Numbers.{kind_of}
use Rattle.text.specs.Values.{values, numbers_left}
use Rattle.text.proofs.Numbers.{named_is}
use Rattle.shape.proofs.standing.are_kinds.Goals as goal

pub returns : goal.returns
returns c = all_from_yields_List (λ z. is_some (kind_of z)) c.all.new.self _ c.all.result c.all.ensures.ran (YieldsList-from_first (λ x. x) numbers_left (values c.args.fields) c.numbers.ensures) (λ x b q k. search (rules, named_is))
