use Rattle.std.proofs.Common.{get_or, pos, Some, ◌∙◌, rules, tests}
use Rattle.std.proofs.lemmas.Iterator.{YieldsList-from_slice}
use Rattle.std.proofs.lemmas.Iterator.Consumers.{YieldsList-from_enumerate}
use Rattle.std.proofs.lemmas.Iterator.Search.{all_from_yields_List}
use Rattle.text.specs.Numbers.{kind_of}
use Rattle.text.specs.Values.{values}
use Rattle.kinds.specs.Kinds.{same_kind}
use Rattle.kinds.proofs.Agrees.{starts_over}
use Rattle.kinds.proofs.rules.begin_with.Goals as goal

pub returns : goal.returns
returns c =
    let zs = values c.args.params in
    all_from_yields_List (λ p. same_kind (Some p.1) (kind_of (get_or zs p.0 (pos 0)))) _ _ _ c.all.ensures.ran (YieldsList-from_enumerate (YieldsList-from_slice c.args.lead.now (cc)) (cc)) (λ x b q h. search (rules, tests)) ∙ starts_over c.args.lead.now 0 zs
