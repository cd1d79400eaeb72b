use Rattle.std.proofs.Common.{sym, ◌∙◌, arith, rules, tests}
use Rattle.std.proofs.lemmas.Bool.{ne_eqb}
use Rattle.std.proofs.lemmas.Iterator.{YieldsList-from_zip}
use Rattle.std.proofs.lemmas.Iterator.Consumers.{YieldsList-from_first}
use Rattle.std.proofs.lemmas.Iterator.Search.{all_from_yields_List}
use Rattle.text.specs.Numbers.{whole_of, kind_of}
use Rattle.text.specs.Values.{values, numbers_left}
use Rattle.kinds.specs.Kinds.{same_kind, kind_in}
use Rattle.kinds.proofs.Agrees.{takes_over, takes_uneven}
use Rattle.kinds.proofs.scope.Scope.takes.Goals as goal

pub returns-then-count : goal.returns-then-count
returns-then-count c =
    let ks = c.args.self.now.kinds.items in
    let zs = values c.args.args in
    let ps = values c.args.params in
    all_from_yields_List (λ p. same_kind (kind_in ks (whole_of p.0)) (kind_of p.1)) c.all.new.self _ _ c.all.ensures.ran (YieldsList-from_zip (YieldsList-from_first (λ x. x) numbers_left zs (cc)) (YieldsList-from_first (λ x. x) numbers_left ps (cc))) (λ x b q h. search (rules, tests)) ∙ takes_over ks zs ps (omega arith)

pub returns-else-count : goal.returns-else-count
returns-else-count c = ne_eqb _ _ c.if-count.false ∙ sym (takes_uneven c.args.self.now.kinds.items (values c.args.args) (values c.args.params) (λ e. omega arith))
