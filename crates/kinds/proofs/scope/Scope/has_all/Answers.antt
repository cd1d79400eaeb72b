use Rattle.std.proofs.Common.{◌≡◌, length, inl, ap, ◌∙◌, arith, rules, tests}
use Rattle.std.proofs.lemmas.Iterator.Consumers.{YieldsList-from_first, YieldsList-from_enumerate}
use Rattle.std.proofs.lemmas.Iterator.Search.{all_from_yields_List}
use Rattle.text.proofs.Numbers.{count_is}
use Rattle.text.specs.Numbers.{whole_of}
use Rattle.text.specs.Values.{values, numbers_left}
use Rattle.kinds.specs.Named.{names, there}
use Rattle.kinds.proofs.Agrees.{there_over}
use Rattle.kinds.proofs.scope.Scope.has_all.Goals as goal

pub returns : goal.returns
returns c =
    let k = c.args.self.now in
    let zs = values c.args.fields in
    all_from_yields_List (λ p. there k.kinds.len k.heads.len (names c.args.word p.0) (whole_of p.1)) c.all.new.self _ _ c.all.ensures.ran (YieldsList-from_enumerate (YieldsList-from_first (λ x. x) numbers_left zs (cc)) (cc)) (λ x b q h. search (rules, tests)) ∙ there_over _ _ c.args.word 0 zs

pub all-requires-clause-can : goal.all-requires-clause-can
all-requires-clause-can c =
    let n : length (numbers_left c.enumerate.result.iter) ≡ length (values c.args.fields) = ap length (ap numbers_left c.enumerate.ensures.source ∙ c.numbers.ensures) in
    (tt, tt, inl (omega (arith, n, count_is c.args.fields.columns.now, c.enumerate.ensures.count, c.ranges.fields)))
