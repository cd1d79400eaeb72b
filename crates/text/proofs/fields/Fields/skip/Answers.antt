use Rattle.std.proofs.Common.{◌≡◌, ◌*◌, drop, sym, ap, ◌∙◌, arith}
use Rattle.std.proofs.lemmas.List.{drop_all, take_rest}
use Rattle.text.specs.Numbers.{numbers_in}
use Rattle.text.proofs.Numbers.{count_is, numbers_drop}
use Rattle.text.proofs.fields.Fields.skip.Goals as goal

pub returns-in-Some : goal.returns-in-Some
returns-in-Some c =
    let xs = c.args.self.columns.now in
    let a = c.in-Some.ensures.lookup in
    let r = c.ranges.self in
    let s : c.saturating_mul.result ≡ 6 * c.args.k = omega (arith, a.0.0) in
    ap numbers_in (a.0.2 ∙ take_rest xs c.saturating_mul.result) ∙ ap (λ n. numbers_in (drop n xs)) s ∙ numbers_drop c.args.k xs (omega (arith, a.0.0))

pub returns-in-None : goal.returns-in-None
returns-in-None c =
    let xs = c.args.self.columns.now in
    let e = count_is xs in
    c.none.ensures ∙ sym (drop_all c.args.k (numbers_in xs) (omega (arith, c.in-None.ensures.lookup.0)))
