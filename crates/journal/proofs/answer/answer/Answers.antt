use Rattle.std.proofs.Common.{[], vec_items, sym, subst}
use Rattle.std.proofs.lemmas.Bool.{eqb-true}
use Rattle.std.proofs.lemmas.List.{append-nil, nil_from_length}
use Rattle.journal.specs.Answers.{Answered, ends}
use Rattle.journal.proofs.answer.answer.Goals as goal

pub returns : goal.returns
returns c =
    let e = nil_from_length c.loop-rest.rest.now (eqb-true _ _ (sym c.loop-rest-test.ensures)) in
    let a : Answered c.loop-rest.rest.now [] = subst (λ xs. Answered xs []) (sym e) ends in
    subst (Answered c.args.journal.now) (append-nil (vec_items c.loop-rest.out)) (c.loop-rest.invariant [] a)
