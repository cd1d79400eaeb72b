use Rattle.order_list.proofs.Twins.{agreed_then, agree_then}
use Rattle.order_list.proofs.alike.agree.Goals as goal

pub returns-then-before-clause-agreed : goal.returns-then-before-clause-agreed
returns-then-before-clause-agreed g c ns h hx hy =
    agreed_then _ _ ns _ _ c.args.x c.args.y _ h hx hy
    (agree_then _ _ c.args.x c.args.y _ _ _ _ _ _ c.before-2.ensures c.before-3.ensures c.next.ensures c.next-then-before.ensures c.is_some.ensures c.is_some-then-before.ensures c.if-before.true)
