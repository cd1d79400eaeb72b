use Rattle.std.proofs.Common.{arith}
use Rattle.table.proofs.Lists.{not_refused, moved_one}
use Rattle.table.proofs.table.run.stamp.Goals as goal

pub unreachable-requires : goal.unreachable-requires
unreachable-requires g c = not_refused _ _ _ _ c.requires.member c.requires.room c.in-Err.ensures.done.0

pub returns : goal.returns
returns g c =
    let h = c.in-Ok.ensures in
    let l = g.met.O.OrderList.lawful c.args.list.now in
    record {
      moved = moved_one _ _ _ _ l.apart h.done.3;
      below = (let a = h.done.2 in let b = l.few in omega (arith, a, b));
      same = h.same;
    }
