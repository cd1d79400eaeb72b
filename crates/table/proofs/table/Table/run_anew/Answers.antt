use Rattle.std.proofs.Common.{rules}
use Rattle.table.specs.Anew.{Cleared}
use Rattle.table.proofs.Mains.{may_run, ran_anew, exceeded}
use Rattle.table.proofs.table.Table.run_anew.Goals as goal

pub run_main-outcome-requires : goal.run_main-outcome-requires
run_main-outcome-requires g c =
    let h = c.clear.ensures.cleared in
    may_run h.holding.standing h.room h.same

pub returns-in-Ok-clause-anew : goal.returns-in-Ok-clause-anew
returns-in-Ok-clause-anew g c =
    let r = c.in-Ok.ensures in
    let h = ran_anew c.clear.ensures.cleared r.ends r.keeps.capacity c.value.ensures in
    search rules

pub returns-in-Err-clause-anew : goal.returns-in-Err-clause-anew
returns-in-Err-clause-anew g c =
    let r = c.in-Err.ensures in
    let h : Cleared g.O.OrderList c.args.limit.value c.run_main-outcome.new.self.table.now c.clear-in-Err.new.self c.clear-in-Err.new.list = let k = c.clear-in-Err.ensures.cleared in search rules in
    exceeded c.clear.ensures.cleared r.ends r.keeps.inputs h
