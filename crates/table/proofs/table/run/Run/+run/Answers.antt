use Rattle.std.proofs.Common.{sym, refl, ◌∙◌, arith}
use Rattle.program.specs.View.{viewed}
use Rattle.table.proofs.Runs.{ran_write, ran_read, none_made, none_read, over_inside_new, over_inside_read, new_there, read_there}
use Rattle.table.proofs.Steps.{begun_open}
use Rattle.table.proofs.Goes.{ends_over, makes_over, begun_falls, may_end, may_go_on, ended_falls, has_made, ends_new, ran_at, exceeds_at, ends_at}
use Rattle.table.proofs.table.run.Run.+run.Goals as goal

-- ── a NEW is made ──

pub make-returns-in_err-begun-clause-makes : goal.make-returns-in_err-begun-clause-makes
make-returns-in_err-begun-clause-makes g t c =
    let b = c.in_err-begun.ensures in
    makes_over _ _ _ _ c.from_residual.result c.from_residual.ensures.0 (record { exceeds = λ o k e. none_made e b.begins })

pub make-run-requires : goal.make-run-requires
make-run-requires g t c κs within =
    let b = c.in_ok-begun.ensures in
    let h = begun_falls b.begins in
    (omega (arith, c.decreases, h), (within, begun_open c.requires b.begins b.keeps.capacity))

pub make-returns-in_err-wrote-clause-makes : goal.make-returns-in_err-wrote-clause-makes
make-returns-in_err-wrote-clause-makes g t c =
    let b = c.in_ok-begun.ensures in
    let r = c.in_err-wrote.ensures in
    makes_over _ _ _ _ c.from_residual-in_err-wrote.result c.from_residual-in_err-wrote.ensures.0 (record {
      exceeds = λ o k e. over_inside_new {k = k} e b.begins (c.enter-inside.ensures.code (viewed c.args.self.now.program.now)) (exceeds_at b.keeps.program c.enter-inside.result r.ends);
    })

pub make-finish-end-requires : goal.make-finish-end-requires
make-finish-end-requires g t c =
    let b = c.in_ok-begun.ensures in
    let r = c.in_ok-wrote.ensures in
    may_end c.requires b.begins new_there r.ends (r.keeps.capacity ∙ b.keeps.capacity)

pub make-returns-clause-makes : goal.make-returns-clause-makes
make-returns-clause-makes g t c =
    let b = c.in_ok-begun.ensures in
    let r = c.in_ok-wrote.ensures in
    has_made b.begins (c.enter-inside.ensures.code (viewed c.args.self.now.program.now)) (ran_at b.keeps.program c.enter-inside.result r.ends) c.finish-end.ensures.ended

-- ── code writes ──

pub run-returns-in-Writes-clause-ends : goal.run-returns-in-Writes-clause-ends
run-returns-in-Writes-clause-ends g t c = ran_write (sym c.in-Writes.ensures) c.requires.ready

-- ── it makes ──

pub run-returns-in_err-made-in-Makes-clause-ends : goal.run-returns-in_err-made-in-Makes-clause-ends
run-returns-in_err-made-in-Makes-clause-ends g t c =
    ends_over _ _ _ _ _ c.from_residual.result c.from_residual.ensures.0 (c.in_err-made-in-Makes.ensures.makes.exceeds _ _ (sym c.in-Makes.ensures))

pub run-run-requires : goal.run-run-requires
run-run-requires g t c κs within =
    let m = c.in_ok-made-in-Makes.ensures.makes in
    let h = ended_falls m.begun m.ran m.ended in
    (omega (arith, c.decreases, h), (within, may_go_on c.requires m.begun m.ran m.ended c.in_ok-made-in-Makes.ensures.keeps.capacity))

pub run-returns-in_ok-made-in-Makes-clause-ends : goal.run-returns-in_ok-made-in-Makes-clause-ends
run-returns-in_ok-made-in-Makes-clause-ends g t c =
    let m = c.in_ok-made-in-Makes.ensures.makes in
    let k = c.in_ok-made-in-Makes.ensures.keeps in
    ends_new _ _ _ _ _ _ (sym c.in-Makes.ensures) m.begun refl m.ran m.ended (c.resume-resumed.ensures (viewed c.args.self.now.program.now)) c.requires.member (g.met.O.OrderList.lawful _).apart c.run.result
    (ends_at k.program c.resume-resumed.result c.args.destination c.make.new.self.table.now c.run.new.self.table.now (g.O.OrderList.order c.make.new.self.list.now) (g.O.OrderList.order c.run.new.self.list.now) c.in_ok-made-in-Makes.made.stamp c.run.result c.run.ensures.ends)

-- ── it reads ──

pub run-returns-in_err-begun-in-Reads-clause-ends : goal.run-returns-in_err-begun-in-Reads-clause-ends
run-returns-in_err-begun-in-Reads-clause-ends g t c =
    ends_over _ _ _ _ _ c.from_residual-in_err-begun-in-Reads.result c.from_residual-in_err-begun-in-Reads.ensures.0 (none_read (sym c.in-Reads.ensures) c.in_err-begun-in-Reads.ensures.begins)

pub run-run-requires-in-Reads : goal.run-run-requires-in-Reads
run-run-requires-in-Reads g t c κs within =
    let b = c.in_ok-begun-in-Reads.ensures in
    let h = begun_falls b.begins in
    (omega (arith, c.decreases, h), (within, begun_open c.requires b.begins b.keeps.capacity))

pub run-returns-in_err-wrote-in-Reads-clause-ends : goal.run-returns-in_err-wrote-in-Reads-clause-ends
run-returns-in_err-wrote-in-Reads-clause-ends g t c =
    let b = c.in_ok-begun-in-Reads.ensures in
    let r = c.in_err-wrote-in-Reads.ensures in
    ends_over _ _ _ _ _ c.from_residual-in_err-wrote-in-Reads.result c.from_residual-in_err-wrote-in-Reads.ensures.0
    (over_inside_read (sym c.in-Reads.ensures) c.content-taken.ensures b.begins (c.enter-entered.ensures.code (viewed c.args.self.now.program.now)) (exceeds_at b.keeps.program c.enter-entered.result r.ends))

pub run-finish-end-requires : goal.run-finish-end-requires
run-finish-end-requires g t c =
    let b = c.in_ok-begun-in-Reads.ensures in
    let r = c.in_ok-wrote-in-Reads.ensures in
    may_end c.requires b.begins read_there r.ends (r.keeps.capacity ∙ b.keeps.capacity)

pub run-returns-in_ok-wrote-in-Reads-clause-ends : goal.run-returns-in_ok-wrote-in-Reads-clause-ends
run-returns-in_ok-wrote-in-Reads-clause-ends g t c =
    let b = c.in_ok-begun-in-Reads.ensures in
    let r = c.in_ok-wrote-in-Reads.ensures in
    let z = c.finish-end.ensures in
    ran_read (sym c.in-Reads.ensures) c.content-taken.ensures b.begins (c.enter-entered.ensures.code (viewed c.args.self.now.program.now)) (ran_at b.keeps.program c.enter-entered.result r.ends) z.ended c.requires.member (g.met.O.OrderList.lawful _).apart
