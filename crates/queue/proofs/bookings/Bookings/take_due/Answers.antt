use Rattle.std.proofs.Common.{arith, rules}
use Rattle.queue.proofs.Booked.{due_answer}
use Rattle.queue.proofs.bookings.Bookings.take_due.Goals as goal

pub invariant_of-self : goal.invariant_of-self
invariant_of-self c =
    let t = due_answer c.args.self.now (omega arith) c.args.day c.take.new.heap c.take.result _ c.take.ensures c.in_ok-first.ensures (λ x b k. search rules) in
    record { sized = t.sized; heaped = t.heaped; once = t.once }

pub returns : goal.returns
returns c =
    let t = due_answer c.args.self.now (omega arith) c.args.day c.take.new.heap c.take.result _ c.take.ensures c.in_ok-first.ensures (λ x b k. search rules) in
    record { answer = t.is_first; left = t.is_left }

pub returns-in_err-first : goal.returns-in_err-first
returns-in_err-first c =
    let t = due_answer c.args.self.now (omega arith) c.args.day c.take.new.heap c.take.result _ c.take.ensures c.in_err-first.ensures (λ x b k. search rules) in
    rw c.from_residual.ensures (record { answer = t.is_first; left = t.is_left })
