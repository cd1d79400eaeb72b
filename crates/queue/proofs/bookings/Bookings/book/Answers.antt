use Rattle.std.proofs.Common.{refl, arith}
use Rattle.std.proofs.lemmas.Result.{err_from_is_err_and}
use Rattle.queue.proofs.Booked.{replaced, added, refused}
use Rattle.queue.proofs.bookings.Bookings.book.Goals as goal
use Rattle.queue.proofs.bookings.Bookings.book.Goals.{in-Some, in-None+in_ok-count-in-None}

pub invariant_of-self : goal.invariant_of-self
invariant_of-self c =
    let s = c.args.self.now in
    elim c.match-place_of.branch [
      | in-Some w ↦ let k = replaced s (omega arith) c.args.b w.in-Some.k w.in-Some.ensures in
          rw (w.places-is, w.count-is) (record { sized = k.sized; heaped = k.heaped; once = k.once })
      | in-None+in_ok-count-in-None w ↦ let k = added s (omega arith) c.args.b w.in-None.ensures w.put.new.heap w.in_ok-count-in-None.count w.in_ok-count-in-None.ensures in
          rw (w.places-is, w.count-is) (record { sized = k.sized; heaped = k.heaped; once = k.once })
    ]

pub returns : goal.returns
returns c =
    let s = c.args.self.now in
    elim c.match-place_of.branch [
      | in-Some w ↦ let k = replaced s (omega arith) c.args.b w.in-Some.k w.in-Some.ensures in
          rw (w.places-is, w.count-is) (k.unrefused, k.is_placed)
      | in-None+in_ok-count-in-None w ↦ let k = added s (omega arith) c.args.b w.in-None.ensures w.put.new.heap w.in_ok-count-in-None.count w.in_ok-count-in-None.ensures in
          rw (w.places-is, w.count-is) (k.unrefused, k.is_placed)
    ]

pub returns-in_err-count-in-None : goal.returns-in_err-count-in-None
returns-in_err-count-in-None c =
    let p = err_from_is_err_and c.from_residual.result c.from_residual.ensures.1 in
    rw (p.1, p.2) (refused c.args.self.now (omega arith) c.args.b c.in-None.ensures c.put.new.heap c.in_err-count-in-None.field-0.0 c.in_err-count-in-None.ensures, refl)
