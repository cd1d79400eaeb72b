use Rattle.std.proofs.Common.{◌≡◌, ◌-◌, ◌/◌, get_or, ap, ◌∙◌, arith}
use Rattle.std.proofs.lemmas.List.Sorted.{IsPermutation-trans, All-permutation}
use Rattle.queue.proofs.Sifting.{at_places, filled, rise_steps}
use Rattle.queue.proofs.heap.rise.Goals as goal

pub loop-place-preserved : goal.loop-place-preserved
loop-place-preserved g c =
    let P = g.Q.Order.belongs c.args.order.now in
    let before = g.Q.Order.precedes c.args.order.now in
    let l = c.loop-place in
    let s = c.swap.ensures.by_index in
    record {
      within = omega arith;
      same_length = omega arith;
      shuffled = IsPermutation-trans _ _ _ l.invariant.shuffled c.swap.ensures.permutation;
      gap = λ all heaped.
          let here = All-permutation P _ _ l.invariant.shuffled all in
          rise_steps before P (g.met.Q.Order.lawful c.args.order.now) l.heap c.swap.new.self _ l.place here (omega arith) (omega arith) (omega arith) (omega arith) s.0 s.1 s.2
          (at_places P before l.heap _ _ here (omega arith) (omega arith) c.index-heap-place.is c.index-heap-parent.is c.if-not-before.ensures) (l.invariant.gap all heaped);
    }

pub returns-then-not-before-clause-heaped : goal.returns-then-not-before-clause-heaped
returns-then-not-before-clause-heaped g c all heaped =
    let P = g.Q.Order.belongs c.args.order.now in
    let before = g.Q.Order.precedes c.args.order.now in
    let l = c.loop-place in
    let here = All-permutation P _ _ l.invariant.shuffled all in
    let gap = l.invariant.gap all heaped in
    filled before l.heap l.place gap.0 gap.1 (λ p d a b.
    let e : p ≡ (l.place - 1) / 2 = omega arith in
    ap (λ m. before (get_or l.heap l.place d) (get_or l.heap m d)) e ∙ at_places P before l.heap _ _ here (omega arith) (omega arith) c.index-heap-place.is c.index-heap-parent.is c.if-not-before.ensures d)
