use Rattle.std.proofs.Common.{◌≡◌, ℕ, ◌<◌, ◌≤◌, length, get_or, arith, rules}
use Rattle.chained_list.specs.Chain.{blank}
use Rattle.chained_list.proofs.Clear.{allowed, born, wiped_order, cleared_one, cleared_more, wiped_one, wiped_more}
use Rattle.chained_list.proofs.links.wipe.Goals as goal

pub returns-then-count-eq1 : goal.returns-then-count-eq1
returns-then-count-eq1 c =
    let ps = c.loop-i.places in
    let some : 0 < length ps = omega (arith, (allowed (length c.args.places.now) c.requires).0) in
    let few : length ps ≤ 4096 = omega (arith, (allowed (length c.args.places.now) c.requires).1) in
    let all : (k : ℕ) → k < length ps → get_or ps k blank ≡ born (length ps) k = λ k h. c.loop-i.invariant k (omega arith) in
    record { inner = search rules; only = wiped_order ps some few all; placed = cleared_one ps some few all (omega arith); kept = wiped_one ps some few all (omega arith) }

pub returns-else-count-eq1 : goal.returns-else-count-eq1
returns-else-count-eq1 c =
    let ps = c.loop-i.places in
    let some : 0 < length ps = omega (arith, (allowed (length c.args.places.now) c.requires).0) in
    let few : length ps ≤ 4096 = omega (arith, (allowed (length c.args.places.now) c.requires).1) in
    let all : (k : ℕ) → k < length ps → get_or ps k blank ≡ born (length ps) k = λ k h. c.loop-i.invariant k (omega arith) in
    record { inner = search rules; only = wiped_order ps some few all; placed = cleared_more ps some few all (λ e. c.if-count-eq1.false (omega arith)); kept = wiped_more ps some few all (λ e. c.if-count-eq1.false (omega arith)) }
