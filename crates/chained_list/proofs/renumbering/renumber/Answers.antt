use Rattle.std.proofs.Common.{◌<◌, length, sym, ◌∙◌, arith}
use Rattle.chained_list.specs.Chain.{order}
use Rattle.order_list.proofs.Lists.{fits}
use Rattle.chained_list.proofs.Ranks.{within, Turned, turned, goes_on, stops}
use Rattle.chained_list.proofs.renumbering.renumber.Goals as goal
use Rattle.chained_list.proofs.renumbering.renumber.Goals.{In-loop-rank}

in_place : (c : goal.In-loop-rank) → c.loop-rank.at < length c.loop-rank.places
in_place c =
    let i = c.loop-rank.invariant in
    within c.args.places.now c.loop-rank.places (order c.args.places.now) c.loop-rank.rank c.loop-rank.at c.requires.strung i.2 i.0 i.1

turn : (c : goal.In-loop-rank) → Turned c.args.places.now c.loop-rank.places (order c.args.places.now) c.loop-rank.rank c.loop-rank.at
turn c =
    let i = c.loop-rank.invariant in
    turned c.args.places.now c.loop-rank.places (order c.args.places.now) c.loop-rank.rank c.loop-rank.at c.requires.strung i.2 i.0 i.1 i.3

pub offset_bounds-places-at : goal.offset_bounds-places-at
offset_bounds-places-at c = omega (arith, in_place c)

pub bounds-places-at : goal.bounds-places-at
bounds-places-at c = in_place c

pub returns-then-at-eq0 : goal.returns-then-at-eq0
returns-then-at-eq0 c =
    let xs = order c.args.places.now in
    let t = turn (goal.at.returns-then-at-eq0 c).In-loop-rank in
    let e = stops xs c.loop-rank.rank c.requires.strung.based c.requires.strung.apart c.loop-rank.invariant.0 (sym t.next ∙ c.if-at-eq0.true) in
    record { same = t.same; ranks = λ j h. t.ranks j (omega (arith, e)) }

pub loop-rank-preserved : goal.loop-rank-preserved
loop-rank-preserved c =
    let xs = order c.args.places.now in
    let t = turn (goal.at.loop-rank-preserved c).In-loop-rank in
    (goes_on xs c.loop-rank.rank (λ z. c.if-at-eq0.false (t.next ∙ z)) c.loop-rank.invariant.0, t.next, t.same, t.ranks)

pub returns : goal.returns
returns c =
    let xs = order c.args.places.now in
    absurd (omega (arith, fits (length c.args.places.now) xs c.requires.strung.apart c.requires.strung.under, c.loop-rank.invariant.0))
