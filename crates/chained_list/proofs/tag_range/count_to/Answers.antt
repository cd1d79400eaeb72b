use Rattle.std.proofs.Common.{◌≡◌, suc, sym, ap, ◌∙◌, arith}
use Rattle.chained_list.specs.Chain.{tag_of, next_of, tags}
use Rattle.chained_list.proofs.Neighbours.{in_range, few_tags, next_member, next_higher, count_next, count_end, behind_last, behind_next}
use Rattle.chained_list.proofs.Spread.{among_le, nothing}
use Rattle.chained_list.proofs.tag_range.count_to.Goals as goal
use Rattle.chained_list.proofs.tag_range.count_to.Goals.{In-loop-at}

pub loop-at-init : goal.loop-at-init
loop-at-init c =
    let t = tag_of c.args.places.now.members.now c.args.first in
    (c.requires.member, omega arith, c.requires.high, ap suc (sym (nothing t t (tags c.args.places.now.members.now) (omega arith))))

pub returns : goal.returns
returns c =
    let ps = c.args.places.now.members.now in
    let h = c.args.places.now.sound.holds in
    let a = c.loop-at.at in
    let i = c.loop-at.invariant in
    i.3 ∙ sym (count_end ps h _ a c.args.end i.0 i.1 i.2 (λ nz. omega (arith, c.tag_behind.ensures, behind_next ps h a i.0 nz, c.loop-at-test.false)))

-- where the one behind has a tag below the end, there is one
linked : (c : In-loop-at) → next_of c.args.places.now.members.now c.loop-at.at ≡ 0 → ⊥
linked c z = omega (arith, behind_last c.args.places.now.members.now c.args.places.now.sound.holds c.loop-at.at c.loop-at.invariant.0 z, c.tag_behind.ensures, c.loop-at-test.true, c.requires.top)

pub loop-at-preserved : goal.loop-at-preserved
loop-at-preserved c =
    let ps = c.args.places.now.members.now in
    let h = c.args.places.now.sound.holds in
    let a = c.loop-at.at in
    let i = c.loop-at.invariant in
    let nz = linked (goal.at.loop-at-preserved c).In-loop-at in
    let n = next_higher ps h a i.0 nz in (
      next_member ps h a i.0 nz,
      omega (arith, n, i.1),
      omega (arith, behind_next ps h a i.0 nz, c.tag_behind.ensures, c.loop-at-test.true),
      omega (arith, i.3, count_next ps h (tag_of ps c.args.first) a i.0 i.1 nz),
    )

pub offset_bounds-places-at : goal.offset_bounds-places-at
offset_bounds-places-at c = omega (arith, in_range c.args.places.now.members.now c.args.places.now.sound.holds c.loop-at.at c.loop-at.invariant.0, c.args.places.now.sound.few)

pub bounds-places-at : goal.bounds-places-at
bounds-places-at c = in_range c.args.places.now.members.now c.args.places.now.sound.holds c.loop-at.at c.loop-at.invariant.0

pub overflow_add-count : goal.overflow_add-count
overflow_add-count c =
    let ps = c.args.places.now.members.now in
    omega (arith, c.loop-at.invariant.3, among_le (tag_of ps c.args.first) (tag_of ps c.loop-at.at) (tags ps), few_tags ps c.args.places.now.sound.holds, c.args.places.now.sound.few)

pub loop-at-smaller : goal.loop-at-smaller
loop-at-smaller c =
    let ps = c.args.places.now.members.now in
    let h = c.args.places.now.sound.holds in
    let a = c.loop-at.at in
    let i = c.loop-at.invariant in
    omega (arith, next_higher ps h a i.0 (linked (goal.at.loop-at-smaller c).In-loop-at), h.ranging.below a i.0)
