use Rattle.std.proofs.Common.{Some, sym, ap, ◌∙◌, arith}
use Rattle.chained_list.specs.Chain.{tag_of}
use Rattle.chained_list.proofs.Neighbours.{in_range, next_member, behind_last, behind_next}
use Rattle.chained_list.proofs.tag_range.tag_behind.Goals as goal

pub offset_bounds-places-m : goal.offset_bounds-places-m
offset_bounds-places-m c = omega (arith, c.args.places.now.sound.few, in_range c.args.places.now.members.now c.args.places.now.sound.holds c.args.m c.requires)

pub bounds-places-m : goal.bounds-places-m
bounds-places-m c = in_range c.args.places.now.members.now c.args.places.now.sound.holds c.args.m c.requires

pub offset_bounds-places-next : goal.offset_bounds-places-next
offset_bounds-places-next c =
    let ps = c.args.places.now.members.now in
    let h = c.args.places.now.sound.holds in
    omega (arith, c.in-Some.ensures.link, c.args.places.now.sound.few, in_range ps h _ (next_member ps h c.args.m c.requires (λ z. c.in-Some.ensures.inner (ap Some (c.in-Some.ensures.link ∙ z)))))

pub bounds-places-next : goal.bounds-places-next
bounds-places-next c =
    let ps = c.args.places.now.members.now in
    let h = c.args.places.now.sound.holds in
    omega (arith, c.in-Some.ensures.link, in_range ps h _ (next_member ps h c.args.m c.requires (λ z. c.in-Some.ensures.inner (ap Some (c.in-Some.ensures.link ∙ z)))))

pub returns-in-Some : goal.returns-in-Some
returns-in-Some c =
    let ps = c.args.places.now.members.now in
    ap (tag_of ps) c.in-Some.ensures.link ∙ sym (behind_next ps c.args.places.now.sound.holds c.args.m c.requires (λ z. c.in-Some.ensures.inner (ap Some (c.in-Some.ensures.link ∙ z))))

pub returns-in-None : goal.returns-in-None
returns-in-None c = sym (behind_last c.args.places.now.members.now c.args.places.now.sound.holds c.args.m c.requires (sym c.in-None.ensures.link))
