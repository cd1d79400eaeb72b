use Rattle.std.proofs.Common.{◌≡◌, ◌∷◌, refl, sym, ap, ◌∙◌, subst, arith}
use Rattle.chained_list.specs.Chain.{Sound, chain}
use Rattle.chained_list.specs.Links.{link_of}
use Rattle.chained_list.proofs.Standing.{each_place}
use Rattle.chained_list.proofs.Ranks.{strung_order, sound_after, inserted_after, ranked_after, chain_after}
use Rattle.chained_list.proofs.renumbering.RenumberingLabelling.insert_in.Goals as goal

pub renumber-requires : goal.renumber-requires
renumber-requires c =
    let s = c.splice-free.ensures.spliced in
    record { strung = strung_order _ _ _ c.in_ok-n.ensures.1 _ s; few = omega (arith, c.args.places.now.sound.few, s.size) }

pub invariant_of-places-clause-sound : goal.invariant_of-places-clause-sound
invariant_of-places-clause-sound c =
    let k = sound_after _ _ _ c.in_ok-n.ensures.1 _ c.splice-free.ensures.spliced _ c.renumber.ensures.same c.renumber.ensures.ranks in
    subst (Sound c.renumber.new.places) (sym c.splice-free.ensures.free) k

pub returns : goal.returns
returns c =
    let e = c.in_ok-n.ensures.0 in
    let g = c.in_ok-n.ensures.1 in
    let s = c.splice-free.ensures.spliced in
    let t = c.renumber.ensures.same in
    let r = c.renumber.ensures.ranks in
    let f = sym c.splice-free.ensures.free in
    record {
      done = inserted_after _ _ _ g _ s _ t r;
      placed = (
        ranked_after _ _ _ g _ s _ t r,
        subst (λ h. chain c.args.places.now.members.now (link_of c.args.places.now.free) ≡ c.in_ok-n.n ∷ chain c.renumber.new.places h) f (ap (chain c.args.places.now.members.now) (sym e) ∙ chain_after _ _ _ g _ s _ t r),
        each_place _ _ (subst (Sound c.renumber.new.places) f (sound_after _ _ _ g _ s _ t r)),
      );
      same = t.size ∙ s.size;
      lent = refl;
    }
