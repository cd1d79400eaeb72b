use Rattle.std.proofs.Common.{◌≡◌, ◌∷◌, ℕ, ◌+◌, ◌-◌, ◌/◌, sym, ap, ◌∙◌, subst, arith}
use Rattle.chained_list.specs.Chain.{Sound, Spliced, chain, tag_of, tagged}
use Rattle.chained_list.specs.Tags.{behind_tag}
use Rattle.chained_list.specs.Links.{link_of}
use Rattle.chained_list.proofs.Chains.{has_m}
use Rattle.chained_list.proofs.Levels.{sound_smallest}
use Rattle.chained_list.proofs.Standing.{each_place}
use Rattle.chained_list.proofs.TagInsert.{v_small, sound_after, inserted_after, tagged_after, chain_after}
use Rattle.chained_list.proofs.tag_range.TagRangeLabelling.insert_in.Goals as goal
use Rattle.chained_list.proofs.tag_range.TagRangeLabelling.insert_in.Goals.{After-splice-places}

pub returns-in_err-n-clause-smallest : goal.returns-in_err-n-clause-smallest
returns-in_err-n-clause-smallest c = sound_smallest c.args.places.now.members.now (link_of c.args.places.now.free) c.args.m c.args.places.now.sound

pub make_room-requires : goal.make_room-requires
make_room-requires c = has_m _ _ _ c.in_ok-n.ensures.1

pub halfway-tag-requires : goal.halfway-tag-requires
halfway-tag-requires c =
    let g = c.in_ok-n.ensures.1 in
    let m = c.make_room.ensures.made in
    (omega (arith, c.tag_behind.ensures, m.room), omega (arith, c.tag_behind.ensures, v_small _ _ _ _ g m))

-- the tag that is spliced in is the one halfway
halved : (c : After-splice-places) →
    let qs = c.make_room.new.places.members.now in
    let m = c.args.m in
    Spliced qs c.splice-places.new.places m c.in_ok-n.n (tag_of qs m + (behind_tag (tagged qs) m - tag_of qs m) / 2)
halved c =
    let qs = c.make_room.new.places.members.now in
    let m = c.args.m in
    let e = c.halfway-tag.ensures ∙ ap (λ (x : ℕ). tag_of qs m + (x - tag_of qs m) / 2) c.tag_behind.ensures in
    subst (λ (x : ℕ). Spliced qs c.splice-places.new.places m c.in_ok-n.n x) e c.splice-places.ensures.spliced

-- the list is in order after it
ordered : (c : After-splice-places) → Sound c.splice-places.new.places (link_of c.splice-places.result)
ordered c =
    let k = sound_after _ _ _ c.args.m c.in_ok-n.ensures.1 c.make_room.ensures.made _ (halved c) in
    subst (Sound c.splice-places.new.places) (sym c.splice-places.ensures.free) k

pub invariant_of-places-clause-sound : goal.invariant_of-places-clause-sound
invariant_of-places-clause-sound c = ordered (goal.at.invariant_of-places-clause-sound c).After-splice-places

pub returns : goal.returns
returns c =
    let d = (goal.at.returns c).After-splice-places in
    let ps = c.args.places.now.members.now in
    let rs = c.splice-places.new.places in
    let m = c.args.m in
    let g = c.in_ok-n.ensures.1 in
    let made = c.make_room.ensures.made in
    let sp = halved d in
    record {
      done = inserted_after _ _ _ m g made rs sp;
      placed = (
        tagged_after _ _ _ m g made rs sp,
        subst (λ h. chain ps (link_of c.args.places.now.free) ≡ c.in_ok-n.n ∷ chain rs h) (sym c.splice-places.ensures.free) (ap (chain ps) (sym c.in_ok-n.ensures.0) ∙ chain_after _ _ _ m g made rs sp),
        each_place _ _ (ordered d),
      );
      same = sp.size ∙ made.same.size;
      lent = c.make_room.ensures.lent;
      smallest = sound_smallest ps (link_of c.args.places.now.free) m c.args.places.now.sound;
    }
