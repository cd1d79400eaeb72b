use Rattle.std.proofs.Common.{rules}
use Rattle.chained_list.specs.Chain.{Ready}
use Rattle.chained_list.specs.Links.{link_of}
use Rattle.chained_list.proofs.Chains.{stood, not_stood}
use Rattle.chained_list.proofs.Standing.{each_place}
use Rattle.chained_list.proofs.Remove.{refused_no_member, no_refusal, order_after, tagged_after, chain_after, sound_after}
use Rattle.chained_list.proofs.places.Places.remove.Goals as goal
use Rattle.chained_list.proofs.places.Places.remove.Goals.{Else-m-eq0}

pub returns-in_err-ok_or-clause-done : goal.returns-in_err-ok_or-clause-done
returns-in_err-ok_or-clause-done c =
    let s = refused_no_member c.args.self.now.members.now (link_of c.args.self.now.free) c.args.m c.args.self.now.sound (not_stood _ c.args.m _ c.in_err-ok_or.ensures.variant c.standing.ensures) in
    search rules

ready : (c : Else-m-eq0) → Ready c.args.self.now.members.now (link_of c.args.self.now.free) c.args.m
ready c =
    let s = stood _ c.args.m _ _ c.in_ok-ok_or.ensures.ok_part c.standing.ensures in
    record { sound = c.args.self.now.sound; stands = s.0; inner = c.if-m-eq0.false }

pub invariant_of-self-clause-sound : goal.invariant_of-self-clause-sound
invariant_of-self-clause-sound c = sound_after _ _ _ (ready (goal.at.invariant_of-self-clause-sound c).Else-m-eq0) c.unlink.new.places c.unlink.ensures

pub returns : goal.returns
returns c =
    let r = ready (goal.at.returns c).Else-m-eq0 in
    let u = c.unlink.ensures in
    record {
      done = (no_refusal _ _ _ r, order_after _ _ _ r c.unlink.new.places u);
      placed = (tagged_after _ _ _ r c.unlink.new.places u, chain_after _ _ _ r c.unlink.new.places u, each_place _ _ (sound_after _ _ _ r c.unlink.new.places u));
      same = u.size;
    }
