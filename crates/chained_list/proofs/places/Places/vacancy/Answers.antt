use Rattle.std.proofs.Common.{sym, subst, rules}
use Rattle.chained_list.specs.Links.{link_of}
use Rattle.chained_list.specs.Contents.{Vacant}
use Rattle.chained_list.proofs.Chains.{stood, not_stood, refused_no_member, vacant}
use Rattle.chained_list.proofs.places.Places.vacancy.Goals as goal

pub returns-in_err-ok_or : goal.returns-in_err-ok_or
returns-in_err-ok_or c =
    let n = not_stood _ c.args.m _ c.in_err-ok_or.ensures.variant c.standing.ensures in
    let s = refused_no_member c.args.self.now.members.now (link_of c.args.self.now.free) c.args.m c.args.self.now.sound n in
    search rules

pub returns : goal.returns
returns c =
    let ps = c.args.self.now.members.now in
    let s = stood _ c.args.m _ _ c.in_ok-ok_or.ensures.ok_part c.standing.ensures in
    subst (Vacant ps (link_of c.args.self.now.free) c.args.m) (sym c.ok_or-2.ensures.value) (vacant ps c.args.self.now.free c.args.m c.args.self.now.sound c.args.self.now.inner s.0)
