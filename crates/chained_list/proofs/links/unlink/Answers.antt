use Rattle.chained_list.specs.Chain.{previous_of}
use Rattle.chained_list.specs.Links.{link_of}
use Rattle.chained_list.proofs.Writes.{unlinked}
use Rattle.chained_list.proofs.Remove.{m_below, p_below, two, x_below, x_not_m}
use Rattle.chained_list.proofs.links.unlink.Goals as goal

pub returns : goal.returns
returns c =
    let e = c.default.ensures in
    let r = c.requires in
    let ps = c.args.places.now in
    rw (c.unwrap_or.ensures, e.0, e.1.1.0, e.1.1.1)
    (unlinked ps (previous_of ps c.args.m) c.args.m (link_of c.args.h) (p_below _ _ _ r) (m_below _ _ _ r) (two _ _ _ r) (x_below _ _ _ r) (x_not_m _ _ _ r) c.link.new.places c.link.ensures)
