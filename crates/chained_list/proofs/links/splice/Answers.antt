use Rattle.std.proofs.Common.{length-set, arith}
use Rattle.chained_list.proofs.Writes.{spliced}
use Rattle.chained_list.proofs.Chains.{m_below, h_below, m_not_h, x_below, x_not_h}
use Rattle.chained_list.proofs.links.splice.Goals as goal

pub link-requires : goal.link-requires
link-requires c = let r = c.requires in simp length-set (h_below _ _ _ r, (x_below _ _ _ r, r.sound.few))

pub link-requires-2 : goal.link-requires-2
link-requires-2 c =
    let r = c.requires in
    let e = simp length-set at c.link.auto.places in
    (omega (arith, e, m_below _ _ _ r), (omega (arith, e, h_below _ _ _ r), omega (arith, e, r.sound.few)))

pub returns-clause-spliced : goal.returns-clause-spliced
returns-clause-spliced c =
    let e = c.default.ensures in
    let r = c.requires in
    let l = rw (e.1.0, e.1.1.0) at c.link.ensures in
    spliced c.args.places.now c.args.m c.args.n c.args.tag (m_below _ _ _ r) (h_below _ _ _ r) (x_below _ _ _ r) c.link.new.places c.link-2.new.places (m_not_h _ _ _ r) (x_not_h _ _ _ r) l c.link-2.ensures
