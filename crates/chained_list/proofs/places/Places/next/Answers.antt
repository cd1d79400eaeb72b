use Rattle.chained_list.proofs.Looks.{next_is}
use Rattle.chained_list.proofs.places.Places.next.Goals as goal

pub returns : goal.returns
returns c = next_is c.args.self.now.members.now c.args.m c.in_ok-standing.field-0 c.behind.result c.args.self.now.sound.holds c.in_ok-standing.ensures c.behind.ensures.link c.behind.ensures.inner
