use Rattle.text.proofs.Cuts.{handed_out}
use Rattle.text.proofs.lines.methods.LinesIterator.next.Goals as goal

pub returns-clause-steps : goal.returns-clause-steps
returns-clause-steps c =
    let l = c.args.self.now in
    let m = c.tell_next.new.self in
    rw c.ok.ensures.value (handed_out l _ m c.in_ok-tell_next.ensures)
