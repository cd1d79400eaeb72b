use Rattle.std.proofs.Common.{◌≡◌, ◌+◌, length}
use Rattle.text.specs.Lines.{line_fault, lines_in}
use Rattle.text.specs.Reader.{passed, unread}
use Rattle.text.proofs.check.check_each.Given as goal

abbrev pub invariant-loop-line : goal.invariant-loop-line
invariant-loop-line l = line_fault (passed l.lines + 1) (lines_in (unread l.lines)) ≡ line_fault 1 (lines_in l.text)

abbrev pub decreases-loop-line : goal.decreases-loop-line
decreases-loop-line l = length (unread l.lines)
