use Rattle.std.proofs.Common.{◌≡◌, ◌+◌}
use Rattle.text.specs.First.{first}
use Rattle.text.specs.Lines.{lines_of}
use Rattle.text.specs.Reader.{left, passed}
use Rattle.kinds.specs.Kinds.{heads_of, known_after, kind_rules, kind_fault_of}
use Rattle.kinds.specs.Held.{heads_known, known}
use Rattle.kinds.proofs.check.check_rules.Given as goal

abbrev pub invariant-loop-line : goal.invariant-loop-line
invariant-loop-line l =
    (heads_known l.scope ≡ heads_of (lines_of l.text))
    × (first (known_after (heads_of (lines_of l.text))) (kind_rules (heads_of (lines_of l.text))) (known l.scope) (passed l.line-iterator + 1) (left l.line-iterator) ≡ kind_fault_of (lines_of l.text))
