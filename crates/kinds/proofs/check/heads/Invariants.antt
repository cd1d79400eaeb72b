use Rattle.std.proofs.Common.{◌≡◌, ◌++◌, vec_items}
use Rattle.text.specs.Lines.{lines_of}
use Rattle.text.specs.Reader.{left}
use Rattle.kinds.specs.Kinds.{heads_of}
use Rattle.kinds.specs.Held.{heads_held}
use Rattle.kinds.proofs.check.heads.Given as goal

abbrev pub invariant-loop-line : goal.invariant-loop-line
invariant-loop-line l = heads_held (vec_items l.heads) ++ heads_of (left l.line-iterator) ≡ heads_of (lines_of l.text)
