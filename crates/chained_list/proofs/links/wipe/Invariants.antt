use Rattle.std.proofs.Common.{◌≡◌, ℕ, ◌<◌, length, get_or}
use Rattle.chained_list.specs.Chain.{blank}
use Rattle.chained_list.proofs.Clear.{born}
use Rattle.chained_list.proofs.links.wipe.Given as goal

abbrev pub invariant-loop-i : goal.invariant-loop-i
invariant-loop-i l = (k : ℕ) → k < l.i → get_or l.places k blank ≡ born (length l.places) k
