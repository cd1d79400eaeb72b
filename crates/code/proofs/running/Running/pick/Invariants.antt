use Rattle.std.proofs.Common.{◌≡◌, map, take}
use Rattle.trace.specs.Code.{register}
use Rattle.code.specs.Values.{listed}
use Rattle.code.specs.Shown.{held}
use Rattle.code.proofs.running.Running.pick.Given as goal

abbrev pub invariant-loop-i : goal.invariant-loop-i
invariant-loop-i l = listed l.args ≡ map (register (held l.self)) (take l.i-index l.named)
