use Rattle.std.proofs.Common.{◌≡◌, ◌++◌, take}
use Rattle.code.specs.Values.{listed}
use Rattle.code.proofs.values.Values.push_all.Given as goal

abbrev pub invariant-loop-value : goal.invariant-loop-value
invariant-loop-value g l = listed l.self ≡ listed l.initial.self ++ take l.value-index l.values
