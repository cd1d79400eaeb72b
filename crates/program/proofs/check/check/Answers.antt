use Rattle.std.proofs.Common.{ℕ, List, Err, refl}
use Rattle.kinds.specs.declared.fault.Refusal.{Refusal}
use Rattle.kinds.specs.declared.fault.Refusal.TheVariants.{Fault, Memory}
use Rattle.kinds.specs.Laws.{Judged}
use Rattle.program.specs.declared.program.Program.{Program}
use Rattle.program.specs.Checks.{Checks}
use Rattle.program.proofs.Said.{says}
use Rattle.program.proofs.Sound.{sound}
use Rattle.program.proofs.check.check.Goals as goal

refused : (bs : List ℕ) (p : Program) (x : Refusal) → Judged {T = Unit {0}} bs (Err x) → Checks bs p (Err x) p
refused bs p (Fault f) j = (j, refl)
refused bs p Memory j = refl

pub returns : goal.returns
returns c = (c.in_ok-check_kinds.ensures.judged, says c.args.text.now c.in_ok-place.field-0 c.in_ok-check_kinds.ensures.tells c.in_ok-place.ensures, sound c.in_ok-place.field-0)
