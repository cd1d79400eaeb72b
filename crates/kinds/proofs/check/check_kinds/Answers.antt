use Rattle.std.proofs.Common.{ℕ, List, Ok, Err, Result}
use Rattle.kinds.specs.declared.fault.Refusal.{Refusal}
use Rattle.kinds.specs.declared.fault.Refusal.TheVariants.{Fault, Memory}
use Rattle.kinds.specs.Kinds.{fault_of}
use Rattle.kinds.specs.Held.{Tells}
use Rattle.kinds.specs.Laws.{Judged}
use Rattle.kinds.proofs.Whole.{told_least, told_none}
use Rattle.kinds.proofs.check.check_kinds.Goals as goal

judged : {T : Type 0} (bs : List ℕ) (r : Result T Refusal) → Tells r (fault_of bs) → Judged bs r
judged bs (Ok t) h = told_none bs h
judged bs (Err Memory) h = tt
judged bs (Err (Fault x)) h = told_least bs x h

pub returns : goal.returns
returns c = record { tells = c.check_rules.ensures; judged = judged c.args.text.now c.check_rules.result c.check_rules.ensures }
