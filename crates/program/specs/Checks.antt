-- What `check` answers, and what it leaves in the caller's place.
use Rattle.std.specs.Prelude.{◌≡◌, ℕ, List, Ok, Err, Result}
use Rattle.kinds.specs.declared.fault.Refusal.{Refusal}
use Rattle.kinds.specs.declared.fault.Refusal.TheVariants.{Fault, Memory}
use Rattle.kinds.specs.Laws.{Faultless, Least}
use Rattle.program.specs.declared.program.Program.{Program}
use Rattle.program.specs.Says.{rendering}
use Rattle.program.specs.View.{viewed}
use Rattle.program.specs.Sound.{Sound}

-- the text says this program: it is the program's rendering, and every program that it renders has the same view
pub record Says (bs : List ℕ) (p : Program) : Type 0 where
  pub text : rendering p ≡ bs
  pub once : (q : Program) → rendering q ≡ bs → viewed q ≡ viewed p

-- accepted: the text keeps the rules, and the place holds what it says, which is sound; refused: the place is as it was,
-- and the fault is the least that the text has, or memory was wanting
abbrev pub Checks : List ℕ → Program → Result (Unit {0}) Refusal → Program → Type 0
Checks bs old (Ok u) new = Faultless bs × Says bs new × Sound (viewed new)
Checks bs old (Err Memory) new = new ≡ old
Checks bs old (Err (Fault f)) new = Least bs f × (new ≡ old)
