-- What is answered to a text.
use Rattle.std.specs.Prelude.{ℕ, List, ◌++◌, length, codes, decimal}
use Rattle.kinds.specs.declared.fault.KindFault.{KindFault}
use Rattle.kinds.specs.Faults.{words_of}
use Rattle.kinds.specs.Laws.{Faultless, Least}
use Rattle.program.specs.declared.program.Program.{Program}
use Rattle.program.specs.Checks.{Says}
use Rattle.program.specs.View.{viewed}
use Rattle.program.specs.Sound.{steps_in}

abbrev pub accepted_words : ℕ → ℕ → List ℕ
accepted_words fs ss = codes "text: accepted " ++ (decimal fs ++ (codes " functions " ++ (decimal ss ++ codes " steps\n")))

abbrev pub fault_words : KindFault → List ℕ
fault_words f = codes "text: " ++ (words_of f ++ codes "\n")

-- a text without a fault is accepted, with the functions and steps of the program that it says; of any other its least
-- fault is told
pub data Verdict (bs : List ℕ) : List ℕ → Type 0 where
  accepts : (p : Program) → Faultless bs → Says bs p → Verdict bs (accepted_words (length (viewed p).functions) (steps_in (viewed p).functions))
  refuses : (f : KindFault) → Least bs f → Verdict bs (fault_words f)
