-- A function while it runs, in the words of the meaning.
use Rattle.std.specs.Prelude.{◌≡◌, ℕ, ◌+◌, List, [], ◌∷◌, ◌++◌, drop}
use Rattle.program.specs.View.{View}
use Rattle.program.specs.Sound.{function_at}
use Rattle.program.specs.declared.value.Value.{Value}
use Rattle.trace.specs.Code.{Code, enter}
use Rattle.code.specs.Values.{listed}
use Rattle.code.specs.declared.running.Running.{Running}
use Rattle.code.specs.declared.running.Waiting.{Waiting}

-- what the registers hold, in order
abbrev pub held : Running → List Value
held r = listed r.registers

-- its code: the registers, the commands from the next on, and the tail
abbrev pub shown : View → Running → Code
shown P r = record { registers = held r; commands = drop r.at (function_at P r.function).commands; tail = (function_at P r.function).tail }

-- likewise where it waits
abbrev pub shown_waiting : View → Waiting → Code
shown_waiting P w = shown P w.running

-- the function f was entered with these values: that is its code in each program
pub record Entered (f : ℕ) (vs : List Value) (r : Running) : Type 0 where
  pub function : r.function ≡ f
  pub at : r.at ≡ 0
  pub values : held r ≡ vs
  pub code : (P : View) → shown P r ≡ enter P f vs

-- b is a behind a command that defined the value
pub record Defined (a : Running) (v : Value) (b : Running) : Type 0 where
  pub function : b.function ≡ a.function
  pub at : b.at ≡ a.at + 1
  pub values : held b ≡ held a ++ v ∷ []
