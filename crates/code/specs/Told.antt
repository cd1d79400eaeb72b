-- What a function does next, in the words of the meaning.
use Rattle.std.specs.Prelude.{◌+◌, ◌<◌, ◌≤◌, length, drop}
use Rattle.program.specs.View.{View, TailView, PUT, NIL, CON, GET, CAS}
use Rattle.program.specs.Sound.{function_at}
use Rattle.trace.specs.Code as trace
use Rattle.code.specs.declared.next.Next.{Next}
use Rattle.code.specs.declared.next.Next.TheVariants.{Writes, Makes, Reads}
use Rattle.code.specs.declared.running.Running.{Running}
use Rattle.code.specs.Values.{listed}
use Rattle.code.specs.Readers.{reader_of}
use Rattle.code.specs.Shown.{held, shown_waiting}

abbrev pub told : View → Next → trace.Next
told P (Writes x) = trace.writes x
told P (Makes f args w) = trace.makes f (listed args) (shown_waiting P w)
told P (Reads s b) = trace.reads s (reader_of b)

-- the code of a function behind the command at hand
abbrev pub behind : View → Running → trace.Code
behind P r = record { registers = held r; commands = drop (r.at + 1) (function_at P r.function).commands; tail = (function_at P r.function).tail }

-- the numbers of a tail's functions and its count of arguments are small
abbrev pub TailFits : TailView → Type 0
TailFits (PUT a) = Unit {0}
TailFits NIL = Unit {0}
TailFits (CON h l) = Unit {0}
TailFits (GET s f args) = (f < 64) × (length args ≤ 6)
TailFits (CAS s f g args) = (f < 64) × (g < 64) × (length args ≤ 6)
