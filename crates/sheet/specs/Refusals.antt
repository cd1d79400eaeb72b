-- The numbers of the refusals.
use Rattle.std.proofs.Math.Option.{Option, some, none}
use Rattle.std.specs.Prelude.{ℕ, Ok, Err, Result}
use Rattle.program.specs.View.{View}
use Rattle.history.specs.Calls as history
use Rattle.sheet.specs.declared.refusal.Refusal.{Refusal}
use Rattle.sheet.specs.declared.refusal.Refusal.TheVariants.{WrongPass, NoSuchInput, OtherKind, WrongCell, NoSuchLine}
use Rattle.sheet.specs.declared.refusal.MakeRefusal.{MakeRefusal}
use Rattle.sheet.specs.declared.refusal.MakeRefusal.TheVariants.{Limit, Capacity}

-- a refusal, in the words of the book
abbrev pub refusal_of : Refusal → history.Refusal
refusal_of WrongPass = history.wrong_pass
refusal_of NoSuchInput = history.no_such_input
refusal_of OtherKind = history.other_kind
refusal_of WrongCell = history.wrong_cell
refusal_of NoSuchLine = history.no_such_line

-- the number by which it is told
abbrev pub number_of : Refusal → ℕ
number_of r = history.refusal_number (refusal_of r)

-- what is wrong with a content, if anything
abbrev pub unfit_told : Result (Unit {0}) Refusal → Option history.Refusal
unfit_told (Ok u) = none
unfit_told (Err r) = some (refusal_of r)

-- a sheet made from the program P, as far as its inputs go
abbrev pub made_with : View → history.Make
made_with P = record { program = P; number = 0; limit = 0 }

abbrev pub make_number_of : MakeRefusal → ℕ
make_number_of Limit = 11
make_number_of Capacity = 12
