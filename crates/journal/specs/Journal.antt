-- A journal: a call a line, and what is answered.
use Rattle.std.specs.Prelude.{ℕ, Bool, true, false, cond, List, [], ◌∷◌, ◌++◌, codes, ◌==◌}
use Rattle.std.specs.Str.{bytes_eq}
use Rattle.text.specs.Lines.{Raw}
use Rattle.journal.specs.declared.call.Call.{Call}
use Rattle.journal.specs.declared.call.Call.TheVariants.{Passed, Text, Unknown}

-- an empty line and a line that begins with `#` are passed over
abbrev pub call_in : List ℕ → Call
call_in [] = Passed
call_in (b ∷ bs) = cond (b == 35) Passed (cond (bytes_eq (b ∷ bs) (codes "text")) Text Unknown)

-- the byte 10 of a line that has one
abbrev pub newline : Bool → List ℕ
newline true = 10 ∷ []
newline false = []

-- a text ends before a line that is just a dot, or with the journal
abbrev pub ends_text : List ℕ → Bool
ends_text l = bytes_eq l (codes ".")

abbrev pub text_of : List Raw → List ℕ
text_of [] = []
text_of ((e, l) ∷ ls) = cond (ends_text l) [] (l ++ (newline e ++ text_of ls))

abbrev pub behind_text : List Raw → List Raw
behind_text [] = []
behind_text ((e, l) ∷ ls) = cond (ends_text l) ls (behind_text ls)
