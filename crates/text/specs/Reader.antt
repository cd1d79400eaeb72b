-- What a reader of lines has left, and what it hands out.
use Rattle.std.specs.Prelude.{◌≡◌, ℕ, ◌+◌, ◌<◌, Bool, true, List, [], ◌∷◌, length, Some, None, Ok, Err, Option, Result}
use Rattle.text.specs.declared.line.Line.{Line}
use Rattle.text.specs.declared.line.LineFault.{LineFault}
use Rattle.text.specs.declared.lines.Lines.{Lines}
use Rattle.text.specs.Lines.{Said, Told, Raw, lines_in, line_of, line_rules, standing}
use Rattle.text.specs.Told.{numbered, said}

-- the bytes of the lines that are left
abbrev pub unread : Lines → List ℕ
unread l = l.rest.now

-- the lines that are left, up to the first that breaks a rule of layer 1
abbrev pub left : Lines → List Said
left l = standing (l.passed + 1) (lines_in (unread l))

-- how many lines were handed out
abbrev pub passed : Lines → ℕ
passed l = l.passed

-- line n is the first of these bytes, and `behind` stands behind it
pub record Reads (n : ℕ) (bs : List ℕ) (x : Told) (behind : List ℕ) : Type 0 where
  pub line : List ℕ
  pub lines : lines_in bs ≡ (true, line) ∷ lines_in behind
  pub stands : line_of n line ≡ Ok x
  pub shorter : length behind < length bs

-- the first of these bytes' lines is line n, and has this fault
pub record Falls (n : ℕ) (bs : List ℕ) (y : LineFault) : Type 0 where
  pub line : Raw
  pub behind : List Raw
  pub lines : lines_in bs ≡ line ∷ behind
  pub broken : (last : Bool) → line_rules tt n line last ≡ Some y

-- what is told of the next line, which is passed where it keeps the rules of layer 1; or none is left
abbrev pub TellsNext : Lines → Option (Result Line LineFault) → Lines → Type 0
TellsNext l None m = (unread l ≡ []) × (m ≡ l)
TellsNext l (Some (Ok x)) m = Reads (passed l + 1) (unread l) (numbered x, said x) (unread m) × (passed m ≡ passed l + 1)
TellsNext l (Some (Err f)) m = Falls (passed l + 1) (unread l) f × (m ≡ l)

-- the next line is handed out, under the next number; or no line is left
abbrev pub HandsOut : Lines → Option Line → Lines → Type 0
HandsOut l None m = (left l ≡ []) × (left m ≡ []) × (passed m ≡ passed l)
HandsOut l (Some x) m = (left l ≡ said x ∷ left m) × (numbered x ≡ passed l + 1) × (passed m ≡ passed l + 1)

-- a line that was handed out and is still to be looked at, and those that are left
abbrev pub ahead : Option Line → Lines → List Said
ahead None l = []
ahead (Some x) l = said x ∷ left l
