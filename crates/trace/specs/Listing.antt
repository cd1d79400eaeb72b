-- The listing: a line for each standing record, in which records go by their numbers and not by their places.
use Rattle.std.specs.Prelude.{cond, List, [], ◌∷◌, ◌++◌, map, ℕ, suc, ◌+◌, eqb, ℤ, pos}
use Rattle.text.specs.declared.line.Word.{Word}
use Rattle.text.specs.declared.line.Word.TheVariants as w
use Rattle.program.specs.declared.value.Name.{Name}
use Rattle.program.specs.declared.value.Name.TheVariants.{Input, Made}
use Rattle.program.specs.declared.value.Content.{Content}
use Rattle.program.specs.declared.value.Content.TheVariants.{Number, Empty, Cell}
use Rattle.program.specs.declared.value.Value.{Value}
use Rattle.program.specs.declared.value.Value.TheVariants as val
use Rattle.trace.specs.Code.{Reader, get, cas, entered, arguments}
use Rattle.trace.specs.Trace.{Trace, write, new, read, written, size, places}

-- ── a trace under other places ──

-- each place n becomes ρ n, and every name with it
abbrev pub rename : (ℕ → ℕ) → Name → Name
rename ρ (Input k) = Input k
rename ρ (Made n) = Made (ρ n)

abbrev pub rename_value : (ℕ → ℕ) → Value → Value
rename_value ρ (val.Number z) = val.Number z
rename_value ρ (val.Mod a) = val.Mod (rename ρ a)

abbrev pub rename_content : (ℕ → ℕ) → Content → Content
rename_content ρ (Number z) = Number z
rename_content ρ Empty = Empty
rename_content ρ (Cell h t) = Cell (rename ρ h) (rename ρ t)

abbrev pub rename_reader : (ℕ → ℕ) → Reader → Reader
rename_reader ρ (get f vs) = get f (map (rename_value ρ) vs)
rename_reader ρ (cas f g vs) = cas f g (map (rename_value ρ) vs)

abbrev pub rename_trace : (ℕ → ℕ) → Trace → Trace
rename_trace ρ (write x) = write (rename_content ρ x)
rename_trace ρ (new n f vs inner rest) = new (ρ n) f (map (rename_value ρ) vs) (rename_trace ρ inner) (rename_trace ρ rest)
rename_trace ρ (read n s b x rest) = read (ρ n) (rename ρ s) (rename_reader ρ b) (rename_content ρ x) (rename_trace ρ rest)

-- how many stand before n in a list of places: the number of its record; places that are not there get numbers behind
abbrev pub rank_in : List ℕ → ℕ → ℕ
rank_in [] n = n
rank_in (p ∷ ps) n = cond (eqb n p) 0 (suc (rank_in ps n))

-- the number of the record at a place: records count from 0, in the order in which they begin
abbrev pub rank : Trace → ℕ → ℕ
rank t = rank_in (places t)

-- the trace with each record at its number
abbrev pub canonical : Trace → Trace
canonical t = rename_trace (rank t) t

-- ── the lines of a trace whose records stand at their numbers ──

-- input k is named k, the modifiable of record r 1000 + r
abbrev pub listed_name : Name → ℕ
listed_name (Input k) = k
listed_name (Made r) = 1000 + r

-- an argument: a number, or the modifiable's name
abbrev pub listed_value : Value → ℤ
listed_value (val.Number z) = z
listed_value (val.Mod a) = pos (listed_name a)

-- a content: 1 and the number; 2 for empty; 3, head and tail
abbrev pub listed_content : Content → List ℤ
listed_content (Number z) = pos 1 ∷ z ∷ []
listed_content Empty = pos 2 ∷ []
listed_content (Cell h t) = pos 3 ∷ pos (listed_name h) ∷ pos (listed_name t) ∷ []

-- a line: its word, NEW, GET or CAS, and its numbers
pub record Line : Type 0 where
  pub word : Word
  pub numbers : List ℤ

abbrev pub word_of : Reader → Word
word_of (get f vs) = w.Get
word_of (cas f g vs) = w.Cas

-- the lines from record r on, whose destination is the modifiable of record d
--   NEW r e function content arguments
--   GET or CAS r e source destination function-entered its-arguments
-- where e is the number of the first record behind r's end: those from r + 1 up to it are inside r
abbrev pub lines : ℕ → ℕ → Trace → List Line
lines d r (write x) = []
lines d r (new n f vs inner rest) =
    record { word = w.New; numbers = pos r ∷ pos (suc r + size inner) ∷ pos f ∷ (listed_content (written inner) ++ map listed_value vs) }
    ∷ (lines r (suc r) inner ++ lines d (suc r + size inner) rest)
lines d r (read n s b x rest) =
    record { word = word_of b; numbers = pos r ∷ pos (suc r + size rest) ∷ pos (listed_name s) ∷ pos (1000 + d) ∷ pos (entered b x) ∷ map listed_value (arguments b x) }
    ∷ lines d (suc r) rest

-- the listing of a trace, wherever its records stand
abbrev pub listing : Trace → List Line
listing t = lines 0 0 (canonical t)

-- the result: what record 0's modifiable holds; a run always begins with record 0, a NEW, so that the other cases never occur
abbrev pub result_of : Trace → Content
result_of (write x) = x
result_of (new n f vs inner rest) = written inner
result_of (read n s b x rest) = x

-- the result with modifiables named by their records' numbers, as the listing names them
abbrev pub result : Trace → Content
result t = result_of (canonical t)
