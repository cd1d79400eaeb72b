-- A line of a text: a word of three capital letters, up to nine fields of six columns, byte 10.
use Rattle.std.specs.Prelude.{◌≡◌, ℕ, ◌+◌, ◌-◌, ◌/◌, ◌%◌, Bool, true, false, cond, ◌&&◌, List, [], ◌∷◌, map, length, drop, ℤ, Some, None, Ok, Err, Option, Result, ◌==◌, nat_le, slice_index}
use Rattle.std.specs.List.{position_from}
use Rattle.text.specs.declared.line.Word.{Word}
use Rattle.text.specs.declared.line.Word.TheVariants as w
use Rattle.text.specs.declared.line.UnknownWord.{UnknownWord}
use Rattle.text.specs.declared.line.LineFault.{LineFault}
use Rattle.text.specs.declared.line.LineFault.TheVariants as f
use Rattle.text.specs.First.{first, no_fault}
use Rattle.text.specs.Numbers.{fields_stand, numbers_in}

abbrev pub spelled : ℕ → ℕ → ℕ → ℕ → ℕ → ℕ → Bool
spelled a b c x y z = a == x && (b == y && c == z)

abbrev pub word_of : ℕ → ℕ → ℕ → Option Word
word_of a b c =
    cond (spelled a b c 73 78 80) (Some w.Inp)
    (cond (spelled a b c 82 85 78) (Some w.Run)
    (cond (spelled a b c 70 85 78) (Some w.Fun)
    (cond (spelled a b c 76 73 84) (Some w.Lit)
    (cond (spelled a b c 65 68 68) (Some w.Add)
    (cond (spelled a b c 83 85 66) (Some w.Sub)
    (cond (spelled a b c 77 85 76) (Some w.Mul)
    (cond (spelled a b c 68 73 86) (Some w.Div)
    (cond (spelled a b c 77 73 78) (Some w.Min)
    (cond (spelled a b c 77 65 88) (Some w.Max)
    (cond (spelled a b c 78 69 87) (Some w.New)
    (cond (spelled a b c 80 85 84) (Some w.Put)
    (cond (spelled a b c 78 73 76) (Some w.Nil)
    (cond (spelled a b c 67 79 78) (Some w.Con)
    (cond (spelled a b c 71 69 84) (Some w.Get)
    (cond (spelled a b c 67 65 83) (Some w.Cas) None)))))))))))))))

-- r is the word that three bytes spell, or says that they spell none
abbrev pub Spells : List ℕ → Result Word UnknownWord → Type 0
Spells bs (Ok k) = word_of (slice_index bs 0) (slice_index bs 1) (slice_index bs 2) ≡ Some k
Spells bs (Err e) = (word_of (slice_index bs 0) (slice_index bs 1) (slice_index bs 2) ≡ None) × (e ≡ record { 0 = bs })

-- a line as it is told: its word and the numbers in its fields
abbrev pub Said : Type 0
Said = Word × List ℤ

-- a line's number and what it says
abbrev pub Told : Type 0
Told = ℕ × Said

abbrev pub fielded : ℕ → Word → List ℕ → Result Told LineFault
fielded n k fs = cond (fields_stand (length fs / 6) fs) (Ok (n, (k, numbers_in fs))) (Err (f.Field n))

abbrev pub worded : ℕ → Option Word → List ℕ → Result Told LineFault
worded n None fs = Err (f.Word n)
worded n (Some k) fs = fielded n k fs

-- three letters and up to nine fields of six columns
abbrev pub right_length : ℕ → Bool
right_length m = nat_le 3 m && ((m - 3) % 6 == 0 && nat_le (m - 3) 54)

-- line n, without its byte 10
abbrev pub line_of : ℕ → List ℕ → Result Told LineFault
line_of n bs = cond (right_length (length bs)) (worded n (word_of (slice_index bs 0) (slice_index bs 1) (slice_index bs 2)) (drop 3 bs)) (Err (f.Length n))

-- a line as it stands in the text: whether a byte 10 ends it, and the bytes before that
abbrev pub Raw : Type 0
Raw = Bool × List ℕ

abbrev pub longer : ℕ → List Raw → List Raw
longer b [] = (false, b ∷ []) ∷ []
longer b ((e, l) ∷ ls) = (e, b ∷ l) ∷ ls

-- the text, cut behind each byte 10
abbrev pub lines_in : List ℕ → List Raw
lines_in [] = []
lines_in (b ∷ bs) = cond (b == 10) ((true, []) ∷ lines_in bs) (longer b (lines_in bs))

abbrev pub fault_in : {T : Type 0} → Result T LineFault → Option LineFault
fault_in (Ok x) = None
fault_in (Err e) = Some e

-- the first layer's rules for line n
abbrev pub line_rules : Unit {0} → ℕ → Raw → Bool → Option LineFault
line_rules s n (true, l) last = fault_in (line_of n l)
line_rules s n (false, l) last = Some (f.Length n)

abbrev pub same : Unit {0} → Raw → Unit {0}
same s x = tt

-- the first fault of layer 1 in these lines, the first of which is line n
abbrev pub line_fault : ℕ → List Raw → Option LineFault
line_fault n ls = first same line_rules tt n ls

-- the fault of layer 1 that is told of a text
abbrev pub text_fault : List ℕ → Option LineFault
text_fault bs = cond (nat_le 1 (length bs) && nat_le (length bs) 65536) (line_fault 1 (lines_in bs)) (Some (f.Length 0))

abbrev pub or_nil : Option Word → Word
or_nil None = w.Nil
or_nil (Some k) = k

-- what a line says; of a line that breaks a rule of this layer it does not matter
abbrev pub reading : Raw → Said
reading (e, l) = (or_nil (word_of (slice_index l 0) (slice_index l 1) (slice_index l 2)), numbers_in (drop 3 l))

-- what these lines say, up to the first that breaks a rule of this layer; the first of them is line n
abbrev pub standing : ℕ → List Raw → List Said
standing n [] = []
standing n (x ∷ xs) = cond (no_fault (line_rules tt n x false)) (reading x ∷ standing (n + 1) xs) []

-- the lines of a text
abbrev pub lines_of : List ℕ → List Said
lines_of bs = map reading (lines_in bs)

-- the place of the first byte 10, where the bytes stand from place i on
abbrev pub line_end : ℕ → List ℕ → Option ℕ
line_end i bs = position_from (λ b. b == 10) i bs
