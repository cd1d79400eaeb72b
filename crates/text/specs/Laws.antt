-- The laws of texts: a field is the columns of its number, and a text is the rendering of its lines and of no others.
use Rattle.std.specs.Prelude.{◌≡◌, ℕ, true, List, [], ◌∷◌, ℤ, Some, None, slice_index}
use Rattle.text.specs.declared.line.Word.{Word}
use Rattle.text.specs.Field.{field_value}
use Rattle.text.specs.Lines.{word_of, text_fault, Said, lines_of}
use Rattle.text.specs.Rendering.{columns, fits, spelling, rendered, all_fit}

-- a field that holds a number is that number's columns, and the number fits them
abbrev pub FieldsAreColumns : Type 0
FieldsAreColumns = (bs : List ℕ) (z : ℤ) → field_value bs ≡ Some z → (bs ≡ columns z) × (fits z ≡ true)

-- the columns of a number that fits them hold that number
abbrev pub ColumnsReadBack : Type 0
ColumnsReadBack = (z : ℤ) → fits z ≡ true → field_value (columns z) ≡ Some z

-- the letters of a word spell that word
abbrev pub WordsReadBack : Type 0
WordsReadBack = (k : Word) → word_of (slice_index (spelling k) 0) (slice_index (spelling k) 1) (slice_index (spelling k) 2) ≡ Some k

-- only the letters of a word spell it
abbrev pub WordsAreSpelled : Type 0
WordsAreSpelled = (a b c : ℕ) (k : Word) → word_of a b c ≡ Some k → a ∷ b ∷ c ∷ [] ≡ spelling k

-- a text without a fault is the rendering of its lines, and they fit
abbrev pub TextsAreRendered : Type 0
TextsAreRendered = (bs : List ℕ) → text_fault bs ≡ None → (rendered (lines_of bs) ≡ bs) × (all_fit (lines_of bs) ≡ true)

-- the rendering of lines that fit has those lines
abbrev pub LinesReadBack : Type 0
LinesReadBack = (ls : List Said) → all_fit ls ≡ true → lines_of (rendered ls) ≡ ls

-- lines that fit are rendered alike only where they are the same
abbrev pub RenderedOnce : Type 0
RenderedOnce = (ks ls : List Said) → all_fit ks ≡ true → all_fit ls ≡ true → rendered ks ≡ rendered ls → ks ≡ ls
