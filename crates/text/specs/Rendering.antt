-- The text of lines, as it is rendered.
use Rattle.std.specs.Prelude.{ℕ, ◌-◌, Bool, true, ◌&&◌, List, [], ◌∷◌, ◌++◌, length, replicate, ℤ, nat_le}
use Rattle.std.specs.List.{flat_map}
use Rattle.std.specs.Fmt.{signed_decimal}
use Rattle.text.specs.declared.line.Word.{Word}
use Rattle.text.specs.declared.line.Word.TheVariants as w
use Rattle.text.specs.Lines.{Said}

-- the six columns of a number: spaces, then its decimal
abbrev pub columns : ℤ → List ℕ
columns z = replicate (6 - length (signed_decimal z)) 32 ++ signed_decimal z

-- whether a number fits its six columns
abbrev pub fits : ℤ → Bool
fits z = nat_le (length (signed_decimal z)) 6

-- the three letters of a word
abbrev pub spelling : Word → List ℕ
spelling w.Inp = 73 ∷ 78 ∷ 80 ∷ []
spelling w.Run = 82 ∷ 85 ∷ 78 ∷ []
spelling w.Fun = 70 ∷ 85 ∷ 78 ∷ []
spelling w.Lit = 76 ∷ 73 ∷ 84 ∷ []
spelling w.Add = 65 ∷ 68 ∷ 68 ∷ []
spelling w.Sub = 83 ∷ 85 ∷ 66 ∷ []
spelling w.Mul = 77 ∷ 85 ∷ 76 ∷ []
spelling w.Div = 68 ∷ 73 ∷ 86 ∷ []
spelling w.Min = 77 ∷ 73 ∷ 78 ∷ []
spelling w.Max = 77 ∷ 65 ∷ 88 ∷ []
spelling w.New = 78 ∷ 69 ∷ 87 ∷ []
spelling w.Put = 80 ∷ 85 ∷ 84 ∷ []
spelling w.Nil = 78 ∷ 73 ∷ 76 ∷ []
spelling w.Con = 67 ∷ 79 ∷ 78 ∷ []
spelling w.Get = 71 ∷ 69 ∷ 84 ∷ []
spelling w.Cas = 67 ∷ 65 ∷ 83 ∷ []

-- a line: its word, the columns of each of its numbers, and byte 10
abbrev pub line_bytes : Said → List ℕ
line_bytes (k, zs) = spelling k ++ (flat_map columns zs ++ 10 ∷ [])

-- the text of lines
abbrev pub rendered : List Said → List ℕ
rendered ls = flat_map line_bytes ls

-- whether every one of the numbers fits its columns
abbrev pub each_fits : List ℤ → Bool
each_fits [] = true
each_fits (z ∷ zs) = fits z && each_fits zs

-- whether every number of a line fits its columns
abbrev pub fitting : Said → Bool
fitting (k, zs) = each_fits zs

-- whether every number of every line fits its columns
abbrev pub all_fit : List Said → Bool
all_fit [] = true
all_fit (l ∷ ls) = fitting l && all_fit ls
