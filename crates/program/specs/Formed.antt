-- Lines in the right order, each with fields that can be read back.
use Rattle.std.specs.Prelude.{◌≡◌, ℕ, ◌≤◌, true, List, [], ◌∷◌, map, length, ℤ}
use Rattle.std.specs.Option.{unwrap_or}
use Rattle.text.specs.declared.line.Word.{Word}
use Rattle.text.specs.declared.line.Word.TheVariants as w
use Rattle.text.specs.Lines.{Said}
use Rattle.text.specs.Numbers.{whole_of}
use Rattle.shape.specs.declared.standing.Part.{Part}
use Rattle.shape.specs.declared.standing.Part.TheVariants as p
use Rattle.shape.specs.declared.standing.Due.{Due}
use Rattle.shape.specs.declared.standing.Due.TheVariants as d
use Rattle.shape.specs.Parts.{part_of, fits}
use Rattle.kinds.specs.Kinds.{kinds_in}
use Rattle.program.specs.Programs.{wholes, kind_number}

-- what a field names
abbrev pub entry_of : ℤ → ℕ
entry_of z = unwrap_or (whole_of z) 0

abbrev pub entries : List ℤ → List ℕ
entries zs = map entry_of zs

-- the fields name something each
abbrev pub Whole : List ℤ → Type 0
Whole zs = wholes (entries zs) ≡ zs

-- so many fields, and each names something where it should
abbrev pub Held : Word → List ℤ → Type 0
Held w.Inp zs = (length zs ≡ 2) × Whole zs
Held w.Run zs = Whole zs
Held w.Fun zs = (1 ≤ length zs) × (map kind_number (kinds_in zs) ≡ zs)
Held w.Lit zs = length zs ≡ 1
Held w.Add zs = (length zs ≡ 2) × Whole zs
Held w.Sub zs = (length zs ≡ 2) × Whole zs
Held w.Mul zs = (length zs ≡ 2) × Whole zs
Held w.Div zs = (length zs ≡ 2) × Whole zs
Held w.Min zs = (length zs ≡ 2) × Whole zs
Held w.Max zs = (length zs ≡ 2) × Whole zs
Held w.New zs = (1 ≤ length zs) × Whole zs
Held w.Put zs = (length zs ≡ 1) × Whole zs
Held w.Nil zs = length zs ≡ 0
Held w.Con zs = (length zs ≡ 2) × Whole zs
Held w.Get zs = (2 ≤ length zs) × Whole zs
Held w.Cas zs = (3 ≤ length zs) × Whole zs

-- what is due behind a part
abbrev pub due_after : Part → Due
due_after p.Inputs = d.Run
due_after p.Run = d.Head
due_after p.Head = d.Body
due_after p.Command = d.Body
due_after p.Tail = d.Head

-- these lines are due, up to the end of a function
abbrev pub Formed : Due → List Said → Type 0
Formed due [] = due ≡ d.Head
Formed due ((k, zs) ∷ ls) = (fits due (part_of k) ≡ true) × Held k zs × Formed (due_after (part_of k)) ls

-- the numbers of the next line, and the lines behind it
abbrev pub Gives : List Said → List ℤ → List Said → Type 0
Gives [] zs ls = (zs ≡ []) × (ls ≡ [])
Gives ((k, ys) ∷ xs) zs ls = (zs ≡ ys) × (ls ≡ xs)
