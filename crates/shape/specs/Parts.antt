-- The parts of a text: what may stand where, how many fields a line has, and which numbers.
use Rattle.std.specs.Prelude.{ℕ, ◌+◌, Bool, true, false, cond, ◌&&◌, List, drop, ℤ, pos, is_some, Some, None, Option, nat_le, slice_index_or}
use Rattle.std.specs.List.{list_all}
use Rattle.text.specs.declared.fields.Kind.{Kind}
use Rattle.text.specs.declared.fields.Kind.TheVariants as k
use Rattle.text.specs.declared.line.Word.{Word}
use Rattle.text.specs.declared.line.Word.TheVariants as w
use Rattle.text.specs.Numbers.{kind_of}
use Rattle.shape.specs.declared.standing.Part.{Part}
use Rattle.shape.specs.declared.standing.Part.TheVariants as p
use Rattle.shape.specs.declared.standing.Due.{Due}
use Rattle.shape.specs.declared.standing.Due.TheVariants as d

abbrev pub part_of : Word → Part
part_of w.Inp = p.Inputs
part_of w.Run = p.Run
part_of w.Fun = p.Head
part_of w.Lit = p.Command
part_of w.Add = p.Command
part_of w.Sub = p.Command
part_of w.Mul = p.Command
part_of w.Div = p.Command
part_of w.Min = p.Command
part_of w.Max = p.Command
part_of w.New = p.Command
part_of w.Put = p.Tail
part_of w.Nil = p.Tail
part_of w.Con = p.Tail
part_of w.Get = p.Tail
part_of w.Cas = p.Tail

abbrev pub is_tail : Part → Bool
is_tail p.Inputs = false
is_tail p.Run = false
is_tail p.Head = false
is_tail p.Command = false
is_tail p.Tail = true

-- what may stand where a part is due
abbrev pub fits : Due → Part → Bool
fits d.Inputs p.Inputs = true
fits d.Inputs p.Run = false
fits d.Inputs p.Head = false
fits d.Inputs p.Command = false
fits d.Inputs p.Tail = false
fits d.Run p.Inputs = false
fits d.Run p.Run = true
fits d.Run p.Head = false
fits d.Run p.Command = false
fits d.Run p.Tail = false
fits d.Head p.Inputs = false
fits d.Head p.Run = false
fits d.Head p.Head = true
fits d.Head p.Command = false
fits d.Head p.Tail = false
fits d.Body p.Inputs = false
fits d.Body p.Run = false
fits d.Body p.Head = false
fits d.Body p.Command = true
fits d.Body p.Tail = true

-- in its place, and a tail where it is the text's last line
abbrev pub placed : Due → Part → Bool → Bool
placed due part last = fits due part && cond last (is_tail part) true

-- the fewest and the most fields of a line
abbrev pub fewest : Word → ℕ
fewest w.Inp = 2
fewest w.Run = 0
fewest w.Fun = 1
fewest w.Lit = 1
fewest w.Add = 2
fewest w.Sub = 2
fewest w.Mul = 2
fewest w.Div = 2
fewest w.Min = 2
fewest w.Max = 2
fewest w.New = 1
fewest w.Put = 1
fewest w.Nil = 0
fewest w.Con = 2
fewest w.Get = 2
fewest w.Cas = 3

abbrev pub most : Word → ℕ
most w.Inp = 2
most w.Run = 6
most w.Fun = 7
most w.Lit = 1
most w.Add = 2
most w.Sub = 2
most w.Mul = 2
most w.Div = 2
most w.Min = 2
most w.Max = 2
most w.New = 7
most w.Put = 1
most w.Nil = 0
most w.Con = 2
most w.Get = 7
most w.Cas = 7

abbrev pub counted : Word → ℕ → Bool
counted k n = nat_le (fewest k) n && nat_le n (most k)

-- a kind of modifiable
abbrev pub result_kind : Option Kind → Bool
result_kind None = false
result_kind (Some k.Number) = false
result_kind (Some k.ModNumber) = true
result_kind (Some k.ModList) = true

abbrev pub all_kinds : List ℤ → Bool
all_kinds zs = list_all (λ z. is_some (kind_of z)) zs

abbrev pub head_stands : List ℤ → Bool
head_stands zs = result_kind (kind_of (slice_index_or zs 0 (pos 0))) && all_kinds (drop 1 zs)

-- the two numbers of INP
abbrev pub inputs_fit : Option ℕ → Option ℕ → Bool
inputs_fit None o = false
inputs_fit (Some a) None = false
inputs_fit (Some a) (Some b) = nat_le a 256 && (nat_le b 256 && (nat_le 1 (a + b) && nat_le (a + b) 256))
