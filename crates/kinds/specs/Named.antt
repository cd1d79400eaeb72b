-- What the fields of a line name.
use Rattle.std.specs.Prelude.{ℕ, ◌+◌, Bool, true, false, cond, ◌&&◌, List, [], ◌∷◌, ℤ, Some, None, Option, ◌==◌, nat_lt}
use Rattle.text.specs.declared.line.Word.{Word}
use Rattle.text.specs.declared.line.Word.TheVariants as w
use Rattle.text.specs.Numbers.{whole_of}
use Rattle.kinds.specs.declared.rules.Names.{Names}
use Rattle.kinds.specs.declared.rules.Names.TheVariants as m

-- what field j of a line names: a value, a register (of RUN, an input) or a function
abbrev pub names : Word → ℕ → Names
names w.Inp j = m.Value
names w.Run j = m.Register
names w.Fun j = m.Value
names w.Lit j = m.Value
names w.Add j = m.Register
names w.Sub j = m.Register
names w.Mul j = m.Register
names w.Div j = m.Register
names w.Min j = m.Register
names w.Max j = m.Register
names w.New j = cond (j == 0) m.Function m.Register
names w.Put j = m.Register
names w.Nil j = m.Value
names w.Con j = m.Register
names w.Get j = cond (j == 1) m.Function m.Register
names w.Cas j = cond (j == 1) m.Function (cond (j == 2) m.Function m.Register)

abbrev pub below : ℕ → Option ℕ → Bool
below n None = false
below n (Some i) = nat_lt i n

-- it is there, among so many registers and functions
abbrev pub there : ℕ → ℕ → Names → Option ℕ → Bool
there rs fs m.Value o = true
there rs fs m.Register o = below rs o
there rs fs m.Function o = below fs o

abbrev pub all_there : ℕ → ℕ → Word → ℕ → List ℤ → Bool
all_there rs fs k j [] = true
all_there rs fs k j (z ∷ zs) = there rs fs (names k j) (whole_of z) && all_there rs fs k (j + 1) zs
