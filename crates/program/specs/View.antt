-- The view of a program: the same data with lists in place of vectors, so that what a program does can be said of it.
use Rattle.std.specs.Prelude.{ℕ, List, map, ℤ, vec_items}
use Rattle.text.specs.declared.fields.Kind.{Kind}
use Rattle.program.specs.declared.arith.Op.{Op}
use Rattle.program.specs.declared.function.Command.{Command}
use Rattle.program.specs.declared.function.Command.TheVariants as c
use Rattle.program.specs.declared.function.Tail.{Tail}
use Rattle.program.specs.declared.function.Tail.TheVariants as t
use Rattle.program.specs.declared.function.Function.{Function}
use Rattle.program.specs.declared.program.Program.{Program}

-- a command: the number itself; an operation on two registers; a new modifiable, with its function and the arguments
pub data CommandView : Type 0 where
  LIT : ℤ → CommandView
  APPLY : Op → ℕ → ℕ → CommandView
  NEW : ℕ → List ℕ → CommandView

-- a tail: writes a number, the empty list or a cell; or reads a number, or a list, and enters a function with the arguments
pub data TailView : Type 0 where
  PUT : ℕ → TailView
  NIL : TailView
  CON : ℕ → ℕ → TailView
  GET : ℕ → ℕ → List ℕ → TailView
  CAS : ℕ → ℕ → ℕ → List ℕ → TailView

-- a function: the kind that it writes, the kinds of its parameters, its commands in order and its tail
pub record FunctionView : Type 0 where
  pub result : Kind
  pub params : List Kind
  pub commands : List CommandView
  pub tail : TailView

-- a program: so many inputs with a number, then so many with a list; the inputs given to function 0; the functions
pub record View : Type 0 where
  pub numbers : ℕ
  pub lists : ℕ
  pub run : List ℕ
  pub functions : List FunctionView

-- the view of a command
abbrev pub command_viewed : Command → CommandView
command_viewed (c.Lit z) = LIT z
command_viewed (c.Apply op a b) = APPLY op a b
command_viewed (c.New f args) = NEW f (vec_items args)

-- the view of a tail
abbrev pub tail_viewed : Tail → TailView
tail_viewed (t.Put a) = PUT a
tail_viewed t.Nil = NIL
tail_viewed (t.Con h l) = CON h l
tail_viewed (t.Get s f args) = GET s f (vec_items args)
tail_viewed (t.Cas s f g args) = CAS s f g (vec_items args)

-- the view of a function
abbrev pub function_viewed : Function → FunctionView
function_viewed f = record { result = f.result; params = vec_items f.params; commands = map command_viewed (vec_items f.commands); tail = tail_viewed f.tail }

-- the view of a program
abbrev pub viewed : Program → View
viewed p = record { numbers = p.numbers; lists = p.lists; run = vec_items p.run; functions = map function_viewed (vec_items p.functions) }
