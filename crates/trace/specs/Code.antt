-- The code of a function while it runs, and what it does next.
--
-- A program that the check accepts is sound (Rattle.program.specs.Sound): the registers, functions and inputs that it names are there,
-- and of the kinds that are wanted. What these definitions say of any other program keeps them total, and is never reached.
use Rattle.std.specs.Prelude.{List, [], ◌∷◌, ◌++◌, map, ℕ, suc, get_or, ℤ, pos}
use Rattle.program.specs.Arith.{applied}
use Rattle.program.specs.View.{CommandView, LIT, APPLY, NEW, TailView, PUT, NIL, CON, GET, CAS, View}
use Rattle.program.specs.Sound.{function_at}
use Rattle.program.specs.declared.value.Name.{Name}
use Rattle.program.specs.declared.value.Name.TheVariants.{Input, Made}
use Rattle.program.specs.declared.value.Content.{Content}
use Rattle.program.specs.declared.value.Content.TheVariants.{Number, Empty, Cell}
use Rattle.program.specs.declared.value.Value.{Value}
use Rattle.program.specs.declared.value.Value.TheVariants as val

-- the code of a function while it runs: its registers so far, the commands still to run, and its tail
pub record Code : Type 0 where
  pub registers : List Value
  pub commands : List CommandView
  pub tail : TailView

-- the reader of a GET or CAS: what it does with the content that it takes
--   get f vs     enters f with the number, then vs
--   cas f g vs   enters f with vs on the empty list, and g with head, tail, then vs on a cell
pub data Reader : Type 0 where
  get : ℕ → List Value → Reader
  cas : ℕ → ℕ → List Value → Reader

-- what code does next
--   writes x       it writes x to its destination, and is done
--   makes f vs c   it makes a modifiable that f, with arguments vs, writes; then c goes on
--   reads s b      it reads the modifiable s, and the reader b goes on
pub data Next : Type 0 where
  writes : Content → Next
  makes : ℕ → List Value → Code → Next
  reads : Name → Reader → Next

-- register i; behind the last (unreachable: a sound program names registers that are there) it is a number
abbrev pub register : List Value → ℕ → Value
register r i = get_or r i (val.Number (pos 0))

-- the number in a register; a modifiable (unreachable: the operands of operations and of PUT are numbers) counts as 0
abbrev pub value_number : Value → ℤ
value_number (val.Number z) = z
value_number (val.Mod a) = pos 0

-- the modifiable in a register; a number (unreachable: CON, GET and CAS name modifiables) counts as input 0
abbrev pub value_name : Value → Name
value_name (val.Number z) = Input 0
value_name (val.Mod a) = a

-- what a tail does, with the registers r
abbrev pub finish : TailView → List Value → Next
finish (PUT a) r = writes (Number (value_number (register r a)))
finish NIL r = writes Empty
finish (CON h t) r = writes (Cell (value_name (register r h)) (value_name (register r t)))
finish (GET s f args) r = reads (value_name (register r s)) (get f (map (register r) args))
finish (CAS s f g args) r = reads (value_name (register r s)) (cas f g (map (register r) args))

-- what commands and then a tail do next, with the registers r: LIT and the operations define registers, a NEW is next
abbrev pub steps : List CommandView → TailView → List Value → Next
steps [] t r = finish t r
steps (LIT z ∷ cs) t r = steps cs t (r ++ (val.Number z ∷ []))
steps (APPLY op a b ∷ cs) t r = steps cs t (r ++ (val.Number (applied op (value_number (register r a)) (value_number (register r b))) ∷ []))
steps (NEW f args ∷ cs) t r = makes f (map (register r) args) (record { registers = r; commands = cs; tail = t })

-- what code of the program P does next
abbrev pub next : View → Code → Next
next P c = steps c.commands c.tail c.registers

-- code goes on behind its NEW, with the modifiable of the record at place n in the next register
abbrev pub resume : Code → ℕ → Code
resume c n = record { registers = c.registers ++ (val.Mod (Made n) ∷ []); commands = c.commands; tail = c.tail }

-- function f is entered with the arguments vs, its first registers; one that is not there (unreachable) writes the empty list
abbrev pub enter : View → ℕ → List Value → Code
enter P f vs = record { registers = vs; commands = (function_at P f).commands; tail = (function_at P f).tail }

-- the number that a GET took; a list (unreachable: a GET reads modifiables with a number) counts as 0
abbrev pub content_number : Content → ℤ
content_number (Number z) = z
content_number Empty = pos 0
content_number (Cell h t) = pos 0

-- the function that a reader enters with the content x; a number (unreachable: a CAS reads modifiables with a list) counts as empty
abbrev pub entered : Reader → Content → ℕ
entered (get f vs) x = f
entered (cas f g vs) (Number z) = f
entered (cas f g vs) Empty = f
entered (cas f g vs) (Cell h t) = g

-- the arguments that it enters it with
abbrev pub arguments : Reader → Content → List Value
arguments (get f vs) x = val.Number (content_number x) ∷ vs
arguments (cas f g vs) (Number z) = vs
arguments (cas f g vs) Empty = vs
arguments (cas f g vs) (Cell h t) = val.Mod h ∷ val.Mod t ∷ vs

-- the registers 0, 1, .. of a list of inputs, from i on
abbrev pub count_from : ℕ → List ℕ → List ℕ
count_from i [] = []
count_from i (k ∷ ks) = i ∷ count_from (suc i) ks

-- the code of a whole run: a NEW of function 0, given the inputs of RUN; the tail behind it writes nothing that anything reads
abbrev pub main : View → Code
main P = record { registers = map (λ (k : ℕ). val.Mod (Input k)) P.run; commands = NEW 0 (count_from 0 P.run) ∷ []; tail = NIL }
