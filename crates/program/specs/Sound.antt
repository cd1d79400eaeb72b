-- What a checked program guarantees to whoever runs it: what is named is there and of the right kind, and sizes keep to
-- their limits.
use Rattle.std.specs.Prelude.{◌≡◌, ℕ, ◌+◌, ◌<◌, ◌≤◌, ◌⊎◌, List, [], ◌∷◌, ◌++◌, length, replicate, slice_index_or}
use Rattle.text.specs.declared.fields.Kind.{Kind}
use Rattle.text.specs.declared.fields.Kind.TheVariants as k
use Rattle.program.specs.View.{CommandView, LIT, APPLY, NEW, TailView, PUT, NIL, CON, GET, CAS, FunctionView, View}

-- with registers of the kinds ks, register i is there and of kind x
abbrev pub Holds : List Kind → ℕ → Kind → Type 0
Holds ks i x = (i < length ks) × (slice_index_or ks i k.Number ≡ x)

-- the arguments name registers of the parameters' kinds, one for each parameter
abbrev pub Agree : List Kind → List ℕ → List Kind → Type 0
Agree ks [] [] = Unit {0}
Agree ks [] (x ∷ xs) = ⊥
Agree ks (i ∷ is) [] = ⊥
Agree ks (i ∷ is) (x ∷ xs) = Holds ks i x × Agree ks is xs

-- what is said of a function that is not there
abbrev pub no_function : FunctionView
no_function = record { result = k.Number; params = []; commands = []; tail = NIL }

-- function f of a program
abbrev pub function_at : View → ℕ → FunctionView
function_at v f = slice_index_or v.functions f no_function

-- function f is there, and takes values of the kinds `lead`, then the arguments
pub record Enters (v : View) (lead ks : List Kind) (f : ℕ) (args : List ℕ) : Type 0 where
  pub there : f < length v.functions
  pub rest : List Kind
  pub takes : (function_at v f).params ≡ lead ++ rest
  pub agree : Agree ks args rest

-- a tail enters function f so, and f writes the kind r too
abbrev pub GoesOn : View → Kind → List Kind → List Kind → ℕ → List ℕ → Type 0
GoesOn v r lead ks f args = Enters v lead ks f args × ((function_at v f).result ≡ r)

-- what a command names is there, and of the kinds that it wants
abbrev pub CommandSound : View → List Kind → CommandView → Type 0
CommandSound v ks (LIT z) = Unit {0}
CommandSound v ks (APPLY op a b) = Holds ks a k.Number × Holds ks b k.Number
CommandSound v ks (NEW f args) = Enters v [] ks f args

-- the kind of the register that a command defines
abbrev pub made_kind : View → CommandView → Kind
made_kind v (LIT z) = k.Number
made_kind v (APPLY op a b) = k.Number
made_kind v (NEW f args) = (function_at v f).result

-- what a tail names is there, and of the kinds that it wants, in a function that writes the kind r
abbrev pub TailSound : View → Kind → List Kind → TailView → Type 0
TailSound v r ks (PUT a) = Holds ks a k.Number × (r ≡ k.ModNumber)
TailSound v r ks NIL = r ≡ k.ModList
TailSound v r ks (CON h l) = Holds ks h k.ModNumber × Holds ks l k.ModList × (r ≡ k.ModList)
TailSound v r ks (GET s f args) = Holds ks s k.ModNumber × GoesOn v r (k.Number ∷ []) ks f args
TailSound v r ks (CAS s f g args) = Holds ks s k.ModList × GoesOn v r [] ks f args × GoesOn v r (k.ModNumber ∷ k.ModList ∷ []) ks g args

-- the commands one after another, each with one register more, and then the tail
abbrev pub BodySound : View → Kind → List Kind → List CommandView → TailView → Type 0
BodySound v r ks [] t = TailSound v r ks t
BodySound v r ks (c ∷ cs) t = CommandSound v ks c × BodySound v r (ks ++ made_kind v c ∷ []) cs t

-- a function: it writes a modifiable, has at most 6 parameters and 16 registers, and its parameters are the first registers
pub record FunctionSound (v : View) (f : FunctionView) : Type 0 where
  pub writes : (f.result ≡ k.ModNumber) ⊎ (f.result ≡ k.ModList)
  pub params_fit : length f.params ≤ 6
  pub registers_fit : length f.params + length f.commands ≤ 16
  pub body : BodySound v f.result f.params f.commands f.tail

-- how many commands and tails there are
abbrev pub steps_in : List FunctionView → ℕ
steps_in [] = 0
steps_in (f ∷ fs) = length f.commands + 1 + steps_in fs

-- the kinds of the inputs
abbrev pub input_kinds : View → List Kind
input_kinds v = replicate v.numbers k.ModNumber ++ replicate v.lists k.ModList

-- a program: 1 to 256 inputs, 1 to 64 functions, at most 512 commands and tails; each function is sound, and function 0
-- is given inputs of its parameters' kinds
pub record Sound (v : View) : Type 0 where
  pub some_inputs : 1 ≤ v.numbers + v.lists
  pub inputs_fit : v.numbers + v.lists ≤ 256
  pub some_functions : 1 ≤ length v.functions
  pub functions_fit : length v.functions ≤ 64
  pub steps_fit : steps_in v.functions ≤ 512
  pub each : (f : ℕ) → f < length v.functions → FunctionSound v (function_at v f)
  pub given : Agree (input_kinds v) v.run (function_at v 0).params
