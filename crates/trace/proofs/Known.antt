-- What code may name: the inputs, and the modifiables made before.
use mathlib.Core.Path.{◌≡◌, subst}
use mathlib.Core.List.{List, [], ◌∷◌, ◌++◌, map}
use mathlib.Core.Logic.{inr}
use Prim.Native.Nat.{ℕ, zero, suc}
use lib.IntN.{ℤ}
use Rattle.program.specs.Arith.{applied}
use Rattle.program.specs.View.{CommandView, LIT, APPLY, NEW, TailView, PUT, NIL, CON, GET, CAS, View}
use Rattle.program.specs.declared.value.Name.{Name}
use Rattle.program.specs.declared.value.Name.TheVariants.{Input, Made}
use Rattle.program.specs.declared.value.Content.{Content}
use Rattle.program.specs.declared.value.Content.TheVariants.{Number, Empty, Cell}
use Rattle.program.specs.declared.value.Value.{Value}
use Rattle.program.specs.declared.value.Value.TheVariants as val
use Rattle.trace.specs.Trace.{Among}
use Rattle.trace.specs.Code.{Code, Reader, get, cas, Next, writes, makes, reads, next, arguments, value_number, value_name, register, finish, steps}

-- the names that may be used where the modifiables of the records at ks have been made
abbrev pub Known : List ℕ → Name → Type 0
Known ks (Input k) = Unit {0}
Known ks (Made n) = Among n ks

abbrev pub KnownContent : List ℕ → Content → Type 0
KnownContent ks (Number z) = Unit {0}
KnownContent ks Empty = Unit {0}
KnownContent ks (Cell h t) = Known ks h × Known ks t

abbrev pub KnownValue : List ℕ → Value → Type 0
KnownValue ks (val.Number z) = Unit {0}
KnownValue ks (val.Mod a) = Known ks a

abbrev pub KnownValues : List ℕ → List Value → Type 0
KnownValues ks [] = Unit {0}
KnownValues ks (v ∷ vs) = KnownValue ks v × KnownValues ks vs

pub record More (ks ls : List ℕ) : Type 0 where
  pub among : (n : ℕ) → Among n ks → Among n ls

pub same_more : (ks : List ℕ) → More ks ks
same_more ks = record { among = λ n h. h }

pub then_more : {ks ls ms : List ℕ} → More ks ls → More ls ms → More ks ms
then_more a b = record { among = λ n h. b.among n (a.among n h) }

pub one_more : (n : ℕ) (ks : List ℕ) → More ks (n ∷ ks)
one_more n ks = record { among = λ m h. inr h }

pub more_name : {ks ls : List ℕ} → More ks ls → (a : Name) → Known ks a → Known ls a
more_name m (Input k) h = tt
more_name m (Made n) h = m.among n h

pub more_values : {ks ls : List ℕ} → More ks ls → (vs : List Value) → KnownValues ks vs → KnownValues ls vs
more_values m [] h = tt
more_values m (val.Number z ∷ vs) h = (tt, more_values m vs h.1)
more_values m (val.Mod a ∷ vs) h = (more_name m a h.0, more_values m vs h.1)

pub more_content : {ks ls : List ℕ} → More ks ls → (x : Content) → KnownContent ks x → KnownContent ls x
more_content m (Number z) h = tt
more_content m Empty h = tt
more_content m (Cell a b) h = (more_name m a h.0, more_name m b h.1)

module _ (ks : List ℕ) where
  abbrev pub KnownReader : Reader → Type 0
  KnownReader (get f vs) = KnownValues ks vs
  KnownReader (cas f g vs) = KnownValues ks vs

  abbrev pub KnownNext : Next → Type 0
  KnownNext (writes x) = KnownContent ks x
  KnownNext (makes f vs k) = KnownValues ks vs × KnownValues ks k.registers
  KnownNext (reads s b) = Known ks s × KnownReader b

  known_at : (vs : List Value) (i : ℕ) → KnownValues ks vs → KnownValue ks (register vs i)
  known_at [] i h = tt
  known_at (v ∷ vs) zero h = h.0
  known_at (v ∷ vs) (suc i) h = known_at vs i h.1

  known_all : (vs : List Value) (is : List ℕ) → KnownValues ks vs → KnownValues ks (map (register vs) is)
  known_all vs [] h = tt
  known_all vs (i ∷ is) h = (known_at vs i h, known_all vs is h)

  known_name : (v : Value) → KnownValue ks v → Known ks (value_name v)
  known_name (val.Number z) h = tt
  known_name (val.Mod a) h = h

  pub known_add : (vs : List Value) (v : Value) → KnownValues ks vs → KnownValue ks v → KnownValues ks (vs ++ (v ∷ []))
  known_add [] v h k = (k, tt)
  known_add (w ∷ vs) v h k = (h.0, known_add vs v h.1 k)

  known_finish : (t : TailView) (r : List Value) → KnownValues ks r → KnownNext (finish t r)
  known_finish (PUT a) r h = tt
  known_finish NIL r h = tt
  known_finish (CON a b) r h = (known_name (register r a) (known_at r a h), known_name (register r b) (known_at r b h))
  known_finish (GET s f is) r h = (known_name (register r s) (known_at r s h), known_all r is h)
  known_finish (CAS s f g is) r h = (known_name (register r s) (known_at r s h), known_all r is h)

  known_steps : (cs : List CommandView) (t : TailView) (r : List Value) → KnownValues ks r → KnownNext (steps cs t r)
  known_steps [] t r h = known_finish t r h
  known_steps (LIT v ∷ cs) t r h = known_steps cs t (r ++ (val.Number v ∷ [])) (known_add r (val.Number v) h tt)
  known_steps (APPLY o a b ∷ cs) t r h = let z : ℤ = applied o (value_number (register r a)) (value_number (register r b)) in known_steps cs t (r ++ (val.Number z ∷ [])) (known_add r (val.Number z) h tt)
  known_steps (NEW f is ∷ cs) t r h = (known_all r is h, h)

  pub known_next : (P : View) (c : Code) (x : Next) → next P c ≡ x → KnownValues ks c.registers → KnownNext x
  known_next P c x e h = subst KnownNext e (known_steps c.commands c.tail c.registers h)

  pub known_arguments : (b : Reader) (x : Content) → KnownReader b → KnownContent ks x → KnownValues ks (arguments b x)
  known_arguments (get f vs) x h k = (tt, h)
  known_arguments (cas f g vs) (Number z) h k = h
  known_arguments (cas f g vs) Empty h k = h
  known_arguments (cas f g vs) (Cell a b) h k = (k.0, (k.1, h))
