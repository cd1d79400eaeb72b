-- Two runs of the same code from stores that are alike but for the names are alike.
use mathlib.Core.Path.{◌≡◌, refl, sym, ap, ap₂, subst, subst₂}
use mathlib.Core.Bool.{Bool, true, false, cond}
use mathlib.Core.List.{List, [], ◌∷◌, ◌++◌, map}
use mathlib.Core.Logic.{◌⊎◌, inl, inr}
use Prim.Native.Nat.{ℕ, zero, suc}
use native.Mathlib.Omega.{arith}
use lib.Dec.{eqb}
use lib.IntN.{ℤ}
use borrow.Author.Tests.{eqb-true, eqb-false}
use Rattle.program.specs.View.{CommandView, LIT, APPLY, NEW, TailView, PUT, NIL, CON, GET, CAS, View}
use Rattle.trace.specs.Code.{Code, Reader, get, cas, Next, writes, makes, reads, next, resume, enter, entered, arguments, value_number, value_name, register, finish, steps}
use Rattle.program.specs.Arith.{applied}
use Rattle.trace.specs.Trace.{Trace, write, new, read, written, size, places, Store, put, after, Absent, Distinct, Among}
use Rattle.trace.specs.Run.{Follows, Kept}
use Rattle.program.specs.declared.value.Name.{Name}
use Rattle.program.specs.declared.value.Name.TheVariants.{Input, Made}
use Rattle.program.specs.declared.value.Content.{Content}
use Rattle.program.specs.declared.value.Content.TheVariants.{Number, Empty, Cell}
use Rattle.program.specs.declared.value.Value.{Value}
use Rattle.program.specs.declared.value.Value.TheVariants as val
use Rattle.trace.proofs.Places.{apart, absent_left, absent_right, distinct_left, distinct_right, among_left, among_right}

-- which place of the one stands for which of the other
pub data Pairs : Type 0 where
  no_pair : Pairs
  pair : ℕ → ℕ → Pairs → Pairs

abbrev pub Both : ℕ → ℕ → Pairs → Type 0
Both a b no_pair = ⊥
Both a b (pair n m ps) = ((a ≡ n) × (b ≡ m)) ⊎ Both a b ps

pub record More (ps qs : Pairs) : Type 0 where
  pub both : (a b : ℕ) → Both a b ps → Both a b qs

pub data Rel (ps : Pairs) : Name → Name → Type 0 where
  same_input : {k : ℕ} → Rel ps (Input k) (Input k)
  same_made : {a b : ℕ} → Both a b ps → Rel ps (Made a) (Made b)

pub data RelValue (ps : Pairs) : Value → Value → Type 0 where
  same_num : {z : ℤ} → RelValue ps (val.Number z) (val.Number z)
  same_ref : {a b : Name} → Rel ps a b → RelValue ps (val.Mod a) (val.Mod b)

pub data RelValues (ps : Pairs) : List Value → List Value → Type 0 where
  nil : RelValues ps [] []
  cons : {v w : Value} {vs ws : List Value} → RelValue ps v w → RelValues ps vs ws → RelValues ps (v ∷ vs) (w ∷ ws)

pub data RelContent (ps : Pairs) : Content → Content → Type 0 where
  same_number : {z : ℤ} → RelContent ps (Number z) (Number z)
  both_empty : RelContent ps Empty Empty
  both_cell : {a b c d : Name} → Rel ps a c → Rel ps b d → RelContent ps (Cell a b) (Cell c d)

pub data RelReader (ps : Pairs) : Reader → Reader → Type 0 where
  both_get : {f : ℕ} {vs ws : List Value} → RelValues ps vs ws → RelReader ps (get f vs) (get f ws)
  both_cas : {f g : ℕ} {vs ws : List Value} → RelValues ps vs ws → RelReader ps (cas f g vs) (cas f g ws)

pub data RelNext (ps : Pairs) : Next → Next → Type 0 where
  both_write : {x y : Content} → RelContent ps x y → RelNext ps (writes x) (writes y)
  both_make : {f : ℕ} {vs ws r q : List Value} {cs : List CommandView} {t : TailView} → RelValues ps vs ws → RelValues ps r q →
      RelNext ps (makes f vs (record { registers = r; commands = cs; tail = t })) (makes f ws (record { registers = q; commands = cs; tail = t }))
  both_read : {a b : Name} {d e : Reader} → Rel ps a b → RelReader ps d e → RelNext ps (reads a d) (reads b e)

-- ── more pairs ──
more_rel : {ps qs : Pairs} {a b : Name} → More ps qs → Rel ps a b → Rel qs a b
more_rel m same_input = same_input
more_rel m (same_made {a = a} {b = b} h) = same_made (m.both a b h)

pub more_values : {ps qs : Pairs} {vs ws : List Value} → More ps qs → RelValues ps vs ws → RelValues qs vs ws
more_values m nil = nil
more_values m (cons same_num t) = cons same_num (more_values m t)
more_values m (cons (same_ref h) t) = cons (same_ref (more_rel m h)) (more_values m t)

pub more_content : {ps qs : Pairs} {x y : Content} → More ps qs → RelContent ps x y → RelContent qs x y
more_content m same_number = same_number
more_content m both_empty = both_empty
more_content m (both_cell h k) = both_cell (more_rel m h) (more_rel m k)

pub then_more : {ps qs rs : Pairs} → More ps qs → More qs rs → More ps rs
then_more a b = record { both = λ x y h. b.both x y (a.both x y h) }

pub one_pair : (n m : ℕ) (ps : Pairs) → More ps (pair n m ps)
one_pair n m ps = record { both = λ x y h. inr h }

-- ── what code does next ──
rel_at : {ps : Pairs} {r q : List Value} → RelValues ps r q → (i : ℕ) → RelValue ps (register r i) (register q i)
rel_at nil i = same_num
rel_at (cons h t) zero = h
rel_at (cons h t) (suc i) = rel_at t i

rel_all : {ps : Pairs} {r q : List Value} → RelValues ps r q → (is : List ℕ) → RelValues ps (map (register r) is) (map (register q) is)
rel_all h [] = nil
rel_all h (i ∷ is) = cons (rel_at h i) (rel_all h is)

rel_name : {ps : Pairs} {v w : Value} → RelValue ps v w → Rel ps (value_name v) (value_name w)
rel_name same_num = same_input
rel_name (same_ref h) = h

rel_number : {ps : Pairs} {v w : Value} → RelValue ps v w → value_number v ≡ value_number w
rel_number same_num = refl
rel_number (same_ref h) = refl

pub rel_add : {ps : Pairs} {r q : List Value} {v w : Value} → RelValues ps r q → RelValue ps v w → RelValues ps (r ++ (v ∷ [])) (q ++ (w ∷ []))
rel_add nil k = cons k nil
rel_add (cons h t) k = cons h (rel_add t k)

rel_num : {ps : Pairs} {y z : ℤ} → y ≡ z → RelValue ps (val.Number y) (val.Number z)
rel_num {ps} {y} e = subst (λ (z : ℤ). RelValue ps (val.Number y) (val.Number z)) e same_num

rel_finish : {ps : Pairs} (t : TailView) {r q : List Value} → RelValues ps r q → RelNext ps (finish t r) (finish t q)
rel_finish {ps} (PUT a) {r} {q} h =
    both_write (subst (λ (z : ℤ). RelContent ps (Number (value_number (register r a))) (Number z)) (rel_number (rel_at h a)) same_number)
rel_finish NIL h = both_write both_empty
rel_finish (CON a b) h = both_write (both_cell (rel_name (rel_at h a)) (rel_name (rel_at h b)))
rel_finish (GET s f is) h = both_read (rel_name (rel_at h s)) (both_get (rel_all h is))
rel_finish (CAS s f g is) h = both_read (rel_name (rel_at h s)) (both_cas (rel_all h is))

pub rel_steps : {ps : Pairs} (cs : List CommandView) (t : TailView) {r q : List Value} → RelValues ps r q → RelNext ps (steps cs t r) (steps cs t q)
rel_steps [] t h = rel_finish t h
rel_steps (LIT v ∷ cs) t h = rel_steps cs t (rel_add h same_num)
rel_steps (APPLY o a b ∷ cs) t h = rel_steps cs t (rel_add h (rel_num (ap₂ (applied o) (rel_number (rel_at h a)) (rel_number (rel_at h b)))))
rel_steps (NEW f is ∷ cs) t h = both_make (rel_all h is) h

pub rel_entered : {ps : Pairs} {b d : Reader} {x y : Content} → RelReader ps b d → RelContent ps x y → entered b x ≡ entered d y
rel_entered (both_get h) k = refl
rel_entered (both_cas h) same_number = refl
rel_entered (both_cas h) both_empty = refl
rel_entered (both_cas h) (both_cell k l) = refl

pub rel_arguments : {ps : Pairs} {b d : Reader} {x y : Content} → RelReader ps b d → RelContent ps x y → RelValues ps (arguments b x) (arguments d y)
rel_arguments (both_get h) same_number = cons same_num h
rel_arguments (both_get h) both_empty = cons same_num h
rel_arguments (both_get h) (both_cell k l) = cons same_num h
rel_arguments (both_cas h) same_number = h
rel_arguments (both_cas h) both_empty = h
rel_arguments (both_cas h) (both_cell k l) = cons (same_ref k) (cons (same_ref l) h)

-- ── what two such steps have in common ──
pub record MakesAlike (ps : Pairs) (f g : ℕ) (vs ws : List Value) (k l : Code) : Type 0 where
  pub fun : g ≡ f
  pub args : RelValues ps vs ws
  pub registers : RelValues ps k.registers l.registers
  pub rest : l ≡ record { registers = l.registers; commands = k.commands; tail = k.tail }

pub makes_alike : {ps : Pairs} {f g : ℕ} {vs ws : List Value} {k l : Code} → RelNext ps (makes f vs k) (makes g ws l) → MakesAlike ps f g vs ws k l
makes_alike (both_make h r) = record { fun = refl; args = h; registers = r; rest = refl }

pub record ReadsAlike (ps : Pairs) (a b : Name) (d e : Reader) : Type 0 where
  pub source : Rel ps a b
  pub reader : RelReader ps d e

pub reads_alike : {ps : Pairs} {a b : Name} {d e : Reader} → RelNext ps (reads a d) (reads b e) → ReadsAlike ps a b d e
reads_alike (both_read h k) = record { source = h; reader = k }

pub writes_alike : {ps : Pairs} {x y : Content} → RelNext ps (writes x) (writes y) → RelContent ps x y
writes_alike (both_write h) = h

-- ── stores ──
pub record Alike (ps : Pairs) (σ τ : Store) : Type 0 where
  pub at_name : (a b : Name) → Rel ps a b → RelContent ps (σ a) (τ b)

-- no place of the pairs is among those to come
pub record Off (ps : Pairs) (ns ms : List ℕ) : Type 0 where
  pub off : (a b : ℕ) → Both a b ps → Absent a ns × Absent b ms

pub put_alike : {ps : Pairs} {σ τ : Store} (n m : ℕ) (x y : Content) → Alike ps σ τ → RelContent ps x y → Off ps (n ∷ []) (m ∷ []) →
    Alike (pair n m ps) (put σ n x) (put τ m y)
put_alike {ps} {σ} {τ} n m x y g h o = record { at_name = each }
  where
    up : {v w : Content} → RelContent ps v w → RelContent (pair n m ps) v w
    up k = more_content (one_pair n m ps) k

    pick : (a b : ℕ) (p q : Bool) → eqb a n ≡ p → eqb b m ≡ q → Both a b (pair n m ps) → RelContent (pair n m ps) (cond p x (σ (Made a))) (cond q y (τ (Made b)))
    pick a b true true e f k = up h
    pick a b true false e f (inl k) = absurd (eqb-false b m f k.1)
    pick a b true false e f (inr k) = absurd ((o.off a b k).0.0 (eqb-true a n e))
    pick a b false true e f (inl k) = absurd (eqb-false a n e k.0)
    pick a b false true e f (inr k) = absurd ((o.off a b k).1.0 (eqb-true b m f))
    pick a b false false e f (inl k) = absurd (eqb-false a n e k.0)
    pick a b false false e f (inr k) = up (g.at_name (Made a) (Made b) (same_made k))

    each : (a b : Name) → Rel (pair n m ps) a b → RelContent (pair n m ps) (put σ n x a) (put τ m y b)
    each a b (same_input {k = k}) = up (g.at_name (Input k) (Input k) same_input)
    each c d (same_made {a = a} {b = b} k) = pick a b (eqb a n) (eqb b m) refl refl k

-- ── two runs ──
-- the pairs qs are those of ps, or of the places given
pub record Only (ps qs : Pairs) (ns ms : List ℕ) : Type 0 where
  pub only : (a b : ℕ) → Both a b qs → Both a b ps ⊎ (Among a ns × Among b ms)

pub record Ran (ps : Pairs) (σ τ : Store) (u v : Trace) : Type 0 where
  pub pairs : Pairs
  pub more : More ps pairs
  pub alike : Alike pairs (after u σ) (after v τ)
  pub wrote_alike : RelContent pairs (written u) (written v)
  pub sizes : size u ≡ size v
  pub onlys : Only ps pairs (places u) (places v)

abbrev pub code : List Value → List CommandView → TailView → Code
code r cs t = record { registers = r; commands = cs; tail = t }

pub next_two : {ps : Pairs} (P : View) (cs : List CommandView) (t : TailView) {r q : List Value} {x y : Next} → RelValues ps r q →
    next P (code r cs t) ≡ x → next P (code q cs t) ≡ y → RelNext ps x y
next_two {ps} P cs t h e f = subst₂ (RelNext ps) e f (rel_steps cs t h)

-- what is off the whole is off its parts
pub off_rest : {ps : Pairs} {n m : ℕ} {ns ms : List ℕ} → Off ps (n ∷ ns) (m ∷ ms) → Off ps ns ms
off_rest o = record { off = λ a b h. let k = o.off a b h in (k.0.1, k.1.1) }

pub off_left : {ps : Pairs} (ns qs ms rs : List ℕ) → Off ps (ns ++ qs) (ms ++ rs) → Off ps ns ms
off_left ns qs ms rs o = record { off = λ a b h. let k = o.off a b h in (absent_left a ns qs k.0, absent_left b ms rs k.1) }

pub off_right : {ps : Pairs} (ns qs ms rs : List ℕ) → Off ps (ns ++ qs) (ms ++ rs) → Off ps qs rs
off_right ns qs ms rs o = record { off = λ a b h. let k = o.off a b h in (absent_right a ns qs k.0, absent_right b ms rs k.1) }

among_absent : (n : ℕ) (ps qs : List ℕ) → Distinct (ps ++ qs) → Among n ps → Absent n qs
among_absent n [] qs d h = absurd h
among_absent n (p ∷ ps) qs d (inl e) = subst (λ (z : ℕ). Absent z qs) (sym e) (absent_right p ps qs d.0)
among_absent n (p ∷ ps) qs d (inr h) = among_absent n ps qs d.1 h

module _ {ps rs : Pairs} (n m : ℕ) (is js ks ls : List ℕ) (o : Off ps (n ∷ (is ++ js)) (m ∷ (ks ++ ls)))
    (d : Distinct (n ∷ (is ++ js))) (e : Distinct (m ∷ (ks ++ ls)))
    (O : Only ps rs is ks) where
  pub off_now : Off rs (n ∷ []) (m ∷ [])
  off_now = record { off = λ a b h. pick a b (O.only a b h) }
    where
      pick : (a b : ℕ) → Both a b ps ⊎ (Among a is × Among b ks) → Absent a (n ∷ []) × Absent b (m ∷ [])
      pick a b (inl h) = let k = o.off a b h in ((k.0.0, tt), (k.1.0, tt))
      pick a b (inr h) = ((apart n a is (absent_left n is js d.0) h.0, tt), (apart m b ks (absent_left m ks ls e.0) h.1, tt))

  pub off_then : Off (pair n m rs) js ls
  off_then = record { off = each }
    where
      pick : (a b : ℕ) → Both a b ps ⊎ (Among a is × Among b ks) → Absent a js × Absent b ls
      pick a b (inl h) = let k = o.off a b h in (absent_right a is js k.0.1, absent_right b ks ls k.1.1)
      pick a b (inr h) = (among_absent a is js d.1 h.0, among_absent b ks ls e.1 h.1)

      each : (a b : ℕ) → Both a b (pair n m rs) → Absent a js × Absent b ls
      each a b (inl h) = (subst (λ (z : ℕ). Absent z js) (sym h.0) (absent_right n is js d.0), subst (λ (z : ℕ). Absent z ls) (sym h.1) (absent_right m ks ls e.0))
      each a b (inr h) = pick a b (O.only a b h)

  -- the pairs of what follows, seen from before
  pub only_all : {qs : Pairs} → Only (pair n m rs) qs js ls → Only ps qs (n ∷ (is ++ js)) (m ∷ (ks ++ ls))
  only_all {qs} w = record { only = λ a b h. one a b (w.only a b h) }
    where
      two : (a b : ℕ) → Both a b ps ⊎ (Among a is × Among b ks) → Both a b ps ⊎ (Among a (n ∷ (is ++ js)) × Among b (m ∷ (ks ++ ls)))
      two a b (inl k) = inl k
      two a b (inr k) = inr (inr (among_left a is js k.0), inr (among_left b ks ls k.1))

      one : (a b : ℕ) → Both a b (pair n m rs) ⊎ (Among a js × Among b ls) → Both a b ps ⊎ (Among a (n ∷ (is ++ js)) × Among b (m ∷ (ks ++ ls)))
      one a b (inl (inl k)) = inr (inl k.0, inl k.1)
      one a b (inl (inr k)) = two a b (O.only a b k)
      one a b (inr k) = inr (inr (among_right a is js k.0), inr (among_right b ks ls k.1))

pub only_read : {ps qs : Pairs} (n m : ℕ) {is ks : List ℕ} → Only ps qs is ks → Only ps qs (n ∷ is) (m ∷ ks)
only_read n m w = record { only = λ a b h. elim (w.only a b h) [ inl k ↦ inl k | inr k ↦ inr (inr k.0, inr k.1) ] }

abbrev pub kind : Next → ℕ
kind (writes x) = 0
kind (makes f vs k) = 1
kind (reads s b) = 2

rel_kind : {ps : Pairs} {x y : Next} → RelNext ps x y → kind x ≡ kind y
rel_kind (both_write h) = refl
rel_kind (both_make h k) = refl
rel_kind (both_read h k) = refl

pub clash : {ps : Pairs} {x y : Next} → RelNext ps x y → (kind x ≡ kind y → ⊥) → ⊥
clash h k = k (rel_kind h)

pub run_alike : (P : View) (u v : Trace) (cs : List CommandView) (t : TailView) (r q : List Value) (ps : Pairs) (σ τ : Store) →
    Follows P u (code r cs t) → Kept u σ → Follows P v (code q cs t) → Kept v τ → RelValues ps r q → Alike ps σ τ →
    Distinct (places u) → Distinct (places v) → Off ps (places u) (places v) → Ran ps σ τ u v
run_alike P (write x) (write y) cs t r q ps σ τ o k o' k' h g d d' off =
    record { pairs = ps; more = record { both = λ a b z. z }; alike = g; wrote_alike = writes_alike (next_two P cs t h o o'); sizes = refl; onlys = record { only = λ a b z. inl z } }
run_alike P (write x) (new n' f' vs' inner' rest') cs t r q ps σ τ o k o' k' h g d d' off = absurd (clash (next_two P cs t h o o'.1) (λ z. omega arith))
run_alike P (write x) (read n' s' b' y rest') cs t r q ps σ τ o k o' k' h g d d' off = absurd (clash (next_two P cs t h o o'.0) (λ z. omega arith))
run_alike P (new n f vs inner rest) (write y) cs t r q ps σ τ o k o' k' h g d d' off = absurd (clash (next_two P cs t h o.1 o') (λ z. omega arith))
run_alike P (new n f vs inner rest) (new n' f' vs' inner' rest') cs t r q ps σ τ o k o' k' h g d d' off =
    let M = makes_alike (next_two P cs t h o.1 o'.1) in
    let A = run_alike P inner inner' (enter P f vs).commands (enter P f vs).tail vs vs' ps σ τ o.2 k.0
    (subst (λ (z : ℕ). Follows P inner' (enter P z vs')) M.fun o'.2) k'.0 M.args g
    (distinct_left (places inner) (places rest) d.1) (distinct_left (places inner') (places rest') d'.1)
    (off_left (places inner) (places rest) (places inner') (places rest') (off_rest off)) in
    let m = then_more A.more (one_pair n n' A.pairs) in
    let B = run_alike P rest rest' o.0.commands o.0.tail (o.0.registers ++ (val.Mod (Made n) ∷ [])) (o'.0.registers ++ (val.Mod (Made n') ∷ [])) (pair n n' A.pairs)
    (put (after inner σ) n (written inner)) (put (after inner' τ) n' (written inner'))
    o.3 k.1 (subst (λ (z : Code). Follows P rest' (resume z n')) M.rest o'.3) k'.1
    (rel_add (more_values m M.registers) (same_ref (same_made (inl (refl, refl)))))
    (put_alike n n' (written inner) (written inner') A.alike A.wrote_alike (off_now n n' (places inner) (places rest) (places inner') (places rest') off d d' A.onlys))
    (distinct_right (places inner) (places rest) d.1) (distinct_right (places inner') (places rest') d'.1)
    (off_then n n' (places inner) (places rest) (places inner') (places rest') off d d' A.onlys) in
    record {
      pairs = B.pairs;
      more = then_more m B.more;
      alike = B.alike;
      wrote_alike = B.wrote_alike;
      sizes = omega (arith, A.sizes, B.sizes);
      onlys = only_all n n' (places inner) (places rest) (places inner') (places rest') off d d' A.onlys B.onlys;
    }
run_alike P (new n f vs inner rest) (read n' s' b' y rest') cs t r q ps σ τ o k o' k' h g d d' off = absurd (clash (next_two P cs t h o.1 o'.0) (λ z. omega arith))
run_alike P (read n s b x rest) (write y) cs t r q ps σ τ o k o' k' h g d d' off = absurd (clash (next_two P cs t h o.0 o') (λ z. omega arith))
run_alike P (read n s b x rest) (new n' f' vs' inner' rest') cs t r q ps σ τ o k o' k' h g d d' off = absurd (clash (next_two P cs t h o.0 o'.1) (λ z. omega arith))
run_alike P (read n s b x rest) (read n' s' b' y rest') cs t r q ps σ τ o k o' k' h g d d' off =
    let R = reads_alike (next_two P cs t h o.0 o'.0) in
    let X : RelContent ps x y = subst₂ (RelContent ps) k.0 k'.0 (g.at_name s s' R.source) in
    let A = run_alike P rest rest' (enter P (entered b x) (arguments b x)).commands (enter P (entered b x) (arguments b x)).tail (arguments b x) (arguments b' y) ps σ τ o.1 k.1
    (subst (λ (z : ℕ). Follows P rest' (enter P z (arguments b' y))) (sym (rel_entered R.reader X)) o'.1) k'.1
    (rel_arguments R.reader X) g d.1 d'.1 (off_rest off) in
    record {
      pairs = A.pairs;
      more = A.more;
      alike = A.alike;
      wrote_alike = A.wrote_alike;
      sizes = ap suc A.sizes;
      onlys = only_read n n' A.onlys;
    }
