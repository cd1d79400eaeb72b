-- The plain run is the run whose records stand at their numbers, and every run shows its listing.
use mathlib.Core.Path.{◌≡◌, refl, sym, ◌∙◌, ap, ap₂, subst}
use mathlib.Core.Bool.{Bool, true, false, cond}
use mathlib.Core.List.{List, [], ◌∷◌, ◌++◌, map}
use mathlib.Core.Option.{Option, some, none, some-injective, none-ne-some}
use mathlib.Core.Logic.{◌↔◌}
use Prim.Native.Nat.{ℕ, zero, suc, ◌+◌, ◌≤◌, ◌<◌}
use native.Mathlib.Omega.{arith}
use lib.Dec.{eqb, leb}
use lib.ListN.{length, length-append, get_or}
use borrow.Author.Tests.{eqb-true, eq-eqb, ne_eqb, le-leb, lt-leb, leb-true, leb-false}
use Rattle.program.specs.View.{View}
use Rattle.trace.specs.Code.{Code, Reader, Next, writes, makes, reads, next, resume, enter, entered, arguments, main}
use Rattle.trace.specs.Trace.{Trace, write, new, read, written, size, places, Store, put, after, Absent, Distinct}
use Rattle.trace.specs.Run.{Follows, Kept, trace_of, trace_next, bind, initial, at_most, plain_run, content_of_input, Stands}
use Rattle.program.specs.declared.value.InputContent.{InputContent}
use Rattle.program.specs.declared.value.InputContent.TheVariants.{Number as number, Empty as empty, Cell as cell}
use Rattle.trace.specs.Listing.{rename, rename_value, rename_content, rename_trace, rank, rank_in, lines, canonical, result_of}
use Rattle.trace.specs.Laws.{Shows, ShowsThePlainRun, PlainRunStands}
use Rattle.program.specs.declared.value.Name.{Name}
use Rattle.program.specs.declared.value.Name.TheVariants.{Input, Made}
use Rattle.program.specs.declared.value.Content.{Content}
use Rattle.program.specs.declared.value.Value.{Value}
use Rattle.program.specs.declared.value.Value.TheVariants as val
use Rattle.trace.proofs.Renamed.{follows_renamed, kept_carried, Carried, size_renamed, rename_code}

-- the records stand at i, i + 1, ..
abbrev pub Numbered : ℕ → Trace → Type 0
Numbered i (write x) = Unit {0}
Numbered i (new n f vs inner rest) = (n ≡ i) × Numbered (suc i) inner × Numbered (suc i + size inner) rest
Numbered i (read n s b x rest) = (n ≡ i) × Numbered (suc i) rest

pub trace_next_at : (P : View) (below : Code → Store → ℕ → Option Trace) (σ : Store) (i : ℕ) {x y : Next} → x ≡ y → trace_next P below x σ i ≡ trace_next P below y σ i
trace_next_at P below σ i e = ap (λ (x : Next). trace_next P below x σ i) e

module _ (P : View) (below : Code → Store → ℕ → Option Trace) (σ : Store) (i : ℕ) where
  make_found : (k : Code) {n f : ℕ} {vs : List Value} {inner rest : Trace} → n ≡ i → below (enter P f vs) σ (suc i) ≡ some inner →
      below (resume k n) (put (after inner σ) n (written inner)) (suc i + size inner) ≡ some rest → trace_next P below (makes f vs k) σ i ≡ some (new n f vs inner rest)
  make_found k {n} {f} {vs} {inner} {rest} e a b =
      ap (λ (o : Option Trace). bind o (λ u. bind (below (resume k i) (put (after u σ) i (written u)) (suc i + size u)) (λ v. some (new i f vs u v)))) a
      ∙ ap (λ (o : Option Trace). bind o (λ v. some (new i f vs inner v)))
      (subst (λ (j : ℕ). below (resume k j) (put (after inner σ) j (written inner)) (suc i + size inner) ≡ some rest) e b)
      ∙ ap {B = Option Trace} (λ (j : ℕ). some (new j f vs inner rest)) (sym e)

  read_found : {n : ℕ} {s : Name} {b : Reader} {x : Content} {rest : Trace} → n ≡ i → σ s ≡ x →
      below (enter P (entered b x) (arguments b x)) σ (suc i) ≡ some rest → trace_next P below (reads s b) σ i ≡ some (read n s b x rest)
  read_found {n} {s} {b} {x} {rest} e p a =
      ap (λ (y : Content). bind (below (enter P (entered b y) (arguments b y)) σ (suc i)) (λ v. some (read i s b y v))) p
      ∙ ap (λ (o : Option Trace). bind o (λ v. some (read i s b x v))) a ∙ ap {B = Option Trace} (λ (j : ℕ). some (read j s b x rest)) (sym e)

-- deep enough, the computation finds the run
pub found : (P : View) (t : Trace) (d : ℕ) (c : Code) (σ : Store) (i : ℕ) → size t ≤ d → Follows P t c → Kept t σ → Numbered i t → trace_of P (suc d) c σ i ≡ some t
found P (write x) d c σ i h o k n = trace_next_at P (trace_of P d) σ i o
found P (new n f vs inner rest) zero c σ i h o k m = absurd (omega arith)
found P (new n f vs inner rest) (suc d) c σ i h o k m =
    trace_next_at P (trace_of P (suc d)) σ i o.1 ∙ make_found P (trace_of P (suc d)) σ i o.0 m.0
    (found P inner d (enter P f vs) σ (suc i) (omega arith) o.2 k.0 m.1)
    (found P rest d (resume o.0 n) (put (after inner σ) n (written inner)) (suc i + size inner) (omega arith) o.3 k.1 m.2)
found P (read n s b x rest) zero c σ i h o k m = absurd (omega arith)
found P (read n s b x rest) (suc d) c σ i h o k m =
    trace_next_at P (trace_of P (suc d)) σ i o.0 ∙ read_found P (trace_of P (suc d)) σ i m.0 k.0
    (found P rest d (enter P (entered b x) (arguments b x)) σ (suc i) (omega arith) o.1 k.1 m.1)

-- what the computation finds is the run whose records stand at their numbers
pub record Plain (P : View) (c : Code) (σ : Store) (i : ℕ) (t : Trace) : Type 0 where
  pub follows : Follows P t c
  pub all_kept : Kept t σ
  pub numbered : Numbered i t

pub bind_some : (o : Option Trace) (k : Trace → Option Trace) {t : Trace} → bind o k ≡ some t → (u : Trace) × (o ≡ some u) × (k u ≡ some t)
bind_some none k {t} e = absurd (none-ne-some t e)
bind_some (some u) k e = (u, refl, e)

pub some_same : {t u : Trace} → ◌≡◌ {A = Option Trace} (some t) (some u) → t ≡ u
some_same {t} {u} e = some-injective t u e

right_step : (P : View) (below : Code → Store → ℕ → Option Trace)
    (rec : (c : Code) (σ : Store) (i : ℕ) (t : Trace) → below c σ i ≡ some t → Plain P c σ i t)
    (c : Code) (σ : Store) (i : ℕ) (t : Trace) (x : Next) → next P c ≡ x → trace_next P below x σ i ≡ some t → Plain P c σ i t
right_step P below rec c σ i t (writes y) p q =
    subst (Plain P c σ i) (some_same q) (record { follows = p; all_kept = tt; numbered = tt })
right_step P below rec c σ i t (makes f vs k) p q =
    let a = bind_some (below (enter P f vs) σ (suc i)) _ q in
    let u = a.0 in
    let b = bind_some (below (resume k i) (put (after u σ) i (written u)) (suc i + size u)) _ a.2 in
    let v = b.0 in
    let A = rec (enter P f vs) σ (suc i) u a.1 in
    let B = rec (resume k i) (put (after u σ) i (written u)) (suc i + size u) v b.1 in
    subst (Plain P c σ i) (some_same b.2)
    (record { follows = (k, p, A.follows, B.follows); all_kept = (A.all_kept, B.all_kept); numbered = (refl, A.numbered, B.numbered) })
right_step P below rec c σ i t (reads s b) p q =
    let a = bind_some (below (enter P (entered b (σ s)) (arguments b (σ s))) σ (suc i)) _ q in
    let A = rec (enter P (entered b (σ s)) (arguments b (σ s))) σ (suc i) a.0 a.1 in
    subst (Plain P c σ i) (some_same a.2)
    (record { follows = (p, A.follows); all_kept = (refl, A.all_kept); numbered = (refl, A.numbered) })

pub right : (P : View) (d : ℕ) (c : Code) (σ : Store) (i : ℕ) (t : Trace) → trace_of P d c σ i ≡ some t → Plain P c σ i t
right P zero c σ i t e = absurd (none-ne-some t e)
right P (suc d) c σ i t e = right_step P (trace_of P d) (right P d) c σ i t (next P c) refl e

-- there is one such run
pub one_plain : (P : View) (c : Code) (σ : Store) (i : ℕ) (t u : Trace) → Plain P c σ i t → Plain P c σ i u → t ≡ u
one_plain P c σ i t u a b =
    some_same (sym (found P t (size t + size u) c σ i (omega arith) a.follows a.all_kept a.numbered)
    ∙ found P u (size t + size u) c σ i (omega arith) b.follows b.all_kept b.numbered)

-- ρ numbers a list of places from i
abbrev pub Ranks : (ℕ → ℕ) → ℕ → List ℕ → Type 0
Ranks ρ i [] = Unit {0}
Ranks ρ i (p ∷ ps) = (ρ p ≡ i) × Ranks ρ (suc i) ps

pub ranks-++ : (ρ : ℕ → ℕ) (i : ℕ) (ps qs : List ℕ) → Ranks ρ i (ps ++ qs) → Ranks ρ i ps × Ranks ρ (i + length ps) qs
ranks-++ ρ i [] qs h = (tt, subst (λ (j : ℕ). Ranks ρ j qs) (omega arith) h)
ranks-++ ρ i (p ∷ ps) qs h =
    let r = ranks-++ ρ (suc i) ps qs h.1 in
    ((h.0, r.0), subst (λ (j : ℕ). Ranks ρ j qs) (omega arith) r.1)

pub length_places : (t : Trace) → length (places t) ≡ size t
length_places (write x) = refl
length_places (new n f vs inner rest) = ap suc (length-append (places inner) (places rest) ∙ ap₂ ◌+◌ (length_places inner) (length_places rest))
length_places (read n s b x rest) = ap suc (length_places rest)

pub numbered_renamed : (ρ : ℕ → ℕ) (i : ℕ) (t : Trace) → Ranks ρ i (places t) → Numbered i (rename_trace ρ t)
numbered_renamed ρ i (write x) h = tt
numbered_renamed ρ i (new n f vs inner rest) h =
    let r = ranks-++ ρ (suc i) (places inner) (places rest) h.1 in (
      h.0,
      numbered_renamed ρ (suc i) inner r.0,
      subst (λ (j : ℕ). Numbered j (rename_trace ρ rest)) (ap (λ (j : ℕ). suc i + j) (length_places inner ∙ sym (size_renamed ρ inner)))
          (numbered_renamed ρ (suc i + length (places inner)) rest r.1),
    )
numbered_renamed ρ i (read n s b x rest) h = (h.0, numbered_renamed ρ (suc i) rest h.1)

pub rank_one_one : (ps : List ℕ) (a b : ℕ) → rank_in ps a ≡ rank_in ps b → a ≡ b
rank_one_one [] a b e = e
rank_one_one (p ∷ ps) a b e = pick (rank_one_one ps a b) (eqb a p) (eqb b p) refl refl e
  where
    pick : (rank_in ps a ≡ rank_in ps b → a ≡ b) → (x y : Bool) → eqb a p ≡ x → eqb b p ≡ y → ◌≡◌ {A = ℕ} (cond x 0 (suc (rank_in ps a))) (cond y 0 (suc (rank_in ps b))) → a ≡ b
    pick rec true true h k e = omega (arith, eqb-true a p h, eqb-true b p k)
    pick rec true false h k e = absurd (omega arith)
    pick rec false true h k e = absurd (omega arith)
    pick rec false false h k e = rec (omega arith)

ranks_later : (ps : List ℕ) (p i : ℕ) (qs : List ℕ) → Absent p qs → Ranks (rank_in ps) i qs → Ranks (rank_in (p ∷ ps)) (suc i) qs
ranks_later ps p i [] a h = tt
ranks_later ps p i (q ∷ qs) a h =
    (rw (ne_eqb q p (λ e. a.0 (sym e))) (ap suc h.0), ranks_later ps p (suc i) qs a.1 h.1)

pub ranked : (ps : List ℕ) → Distinct ps → Ranks (rank_in ps) 0 ps
ranked [] h = tt
ranked (p ∷ ps) h = (rw (eq-eqb p p refl) refl, ranks_later ps p 0 ps h.0 (ranked ps h.1))

inputs_renamed : (ρ : ℕ → ℕ) (ks : List ℕ) → map (rename_value ρ) (map (λ (k : ℕ). val.Mod (Input k)) ks) ≡ map (λ (k : ℕ). val.Mod (Input k)) ks
inputs_renamed ρ [] = refl
inputs_renamed ρ (k ∷ ks) = ap (λ (vs : List Value). val.Mod (Input k) ∷ vs) (inputs_renamed ρ ks)

pub main_renamed : (ρ : ℕ → ℕ) (P : View) → rename_code ρ (main P) ≡ main P
main_renamed ρ P = ap (λ (vs : List Value). record { registers = vs; commands = (main P).commands; tail = (main P).tail }) (inputs_renamed ρ P.run)

content_renamed : (ρ : ℕ → ℕ) (x : InputContent) → content_of_input x ≡ rename_content ρ (content_of_input x)
content_renamed ρ (number z) = refl
content_renamed ρ empty = refl
content_renamed ρ (cell h t) = refl

pub initial_carried : (ρ : ℕ → ℕ) (is : List InputContent) → Carried ρ (initial is) (initial is)
initial_carried ρ is = record { same = at_name }
  where
    at_name : (a : Name) → initial is (rename ρ a) ≡ rename_content ρ (initial is a)
    at_name (Input k) = content_renamed ρ (get_or is k empty)
    at_name (Made n) = refl

pub canonical_plain : (P : View) (is : List InputContent) (t : Trace) → Stands P is t → Plain P (main P) (initial is) 0 (canonical t)
canonical_plain P is t h = record {
  follows = subst (Follows P (canonical t)) (main_renamed (rank t) P) (follows_renamed (rank t) P t (main P) h.follows);
  all_kept = kept_carried (rank t) (rank_one_one (places t)) t (initial_carried (rank t) is) h.all_kept;
  numbered = numbered_renamed (rank t) 0 t (ranked (places t) h.apart);
}

pub at_most_fits : (L : ℕ) (t : Trace) → size t ≤ L → at_most L t ≡ some t
at_most_fits L t h = rw (le-leb (size t) L h)

pub at_most_large : (L : ℕ) (t : Trace) → L < size t → at_most L t ≡ none
at_most_large L t h = rw (lt-leb (size t) L h)

-- a trace that stands is the plain run, each record at its number, or the plain run is too large
pub is_plain : (P : View) (is : List InputContent) (t : Trace) (L : ℕ) → Stands P is t →
    (size t ≤ L → plain_run L P is ≡ some (canonical t)) × (L < size t → plain_run L P is ≡ none)
is_plain P is t L h =
    let c = canonical_plain P is t h in
    let s = size_renamed (rank t) t in (
      λ fits. ap (λ (o : Option Trace). bind o (at_most L)) (found P (canonical t) L (main P) (initial is) 0 (omega (arith, s)) c.follows c.all_kept c.numbered)
          ∙ at_most_fits L (canonical t) (omega (arith, s)),
      λ large. pick large c s (trace_of P (suc L) (main P) (initial is) 0) refl,
    )
  where
    pick : L < size t → Plain P (main P) (initial is) 0 (canonical t) → size (canonical t) ≡ size t → (o : Option Trace) → trace_of P (suc L) (main P) (initial is) 0 ≡ o → bind o (at_most L) ≡ none
    pick large c s none e = refl
    pick large c s (some u) e =
        let same = one_plain P (main P) (initial is) 0 u (canonical t) (right P (suc L) (main P) (initial is) 0 u e) c in
        at_most_large L u (omega (arith, s, ap size same))

-- ── records at their numbers are apart ──

abbrev pub Range : ℕ → ℕ → List ℕ → Type 0
Range i j [] = Unit {0}
Range i j (p ∷ ps) = ((i ≤ p) × (p < j)) × Range i j ps

wider : (i j k l : ℕ) (ps : List ℕ) → k ≤ i → j ≤ l → Range i j ps → Range k l ps
wider i j k l [] a b h = tt
wider i j k l (p ∷ ps) a b h = ((omega (arith, h.0.0), omega (arith, h.0.1)), wider i j k l ps a b h.1)

range-++ : (i j : ℕ) (ps qs : List ℕ) → Range i j ps → Range i j qs → Range i j (ps ++ qs)
range-++ i j [] qs h k = k
range-++ i j (p ∷ ps) qs h k = (h.0, range-++ i j ps qs h.1 k)

pub numbered_range : (i : ℕ) (t : Trace) → Numbered i t → Range i (i + size t) (places t)
numbered_range i (write x) h = tt
numbered_range i (new n f vs inner rest) h = (
  (omega (arith, h.0), omega (arith, h.0)),
  range-++ i (i + size (new n f vs inner rest)) (places inner) (places rest)
      (wider (suc i) (suc i + size inner) i (i + size (new n f vs inner rest)) (places inner) (omega arith) (omega arith) (numbered_range (suc i) inner h.1))
      (wider (suc i + size inner) (suc i + size inner + size rest) i (i + size (new n f vs inner rest)) (places rest) (omega arith) (omega arith) (numbered_range (suc i + size inner) rest h.2)),
)
numbered_range i (read n s b x rest) h =
    ((omega (arith, h.0), omega (arith, h.0)), wider (suc i) (suc i + size rest) i (i + suc (size rest)) (places rest) (omega arith) (omega arith) (numbered_range (suc i) rest h.1))

pub below_absent : (n i j : ℕ) (ps : List ℕ) → n < i → Range i j ps → Absent n ps
below_absent n i j [] l h = tt
below_absent n i j (p ∷ ps) l h = ((λ e. omega (arith, e, h.0.0)), below_absent n i j ps l h.1)

absent-++ : (n : ℕ) (ps qs : List ℕ) → Absent n ps → Absent n qs → Absent n (ps ++ qs)
absent-++ n [] qs h k = k
absent-++ n (p ∷ ps) qs h k = (h.0, absent-++ n ps qs h.1 k)

apart-++ : (i j k : ℕ) (ps qs : List ℕ) → Range i j ps → Range j k qs → Distinct ps → Distinct qs → Distinct (ps ++ qs)
apart-++ i j k [] qs h l d e = e
apart-++ i j k (p ∷ ps) qs h l d e = (absent-++ p ps qs d.0 (below_absent p j k qs h.0.1 l), apart-++ i j k ps qs h.1 l d.1 e)

pub numbered_apart : (i : ℕ) (t : Trace) → Numbered i t → Distinct (places t)
numbered_apart i (write x) h = tt
numbered_apart i (new n f vs inner rest) h =
    let A = numbered_range (suc i) inner h.1 in
    let B = numbered_range (suc i + size inner) rest h.2 in (
      absent-++ n (places inner) (places rest)
          (below_absent n (suc i) (suc i + size inner) (places inner) (omega (arith, h.0)) A)
          (below_absent n (suc i + size inner) (suc i + size inner + size rest) (places rest) (omega (arith, h.0)) B),
      apart-++ (suc i) (suc i + size inner) (suc i + size inner + size rest) (places inner) (places rest) A B
          (numbered_apart (suc i) inner h.1) (numbered_apart (suc i + size inner) rest h.2),
    )
numbered_apart i (read n s b x rest) h =
    (below_absent n (suc i) (suc i + size rest) (places rest) (omega (arith, h.0)) (numbered_range (suc i) rest h.1), numbered_apart (suc i) rest h.1)

-- ── the plain run stands, and fits ──

at_most_some : (L : ℕ) (u t : Trace) → at_most L u ≡ some t → (u ≡ t) × (size u ≤ L)
at_most_some L u t e = pick (leb (size u) L) refl e
  where
    pick : (z : Bool) → leb (size u) L ≡ z → cond {A = Option Trace} z (some u) none ≡ some t → (u ≡ t) × (size u ≤ L)
    pick true q h = (some_same h, leb-true (size u) L q)
    pick false q h = absurd (none-ne-some t h)

pub plain_run_stands : (L : ℕ) (P : View) (is : List InputContent) (t : Trace) → plain_run L P is ≡ some t → Stands P is t × (size t ≤ L)
plain_run_stands L P is t e =
    let a = bind_some (trace_of P (suc L) (main P) (initial is) 0) (at_most L) e in
    let w = at_most_some L a.0 t a.2 in
    let r = right P (suc L) (main P) (initial is) 0 a.0 a.1 in
    subst (λ (z : Trace). Stands P is z × (size z ≤ L)) w.0 (record { follows = r.follows; all_kept = r.all_kept; apart = numbered_apart 0 a.0 r.numbered }, w.1)

-- no trace of L records or fewer stands exactly where the plain run is too large
pub none_so_small : (L : ℕ) (P : View) (is : List InputContent) → (plain_run L P is ≡ none) ↔ ((t : Trace) → Stands P is t → L < size t)
none_so_small L P is = (λ e t h. beyond e t h (leb (size t) L) refl, λ h. pick h (plain_run L P is) refl)
  where
    beyond : plain_run L P is ≡ none → (t : Trace) → Stands P is t → (z : Bool) → leb (size t) L ≡ z → L < size t
    beyond e t h true q = absurd (none-ne-some (canonical t) (sym e ∙ (is_plain P is t L h).0 (leb-true (size t) L q)))
    beyond e t h false q = leb-false (size t) L q

    pick : ((t : Trace) → Stands P is t → L < size t) → (o : Option Trace) → plain_run L P is ≡ o → plain_run L P is ≡ none
    pick h none e = e
    pick h (some t) e = let s = plain_run_stands L P is t e in let l = h t s.0 in absurd (omega (arith, l, s.1))

-- ── a trace that stands shows the plain run ──

pub shows_the_plain_run : ShowsThePlainRun
shows_the_plain_run P is t L h = ((P'.0, fits), (P'.1, λ e. large e (leb (size t) L) refl), λ t₁ e. shows t₁ e (leb (size t) L) refl)
  where
    P' : (size t ≤ L → plain_run L P is ≡ some (canonical t)) × (L < size t → plain_run L P is ≡ none)
    P' = is_plain P is t L h

    fits : plain_run L P is ≡ some (canonical t) → size t ≤ L
    fits e = subst (λ (n : ℕ). n ≤ L) (size_renamed (rank t) t) (plain_run_stands L P is (canonical t) e).1

    large : plain_run L P is ≡ none → (z : Bool) → leb (size t) L ≡ z → L < size t
    large e true q = absurd (none-ne-some (canonical t) (sym e ∙ P'.0 (leb-true (size t) L q)))
    large e false q = leb-false (size t) L q

    shows : (t₁ : Trace) → plain_run L P is ≡ some t₁ → (z : Bool) → leb (size t) L ≡ z → Shows t t₁
    shows t₁ e true q =
        let same : canonical t ≡ t₁ = some_same (sym (P'.0 (leb-true (size t) L q)) ∙ e) in
        record { records = same; lists = ap (lines 0 0) same; results = ap result_of same; sizes = sym (size_renamed (rank t) t) ∙ ap size same }
    shows t₁ e false q = absurd (none-ne-some t₁ (sym (P'.1 (leb-false (size t) L q)) ∙ e))

pub the_plain_run_stands : PlainRunStands
the_plain_run_stands L P is t e = plain_run_stands L P is t e
