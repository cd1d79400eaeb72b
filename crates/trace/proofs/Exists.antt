-- There is a settle by turns wherever the plain run is not too large.
use mathlib.Core.Path.{◌≡◌, refl, sym, subst}
use mathlib.Core.Bool.{Bool, true, false}
use mathlib.Core.List.{List, [], ◌∷◌, ◌++◌}
use mathlib.Core.Logic.{◌⊎◌, inl, inr, ◌≢◌}
use Prim.Native.Nat.{ℕ, zero, suc, ◌+◌, ◌≤◌, ◌<◌}
use native.Mathlib.Omega.{arith}
use lib.Dec.{leb}
use borrow.Author.Tests.{leb-true, leb-false}
use Rattle.program.specs.View.{View}
use Rattle.program.specs.declared.value.Name.{Name}
use Rattle.program.specs.declared.value.Content.{Content}
use Rattle.program.specs.declared.value.Value.{Value}
use Rattle.trace.specs.Code.{Code, Reader, makes, reads, next, resume, enter, entered, arguments, main}
use Rattle.trace.specs.Trace.{Trace, write, new, read, written, size, places, Absent, Distinct, Fresh, Store, put, after, Among}
use Rattle.trace.specs.Run.{Follows, initial}
use Rattle.trace.specs.Turns.{Turns, at_write, past_new, kept, re_executed}
use Rattle.trace.specs.Over.{Over, over_inside, over_behind, over_read}
use Rattle.trace.specs.Computed.{same}
use Rattle.trace.specs.Laws.{SettlingExists}
use Rattle.trace.proofs.Places.{apart, absent_left, absent_right, distinct_left, distinct_right, cross, among_left, among_right, not_among, absent_join, distinct_join, among_cases}
use Rattle.trace.proofs.Plain.{Range, numbered_range, numbered_apart, is_plain}
use Rattle.trace.proofs.Over.{EndsOrOver, ends_or_over, count_up, distinct_up, over_large}
use Rattle.trace.proofs.Settled.{turns_follow, turns_kept, turns_leave_a_run}
use Rattle.trace.proofs.Computed.{same_right, same_wrong}

-- ── places old and new ──

in_range : (p i j : ℕ) (ps : List ℕ) → Range i j ps → Among p ps → (i ≤ p) × (p < j)
in_range p i j [] h k = absurd k
in_range p i j (q ∷ ps) h (inl e) = (omega (arith, e, h.0.0), omega (arith, e, h.0.1))
in_range p i j (q ∷ ps) h (inr k) = in_range p i j ps h.1 k

in_count : (p i k : ℕ) → Among p (count_up i k) → i ≤ p
in_count p i zero h = absurd h
in_count p i (suc k) (inl e) = omega (arith, e)
in_count p i (suc k) (inr h) = let l = in_count p (suc i) k h in omega (arith, l)

-- each place of ps is one of xs, or from i on
abbrev OldOrFrom : List ℕ → ℕ → List ℕ → Type 0
OldOrFrom xs i ps = (p : ℕ) → Among p ps → Among p xs ⊎ (i ≤ p)

-- each is one of xs, or from i on and below j
abbrev OldOrBetween : List ℕ → ℕ → ℕ → List ℕ → Type 0
OldOrBetween xs i j ps = (p : ℕ) → Among p ps → Among p xs ⊎ ((i ≤ p) × (p < j))

abbrev AllBelow : ℕ → List ℕ → Type 0
AllBelow i xs = (p : ℕ) → Among p xs → p < i

weaker : (xs : List ℕ) (i j : ℕ) (ps : List ℕ) → OldOrBetween xs i j ps → OldOrFrom xs i ps
weaker xs i j ps h p k = elim (h p k) [ inl l ↦ inl l | inr l ↦ inr l.0 ]

headed : (n i : ℕ) (xs ps : List ℕ) → Absent n xs → n < i → OldOrFrom xs i ps → Absent n ps
headed n i xs ps a l h = not_among n ps (λ q k e. elim (h q k) [ inl m ↦ apart n q xs a m e | inr m ↦ omega (arith, m, e, l) ])

-- places inside a NEW at n, and behind it
module _ (n i j : ℕ) (xs ys : List ℕ) (d : Distinct (n ∷ (xs ++ ys))) (low : n < i) (below : AllBelow i (xs ++ ys)) (up : i ≤ j)
    (ps qs : List ℕ) (A : OldOrBetween xs i j ps) (B : OldOrFrom ys j qs) where
  apart_both : (p q : ℕ) → Among p ps → Among q qs → q ≢ p
  apart_both p q k l e = elim (A p k) [
    | inl a ↦ elim (B q l) [
      | inl b ↦ cross p q xs ys d.1 a b (sym e)
      | inr b ↦ let m = below p (among_left p xs ys a) in omega (arith, m, b, e, up)
    ]
    | inr a ↦ elim (B q l) [
      | inl b ↦ let m = below q (among_right q xs ys b) in omega (arith, m, a.0, e)
      | inr b ↦ omega (arith, b, a.1, e)
    ]
  ]

  joined : Distinct ps → Distinct qs → Distinct (n ∷ (ps ++ qs))
  joined dp dq = (
    absent_join n ps qs (headed n i xs ps (absent_left n xs ys d.0) low (weaker xs i j ps A))
        (headed n j ys qs (absent_right n xs ys d.0) (omega (arith, low, up)) B),
    distinct_join ps qs dp dq (λ p k. not_among p qs (λ q l. apart_both p q k l)),
  )

  from_both : OldOrFrom (n ∷ (xs ++ ys)) i (n ∷ (ps ++ qs))
  from_both p (inl e) = inl (inl e)
  from_both p (inr h) = elim (among_cases p ps qs h) [
    | inl k ↦ elim (A p k) [ inl a ↦ inl (inr (among_left p xs ys a)) | inr a ↦ inr a.0 ]
    | inr k ↦ elim (B p k) [ inl b ↦ inl (inr (among_right p xs ys b)) | inr b ↦ inr (omega (arith, b, up)) ]
  ]

between_both : (n i j k : ℕ) (xs ys ps qs : List ℕ) → i ≤ j → j ≤ k → OldOrBetween xs i j ps → OldOrBetween ys j k qs →
    OldOrBetween (n ∷ (xs ++ ys)) i k (n ∷ (ps ++ qs))
between_both n i j k xs ys ps qs u v A B p (inl e) = inl (inl e)
between_both n i j k xs ys ps qs u v A B p (inr h) = elim (among_cases p ps qs h) [
  | inl l ↦ elim (A p l) [ inl a ↦ inl (inr (among_left p xs ys a)) | inr a ↦ inr (a.0, omega (arith, a.1, v)) ]
  | inr l ↦ elim (B p l) [ inl b ↦ inl (inr (among_right p xs ys b)) | inr b ↦ inr (omega (arith, b.0, u), b.1) ]
]

-- a bound above all places
abbrev above : List ℕ → ℕ
above [] = 0
above (p ∷ ps) = suc p + above ps

above_all : (ps : List ℕ) → AllBelow (above ps) ps
above_all [] p h = absurd h
above_all (q ∷ ps) p (inl e) = omega (arith, e)
above_all (q ∷ ps) p (inr h) = let l = above_all ps p h in omega (arith, l)

fresh_from : (old : List ℕ) (i : ℕ) (ps : List ℕ) → AllBelow i old → ((p : ℕ) → Among p ps → i ≤ p) → Fresh old ps
fresh_from old i [] b h = tt
fresh_from old i (p ∷ ps) b h =
    (not_among p old (λ q l e. let m = b q l in let k = h p (inl refl) in omega (arith, m, k, e)), fresh_from old i ps b (λ q l. h q (inr l)))

-- ── the turns, or a run beyond L ──

module _ (P : View) (L : ℕ) (old : List ℕ) where
  -- the turns of t, whose new records stand from i on
  record Settled (σ : Store) (t : Trace) (i : ℕ) : Type 0 where
    u : Trace
    e : ℕ
    m : ℕ
    turns : Turns P old σ t u e m
    distinct : Distinct (places u)
    from : OldOrBetween (places t) i (i + m) (places u)

  -- the run of c goes beyond L records
  record Beyond (c : Code) (σ : Store) (t : Trace) (i : ℕ) : Type 0 where
    ps : List ℕ
    k : ℕ
    over : Over P c σ ps k
    many : L ≤ k
    distinct : Distinct ps
    from : OldOrFrom (places t) i ps

  abbrev Either : Code → Store → Trace → ℕ → Type 0
  Either c σ t i = Settled σ t i ⊎ Beyond c σ t i

  module _ (n f : ℕ) (vs : List Value) (inner rest : Trace) (c k : Code) (σ : Store) (i : ℕ) (p : next P c ≡ makes f vs k)
      (d : Distinct (n ∷ (places inner ++ places rest))) (low : AllBelow i (n ∷ (places inner ++ places rest))) where
    over_in : Beyond (enter P f vs) σ inner i → Beyond c σ (new n f vs inner rest) i
    over_in B = record {
      ps = n ∷ B.ps;
      k = suc B.k;
      over = over_inside n p B.over;
      many = omega (arith, B.many);
      distinct = (headed n i (places inner) B.ps (absent_left n (places inner) (places rest) d.0) (low n (inl refl)) B.from, B.distinct);
      from = λ q h. elim h [ inl e ↦ inl (inl e) | inr l ↦ elim (B.from q l) [ inl a ↦ inl (inr (among_left q (places inner) (places rest) a)) | inr a ↦ inr a ] ];
    }

    behind_in : (A : Settled σ inner i) → Follows P inner (enter P f vs) →
        Either (resume k n) (put (after A.u σ) n (written A.u)) rest (i + A.m) → Either c σ (new n f vs inner rest) i
    behind_in A o (inl B) = inl (record {
      u = new n f vs A.u B.u;
      e = A.e + B.e;
      m = A.m + B.m;
      turns = past_new A.turns B.turns refl refl;
      distinct = joined n i (i + A.m) (places inner) (places rest) d (low n (inl refl)) (λ q l. low q (inr l)) (omega arith) (places A.u) (places B.u) A.from
          (weaker (places rest) (i + A.m) (i + A.m + B.m) (places B.u) B.from) A.distinct B.distinct;
      from = subst (λ (z : ℕ). OldOrBetween (n ∷ (places inner ++ places rest)) i z (n ∷ (places A.u ++ places B.u))) (omega arith)
          (between_both n i (i + A.m) (i + A.m + B.m) (places inner) (places rest) (places A.u) (places B.u) (omega arith) (omega arith) A.from B.from);
    })
    behind_in A o (inr B) = inr (record {
      ps = n ∷ (places A.u ++ B.ps);
      k = suc (size A.u + B.k);
      over = over_behind n A.u p (record { follows = turns_follow A.turns (enter P f vs) o; all_kept = turns_kept A.turns }) B.over;
      many = omega (arith, B.many);
      distinct = joined n i (i + A.m) (places inner) (places rest) d (low n (inl refl)) (λ q l. low q (inr l)) (omega arith) (places A.u) B.ps A.from B.from A.distinct B.distinct;
      from = from_both n i (i + A.m) (places inner) (places rest) d (low n (inl refl)) (λ q l. low q (inr l)) (omega arith) (places A.u) B.ps A.from B.from;
    })

  module _ (n : ℕ) (s : Name) (b : Reader) (x : Content) (rest : Trace) (c : Code) (σ : Store) (i : ℕ) (p : next P c ≡ reads s b)
      (d : Distinct (n ∷ places rest)) (low : AllBelow i (n ∷ places rest)) where
    keep : σ s ≡ x → Either (enter P (entered b x) (arguments b x)) σ rest i → Either c σ (read n s b x rest) i
    keep e (inl A) = inl (record {
      u = read n s b x A.u;
      e = A.e;
      m = A.m;
      turns = kept e A.turns;
      distinct = (headed n i (places rest) (places A.u) d.0 (low n (inl refl)) (weaker (places rest) i (i + A.m) (places A.u) A.from), A.distinct);
      from = λ q h. elim h [ inl z ↦ inl (inl z) | inr l ↦ elim (A.from q l) [ inl a ↦ inl (inr a) | inr a ↦ inr a ] ];
    })
    keep e (inr B) = inr (record {
      ps = n ∷ B.ps;
      k = suc B.k;
      over = over_read n p (subst (λ (y : Content). Over P (enter P (entered b y) (arguments b y)) σ B.ps B.k) (sym e) B.over);
      many = omega (arith, B.many);
      distinct = (headed n i (places rest) B.ps d.0 (low n (inl refl)) B.from, B.distinct);
      from = λ q h. elim h [ inl z ↦ inl (inl z) | inr l ↦ elim (B.from q l) [ inl a ↦ inl (inr a) | inr a ↦ inr a ] ];
    })

    re_execute : AllBelow i old → ¬ (σ s ≡ x) → EndsOrOver P (enter P (entered b (σ s)) (arguments b (σ s))) σ i L → Either c σ (read n s b x rest) i
    re_execute b-old stale (inl A) =
        let w = A.trace in
        let r = numbered_range i w A.plain.numbered in
        inl (record {
          u = read n s b (σ s) w;
          e = 1;
          m = size w;
          turns = re_executed stale refl (record { follows = A.plain.follows; all_kept = A.plain.all_kept })
              (fresh_from old i (places w) b-old (λ q l. (in_range q i (i + size w) (places w) r l).0)) refl refl;
          distinct = (not_among n (places w) (λ q l e. let h = in_range q i (i + size w) (places w) r l in let k = low n (inl refl) in omega (arith, h.0, k, e)), numbered_apart i w A.plain.numbered);
          from = λ q h. elim h [ inl z ↦ inl (inl z) | inr l ↦ inr (in_range q i (i + size w) (places w) r l) ];
        })
    re_execute b-old stale (inr o) = inr (record {
      ps = n ∷ count_up i L;
      k = suc L;
      over = over_read n p o;
      many = omega arith;
      distinct = (not_among n (count_up i L) (λ q l e. let h = in_count q i L l in let k = low n (inl refl) in omega (arith, h, k, e)), distinct_up i L);
      from = λ q h. elim h [ inl z ↦ inl (inl z) | inr l ↦ inr (in_count q i L l) ];
    })

  settle : (t : Trace) (c : Code) (σ : Store) (i : ℕ) → Follows P t c → Distinct (places t) → AllBelow i (places t) → AllBelow i old → Either c σ t i
  settle (write x) c σ i o d low b-old = inl (record { u = write x; e = 0; m = 0; turns = at_write; distinct = tt; from = λ p h. absurd h })
  settle (new n f vs inner rest) c σ i o d low b-old =
      elim (settle inner (enter P f vs) σ i o.2 (distinct_left (places inner) (places rest) d.1) (λ p l. low p (inr (among_left p (places inner) (places rest) l))) b-old) [
        | inr B ↦ inr (over_in n f vs inner rest c o.0 σ i o.1 d low B)
        | inl A ↦ behind_in n f vs inner rest c o.0 σ i o.1 d low A o.2
            (settle rest (resume o.0 n) (put (after A.u σ) n (written A.u)) (i + A.m) o.3 (distinct_right (places inner) (places rest) d.1)
            (λ p l. let h = low p (inr (among_right p (places inner) (places rest) l)) in omega (arith, h)) (λ p l. let h = b-old p l in omega (arith, h)))
      ]
  settle (read n s b x rest) c σ i o d low b-old =
      pick (settle rest (enter P (entered b x) (arguments b x)) σ i o.1 d.1 (λ p l. low p (inr l)) b-old) (same (σ s) x) refl
    where
      pick : Either (enter P (entered b x) (arguments b x)) σ rest i → (z : Bool) → same (σ s) x ≡ z → Either c σ (read n s b x rest) i
      pick rec true q = keep n s b x rest c σ i o.0 d low (same_right (σ s) x q) rec
      pick rec false q = re_execute n s b x rest c σ i o.0 d low b-old (same_wrong (σ s) x q)
          (ends_or_over P (suc L) L (omega arith) (enter P (entered b (σ s)) (arguments b (σ s))) σ i)

pub settling_exists : SettlingExists
settling_exists L P is js t h some =
    elim (settle P L (places t) t (main P) (initial js) (above (places t)) h.follows h.apart (above_all (places t)) (above_all (places t))) [
      | inl A ↦ record {
        leaves = A.u;
        e = A.e;
        m = A.m;
        turns = A.turns;
        apart = A.distinct;
        fits = small A (leb (size A.u) L) refl;
      }
      | inr B ↦ absurd (some (over_large P js B.ps B.k L B.over B.distinct B.many))
    ]
  where
    small : (A : Settled P L (places t) (initial js) t (above (places t))) (z : Bool) → leb (size A.u) L ≡ z → size A.u ≤ L
    small A true q = leb-true (size A.u) L q
    small A false q = absurd (some ((is_plain P js A.u L (turns_leave_a_run P is js t A.u A.e A.m h A.turns A.distinct)).1 (leb-false (size A.u) L q)))
