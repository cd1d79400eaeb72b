-- Two settles of a trace on the same inputs count alike, whatever places their new records take.
use mathlib.Core.Path.{◌≡◌, refl, sym, ◌∙◌, ap, ap₂, subst, subst₂}
use mathlib.Core.Bool.{Bool, true, false, cond}
use mathlib.Core.List.{List, [], ◌∷◌, map}
use mathlib.Core.Logic.{◌⊎◌, inl, inr}
use Prim.Native.Nat.{ℕ}
use native.Mathlib.Omega.{arith}
use lib.Dec.{eqb}
use lib.ListN.{get_or}
use Rattle.program.specs.View.{View}
use Rattle.trace.specs.Code.{Code, writes, makes, reads, resume, enter, entered, arguments, main}
use Rattle.trace.specs.Trace.{Trace, write, new, read, written, places, Store, put, after, Distinct, Fresh, Among}
use Rattle.trace.specs.Run.{Follows, Kept, content_of_input, initial}
use Rattle.program.specs.declared.value.InputContent.{InputContent}
use Rattle.program.specs.declared.value.InputContent.TheVariants.{Number as number, Empty as empty, Cell as cell}
use Rattle.trace.specs.Turns.{Turns, at_write, past_new, kept, re_executed}
use Rattle.trace.specs.Laws.{TurnsCountAlike}
use Rattle.trace.proofs.Known.{Known, KnownContent, KnownValues}
use Rattle.program.specs.declared.value.Name.{Name}
use Rattle.program.specs.declared.value.Name.TheVariants.{Input, Made}
use Rattle.program.specs.declared.value.Content.{Content}
use Rattle.program.specs.declared.value.Content.TheVariants.{Cell}
use Rattle.program.specs.declared.value.Value.TheVariants as val
use Rattle.trace.proofs.Known.{known_next, known_arguments, known_add}
use Rattle.trace.proofs.Places.{apart, distinct_left, distinct_right, among_left, among_right}
use Rattle.trace.proofs.Alike.{Pairs, no_pair, pair, Both, More, Rel, same_input, same_made, same_ref, RelValues, nil, cons, RelContent, same_number, both_empty, both_cell, more_values, then_more, one_pair, rel_add, rel_entered, rel_arguments, reads_alike, writes_alike, makes_alike, next_two, Alike, Off, put_alike, run_alike, Only, off_left, off_rest, off_now, off_then, only_all, only_read}

-- ── a trace names its own places ──
abbrev pub Within : List ℕ → Trace → Type 0
Within old (write x) = Unit {0}
Within old (new n f vs inner rest) = Within old inner × Within old rest
Within old (read n s b x rest) = KnownContent old x × Within old rest

pub record Named (old : List ℕ) (σ : Store) (t : Trace) : Type 0 where
  pub inside : Within old t
  pub then_known : (a : Name) → KnownContent old (after t σ a)
  pub known_written : KnownContent old (written t)

put_known : (old : List ℕ) (σ : Store) (n : ℕ) (x : Content) → ((a : Name) → KnownContent old (σ a)) → KnownContent old x → (a : Name) → KnownContent old (put σ n x a)
put_known old σ n x h k (Input i) = h (Input i)
put_known old σ n x h k (Made m) = pick (eqb m n)
  where
    pick : (b : Bool) → KnownContent old (cond b x (σ (Made m)))
    pick true = k
    pick false = h (Made m)

pub named : (P : View) (old : List ℕ) (t : Trace) (c : Code) (σ : Store) → Follows P t c → Kept t σ → KnownValues old c.registers →
    ((a : Name) → KnownContent old (σ a)) → ((p : ℕ) → Among p (places t) → Among p old) → Named old σ t
named P old (write x) c σ o k h w s = record { inside = tt; then_known = w; known_written = known_next old P c (writes x) o h }
named P old (new n f vs inner rest) c σ o k h w s =
    let N = known_next old P c (makes f vs o.0) o.1 h in
    let A = named P old inner (enter P f vs) σ o.2 k.0 N.0 w (λ p q. s p (inr (among_left p (places inner) (places rest) q))) in
    let B = named P old rest (resume o.0 n) (put (after inner σ) n (written inner)) o.3 k.1
    (known_add old o.0.registers (val.Mod (Made n)) N.1 (s n (inl refl)))
    (put_known old (after inner σ) n (written inner) A.then_known A.known_written)
    (λ p q. s p (inr (among_right p (places inner) (places rest) q))) in
    record { inside = (A.inside, B.inside); then_known = B.then_known; known_written = B.known_written }
named P old (read n s b x rest) c σ o k h w z =
    let N = known_next old P c (reads s b) o.0 h in
    let X : KnownContent old x = subst (KnownContent old) k.0 (w s) in
    let A = named P old rest (enter P (entered b x) (arguments b x)) σ o.1 k.1 (known_arguments old b x N.1 X) w (λ p q. z p (inr q)) in
    record { inside = (X, A.inside); then_known = A.then_known; known_written = A.known_written }

-- ── old names stand for themselves ──
record SameOld (old : List ℕ) (ps : Pairs) : Type 0 where
  left_old : (a b : ℕ) → Both a b ps → Among a old → a ≡ b
  right_old : (a b : ℕ) → Both a b ps → Among b old → a ≡ b

module _ {old : List ℕ} {ps : Pairs} (S : SameOld old ps) where
  name_left : {a b : Name} → Rel ps a b → Known old a → b ≡ a
  name_left same_input h = refl
  name_left (same_made {a = a} {b = b} k) h = ap Made (sym (S.left_old a b k h))

  name_right : {a b : Name} → Rel ps a b → Known old b → a ≡ b
  name_right same_input h = refl
  name_right (same_made {a = a} {b = b} k) h = ap Made (S.right_old a b k h)

  content_left : {x y : Content} → RelContent ps x y → KnownContent old x → y ≡ x
  content_left same_number h = refl
  content_left both_empty h = refl
  content_left (both_cell k l) h = ap₂ (λ (p q : Name). Cell p q) (name_left k h.0) (name_left l h.1)

  content_right : {x y : Content} → RelContent ps x y → KnownContent old y → x ≡ y
  content_right same_number h = refl
  content_right both_empty h = refl
  content_right (both_cell k l) h = ap₂ (λ (p q : Name). Cell p q) (name_right k h.0) (name_right l h.1)

same_old_pair : {old : List ℕ} {ps : Pairs} (n : ℕ) → SameOld old ps → SameOld old (pair n n ps)
same_old_pair {old} {ps} n S = record { left_old = l; right_old = r }
  where
    l : (a b : ℕ) → Both a b (pair n n ps) → Among a old → a ≡ b
    l a b (inl h) k = h.0 ∙ sym h.1
    l a b (inr h) k = S.left_old a b h k

    r : (a b : ℕ) → Both a b (pair n n ps) → Among b old → a ≡ b
    r a b (inl h) k = h.0 ∙ sym h.1
    r a b (inr h) k = S.right_old a b h k

pub fresh_at : (old ns : List ℕ) (a : ℕ) → Fresh old ns → Among a ns → Among a old → ⊥
fresh_at old [] a h k l = k
fresh_at old (n ∷ ns) a h (inl e) l = apart n a old h.0 l e
fresh_at old (n ∷ ns) a h (inr k) l = fresh_at old ns a h.1 k l

same_old_run : {old : List ℕ} {ps qs : Pairs} {ns ms : List ℕ} → SameOld old ps → Only ps qs ns ms → Fresh old ns → Fresh old ms → SameOld old qs
same_old_run {old} {ps} {qs} {ns} {ms} S O f g = record { left_old = λ a b h. l a b (O.only a b h); right_old = λ a b h. r a b (O.only a b h) }
  where
    l : (a b : ℕ) → Both a b ps ⊎ (Among a ns × Among b ms) → Among a old → a ≡ b
    l a b (inl h) k = S.left_old a b h k
    l a b (inr h) k = absurd (fresh_at old ns a f h.0 k)

    r : (a b : ℕ) → Both a b ps ⊎ (Among a ns × Among b ms) → Among b old → a ≡ b
    r a b (inl h) k = S.right_old a b h k
    r a b (inr h) k = absurd (fresh_at old ms b g h.1 k)

-- ── two settles ──
record Counted (old : List ℕ) (ps : Pairs) (σ τ : Store) (u v : Trace) (e f m k : ℕ) : Type 0 where
  pairs : Pairs
  more : More ps pairs
  alike : Alike pairs (after u σ) (after v τ)
  wrote_alike : RelContent pairs (written u) (written v)
  onlys : Only ps pairs (places u) (places v)
  same_old : SameOld old pairs
  same_reads : e ≡ f
  same_records : m ≡ k

counted : {P : View} {old : List ℕ} {σ τ : Store} {t u v : Trace} {e f m k : ℕ} → Turns P old σ t u e m → Turns P old τ t v f k →
    (c : Code) (ps : Pairs) → Follows P t c → RelValues ps c.registers c.registers → Alike ps σ τ → SameOld old ps → Within old t →
    Distinct (places u) → Distinct (places v) → Off ps (places u) (places v) → Counted old ps σ τ u v e f m k
counted {P} at_write at_write c ps o h g S w d d' off =
    record { pairs = ps; more = record { both = λ a b z. z }; alike = g; wrote_alike = writes_alike (next_two P c.commands c.tail h o o); onlys = record { only = λ a b z. inl z }; same_old = S; same_reads = refl; same_records = refl }
counted {P} (past_new {n = n} {f = f} {vs = vs} {inner' = inner₁} {rest' = rest₁} a₁ b₁ p₁ q₁) (past_new {inner' = inner₂} {rest' = rest₂} a₂ b₂ p₂ q₂) c ps o h g S w d d' off =
    let M = makes_alike (next_two P c.commands c.tail h o.1 o.1) in
    let A = counted a₁ a₂ (enter P f vs) ps o.2 M.args g S w.0
    (distinct_left (places inner₁) (places rest₁) d.1) (distinct_left (places inner₂) (places rest₂) d'.1)
    (off_left (places inner₁) (places rest₁) (places inner₂) (places rest₂) (off_rest off)) in
    let l = then_more A.more (one_pair n n A.pairs) in
    let B = counted b₁ b₂ (resume o.0 n) (pair n n A.pairs) o.3
    (rel_add (more_values l M.registers) (same_ref (same_made (inl (refl, refl)))))
    (put_alike n n (written inner₁) (written inner₂) A.alike A.wrote_alike (off_now n n (places inner₁) (places rest₁) (places inner₂) (places rest₂) off d d' A.onlys))
    (same_old_pair n A.same_old) w.1
    (distinct_right (places inner₁) (places rest₁) d.1) (distinct_right (places inner₂) (places rest₂) d'.1)
    (off_then n n (places inner₁) (places rest₁) (places inner₂) (places rest₂) off d d' A.onlys) in
    record {
      pairs = B.pairs;
      more = then_more l B.more;
      alike = B.alike;
      wrote_alike = B.wrote_alike;
      onlys = only_all n n (places inner₁) (places rest₁) (places inner₂) (places rest₂) off d d' A.onlys B.onlys;
      same_old = B.same_old;
      same_reads = omega (arith, A.same_reads, B.same_reads);
      same_records = omega (arith, A.same_records, B.same_records);
    }
counted {P} (kept {n = n} {b = b} {x = x} p₁ a₁) (kept p₂ a₂) c ps o h g S w d d' off =
    let R = reads_alike (next_two P c.commands c.tail h o.0 o.0) in
    let X = subst₂ (RelContent ps) p₁ p₂ (g.at_name _ _ R.source) in
    let A = counted a₁ a₂ (enter P (entered b x) (arguments b x)) ps o.1 (rel_arguments R.reader X) g S w.1 d.1 d'.1 (off_rest off) in
    record {
      pairs = A.pairs;
      more = A.more;
      alike = A.alike;
      wrote_alike = A.wrote_alike;
      onlys = only_read n n A.onlys;
      same_old = A.same_old;
      same_reads = A.same_reads;
      same_records = A.same_records;
    }
counted {P} {τ = τ} (kept {s = s} p₁ a₁) (re_executed h₂ p₂ run₂ fresh₂ i₂ j₂) c ps o h g S w d d' off =
    let R = reads_alike (next_two P c.commands c.tail h o.0 o.0) in
    absurd (h₂ (content_left S (subst (λ (y : Content). RelContent ps y (τ s)) p₁ (g.at_name s s R.source)) w.0))
counted {P} {σ = σ} (re_executed {s = s} h₁ p₁ run₁ fresh₁ i₁ j₁) (kept p₂ a₂) c ps o h g S w d d' off =
    let R = reads_alike (next_two P c.commands c.tail h o.0 o.0) in
    absurd (h₁ (content_right S (subst (λ (y : Content). RelContent ps (σ s) y) p₂ (g.at_name s s R.source)) w.0))
counted {P} {σ = σ} {τ = τ} (re_executed {n = n} {s = s} {b = b} {y = y₁} {rest' = rest₁} h₁ p₁ run₁ fresh₁ i₁ j₁) (re_executed {y = y₂} {rest' = rest₂} h₂ p₂ run₂ fresh₂ i₂ j₂) c ps o h g S w d d' off =
    let R = reads_alike (next_two P c.commands c.tail h o.0 o.0) in
    let X : RelContent ps y₁ y₂ = subst₂ (RelContent ps) p₁ p₂ (g.at_name s s R.source) in
    let A = run_alike P rest₁ rest₂ (enter P (entered b y₁) (arguments b y₁)).commands (enter P (entered b y₁) (arguments b y₁)).tail (arguments b y₁) (arguments b y₂) ps σ τ
    run₁.follows run₁.all_kept (subst (λ (z : ℕ). Follows P rest₂ (enter P z (arguments b y₂))) (sym (rel_entered R.reader X)) run₂.follows) run₂.all_kept
    (rel_arguments R.reader X) g d.1 d'.1 (off_rest off) in
    record {
      pairs = A.pairs;
      more = A.more;
      alike = A.alike;
      wrote_alike = A.wrote_alike;
      onlys = only_read n n A.onlys;
      same_old = same_old_run S A.onlys fresh₁ fresh₂;
      same_reads = omega arith;
      same_records = omega (arith, A.sizes);
    }

input_alike : (x : InputContent) → RelContent no_pair (content_of_input x) (content_of_input x)
input_alike (number z) = same_number
input_alike empty = both_empty
input_alike (cell h t) = both_cell same_input same_input

pub initial_alike : (js : List InputContent) → Alike no_pair (initial js) (initial js)
initial_alike js = record { at_name = each }
  where
    each : (a b : Name) → Rel no_pair a b → RelContent no_pair (initial js a) (initial js b)
    each a b (same_input {k = k}) = input_alike (get_or js k empty)
    each c d (same_made h) = absurd h

pub main_alike : (ks : List ℕ) → RelValues no_pair (map (λ (k : ℕ). val.Mod (Input k)) ks) (map (λ (k : ℕ). val.Mod (Input k)) ks)
main_alike [] = nil
main_alike (k ∷ ks) = cons (same_ref same_input) (main_alike ks)

pub initial_known : (old : List ℕ) (is : List InputContent) (a : Name) → KnownContent old (initial is a)
initial_known old is (Made n) = tt
initial_known old is (Input k) = each (get_or is k empty)
  where
    each : (x : InputContent) → KnownContent old (content_of_input x)
    each (number z) = tt
    each empty = tt
    each (cell h t) = (tt, tt)

pub main_known : (old ks : List ℕ) → KnownValues old (map (λ (k : ℕ). val.Mod (Input k)) ks)
main_known old [] = tt
main_known old (k ∷ ks) = (tt, main_known old ks)

-- the main statement
pub turns_count_alike : TurnsCountAlike
turns_count_alike P is js t u v e f m k h a d b d' =
    let N = named P (places t) t (main P) (initial is) h.follows h.all_kept (main_known (places t) P.run) (initial_known (places t) is) (λ p q. q) in
    let C = counted a b (main P) no_pair h.follows (main_alike P.run) (initial_alike js)
    (record { left_old = λ x y z w. absurd z; right_old = λ x y z w. absurd z }) N.inside d d' (record { off = λ x y z. absurd z }) in
    (C.same_reads, C.same_records)
