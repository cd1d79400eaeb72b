-- An old sheet against a new one.
use mathlib.Core.Path.{◌≡◌, refl, sym, ◌∙◌, ap, subst}
use mathlib.Core.Bool.{Bool, true, false, cond, ◌&&◌}
use mathlib.Core.List.{List, [], ◌∷◌}
use mathlib.Core.Option.{Option, some, none, some-injective, none-ne-some}
use mathlib.Core.Logic.{inl, inr, ◌↔◌}
use Prim.Native.Nat.{ℕ, suc}
use native.Mathlib.Omega.{arith}
use lib.Dec.{ltb}
use lib.ListN.{length, get_or}
use borrow.Author.Tests.{eq-eqb}
use Rattle.trace.specs.Run.{initial, plain_run, Stands}
use Rattle.program.specs.declared.value.InputContent.{InputContent}
use Rattle.trace.specs.Trace.{Trace, size, places, Distinct}
use Rattle.trace.specs.Listing.{lines, Line, canonical, rank, result_of}
use Rattle.trace.specs.Turns.{Turns}
use Rattle.trace.proofs.Renamed.{size_renamed}
use Rattle.trace.proofs.Counted.{turns_count_alike}
use Rattle.history.specs.Calls.{settled, unsettled, resting, opened, Pass, Make, Call, OPEN, POST, SETTLE, Refusal, wrong_pass, no_such_line, Answer, refused, done, content, line, told_number, show}
use Rattle.history.specs.Book.{Book, State, rests, sort_of, unless, same_sort, bears, refusal, plain_run_of, plain_lines, settling, after_settle, book_from, sort_before, noted_at, noted}
use Rattle.history.specs.Sheet.{Sheet, fresh, Does, RefusedOr, Serves, Settled, shown_result, shown_lines, standing_count, no_line, pass_of}
use Rattle.history.specs.History.{History, untouched, then, a_pass, renumbered, NewBeside, AllTaken, HoldsPlain, Reading, of_result, of_line, reading, NoSettle, OldAsNew, ByTurns, RunAnew}
use Rattle.trace.proofs.ReadOut.{read_out}
use Rattle.history.proofs.Steps.{does_book, does_made, does_good, quiet, Same, Good, Traced, settled_book, well_plain}
use Rattle.history.proofs.Fitting.{Fits, NoneRefused, open_with, takes_settle, fills_all}

-- ── whole histories ──

pub history_book : {s s' : Sheet} {cs : List Call} {ans : List Answer} → History s cs ans s' → s'.keeps ≡ book_from s.keeps cs
history_book untouched = refl
history_book (then {s = s} {s' = s₁} {c = c} {a = a} {cs = cs} h k) = history_book k ∙ ap (λ (z : Book). book_from z cs) (does_book s c a s₁ h)

pub history_good : {s s' : Sheet} {cs : List Call} {ans : List Answer} → History s cs ans s' → Good s → Good s'
history_good untouched g = g
history_good (then {s = s} {s' = s₁} {c = c} {a = a} h k) g = history_good k (does_good s c a s₁ g h)

history_made : {s s' : Sheet} {cs : List Call} {ans : List Answer} → History s cs ans s' → s'.keeps.made_of ≡ s.keeps.made_of
history_made untouched = refl
history_made (then {s = s} {s' = s₁} {c = c} {a = a} h k) = history_made k ∙ does_made s c a s₁ h

history_quiet : {s s' : Sheet} {cs : List Call} {ans : List Answer} → History s cs ans s' → NoSettle s.keeps cs → Same s s'
history_quiet untouched n = record { sort = refl; noted_inputs = refl; trace = refl }
history_quiet (then {s = s} {s' = s₁} {c = c} {a = a} {cs = cs} h k) n =
    let one = quiet s c a s₁ n.0 h in
    let more = history_quiet k (subst (λ (z : Book). NoSettle z cs) (sym (does_book s c a s₁ h)) n.1) in
    record { sort = more.sort ∙ one.sort; noted_inputs = more.noted_inputs ∙ one.noted_inputs; trace = more.trace ∙ one.trace }

pub fresh_good : (k : Make) → Good (fresh k)
fresh_good k = record { traced = refl }

-- none refused, and none a settle: all taken
abbrev PlainCall : Call → Type 0
PlainCall c = (s : Sheet) (a : Answer) (s' : Sheet) → Serves s c a s' → told_number a ≡ none

abbrev PlainCalls : List Call → Type 0
PlainCalls [] = Unit {0}
PlainCalls (c ∷ cs) = PlainCall c × PlainCalls cs

history_taken : {s s' : Sheet} {cs : List Call} {ans : List Answer} → History s cs ans s' → NoneRefused s.keeps cs → PlainCalls cs → AllTaken ans
history_taken untouched n p = tt
history_taken (then {s = s} {s' = s₁} {c = c} {a = a} {cs = cs} h k) n p = (
  p.0 s a s₁ (subst (λ (o : Option Refusal). RefusedOr o s c a s₁) n.0 h.does),
  history_taken k (subst (λ (z : Book). NoneRefused z cs) (sym (does_book s c a s₁ h)) n.1) p.1,
)

post_plain : (q : Pass) (i : ℕ) (x : InputContent) → PlainCall (POST q i x)
post_plain q i x s a s' h = ap told_number h.answers

open_plain : (q : Pass) → PlainCall (OPEN q)
open_plain q s a s' h = ap told_number h.answers

posts_plain : (q : Pass) (i : ℕ) (is : List InputContent) → PlainCalls (Rattle.history.specs.History.posts q i is)
posts_plain q i [] = tt
posts_plain q i (x ∷ is) = (post_plain q i x, posts_plain q (suc i) is)

-- ── one settle ──

module _ (b : Book) (old : Option Trace) (a : Answer) (s : Sheet) where
  pub too_large_exactly : Settled b old a s → (told_number a ≡ some 21) ↔ (plain_run_of b ≡ none)
  too_large_exactly (inl f) = (λ e. f.none_so_small, λ e. ap told_number f.answers)
  too_large_exactly (inr w) = (
    λ e. absurd (none-ne-some 21 (sym (ap told_number w.answers) ∙ e)),
    λ e. absurd (none-ne-some _ (sym e ∙ well_plain b old a s w)),
  )

  pub holds_plain : Settled b old a s → (t : Trace) → plain_run_of b ≡ some t → HoldsPlain t s
  holds_plain (inl f) t e = absurd (none-ne-some t (sym f.none_so_small ∙ e))
  holds_plain (inr w) t e =
      let same : canonical w.new_trace ≡ t = some-injective (canonical w.new_trace) t (sym (well_plain b old a s w) ∙ e) in
      subst (HoldsPlain t) (sym w.leaves) (record { result = ap (λ (z : Trace). show (result_of z)) same; listing = ap (lines 0 0) same; records = sym (size_renamed (rank w.new_trace) w.new_trace) ∙ ap size same })

  settled_state : Settled b old a s → (t : Trace) → plain_run_of b ≡ some t → s.keeps.state ≡ rests settled
  settled_state h t e = ap (λ (z : Book). z.state) (settled_book b old a s h) ∙ ap (λ (o : Option Trace). rests (after_settle o)) e

-- ── readings ──

abbrev plain_reading : Trace → Reading → Answer
plain_reading t of_result = content (show (result_of t))
plain_reading t (of_line r) = cond (ltb r (length (lines 0 0 t))) (line (get_or (lines 0 0 t) r no_line)) (refused no_such_line)

bears_own : (b : Book) (n : ℕ) → b.state ≡ rests settled → b.made_of.number ≡ n → bears b (a_pass (resting settled) n) ≡ true
bears_own b n e f =
    ap (λ (t : Bool). t && same_sort (resting settled) (sort_of b.state)) (eq-eqb n b.made_of.number (sym f))
    ∙ ap (λ (z : State). same_sort (resting settled) (sort_of z)) e

reads_plain : (s : Sheet) (t : Trace) (r : Reading) (n : ℕ) (x : Answer) (s' : Sheet) → s.keeps.state ≡ rests settled → s.keeps.made_of.number ≡ n →
    plain_run_of s.keeps ≡ some t → HoldsPlain t s → Does s (reading r n) x s' → x ≡ plain_reading t r
reads_plain s t of_result n x s' e f p h d =
    let free : refusal s.keeps (reading of_result n) ≡ none = ap (λ (z : Bool). unless (z && true) wrong_pass none) (bears_own s.keeps n e f) in
    (subst (λ (o : Option Refusal). RefusedOr o s (reading of_result n) x s') free d.does).answers ∙ ap content h.result
reads_plain s t (of_line r) n x s' e f p h d =
    let is : refusal s.keeps (reading (of_line r) n) ≡ unless (ltb r (length (lines 0 0 t))) no_such_line none =
    ap (λ (z : Bool). unless (z && true) wrong_pass (unless (ltb r (length (plain_lines (plain_run_of s.keeps)))) no_such_line none)) (bears_own s.keeps n e f)
    ∙ ap (λ (o : Option Trace). unless (ltb r (length (plain_lines o))) no_such_line none) p in
    pick (ltb r (length (lines 0 0 t))) (subst (λ (o : Option Refusal). RefusedOr o s (reading (of_line r) n) x s') is d.does)
  where
    pick : (z : Bool) → RefusedOr (unless z no_such_line none) s (reading (of_line r) n) x s' → x ≡ cond z (line (get_or (lines 0 0 t) r no_line)) (refused no_such_line)
    pick true k = k.answers ∙ ap (λ (ls : List Line). line (get_or ls r no_line)) h.listing
    pick false k = k.answers

-- ── the new sheet ──

record NewSettled (b : Book) (a₂ : Answer) (s₂ : Sheet) (new : NewBeside b.made_of b.inputs a₂ s₂) : Type 0 where
  taken : AllTaken new.answers
  settled_so : Settled (open_with (renumbered b.made_of new.number) b.inputs) none a₂ s₂

pub fits_renumbered : (k : Make) (n : ℕ) (is : List InputContent) → Fits k is → Fits (renumbered k n) is
fits_renumbered k n is f = record { sized = f.sized; each = f.each }

new_settled : (b : Book) (a₂ : Answer) (s₂ : Sheet) (new : NewBeside b.made_of b.inputs a₂ s₂) → Fits b.made_of b.inputs → NewSettled b a₂ s₂ new
new_settled b a₂ s₂ new f =
    let k = renumbered b.made_of new.number in
    let all = fills_all k b.inputs (fits_renumbered b.made_of new.number b.inputs f) in
    let book : new.filled.keeps ≡ open_with k b.inputs = history_book new.fills ∙ all.1 in
    let good : Good new.filled = history_good new.fills (fresh_good k) in
    let bare : new.filled.trace ≡ none = subst (λ (z : Book). Traced z.made_of (sort_before z.state) (noted z) new.filled.trace) book good.traced in
    let free : refusal new.filled.keeps (SETTLE (a_pass opened new.number)) ≡ none =
    ap (λ (z : Book). refusal z (SETTLE (a_pass opened new.number))) book ∙ takes_settle k b.inputs in
    let done-so : Settled new.filled.keeps new.filled.trace a₂ s₂ =
    subst (λ (o : Option Refusal). RefusedOr o new.filled (SETTLE (a_pass opened new.number)) a₂ s₂) free new.settles.does in
    record {
      taken = history_taken new.fills all.0 (open_plain (a_pass (resting unsettled) new.number), posts_plain (a_pass opened new.number) 0 b.inputs);
      settled_so = subst (λ (o : Option Trace). Settled (open_with k b.inputs) o a₂ s₂) bare (subst (λ (z : Book). Settled z new.filled.trace a₂ s₂) book done-so);
    }

-- ── the whole ──

not_both : settled ≡ unsettled → ⊥
not_both e = let z : ◌≡◌ {A = ℕ} 0 1 = cc in omega arith

-- b is the book that is to be settled
module _ (b : Book) (old : Option Trace) (a : Answer) (s : Sheet) (h : Settled b old a s) where
  later_state : {s' : Sheet} {cs : List Call} {ans : List Answer} → History s cs ans s' → (book_from (settling b) cs).state ≡ rests settled → s'.keeps.state ≡ rests settled
  later_state {s'} {cs} l e = ap (λ (z : Book). z.state) (history_book l ∙ ap (λ (z : Book). book_from z cs) (settled_book b old a s h)) ∙ e

  later_same : {s' : Sheet} {cs : List Call} {ans : List Answer} → History s cs ans s' → NoSettle (settling b) cs → Same s s'
  later_same {s'} {cs} l n = history_quiet l (subst (λ (z : Book). NoSettle z cs) (sym (settled_book b old a s h)) n)

  -- a settled pass: the plain run was not too large
  later_plain : {s' : Sheet} → Same s s' → s'.keeps.state ≡ rests settled → (t : Trace) × (plain_run_of b ≡ some t)
  later_plain {s'} w e = pick (plain_run_of b) refl
    where
      sorts : settled ≡ after_settle (plain_run_of b)
      sorts = sym (ap sort_before e) ∙ w.sort ∙ ap (λ (z : Book). sort_before z.state) (settled_book b old a s h)

      pick : (o : Option Trace) → plain_run_of b ≡ o → (t : Trace) × (plain_run_of b ≡ some t)
      pick none q = absurd (not_both (sorts ∙ ap after_settle q))
      pick (some t) q = (t, q)

  later_reads : {s' : Sheet} {cs : List Call} {ans : List Answer} → History s cs ans s' → Same s s' → s'.keeps.state ≡ rests settled → (t : Trace) → plain_run_of b ≡ some t →
      (r : Reading) (x : Answer) (s'' : Sheet) → Does s' (reading r b.made_of.number) x s'' → x ≡ plain_reading t r
  later_reads {s'} l w e t p r x s'' d =
      let book = settled_book b old a s h in
      let make : s'.keeps.made_of ≡ b.made_of = history_made l ∙ ap (λ (z : Book). z.made_of) book in
      let inputs : s'.keeps.inputs ≡ b.inputs =
      ap (λ (z : State). noted_at z s'.keeps.inputs) (sym e) ∙ w.noted_inputs ∙ ap noted book in
      let plains : plain_run_of s'.keeps ≡ some t =
      ap (λ (z : Make). plain_run z.limit z.program s'.keeps.inputs) make ∙ ap (λ (z : List InputContent). plain_run b.made_of.limit b.made_of.program z) inputs ∙ p in
      let held = holds_plain b old a s h t p in
      reads_plain s' t r b.made_of.number x s'' e (ap (λ (z : Make). z.number) make) plains
      (record { result = ap shown_result w.trace ∙ held.result; listing = ap shown_lines w.trace ∙ held.listing; records = ap standing_count w.trace ∙ held.records }) d

module _ (b₀ b : Book) (s₀ : Sheet) (a : Answer) (s : Sheet) (h : Settled b s₀.trace a s) where
  pub whole_beside : Fits b.made_of b.inputs → (a₂ : Answer) (s₂ : Sheet) (new : NewBeside b.made_of b.inputs a₂ s₂) → OldAsNew (settling b) a s a₂ s₂ new
  whole_beside f a₂ s₂ new = record {
    posts_taken = w.taken;
    old_too_large = too_large_exactly b s₀.trace a s h;
    new_too_large = too_large_exactly b₂ none a₂ s₂ w.settled_so;
    old_holds = holds_plain b s₀.trace a s h;
    new_holds = holds_plain b₂ none a₂ s₂ w.settled_so;
    read_alike = alike;
  }
    where
      w : NewSettled b a₂ s₂ new
      w = new_settled b a₂ s₂ new f

      b₂ : Book
      b₂ = open_with (renumbered b.made_of new.number) b.inputs

      alike : (cs : List Call) (ans : List Answer) (s' : Sheet) → History s cs ans s' → NoSettle (settling b) cs → (book_from (settling b) cs).state ≡ rests settled →
          (r : Reading) (x y : Answer) (s'' s₂' : Sheet) → Does s' (reading r b.made_of.number) x s'' → Does s₂ (reading r new.number) y s₂' → x ≡ y
      alike cs ans s' l n e r x y s'' s₂' d d₂ =
          let e' = later_state b s₀.trace a s h l e in
          let same = later_same b s₀.trace a s h l n in
          let p = later_plain b s₀.trace a s h same e' in
          let e₂ = settled_state (open_with (renumbered b.made_of new.number) b.inputs) none a₂ s₂ (new_settled b a₂ s₂ new f).settled_so p.0 p.1 in
          later_reads b s₀.trace a s h l same e' p.0 p.1 r x s'' d
          ∙ sym (later_reads (open_with (renumbered b.made_of new.number) b.inputs) none a₂ s₂ (new_settled b a₂ s₂ new f).settled_so untouched
          (record { sort = refl; noted_inputs = refl; trace = refl }) e₂ p.0 p.1 r y s₂' d₂)

  pub whole_turns : (t : Trace) → s₀.trace ≡ some t → Stands b.made_of.program (noted b₀) t →
      ((u t₁ u₁ : Trace) (e m f n : ℕ) → Turns b.made_of.program (places t) (initial b.inputs) t u e m → Distinct (places u) → plain_run b.made_of.limit b.made_of.program (noted b₀) ≡ some t₁ →
      Turns b.made_of.program (places t₁) (initial b.inputs) t₁ u₁ f n → Distinct (places u₁) → (f ≡ e) × (n ≡ m)) →
      ¬ (plain_run_of b ≡ none) → ByTurns b₀ (settling b) s₀ a s
  whole_turns t g st v n = pick (subst (λ (o : Option Trace). Settled b o a s) g h)
    where
      pick : Settled b (some t) a s → ByTurns b₀ (settling b) s₀ a s
      pick (inl f) = absurd (n f.none_so_small)
      pick (inr w) = record {
        old_trace = t;
        new_trace = w.new_trace;
        e = w.e;
        m = w.m;
        stood = g;
        stood_on = st;
        stands = ap (λ (z : Sheet). z.trace) w.leaves;
        turns = w.worked.1;
        read_out = read_out w.worked.1;
        apart = w.stands.apart;
        answers = w.answers ∙ ap (λ (z : Sheet). done w.mark w.e w.m (size w.new_trace) (pass_of z.keeps)) w.leaves
            ∙ ap (λ (z : ℕ). done z w.e w.m (size w.new_trace) (a_pass (resting settled) b.made_of.number)) w.worked.0;
        counts = λ u f k x d. turns_count_alike b.made_of.program (noted b₀) b.inputs t u w.new_trace f w.e k w.m st x d w.worked.1 w.stands.apart;
        by_value = λ t₁ u₁ f k p x d. v w.new_trace t₁ u₁ w.e w.m f k w.worked.1 w.stands.apart p x d;
      }

  pub whole_anew : s₀.trace ≡ none → ¬ (plain_run_of b ≡ none) → RunAnew (settling b) a s
  whole_anew g n = pick (subst (λ (o : Option Trace). Settled b o a s) g h)
    where
      pick : Settled b none a s → RunAnew (settling b) a s
      pick (inl f) = absurd (n f.none_so_small)
      pick (inr w) = record {
        new_trace = w.new_trace;
        stands = ap (λ (z : Sheet). z.trace) w.leaves;
        answers = w.answers ∙ ap (λ (z : Sheet). done w.mark w.e w.m (size w.new_trace) (pass_of z.keeps)) w.leaves
            ∙ (let i = w.worked.0 in let j = w.worked.1 in let l = w.worked.2 in cc);
      }
