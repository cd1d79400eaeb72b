-- Every call is answered, and what it answers follows from the calls alone.
use mathlib.Core.Path.{◌≡◌, refl, sym, ◌∙◌, ap, ap₂, subst}
use mathlib.Core.List.{List, ◌∷◌}
use mathlib.Core.Option.{Option, some, none, some-injective, none-ne-some}
use mathlib.Core.Logic.{inl, inr}
use Prim.Native.Nat.{ℕ}
use lib.ListN.{get_or}
use Rattle.trace.specs.Trace.{Trace, size}
use Rattle.trace.specs.Run.{plain_run}
use Rattle.program.specs.declared.value.InputContent.{InputContent}
use Rattle.trace.specs.Listing.{Line, lines, rank, canonical, result_of}
use Rattle.trace.specs.Laws.{ASettle}
use Rattle.trace.proofs.Renamed.{size_renamed}
use Rattle.trace.proofs.Plain.{is_plain, plain_run_stands}
use Rattle.trace.proofs.ByValue.{counts_of_the_plain_run}
use Rattle.trace.proofs.Settled.{turns_leave_a_run}
use Rattle.trace.proofs.Exists.{settling_exists}
use Rattle.history.specs.Calls.{Resting, settled, unsettled, Make, Call, OPEN, POST, WITHDRAW, SETTLE, BOOK, TURN, RESULT, LINE, Refusal, Answer, refused, gives, done, too_large, content, line, show}
use Rattle.history.specs.Book.{Book, refusal, change, book_step, plain_run_of, day_turned, sort_before, noted}
use Rattle.history.specs.Sheet.{Sheet, Settled, SettledSo, Worked, Serves, RefusedOr, Does, at_rest_as, pass_of, shown_result, shown_lines, no_line}
use Rattle.history.specs.History.{History, untouched, then}
use Rattle.history.specs.Answered.{Answered, EveryCallIsAnswered, AnswersAreDetermined}
use Rattle.history.proofs.Steps.{Good, HasTrace, Traced, does_book, does_good, well_plain}
use Rattle.history.proofs.Whole.{history_good, fresh_good}

-- ── the trace on the same inputs shows the same ──

has_plain : (k : Make) (is : List InputContent) (o : Option Trace) (h : HasTrace k is o) → plain_run k.limit k.program is ≡ some (canonical h.it)
has_plain k is o h = (is_plain k.program is h.it k.limit h.stands).0 h.fits

same_canonical : (k : Make) (is : List InputContent) (o o₂ : Option Trace) (h : HasTrace k is o) (h₂ : HasTrace k is o₂) → canonical h.it ≡ canonical h₂.it
same_canonical k is o o₂ h h₂ = some-injective (canonical h.it) (canonical h₂.it) (sym (has_plain k is o h) ∙ has_plain k is o₂ h₂)

same_result : (k : Make) (r : Resting) (is : List InputContent) (o o₂ : Option Trace) → Traced k r is o → Traced k r is o₂ → shown_result o ≡ shown_result o₂
same_result k settled is o o₂ h h₂ =
    ap shown_result h.has ∙ ap (λ (t : Trace). show (result_of t)) (same_canonical k is o o₂ h h₂) ∙ ap shown_result (sym h₂.has)
same_result k unsettled is o o₂ h h₂ = ap shown_result (h ∙ sym h₂)

same_lines : (k : Make) (r : Resting) (is : List InputContent) (o o₂ : Option Trace) → Traced k r is o → Traced k r is o₂ → shown_lines o ≡ shown_lines o₂
same_lines k settled is o o₂ h h₂ =
    ap shown_lines h.has ∙ ap (lines 0 0) (same_canonical k is o o₂ h h₂) ∙ ap shown_lines (sym h₂.has)
same_lines k unsettled is o o₂ h h₂ = ap shown_lines (h ∙ sym h₂)

-- ── a settle answers the same ──

-- the numbers of a settle: mark, E, M and S
abbrev numbers_of : (b : Book) (old : Option Trace) (a : Answer) (s : Sheet) → SettledSo b old a s → Answer
numbers_of b old a s w = done w.mark w.e w.m (size w.new_trace) (pass_of (at_rest_as settled b none).keeps)

answer_is : (b : Book) (old : Option Trace) (a : Answer) (s : Sheet) (w : SettledSo b old a s) → a ≡ numbers_of b old a s w
answer_is b old a s w = w.answers ∙ ap (λ (z : Sheet). done w.mark w.e w.m (size w.new_trace) (pass_of z.keeps)) w.leaves

same_done : {mark mark₂ e e₂ m m₂ z z₂ : ℕ} (b : Book) → mark ≡ mark₂ → e ≡ e₂ → m ≡ m₂ → z ≡ z₂ →
    done mark e m z (pass_of b) ≡ done mark₂ e₂ m₂ z₂ (pass_of b)
same_done b p q r t = cc

module _ (b : Book) (is : List InputContent) (o o₂ : Option Trace) (a a₂ : Answer) (s s₂ : Sheet) (w : SettledSo b o a s) (w₂ : SettledSo b o₂ a₂ s₂) where
  same_size : size w.new_trace ≡ size w₂.new_trace
  same_size =
      sym (size_renamed (rank w.new_trace) w.new_trace)
      ∙ ap size (some-injective (canonical w.new_trace) (canonical w₂.new_trace) (sym (well_plain b o a s w) ∙ well_plain b o₂ a₂ s₂ w₂))
      ∙ size_renamed (rank w₂.new_trace) w₂.new_trace

  same_anew : o ≡ none → o₂ ≡ none → a ≡ a₂
  same_anew e e₂ =
      let h = subst (λ (z : Option Trace). Worked b z w.new_trace w.mark w.e w.m) e w.worked in
      let h₂ = subst (λ (z : Option Trace). Worked b z w₂.new_trace w₂.mark w₂.e w₂.m) e₂ w₂.worked in
      answer_is b o a s w
      ∙ same_done (at_rest_as settled b none).keeps (h.0 ∙ sym h₂.0) (h.1 ∙ sym h₂.1) (h.2 ∙ same_size ∙ sym h₂.2) same_size
      ∙ sym (answer_is b o₂ a₂ s₂ w₂)

  same_turns : HasTrace b.made_of is o → HasTrace b.made_of is o₂ → a ≡ a₂
  same_turns h h₂ =
      let k = b.made_of in
      let L = k.limit in
      let P = k.program in
      let p = has_plain k is o h in
      let p₂ : plain_run L P is ≡ some (canonical h.it) = has_plain k is o₂ h₂ ∙ ap some (sym (same_canonical k is o o₂ h h₂)) in
      let A : ASettle L P b.inputs (canonical h.it) =
      settling_exists L P is b.inputs (canonical h.it) (plain_run_stands L P is (canonical h.it) p).0
      (λ e. none-ne-some (canonical w.new_trace) (sym e ∙ well_plain b o a s w)) in
      let x = subst (λ (z : Option Trace). Worked b z w.new_trace w.mark w.e w.m) h.has w.worked in
      let x₂ = subst (λ (z : Option Trace). Worked b z w₂.new_trace w₂.mark w₂.e w₂.m) h₂.has w₂.worked in
      let c = counts_of_the_plain_run L P is b.inputs h.it w.new_trace (canonical h.it) A.leaves w.e w.m A.e A.m
      h.stands h.fits x.1 w.stands.apart p A.turns A.apart in
      let c₂ = counts_of_the_plain_run L P is b.inputs h₂.it w₂.new_trace (canonical h.it) A.leaves w₂.e w₂.m A.e A.m
      h₂.stands h₂.fits x₂.1 w₂.stands.apart p₂ A.turns A.apart in
      answer_is b o a s w
      ∙ same_done (at_rest_as settled b none).keeps (x.0 ∙ sym x₂.0) (sym c.0 ∙ c₂.0) (sym c.1 ∙ c₂.1) same_size
      ∙ sym (answer_is b o₂ a₂ s₂ w₂)

  same_well : (r : Resting) → Traced b.made_of r is o → Traced b.made_of r is o₂ → a ≡ a₂
  same_well settled h h₂ = same_turns h h₂
  same_well unsettled h h₂ = same_anew h h₂

same_settle : (b : Book) (r : Resting) (is : List InputContent) (o o₂ : Option Trace) (a a₂ : Answer) (s s₂ : Sheet) →
    Traced b.made_of r is o → Traced b.made_of r is o₂ → Settled b o a s → Settled b o₂ a₂ s₂ → a ≡ a₂
same_settle b r is o o₂ a a₂ s s₂ h h₂ (inl f) (inl f₂) =
    f.answers ∙ ap (λ (z : Sheet). too_large (pass_of z.keeps)) (f.leaves ∙ sym f₂.leaves) ∙ sym f₂.answers
same_settle b r is o o₂ a a₂ s s₂ h h₂ (inl f) (inr w) = absurd (none-ne-some (canonical w.new_trace) (sym f.none_so_small ∙ well_plain b o₂ a₂ s₂ w))
same_settle b r is o o₂ a a₂ s s₂ h h₂ (inr w) (inl f) = absurd (none-ne-some (canonical w.new_trace) (sym f.none_so_small ∙ well_plain b o a s w))
same_settle b r is o o₂ a a₂ s s₂ h h₂ (inr w) (inr w₂) = same_well b is o o₂ a a₂ s s₂ w w₂ r h h₂

-- ── a call answers the same ──

abbrev sheet : Book → Option Trace → Sheet
sheet b o = record { keeps = b; trace = o }

module _ (b : Book) (o o₂ : Option Trace) (a a₂ : Answer) (s s₂ : Sheet) (g : Good (sheet b o)) (g₂ : Good (sheet b o₂)) where
  same_gives : (b' : Book) → s ≡ sheet b' o → s₂ ≡ sheet b' o₂ → a ≡ gives (pass_of s.keeps) → a₂ ≡ gives (pass_of s₂.keeps) → a ≡ a₂
  same_gives b' l l₂ e e₂ =
      e ∙ ap (λ (z : Sheet). gives (pass_of z.keeps)) l ∙ sym (ap (λ (z : Sheet). gives (pass_of z.keeps)) l₂) ∙ sym e₂

  same_served : (c : Call) → Serves (sheet b o) c a s → Serves (sheet b o₂) c a₂ s₂ → a ≡ a₂
  same_served (OPEN q) h h₂ = same_gives (change b (OPEN q)) h.leaves h₂.leaves h.answers h₂.answers
  same_served (POST q i x) h h₂ = same_gives (change b (POST q i x)) h.leaves h₂.leaves h.answers h₂.answers
  same_served (WITHDRAW q) h h₂ = same_gives (change b (WITHDRAW q)) h.leaves h₂.leaves h.answers h₂.answers
  same_served (SETTLE q) h h₂ = same_settle b (sort_before b.state) (noted b) o o₂ a a₂ s s₂ g.traced g₂.traced h h₂
  same_served (BOOK q x) h h₂ = same_gives (change b (BOOK q x)) h.leaves h₂.leaves h.answers h₂.answers
  same_served (TURN q d) h h₂ = same_settle (day_turned b d) (sort_before b.state) (noted b) o o₂ a a₂ s s₂ g.traced g₂.traced h h₂
  same_served (RESULT q) h h₂ =
      h.answers ∙ ap content (same_result b.made_of (sort_before b.state) (noted b) o o₂ g.traced g₂.traced) ∙ sym h₂.answers
  same_served (LINE q r) h h₂ =
      h.answers ∙ ap (λ (ls : List Line). line (get_or ls r no_line)) (same_lines b.made_of (sort_before b.state) (noted b) o o₂ g.traced g₂.traced) ∙ sym h₂.answers

  same_answer : (c : Call) → Does (sheet b o) c a s → Does (sheet b o₂) c a₂ s₂ → a ≡ a₂
  same_answer c h h₂ = pick (refusal b c) h.does h₂.does
    where
      pick : (r : Option Refusal) → RefusedOr r (sheet b o) c a s → RefusedOr r (sheet b o₂) c a₂ s₂ → a ≡ a₂
      pick none k k₂ = same_served c k k₂
      pick (some r) k k₂ = k.answers ∙ sym k₂.answers

-- ── whole histories ──

record AlikeSoFar (ans ans₂ : List Answer) (s s₂ : Sheet) : Type 0 where
  answers : ans ≡ ans₂
  books : s.keeps ≡ s₂.keeps
  good : Good s
  good₂ : Good s₂

histories_alike : {s s₂ s' s₂' : Sheet} {cs : List Call} {ans ans₂ : List Answer} → History s cs ans s' → History s₂ cs ans₂ s₂' →
    s.keeps ≡ s₂.keeps → Good s → Good s₂ → AlikeSoFar ans ans₂ s' s₂'
histories_alike untouched untouched e g g₂ = record { answers = refl; books = e; good = g; good₂ = g₂ }
histories_alike (then {s = s} {s' = t} {c = c} {a = a} h k) (then {s = s₂} {s' = t₂} {a = a₂} h₂ k₂) e g g₂ =
    let first : a ≡ a₂ = same_answer s.keeps s.trace s₂.trace a a₂ t t₂ g
    (subst (λ (b : Book). Good (sheet b s₂.trace)) (sym e) g₂) c h (subst (λ (b : Book). Does (sheet b s₂.trace) c a₂ t₂) (sym e) h₂) in
    let books : t.keeps ≡ t₂.keeps = does_book s c a t h ∙ ap (λ (b : Book). book_step b c) e ∙ sym (does_book s₂ c a₂ t₂ h₂) in
    let rest = histories_alike k k₂ books (does_good s c a t g h) (does_good s₂ c a₂ t₂ g₂ h₂) in
    record { answers = ap₂ (λ (x : Answer) (xs : List Answer). x ∷ xs) first rest.answers; books = rest.books; good = rest.good; good₂ = rest.good₂ }

pub answers_are_determined : AnswersAreDetermined
answers_are_determined k cs ans ans₂ s s₂ h h₂ =
    let A = histories_alike h h₂ refl (fresh_good k) (fresh_good k) in
    let g₂ : Good (sheet s.keeps s₂.trace) = subst (λ (b : Book). Good (sheet b s₂.trace)) (sym A.books) A.good₂ in
    let b = s.keeps in (
      A.answers,
      record {
        books = A.books;
        results = same_result b.made_of (sort_before b.state) (noted b) s.trace s₂.trace A.good.traced g₂.traced;
        listings = same_lines b.made_of (sort_before b.state) (noted b) s.trace s₂.trace A.good.traced g₂.traced;
      },
    )

-- ── every call is answered ──

record SettlesSomehow (b : Book) (o : Option Trace) : Type 0 where
  answer : Answer
  leaves : Sheet
  so : Settled b o answer leaves

settles_large : (b : Book) (o : Option Trace) → plain_run_of b ≡ none → SettlesSomehow b o
settles_large b o e = record {
  answer = too_large (pass_of (at_rest_as unsettled b none).keeps);
  leaves = at_rest_as unsettled b none;
  so = inl (record { none_so_small = e; leaves = refl; answers = refl });
}

settles_anew : (b : Book) (o : Option Trace) (t : Trace) → o ≡ none → plain_run_of b ≡ some t → SettlesSomehow b o
settles_anew b o t n e =
    let h = plain_run_stands b.made_of.limit b.made_of.program b.inputs t e in
    record {
      answer = done 2 0 (size t) (size t) (pass_of (at_rest_as settled b none).keeps);
      leaves = at_rest_as settled b (some t);
      so = inr (record {
        new_trace = t;
        stands = h.0;
        fits = h.1;
        mark = 2;
        e = 0;
        m = size t;
        worked = subst (λ (z : Option Trace). Worked b z t 2 0 (size t)) (sym n) (refl, refl, refl);
        leaves = refl;
        answers = refl;
      });
    }

settles_by_turns : (b : Book) (is : List InputContent) (o : Option Trace) (t : Trace) → HasTrace b.made_of is o → plain_run_of b ≡ some t → SettlesSomehow b o
settles_by_turns b is o t h e =
    let A = settling_exists b.made_of.limit b.made_of.program is b.inputs h.it h.stands (λ n. none-ne-some t (sym n ∙ e)) in
    record {
      answer = done 1 A.e A.m (size A.leaves) (pass_of (at_rest_as settled b none).keeps);
      leaves = at_rest_as settled b (some A.leaves);
      so = inr (record {
        new_trace = A.leaves;
        stands = turns_leave_a_run b.made_of.program is b.inputs h.it A.leaves A.e A.m h.stands A.turns A.apart;
        fits = A.fits;
        mark = 1;
        e = A.e;
        m = A.m;
        worked = subst (λ (z : Option Trace). Worked b z A.leaves 1 A.e A.m) (sym h.has) (refl, A.turns);
        leaves = refl;
        answers = refl;
      });
    }

settles_somehow : (b : Book) (r : Resting) (is : List InputContent) (o : Option Trace) → Traced b.made_of r is o → SettlesSomehow b o
settles_somehow b r is o h = pick (plain_run_of b) refl r h
  where
    pick : (p : Option Trace) → plain_run_of b ≡ p → (r : Resting) → Traced b.made_of r is o → SettlesSomehow b o
    pick none e r h = settles_large b o e
    pick (some t) e settled h = settles_by_turns b is o t h e
    pick (some t) e unsettled h = settles_anew b o t h e

record Served (s : Sheet) (c : Call) : Type 0 where
  answer : Answer
  leaves : Sheet
  serves : Serves s c answer leaves

served : (s : Sheet) → Good s → (c : Call) → Served s c
served s g (OPEN q) = record { answer = gives (pass_of (change s.keeps (OPEN q))); leaves = sheet (change s.keeps (OPEN q)) s.trace; serves = record { leaves = refl; answers = refl } }
served s g (POST q i x) = record { answer = gives (pass_of (change s.keeps (POST q i x))); leaves = sheet (change s.keeps (POST q i x)) s.trace; serves = record { leaves = refl; answers = refl } }
served s g (WITHDRAW q) = record { answer = gives (pass_of (change s.keeps (WITHDRAW q))); leaves = sheet (change s.keeps (WITHDRAW q)) s.trace; serves = record { leaves = refl; answers = refl } }
served s g (SETTLE q) =
    let r = settles_somehow s.keeps (sort_before s.keeps.state) (noted s.keeps) s.trace g.traced in
    record { answer = r.answer; leaves = r.leaves; serves = r.so }
served s g (BOOK q x) = record { answer = gives (pass_of (change s.keeps (BOOK q x))); leaves = sheet (change s.keeps (BOOK q x)) s.trace; serves = record { leaves = refl; answers = refl } }
served s g (TURN q d) =
    let r = settles_somehow (day_turned s.keeps d) (sort_before s.keeps.state) (noted s.keeps) s.trace g.traced in
    record { answer = r.answer; leaves = r.leaves; serves = r.so }
served s g (RESULT q) = record { answer = content (shown_result s.trace); leaves = s; serves = record { leaves = refl; answers = refl } }
served s g (LINE q r) = record { answer = line (get_or (shown_lines s.trace) r no_line); leaves = s; serves = record { leaves = refl; answers = refl } }

answered : (s : Sheet) → Good s → (c : Call) → Answered s c
answered s g c = pick (refusal s.keeps c) refl
  where
    pick : (o : Option Refusal) → refusal s.keeps c ≡ o → Answered s c
    pick none e =
        let r = served s g c in
        record { answer = r.answer; leaves = r.leaves; does = record { does = subst (λ (o : Option Refusal). RefusedOr o s c r.answer r.leaves) (sym e) r.serves } }
    pick (some r) e =
        record { answer = refused r; leaves = s; does = record { does = subst (λ (o : Option Refusal). RefusedOr o s c (refused r) s) (sym e) (record { leaves = refl; answers = refl }) } }

pub every_call_is_answered : EveryCallIsAnswered
every_call_is_answered k cs ans s h c = answered s (history_good h (fresh_good k)) c
