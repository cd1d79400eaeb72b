-- From the model that a sheet shows to the book that it keeps.
use Rattle.std.proofs.Common.{◌≡◌, ℕ, Bool, true, ◌&&◌, eqb, List, sym, refl, ap, ◌∙◌, subst, inl, inr}
use mathlib.Core.Option.{Option, none}
use Rattle.std.proofs.lemmas.Bool.Decides.{eqb_tells}
use Rattle.trace.specs.Trace.{Trace}
use Rattle.history.specs.Calls.{settled, unsettled, Sort, resting, opened, Call, Refusal, Answer}
use Rattle.program.specs.declared.value.InputContent.{InputContent}
use Rattle.std.proofs.lemmas.Bool.{and_parts, true≢false}
use Rattle.history.specs.Book.{Book, bears, refusal, same_sort, sort_of}
use Rattle.history.specs.Sheet.{Does, RefusedOr}
use Rattle.history.specs.Sheet as history
use Rattle.history.specs.History.{a_pass}
use Rattle.order_list.specs.declared.list.OrderList.{Ghosts}
use Rattle.sheet.specs.declared.sheet.State.{State}
use Rattle.sheet.specs.declared.sheet.State.TheVariants.{Unsettled, Settled, Open}
use Rattle.sheet.specs.declared.sheet.Sheet.{Sheet}
use Rattle.sheet.specs.Shows.{Model, state_of, kept_book, takes_pass, same_state, Shows}
use Rattle.sheet.specs.Answers.{Done, Serves}

-- the model of a sheet with the trace o
abbrev pub model : {X : Type 0} → Sheet X → Option Trace → Model
model s o = record { keeps = kept_book s; trace = o }

-- it is enough to look at models that keep the sheet's book
pub serves_from : {X : Type 0} {g : Ghosts X} {s s' : Sheet X} {c : Call} {a : Answer} →
    ((o : Option Trace) → Shows g s (model s o) → Done g (model s o) c a s') → Serves g s c a s'
serves_from {g = g} {s} {s'} {c} {a} f = record {
  serves = λ m h.
      let e : m ≡ model s m.trace = ap (λ (b : Book). record { keeps = b; trace = m.trace }) h.keeps in
      subst (λ (k : Model). Done g k c a s') (sym e) (f m.trace (subst (Shows g s) e h));
}

-- a call that is served
pub served_call : {s s' : Model} {c : Call} {a : Answer} → refusal s.keeps c ≡ none → history.Serves s c a s' → Does s c a s'
served_call {s} {s'} {c} {a} e h = record { does = subst (λ (k : Option Refusal). RefusedOr k s c a s') (sym e) h }

-- ── passes ──

-- the sort of pass that goes with a state
abbrev pub sort_at : State → Sort
sort_at Unsettled = resting unsettled
sort_at Settled = resting settled
sort_at Open = opened

same_sorts : (k j : State) (js : List InputContent) → same_sort (sort_at k) (sort_of (state_of j js)) ≡ same_state k j
same_sorts Unsettled Unsettled js = refl
same_sorts Unsettled Settled js = refl
same_sorts Unsettled Open js = refl
same_sorts Settled Unsettled js = refl
same_sorts Settled Settled js = refl
same_sorts Settled Open js = refl
same_sorts Open Unsettled js = refl
same_sorts Open Settled js = refl
same_sorts Open Open js = refl

pub bears_takes : {X : Type 0} (s : Sheet X) (n : ℕ) (k : State) → bears (kept_book s) (a_pass (sort_at k) n) ≡ takes_pass s n k
bears_takes s n k = ap (λ (b : Bool). eqb n s.number && b) (same_sorts k s.state _)

state_is : (k j : State) → same_state k j ≡ true → j ≡ k
state_is Unsettled Unsettled h = refl
state_is Unsettled Settled h = absurd (true≢false (sym h))
state_is Unsettled Open h = absurd (true≢false (sym h))
state_is Settled Unsettled h = absurd (true≢false (sym h))
state_is Settled Settled h = refl
state_is Settled Open h = absurd (true≢false (sym h))
state_is Open Unsettled h = absurd (true≢false (sym h))
state_is Open Settled h = absurd (true≢false (sym h))
state_is Open Open h = refl

pub takes_both : {X : Type 0} (s : Sheet X) (n : ℕ) (k : State) → takes_pass s n k ≡ true → (n ≡ s.number) × (s.state ≡ k)
takes_both s n k h = let b = and_parts (eqb n s.number) (same_state k s.state) h in
    (elim (eqb_tells n s.number) [ inl e ↦ e.1 | inr e ↦ absurd (true≢false (sym b.0 ∙ e.0)) ], state_is k s.state b.1)
