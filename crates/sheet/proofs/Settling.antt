-- What a settle does, from what the run anew says.
use Rattle.std.proofs.Common.{◌≡◌, ℕ, ◌+◌, ◌*◌, ◌≤◌, Bool, true, ◌&&◌, List, [], get_or, take, sym, refl, ap, ◌∙◌, subst, ap₂, inl, inr, arith, length-take, get_or-take}
use mathlib.Core.Option.{Option, some, none}
use Rattle.std.proofs.lemmas.List.{get_or_past}
use Rattle.std.proofs.lemmas.Bool.{cases_lt}
use Rattle.program.specs.View.{View, viewed}
use Rattle.program.specs.declared.value.InputContent.{InputContent}
use Rattle.program.specs.declared.value.InputContent.TheVariants.{Empty}
use Rattle.trace.specs.Trace.{Trace, size, Store}
use Rattle.trace.specs.Code.{main}
use Rattle.trace.specs.Run.{content_of_input, Kept, initial, Stands}
use Rattle.trace.specs.Over.{Over, BeginsMore}
use Rattle.trace.proofs.Over.{too_large_means}
use Rattle.history.specs.Calls.{settled, unsettled, resting, opened, SETTLE, Refusal, Answer, done, too_large, wrong_pass}
use Rattle.history.specs.Book.{Book, refusal, unless}
use Rattle.history.specs.Sheet as history
use Rattle.history.specs.Sheet.{Does, SettledSo, FoundTooLarge}
use Rattle.history.specs.History.{a_pass}
use Rattle.history.proofs.Whole.{too_large_exactly, holds_plain}
use Rattle.order_list.specs.declared.list.OrderList.{Ghosts}
use Rattle.table.specs.declared.table.Table.{Table}
use Rattle.table.specs.Changes.{SameInputs}
use Rattle.table.specs.Anew.{RanAnew, Exceeded}
use Rattle.table.proofs.Runs.{stores}
use Rattle.sheet.specs.declared.sheet.State.{State}
use Rattle.sheet.specs.declared.sheet.State.TheVariants.{Unsettled, Settled, Open}
use Rattle.sheet.specs.declared.sheet.Sheet.{Sheet}
use Rattle.sheet.specs.Shows.{Model, count_of_inputs, made_of, state_of, kept_book, takes_pass, RestEmpty}
use Rattle.sheet.specs.Answers.{Serves, Plainly, Settles}
use Rattle.sheet.proofs.Serving.{model, serves_from, served_call, bears_takes, takes_both}
use Rattle.sheet.proofs.Calling.{no_trace, rest_same}

-- ── the inputs of the table and those of the book ──

input_is : (n : ℕ) (is : List InputContent) → RestEmpty n is → (k : ℕ) → get_or is k Empty ≡ get_or (take n is) k Empty
input_is n is h k = elim (cases_lt k n) [
  | inl l ↦ sym (get_or-take n is k Empty l)
  | inr l ↦ h k l ∙ sym (get_or_past (take n is) k Empty (let e = length-take n is in omega arith))
]

initial_is : (n : ℕ) (is : List InputContent) → RestEmpty n is → initial is ≡ initial (take n is)
initial_is n is h = stores (λ k. ap content_of_input (input_is n is h k)) (λ m. refl)

stands_taken : {P : View} (n : ℕ) (is : List InputContent) {u : Trace} → RestEmpty n is → Stands P is u → Stands P (take n is) u
stands_taken n is {u} h s = record { follows = s.follows; all_kept = subst (Kept u) (initial_is n is h) s.all_kept; apart = s.apart }

begins_taken : {L : ℕ} {P : View} (n : ℕ) (is : List InputContent) → RestEmpty n is → BeginsMore L P is → BeginsMore L P (take n is)
begins_taken {L} {P} n is h b = record { begun_at = b.begun_at; apart = b.apart; over = subst (λ (σ : Store). Over P (main P) σ b.begun_at L) (initial_is n is h) b.over }

-- ── a settle ──

-- the sheet with another state, table and list
abbrev pub settled_as : {X : Type 0} → Sheet X → State → Table → X → Sheet X
settled_as s k t x = record { program = s.program; number = s.number; limit = s.limit; state = k; table = t; list = x }

not_refused : {X : Type 0} (s : Sheet X) (n : ℕ) → takes_pass s n Open ≡ true → refusal (kept_book s) (SETTLE (a_pass opened n)) ≡ none
not_refused s n tk = ap (λ (k : Bool). unless (k && true) wrong_pass none) (bears_takes s n Open ∙ tk)

kept_inputs : {X : Type 0} (s : Sheet X) (t : Table) (x : X) (k : State) → SameInputs s.table t → kept_book (settled_as s k t x) ≡
    record { made_of = made_of s; state = state_of k (take (count_of_inputs s.program) s.table.noted); inputs = take (count_of_inputs s.program) s.table.inputs; bookings = [] }
kept_inputs s t x k e = ap₂ (λ (js is : List InputContent). record { made_of = made_of s; state = state_of k (take (count_of_inputs s.program) js); inputs = take (count_of_inputs s.program) is; bookings = [] }) e.noted e.inputs

module _ {X : Type 0} {g : Ghosts X} (s : Sheet X) (t : Table) (x : X) (n q : ℕ) (eq : q ≡ n) (tk : takes_pass s n Open ≡ true) where
  pub settled_call : {m : ℕ} → RanAnew g (viewed s.program) s.limit.value s.table t x m →
      Serves g s (SETTLE (a_pass opened n)) (done 2 0 m m (a_pass (resting settled) q)) (settled_as s Settled t x)
  settled_call {m = m} r = serves_from (λ o h.
      let b = takes_both s n Open tk in
      let c = count_of_inputs s.program in
      let u = r.trace in
      let e = kept_inputs s t x Settled r.same in
      let counted = r.counted in
      let st = stands_taken c s.table.inputs h.rest r.stands in
      let fits : size u ≤ s.limit.value = (let f = r.fits in omega arith) in
      record {
        after = model (settled_as s Settled t x) (some u);
        shows = record {
          keeps = refl;
          holding = r.holding;
          traced = (subst (λ (is : List InputContent). Stands (viewed s.program) (take c is) u) (sym r.same.inputs) st, fits);
          rest = rest_same c r.same.inputs h.rest;
          noted_rest = rest_same c r.same.noted h.noted_rest;
        };
        does = served_call (not_refused s n tk) (inr (record {
          new_trace = u;
          stands = st;
          fits = fits;
          mark = 2;
          e = 0;
          m = m;
          worked = subst (λ (q : Option Trace). history.Worked (kept_book s) q u 2 0 m) (sym (no_trace h (inr b.1))) (refl, refl, counted);
          leaves = ap (λ (k : Book). record { keeps = k; trace = some u }) e;
          answers = ap₂ (λ (k i : ℕ). done 2 0 m k (a_pass (resting settled) i)) counted (eq ∙ b.0);
        }));
      })

  pub too_large_call : Exceeded g (viewed s.program) s.limit.value s.table t x →
      Serves g s (SETTLE (a_pass opened n)) (too_large (a_pass (resting unsettled) q)) (settled_as s Unsettled t x)
  too_large_call r = serves_from (λ o h.
      let b = takes_both s n Open tk in
      let c = count_of_inputs s.program in
      let e = kept_inputs s t x Unsettled r.same in
      record {
        after = model (settled_as s Unsettled t x) none;
        shows = record {
          keeps = refl;
          holding = r.holding;
          traced = refl;
          rest = rest_same c r.same.inputs h.rest;
          noted_rest = rest_same c r.same.noted h.noted_rest;
        };
        does = served_call (not_refused s n tk) (inl (record {
          none_so_small = (too_large_means s.limit.value (viewed s.program) (take c s.table.inputs)).0.1 (begins_taken c s.table.inputs h.rest r.begins_more);
          leaves = ap (λ (k : Book). record { keeps = k; trace = none }) e;
          answers = ap (λ (k : ℕ). too_large (a_pass (resting unsettled) k)) (eq ∙ b.0);
        }));
      })

-- ── the plain run ──

plainly : {m m' : Model} {n : ℕ} {a : Answer} → Does m (SETTLE (a_pass opened n)) a m' → Plainly m (SETTLE (a_pass opened n)) a m'
plainly {m} {m'} {n} {a} d =
    let c = SETTLE (a_pass opened n) in
    let so : refusal m.keeps c ≡ none → history.Settled m.keeps m.trace a m' = λ e. subst (λ (o : Option Refusal). history.RefusedOr o m c a m') e d.does in
    record {
      too_large = λ e. too_large_exactly m.keeps m.trace a m' (so e);
      holds = λ e t p. holds_plain m.keeps m.trace a m' (so e) t p;
    }

pub settles_plainly : {X : Type 0} {g : Ghosts X} {s s' : Sheet X} {n : ℕ} {a : Answer} → Serves g s (SETTLE (a_pass opened n)) a s' → Settles g s (SETTLE (a_pass opened n)) a s'
settles_plainly h = record { settles = λ m w. let d = h.serves m w in (d, plainly d.does) }
