-- What each call does, from what its parts say.
use Rattle.std.proofs.Common.{◌≡◌, ℕ, zero, suc, ◌+◌, ◌*◌, ◌<◌, ◌≤◌, Bool, true, ◌&&◌, ltb, ◌⊎◌, List, [], ◌∷◌, get_or, take, set, sym, refl, ap, ◌∙◌, subst, ap₂, inl, inr, arith, get_or-set_other}
use mathlib.Core.Option.{Option, some, none}
use Rattle.std.proofs.lemmas.Bool.{cases_Bool, ltb-true}
use Rattle.program.specs.declared.value.InputContent.{InputContent}
use Rattle.program.specs.declared.value.InputContent.TheVariants.{Empty, Number, Cell}
use Rattle.trace.specs.Trace.{Trace}
use Rattle.history.specs.Calls.{unsettled, resting, opened, Make, OPEN, POST, WITHDRAW, Refusal, wrong_pass, no_such_input, gives}
use Rattle.history.specs.Book as book
use Rattle.history.specs.Book.{Book, rests, open_since, refusal, unless, unfit, opening, withdrawing}
use Rattle.history.specs.History.{a_pass}
use Rattle.order_list.specs.declared.list.OrderList.{Ghosts}
use Rattle.table.specs.declared.table.Table.{Table}
use Rattle.table.specs.Anew.{Holding, Stays}
use Rattle.sheet.specs.declared.sheet.State.{State}
use Rattle.sheet.specs.declared.sheet.State.TheVariants.{Unsettled, Open}
use Rattle.sheet.specs.declared.sheet.Sheet.{Sheet}
use Rattle.sheet.specs.Shows.{count_of_inputs, made_of, state_of, kept_book, takes_pass, Traced, RestEmpty, Shows}
use Rattle.sheet.specs.Refusals.{made_with}
use Rattle.sheet.specs.Answers.{Serves}
use Rattle.sheet.proofs.Serving.{model, serves_from, served_call, bears_takes, takes_both}

-- the sheet with another state and table
abbrev pub with : {X : Type 0} → Sheet X → State → Table → Sheet X
with s k t = record { program = s.program; number = s.number; limit = s.limit; state = k; table = t; list = s.list }

-- ── what stays ──

holding_stays : {X : Type 0} {g : Ghosts X} {L : ℕ} {a b : Table} {x : X} {u : Trace} → Stays a b → Holding g L a x u → Holding g L b x u
holding_stays s h = record { standing = s.stays _ _ _ _ h.standing }

pub rest_same : (n : ℕ) {is js : List InputContent} → js ≡ is → RestEmpty n is → RestEmpty n js
rest_same n e h k l = ap (λ (xs : List InputContent). get_or xs k Empty) e ∙ h k l

rest_set : (n i : ℕ) (is : List InputContent) (x : InputContent) → i < n → RestEmpty n is → RestEmpty n (set is i x)
rest_set n i is x below h k l = get_or-set_other is i k x Empty (λ z. absurd (omega arith)) ∙ h k l

-- a sheet that is not settled has no trace
pub no_trace : {X : Type 0} {g : Ghosts X} {s : Sheet X} {o : Option Trace} → Shows g s (model s o) → (s.state ≡ Unsettled) ⊎ (s.state ≡ Open) → o ≡ none
no_trace {s = s} {o} h (inl e) = subst (λ (k : State). Traced k (kept_book s) o) e h.traced
no_trace {s = s} {o} h (inr e) = subst (λ (k : State). Traced k (kept_book s) o) e h.traced

-- ── open ──

module _ {X : Type 0} {g : Ghosts X} (s : Sheet X) (t : Table) (n q : ℕ) where
  pub opened_call : q ≡ n → takes_pass s n Unsettled ≡ true → t.noted ≡ s.table.inputs → t.inputs ≡ s.table.inputs → Stays s.table t →
      Serves g s (OPEN (a_pass (resting unsettled) n)) (gives (a_pass opened q)) (with s Open t)
  opened_call eq tk en ei st = serves_from (λ o h.
      let b = takes_both s n Unsettled tk in
      let c = count_of_inputs s.program in
      let is = s.table.inputs in
      let after : Book = record { made_of = made_of s; state = open_since unsettled (take c is); inputs = take c is; bookings = [] } in
      let e₁ : kept_book (with s Open t) ≡ after =
      ap₂ (λ (js ks : List InputContent). record { made_of = made_of s; state = open_since unsettled (take c js); inputs = take c ks; bookings = [] }) en ei in
      let e₂ : opening (kept_book s) (kept_book s).state ≡ after = ap (λ (k : State). opening (kept_book s) (state_of k (take c s.table.noted))) b.1 in
      record {
        after = model (with s Open t) o;
        shows = record {
          keeps = refl;
          holding = holding_stays st h.holding;
          traced = no_trace h (inl b.1);
          rest = rest_same c ei h.rest;
          noted_rest = rest_same c en h.rest;
        };
        does = served_call (ap (λ (k : Bool). unless (k && true) wrong_pass none) (bears_takes s n Unsettled ∙ tk)) (record {
          leaves = ap (λ (k : Book). record { keeps = k; trace = o }) (e₁ ∙ sym e₂);
          answers = ap (λ (k : ℕ). gives (a_pass opened k)) (eq ∙ b.0);
        });
      })

-- ── post ──

-- a content that fits goes to an input that is there
fit_below : (k : Make) (i : ℕ) (x : InputContent) → unfit k i x ≡ none → i < book.count_of_inputs k
fit_below k i x h = elim (cases_Bool (ltb i (book.count_of_inputs k))) [
  | inl e ↦ ltb-true i (book.count_of_inputs k) e
  | inr e ↦ absurd (let z : ◌≡◌ {A = Option Refusal} (some no_such_input) none = rw e at h in let w : ◌≡◌ {A = ℕ} 0 1 = cc in omega arith)
]

-- it depends on the program alone
pub unfit_same : (k : Make) (i : ℕ) (x : InputContent) → unfit k i x ≡ unfit (made_with k.program) i x
unfit_same k i (Number z) = refl
unfit_same k i Empty = refl
unfit_same k i (Cell h t) = refl

take_set : (c i : ℕ) (xs : List InputContent) (x : InputContent) → take c (set xs i x) ≡ set (take c xs) i x
take_set zero i xs x = refl
take_set (suc c) i [] x = refl
take_set (suc c) zero (y ∷ xs) x = refl
take_set (suc c) (suc i) (y ∷ xs) x = ap (λ (l : List InputContent). y ∷ l) (take_set c i xs x)

module _ {X : Type 0} {g : Ghosts X} (s : Sheet X) (t : Table) (n q i : ℕ) (x : InputContent) where
  pub posted_call : q ≡ n → takes_pass s n Open ≡ true → unfit (made_of s) i x ≡ none → t.inputs ≡ set s.table.inputs i x → t.noted ≡ s.table.noted → Stays s.table t →
      Serves g s (POST (a_pass opened n) i x) (gives (a_pass opened q)) (with s s.state t)
  posted_call eq tk fits ei en st = serves_from (λ o h.
      let b = takes_both s n Open tk in
      let c = count_of_inputs s.program in
      let is = s.table.inputs in
      let below = fit_below (made_of s) i x fits in
      let e : kept_book (with s s.state t) ≡ book.change (kept_book s) (POST (a_pass opened n) i x) =
      ap₂ (λ (js ks : List InputContent). record { made_of = made_of s; state = state_of s.state (take c js); inputs = ks; bookings = [] }) en (ap (take c) ei ∙ take_set c i is x) in
      record {
        after = model (with s s.state t) o;
        shows = record {
          keeps = refl;
          holding = holding_stays st h.holding;
          traced = subst (λ (k : State). Traced k (kept_book (with s s.state t)) o) (sym b.1) (no_trace h (inr b.1));
          rest = rest_same c ei (rest_set c i is x below h.rest);
          noted_rest = rest_same c en h.noted_rest;
        };
        does = served_call (ap (λ (k : Bool). unless (k && true) wrong_pass (unfit (made_of s) i x)) (bears_takes s n Open ∙ tk) ∙ fits) (record {
          leaves = ap (λ (k : Book). record { keeps = k; trace = o }) e;
          answers = ap₂ (λ (k : ℕ) (j : State). gives (a_pass (book.sort_of (state_of j (take c t.noted))) k)) (eq ∙ b.0) (sym b.1);
        });
      })

-- ── withdraw ──

module _ {X : Type 0} {g : Ghosts X} (s : Sheet X) (t : Table) (n q : ℕ) where
  pub withdrawn_call : q ≡ n → takes_pass s n Open ≡ true → t.inputs ≡ s.table.noted → t.noted ≡ s.table.noted → Stays s.table t →
      Serves g s (WITHDRAW (a_pass opened n)) (gives (a_pass (resting unsettled) q)) (with s Unsettled t)
  withdrawn_call eq tk ei en st = serves_from (λ o h.
      let b = takes_both s n Open tk in
      let c = count_of_inputs s.program in
      let js = s.table.noted in
      let after : Book = record { made_of = made_of s; state = rests unsettled; inputs = take c js; bookings = [] } in
      let e₁ : kept_book (with s Unsettled t) ≡ after =
      ap (λ (ks : List InputContent). record { made_of = made_of s; state = rests unsettled; inputs = take c ks; bookings = [] }) ei in
      let e₂ : withdrawing (kept_book s) (kept_book s).state ≡ after = ap (λ (k : State). withdrawing (kept_book s) (state_of k (take c js))) b.1 in
      record {
        after = model (with s Unsettled t) o;
        shows = record {
          keeps = refl;
          holding = holding_stays st h.holding;
          traced = no_trace h (inr b.1);
          rest = rest_same c ei h.noted_rest;
          noted_rest = rest_same c en h.noted_rest;
        };
        does = served_call (ap (λ (k : Bool). unless (k && true) wrong_pass none) (bears_takes s n Open ∙ tk)) (record {
          leaves = ap (λ (k : Book). record { keeps = k; trace = o }) (e₁ ∙ sym e₂);
          answers = ap (λ (k : ℕ). gives (a_pass (resting unsettled) k)) (eq ∙ b.0);
        });
      })
