-- There is a new sheet for every number.
use mathlib.Core.Path.{◌≡◌, refl, sym, ◌∙◌, ap, subst}
use mathlib.Core.List.{List, [], ◌∷◌}
use mathlib.Core.Option.{Option, some, none}
use mathlib.Core.Logic.{inl, inr}
use Prim.Native.Nat.{ℕ, suc}
use Rattle.trace.specs.Trace.{Trace, size}
use Rattle.program.specs.declared.value.InputContent.{InputContent}
use Rattle.trace.proofs.Plain.{plain_run_stands}
use Rattle.history.specs.Calls.{settled, unsettled, resting, opened, Make, Call, OPEN, POST, SETTLE, Refusal, Answer, gives, done, too_large}
use Rattle.history.specs.Book.{Book, first_book, refusal, change, plain_run_of, unless_refused, sort_before, noted}
use Rattle.history.specs.Sheet.{Sheet, fresh, Does, RefusedOr, Settled, at_rest_as, pass_of}
use Rattle.history.specs.History.{History, untouched, then, a_pass, posts, fill_calls, renumbered, SomeNew}
use Rattle.history.proofs.Steps.{Traced}
use Rattle.history.proofs.Fitting.{Fits, NoneRefused, open_with, takes_settle, fills_all}
use Rattle.history.proofs.Whole.{history_book, history_good, fresh_good, fits_renumbered}

-- ── a new sheet ──

record GoesOn (s : Sheet) (cs : List Call) : Type 0 where
  answers : List Answer
  last : Sheet
  history : History s cs answers last

posts_on : (s : Sheet) (n i : ℕ) (is : List InputContent) → NoneRefused s.keeps (posts (a_pass opened n) i is) → GoesOn s (posts (a_pass opened n) i is)
posts_on s n i [] h = record { answers = []; last = s; history = untouched }
posts_on s n i (x ∷ is) h =
    let c = POST (a_pass opened n) i x in
    let s' : Sheet = record { keeps = change s.keeps c; trace = s.trace } in
    let d : Does s c (gives (pass_of s'.keeps)) s' = record { does = subst (λ (o : Option Refusal). RefusedOr o s c (gives (pass_of s'.keeps)) s') (sym h.0) (record { leaves = refl; answers = refl }) } in
    let more = posts_on s' n (suc i) is (subst (λ (z : Book). NoneRefused z (posts (a_pass opened n) (suc i) is)) (ap (λ (o : Option Refusal). unless_refused o s.keeps (change s.keeps c)) h.0) h.1) in
    record { answers = gives (pass_of s'.keeps) ∷ more.answers; last = more.last; history = then d more.history }

fills_on : (k : Make) (is : List InputContent) → NoneRefused (first_book k) (fill_calls k.number is) → GoesOn (fresh k) (fill_calls k.number is)
fills_on k is h =
    let c = OPEN (a_pass (resting unsettled) k.number) in
    let s' : Sheet = record { keeps = change (first_book k) c; trace = none } in
    let d : Does (fresh k) c (gives (pass_of s'.keeps)) s' = record { does = subst (λ (o : Option Refusal). RefusedOr o (fresh k) c (gives (pass_of s'.keeps)) s') (sym h.0) (record { leaves = refl; answers = refl }) } in
    let more = posts_on s' k.number 0 is (subst (λ (z : Book). NoneRefused z (posts (a_pass opened k.number) 0 is)) (ap (λ (o : Option Refusal). unless_refused o (first_book k) (change (first_book k) c)) h.0) h.1) in
    record { answers = gives (pass_of s'.keeps) ∷ more.answers; last = more.last; history = then d more.history }

record SettledSomehow (b : Book) : Type 0 where
  answer : Answer
  sheet : Sheet
  so : Settled b none answer sheet

runs_anew : (b : Book) → SettledSomehow b
runs_anew b = pick (plain_run_of b) refl
  where
    pick : (o : Option Trace) → plain_run_of b ≡ o → SettledSomehow b
    pick none e = record {
      answer = too_large (a_pass (resting unsettled) b.made_of.number);
      sheet = at_rest_as unsettled b none;
      so = inl (record { none_so_small = e; leaves = refl; answers = refl });
    }
    pick (some t) e = let h = plain_run_stands b.made_of.limit b.made_of.program b.inputs t e in
        record {
          answer = done 2 0 (size t) (size t) (a_pass (resting settled) b.made_of.number);
          sheet = at_rest_as settled b (some t);
          so = inr (record { new_trace = t; stands = h.0; fits = h.1; mark = 2; e = 0; m = size t; worked = (refl, refl, refl); leaves = refl; answers = refl });
        }

pub some_new : (k : Make) (is : List InputContent) (n : ℕ) → Fits k is → SomeNew k is n
some_new k is n f =
    let k₂ = renumbered k n in
    let all = fills_all k₂ is (fits_renumbered k n is f) in
    let L = fills_on k₂ is all.0 in
    let book : L.last.keeps ≡ open_with k₂ is = history_book L.history ∙ all.1 in
    let bare : L.last.trace ≡ none = subst (λ (z : Book). Traced z.made_of (sort_before z.state) (noted z) L.last.trace) book (history_good L.history (fresh_good k₂)).traced in
    let free : refusal L.last.keeps (SETTLE (a_pass opened n)) ≡ none = ap (λ (z : Book). refusal z (SETTLE (a_pass opened n))) book ∙ takes_settle k₂ is in
    let r = runs_anew L.last.keeps in
    record {
      answer = r.answer;
      sheet = r.sheet;
      numbered_so = refl;
      beside = record {
        number = n;
        answers = L.answers;
        filled = L.last;
        fills = L.history;
        settles = record {
          does = subst (λ (o : Option Refusal). RefusedOr o L.last (SETTLE (a_pass opened n)) r.answer r.sheet) (sym free)
              (subst (λ (o : Option Trace). Settled L.last.keeps o r.answer r.sheet) (sym bare) r.so);
        };
      };
    }
