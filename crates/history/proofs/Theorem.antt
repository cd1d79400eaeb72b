-- The theorem: an old sheet against a new one.
use mathlib.Core.Path.{◌≡◌, refl, sym, ◌∙◌, subst}
use mathlib.Core.Option.{none}
use Prim.Native.Nat.{◌≤◌}
use Rattle.trace.specs.Run.{Stands}
use Rattle.trace.specs.Trace.{size}
use Rattle.history.specs.Calls.{Resting, Make, Call, OPEN, POST, WITHDRAW, SETTLE, BOOK, TURN, RESULT, LINE, Answer}
use Rattle.history.specs.Book.{Book, first_book, plain_run_of, settling, book_step, book_of, Settles, noted}
use Rattle.history.specs.Sheet.{Sheet, Does, Settled}
use Rattle.history.specs.History.{ByTurns, AtSettle, OldAgainstNew}
use Rattle.history.proofs.Steps.{Good, Traced, HasTrace, settles, settles_book, to_settle}
use Rattle.history.proofs.Fitting.{Fits, FitBook, first_fit, from_fit, turned_fits}
use Rattle.history.proofs.Whole.{history_book, history_good, fresh_good, whole_beside, whole_turns, whole_anew}
use Rattle.trace.proofs.ByValue.{counts_of_the_plain_run}
use Rattle.history.proofs.Exists.{some_new}
use Rattle.trace.proofs.Plain.{none_so_small}

to_settle_made : (b : Book) (c : Call) → (to_settle b c).made_of ≡ b.made_of
to_settle_made b (OPEN q) = refl
to_settle_made b (POST q i x) = refl
to_settle_made b (WITHDRAW q) = refl
to_settle_made b (SETTLE q) = refl
to_settle_made b (BOOK q x) = refl
to_settle_made b (TURN q d) = refl
to_settle_made b (RESULT q) = refl
to_settle_made b (LINE q r) = refl

to_settle_fits : (k : Make) (b : Book) (c : Call) → FitBook k b → Fits k (to_settle b c).inputs
to_settle_fits k b (OPEN q) h = h.now_fit
to_settle_fits k b (POST q i x) h = h.now_fit
to_settle_fits k b (WITHDRAW q) h = h.now_fit
to_settle_fits k b (SETTLE q) h = h.now_fit
to_settle_fits k b (BOOK q x) h = h.now_fit
to_settle_fits k b (TURN q d) h = turned_fits k b d h
to_settle_fits k b (RESULT q) h = h.now_fit
to_settle_fits k b (LINE q r) h = h.now_fit

pub whole : (k : Make) (s₀ : Sheet) (c : Call) (a : Answer) (s : Sheet) → FitBook k s₀.keeps → Good s₀ → Does s₀ c a s → Settles s₀.keeps c →
    AtSettle s₀.keeps (book_step s₀.keeps c) s₀ a s
whole k s₀ c a s f g d z = subst (λ (y : Book). AtSettle s₀.keeps y s₀ a s) (sym (settles_book s₀.keeps c z)) (record {
  beside = whole_beside s₀.keeps b s₀ a s h fits;
  new_sheets = λ n. some_new b.made_of b.inputs n fits;
  too_large_means = none_so_small b.made_of.limit b.made_of.program b.inputs;
  with_trace = λ e n. had (subst (λ (r : Resting). Traced s₀.keeps.made_of r (noted s₀.keeps) s₀.trace) e g.traced) n;
  without_trace = λ e n. whole_anew s₀.keeps b s₀ a s h (subst (λ (r : Resting). Traced s₀.keeps.made_of r (noted s₀.keeps) s₀.trace) e g.traced) n;
})
  where
    b : Book
    b = to_settle s₀.keeps c

    h : Settled b s₀.trace a s
    h = settles s₀ c a s d z

    make : b.made_of ≡ k
    make = to_settle_made s₀.keeps c ∙ f.same_make

    fits : Fits b.made_of b.inputs
    fits = subst (λ (y : Make). Fits y b.inputs) (sym make) (to_settle_fits k s₀.keeps c f)

    had : HasTrace s₀.keeps.made_of (noted s₀.keeps) s₀.trace → ¬ (plain_run_of b ≡ none) → ByTurns s₀.keeps (settling b) s₀ a s
    had w n =
        let made = sym (to_settle_made s₀.keeps c) in
        let st = subst (λ (y : Make). Stands y.program (noted s₀.keeps) w.it) made w.stands in
        let fit = subst (λ (y : Make). size w.it ≤ y.limit) made w.fits in
        whole_turns s₀.keeps b s₀ a s h w.it w.has st
        (λ u t₁ u₁ e m f k x d p y q. counts_of_the_plain_run b.made_of.limit b.made_of.program (noted s₀.keeps) b.inputs w.it u t₁ u₁ e m f k st fit x d p y q) n

pub old_against_new : OldAgainstNew
old_against_new k cs ans s l = record {
  by_the_book = book;
  same_make = fit.same_make;
  at_settle = λ c a s' d z. subst (λ (y : Book). AtSettle y (book_step y c) s a s') book
      (whole k s c a s' (subst (FitBook k) (sym book) fit) (history_good l (fresh_good k)) d (subst (λ (y : Book). Settles y c) (sym book) z));
}
  where
    book : s.keeps ≡ book_of k cs
    book = history_book l

    fit : FitBook k (book_of k cs)
    fit = from_fit k (first_book k) cs (first_fit k)
