-- What one call does to the book, to what open noted, and to the trace.
use Rattle.std.proofs.lemmas.Bool.{and_parts}
use mathlib.Core.Path.{◌≡◌, refl, sym, ◌∙◌, ap, subst}
use mathlib.Core.Bool.{Bool, true, false, ◌&&◌, not}
use mathlib.Core.List.{List}
use mathlib.Core.Option.{Option, some, none, none-ne-some}
use mathlib.Core.Logic.{inl, inr}
use Prim.Native.Nat.{ℕ, ◌≤◌}
use borrow.Author.Tests.{both_ways}
use Rattle.trace.specs.Run.{Stands}
use Rattle.program.specs.declared.value.InputContent.{InputContent}
use Rattle.trace.specs.Trace.{Trace, size}
use Rattle.trace.specs.Listing.{canonical}
use Rattle.trace.proofs.Plain.{is_plain}
use Rattle.history.specs.Calls.{Resting, settled, unsettled, Sort, resting, opened, Pass, Make, Call, OPEN, POST, WITHDRAW, SETTLE, BOOK, TURN, RESULT, LINE, Refusal, wrong_pass, Answer}
use Rattle.history.specs.Book.{Book, State, rests, open_since, sort_of, unless, same_sort, at_rest, bears, unfit, refusal, with_state, with_inputs, opening, withdrawing, after_settle, plain_run_of, settling, day_turned, change, unless_refused, book_step, Settles, is_settle, sort_before, noted_at, noted}
use Rattle.history.specs.Sheet.{Sheet, Settled, SettledSo, Serves, RefusedOr, Does}

pub unless_true : (t : Bool) (r : Refusal) (more : Option Refusal) → unless t r more ≡ none → (t ≡ true) × (more ≡ none)
unless_true true r more e = (refl, e)
unless_true false r more e = absurd (none-ne-some r (sym e))

-- an open pass that is taken: the sheet is open
pub is_open : (q : Sort) (s : State) → same_sort q (sort_of s) ≡ true → not (at_rest q) ≡ true → (r : Resting) × (js : List InputContent) × (s ≡ open_since r js)
is_open (resting p) s e h = absurd (both_ways false refl h)
is_open opened (rests r) e h = absurd (both_ways false refl e)
is_open opened (open_since r js) e h = (r, js, refl)

-- ── the book of the sheet is the plain book ──

pub well_plain : (b : Book) (old : Option Trace) (a : Answer) (s : Sheet) (w : SettledSo b old a s) → plain_run_of b ≡ some (canonical w.new_trace)
well_plain b old a s w = (is_plain b.made_of.program b.inputs w.new_trace b.made_of.limit w.stands).0 w.fits

pub settled_book : (b : Book) (old : Option Trace) (a : Answer) (s : Sheet) → Settled b old a s → s.keeps ≡ settling b
settled_book b old a s (inl f) = ap (λ (z : Sheet). z.keeps) f.leaves ∙ ap (λ (o : Option Trace). with_state b (rests (after_settle o))) (sym f.none_so_small)
settled_book b old a s (inr w) = ap (λ (z : Sheet). z.keeps) w.leaves ∙ ap (λ (o : Option Trace). with_state b (rests (after_settle o))) (sym (well_plain b old a s w))

serves_book : (s : Sheet) (c : Call) (a : Answer) (s' : Sheet) → Serves s c a s' → s'.keeps ≡ change s.keeps c
serves_book s (OPEN q) a s' h = ap (λ (z : Sheet). z.keeps) h.leaves
serves_book s (POST q i x) a s' h = ap (λ (z : Sheet). z.keeps) h.leaves
serves_book s (WITHDRAW q) a s' h = ap (λ (z : Sheet). z.keeps) h.leaves
serves_book s (SETTLE q) a s' h = settled_book s.keeps s.trace a s' h
serves_book s (BOOK q x) a s' h = ap (λ (z : Sheet). z.keeps) h.leaves
serves_book s (TURN q d) a s' h = settled_book (day_turned s.keeps d) s.trace a s' h
serves_book s (RESULT q) a s' h = ap (λ (z : Sheet). z.keeps) h.leaves
serves_book s (LINE q r) a s' h = ap (λ (z : Sheet). z.keeps) h.leaves

pub does_book : (s : Sheet) (c : Call) (a : Answer) (s' : Sheet) → Does s c a s' → s'.keeps ≡ book_step s.keeps c
does_book s c a s' h = pick (refusal s.keeps c) h.does
  where
    pick : (o : Option Refusal) → RefusedOr o s c a s' → s'.keeps ≡ unless_refused o s.keeps (change s.keeps c)
    pick none k = serves_book s c a s' k
    pick (some r) k = ap (λ (z : Sheet). z.keeps) k.leaves

-- ── a call that is no settle leaves the sort before open, what open noted, and the trace ──

pub record Same (s s' : Sheet) : Type 0 where
  pub sort : sort_before s'.keeps.state ≡ sort_before s.keeps.state
  pub noted_inputs : noted s'.keeps ≡ noted s.keeps
  pub trace : s'.trace ≡ s.trace

same_self : (s : Sheet) → Same s s
same_self s = record { sort = refl; noted_inputs = refl; trace = refl }

open_same : (s : Sheet) (st : State) → s.keeps.state ≡ st → Same s (record { keeps = opening s.keeps st; trace = s.trace })
open_same s (rests r) e = record { sort = ap sort_before (sym e); noted_inputs = ap (λ (z : State). noted_at z s.keeps.inputs) (sym e); trace = refl }
open_same s (open_since r js) e = same_self s

withdraw_same : (s : Sheet) (st : State) → s.keeps.state ≡ st → Same s (record { keeps = withdrawing s.keeps st; trace = s.trace })
withdraw_same s (rests r) e = same_self s
withdraw_same s (open_since r js) e = record { sort = ap sort_before (sym e); noted_inputs = ap (λ (z : State). noted_at z s.keeps.inputs) (sym e); trace = refl }

post_same : (s : Sheet) (q : Pass) (i : ℕ) (x : InputContent) (is : List InputContent) → refusal s.keeps (POST q i x) ≡ none → Same s (record { keeps = with_inputs s.keeps is; trace = s.trace })
post_same s q i x is e =
    let u = unless_true (bears s.keeps q && not (at_rest q.sort)) wrong_pass (unfit s.keeps.made_of i x) e in
    let v = and_parts (bears s.keeps q) (not (at_rest q.sort)) u.0 in
    let w = and_parts _ (same_sort q.sort (sort_of s.keeps.state)) v.0 in
    let o = is_open q.sort s.keeps.state w.1 v.1 in
    record { sort = refl; noted_inputs = ap (λ (z : State). noted_at z is) o.2 ∙ ap (λ (z : State). noted_at z s.keeps.inputs) (sym o.2); trace = refl }

pub quiet : (s : Sheet) (c : Call) (a : Answer) (s' : Sheet) → ¬ (Settles s.keeps c) → Does s c a s' → Same s s'
quiet s c a s' n h = pick (refusal s.keeps c) refl h.does
  where
    serve : (c : Call) → ¬ (Settles s.keeps c) → refusal s.keeps c ≡ none → Serves s c a s' → Same s s'
    serve (OPEN q) n e k = subst (Same s) (sym k.leaves) (open_same s s.keeps.state refl)
    serve (POST q i x) n e k = subst (Same s) (sym k.leaves) (post_same s q i x _ e)
    serve (WITHDRAW q) n e k = subst (Same s) (sym k.leaves) (withdraw_same s s.keeps.state refl)
    serve (SETTLE q) n e k = absurd (n (record { is_one = refl; goes_through = e }))
    serve (BOOK q x) n e k = subst (Same s) (sym k.leaves) (record { sort = refl; noted_inputs = refl; trace = refl })
    serve (TURN q d) n e k = absurd (n (record { is_one = refl; goes_through = e }))
    serve (RESULT q) n e k = subst (Same s) (sym k.leaves) (same_self s)
    serve (LINE q r) n e k = subst (Same s) (sym k.leaves) (same_self s)

    pick : (o : Option Refusal) → refusal s.keeps c ≡ o → RefusedOr o s c a s' → Same s s'
    pick none e k = serve c n e k
    pick (some r) e k = subst (Same s) (sym k.leaves) (same_self s)

-- ── the trace that stands ──

-- a sheet with this sort before open, and these inputs at it, has this trace
pub record HasTrace (k : Make) (is : List InputContent) (o : Option Trace) : Type 0 where
  pub it : Trace
  pub has : o ≡ some it
  pub stands : Stands k.program is it
  pub fits : size it ≤ k.limit

abbrev pub Traced : Make → Resting → List InputContent → Option Trace → Type 0
Traced k settled is o = HasTrace k is o
Traced k unsettled is o = o ≡ none

pub record Good (s : Sheet) : Type 0 where
  pub traced : Traced s.keeps.made_of (sort_before s.keeps.state) (noted s.keeps) s.trace

settled_good : (b : Book) (old : Option Trace) (a : Answer) (s : Sheet) → Settled b old a s → Good s
settled_good b old a s (inl f) = subst Good (sym f.leaves) (record { traced = refl })
settled_good b old a s (inr w) = subst Good (sym w.leaves) (record { traced = record { it = w.new_trace; has = refl; stands = w.stands; fits = w.fits } })

moved : (k k' : Make) (r r' : Resting) (is js : List InputContent) (o o' : Option Trace) → k' ≡ k → r' ≡ r → js ≡ is → o' ≡ o → Traced k r is o → Traced k' r' js o'
moved k k' r r' is js o o' a b c d h =
    subst (λ (z : Make). Traced z r' js o') (sym a) (subst (λ (z : Resting). Traced k z js o') (sym b)
    (subst (λ (z : List InputContent). Traced k r z o') (sym c) (subst (λ (z : Option Trace). Traced k r is z) (sym d) h)))

-- ── what make was given stays ──

opening_made : (b : Book) (st : State) → (opening b st).made_of ≡ b.made_of
opening_made b (rests r) = refl
opening_made b (open_since r js) = refl

withdrawing_made : (b : Book) (st : State) → (withdrawing b st).made_of ≡ b.made_of
withdrawing_made b (rests r) = refl
withdrawing_made b (open_since r js) = refl

change_made : (b : Book) (c : Call) → (change b c).made_of ≡ b.made_of
change_made b (OPEN q) = opening_made b b.state
change_made b (POST q i x) = refl
change_made b (WITHDRAW q) = withdrawing_made b b.state
change_made b (SETTLE q) = refl
change_made b (BOOK q x) = refl
change_made b (TURN q d) = refl
change_made b (RESULT q) = refl
change_made b (LINE q r) = refl

pub step_made : (b : Book) (c : Call) → (book_step b c).made_of ≡ b.made_of
step_made b c = pick (refusal b c)
  where
    pick : (o : Option Refusal) → (unless_refused o b (change b c)).made_of ≡ b.made_of
    pick none = change_made b c
    pick (some r) = refl

pub does_made : (s : Sheet) (c : Call) (a : Answer) (s' : Sheet) → Does s c a s' → s'.keeps.made_of ≡ s.keeps.made_of
does_made s c a s' h = ap (λ (z : Book). z.made_of) (does_book s c a s' h) ∙ step_made s.keeps c

-- ── a settle, of a turn too, settles the book that it is given ──

abbrev pub to_settle : Book → Call → Book
to_settle b (OPEN q) = b
to_settle b (POST q i x) = b
to_settle b (WITHDRAW q) = b
to_settle b (SETTLE q) = b
to_settle b (BOOK q x) = b
to_settle b (TURN q d) = day_turned b d
to_settle b (RESULT q) = b
to_settle b (LINE q r) = b

pub settles : (s : Sheet) (c : Call) (a : Answer) (s' : Sheet) → Does s c a s' → Settles s.keeps c → Settled (to_settle s.keeps c) s.trace a s'
settles s c a s' h k = pick c k.is_one (subst (λ (o : Option Refusal). RefusedOr o s c a s') k.goes_through h.does)
  where
    pick : (c : Call) → is_settle c ≡ true → Serves s c a s' → Settled (to_settle s.keeps c) s.trace a s'
    pick (OPEN q) e w = absurd (both_ways false refl e)
    pick (POST q i x) e w = absurd (both_ways false refl e)
    pick (WITHDRAW q) e w = absurd (both_ways false refl e)
    pick (SETTLE q) e w = w
    pick (BOOK q x) e w = absurd (both_ways false refl e)
    pick (TURN q d) e w = w
    pick (RESULT q) e w = absurd (both_ways false refl e)
    pick (LINE q r) e w = absurd (both_ways false refl e)

pub settles_book : (b : Book) (c : Call) → Settles b c → book_step b c ≡ settling (to_settle b c)
settles_book b c k = ap (λ (o : Option Refusal). unless_refused o b (change b c)) k.goes_through ∙ pick c k.is_one
  where
    pick : (c : Call) → is_settle c ≡ true → change b c ≡ settling (to_settle b c)
    pick (OPEN q) e = absurd (both_ways false refl e)
    pick (POST q i x) e = absurd (both_ways false refl e)
    pick (WITHDRAW q) e = absurd (both_ways false refl e)
    pick (SETTLE q) e = refl
    pick (BOOK q x) e = absurd (both_ways false refl e)
    pick (TURN q d) e = refl
    pick (RESULT q) e = absurd (both_ways false refl e)
    pick (LINE q r) e = absurd (both_ways false refl e)

-- ── the trace stands on what open noted, after every call ──

pub does_good : (s : Sheet) (c : Call) (a : Answer) (s' : Sheet) → Good s → Does s c a s' → Good s'
does_good s c a s' g h = pick (is_settle c) refl (refusal s.keeps c) refl
  where
    still : ¬ (Settles s.keeps c) → Good s'
    still n = let w = quiet s c a s' n h in
        record {
          traced = moved s.keeps.made_of s'.keeps.made_of (sort_before s.keeps.state) (sort_before s'.keeps.state) (noted s.keeps) (noted s'.keeps) s.trace s'.trace
              (does_made s c a s' h) w.sort w.noted_inputs w.trace g.traced;
        }

    pick : (t : Bool) → is_settle c ≡ t → (o : Option Refusal) → refusal s.keeps c ≡ o → Good s'
    pick true e none k = settled_good (to_settle s.keeps c) s.trace a s' (settles s c a s' h (record { is_one = e; goes_through = k }))
    pick true e (some r) k = still (λ z. none-ne-some r (sym z.goes_through ∙ k))
    pick false e o k = still (λ z. both_ways (is_settle c) e z.is_one)
