-- The inputs of the book are of the right kinds, so a new sheet takes every one of them.
use mathlib.Core.Path.{◌≡◌, refl, sym, ◌∙◌, ap, subst}
use mathlib.Core.Bool.{Bool, true, false, cond, ◌&&◌, not}
use mathlib.Core.List.{List, [], ◌∷◌, ◌++◌, append_assoc}
use mathlib.Core.Option.{Option, some, none}
use Prim.Native.Nat.{ℕ, suc, ◌+◌, ◌-◌, ◌≤◌, ◌<◌}
use native.Mathlib.Omega.{arith}
use native.Mathlib.Nat.{add-zero}
use lib.Dec.{eqb, leb, ltb}
use lib.IntN.{pos}
use lib.ListN.{length, get_or, set, replicate, length-append, length-set, length-replicate, get_or-replicate, get_or-append}
use lib.Seq.{get_or-set_same, get_or-set_other, get_or-append-add, set-append_seam}
use borrow.Author.Tests.{eqb-true, eqb-false, eq-eqb, lt-ltb, le-leb, ltb-true, ltb-false}
use Rattle.program.specs.declared.value.InputContent.{InputContent}
use Rattle.program.specs.declared.value.InputContent.TheVariants.{Number as number, Empty as empty}
use Rattle.history.specs.Calls.{unsettled, resting, opened, Make, Booking, Call, OPEN, POST, WITHDRAW, SETTLE, BOOK, TURN, RESULT, LINE, Refusal, wrong_pass, no_such_input, other_kind, wrong_cell, bookings_full}
use Rattle.history.specs.Book.{Book, State, rests, open_since, blank, first_book, unless, or_else, at_rest, bears, count_of_inputs, has_right_kind, has_right_cell, unfit, same_key, room, refusal, stands_before, booked, due, left, posted, with_inputs, opening, withdrawing, day_turned, change, unless_refused, book_step, book_from, book_of, noted_at, noted}
use Rattle.history.specs.History.{a_pass, posts, fill_calls}
use Rattle.history.proofs.Steps.{unless_true}

pub record Fits (k : Make) (is : List InputContent) : Type 0 where
  pub sized : length is ≡ count_of_inputs k
  pub each : (i : ℕ) → i < count_of_inputs k → unfit k i (get_or is i empty) ≡ none

unfit_below : (k : Make) (i : ℕ) (x : InputContent) → unfit k i x ≡ none → i < count_of_inputs k
unfit_below k i x e = ltb-true i (count_of_inputs k) (unless_true (ltb i (count_of_inputs k)) no_such_input _ e).0

set_fits : (k : Make) (is : List InputContent) (i : ℕ) (x : InputContent) → Fits k is → unfit k i x ≡ none → Fits k (set is i x)
set_fits k is i x h e = record { sized = length-set is i x ∙ h.sized; each = λ j l. pick j l (eqb j i) refl }
  where
    pick : (j : ℕ) → j < count_of_inputs k → (t : Bool) → eqb j i ≡ t → unfit k j (get_or (set is i x) j empty) ≡ none
    pick j l true q =
        let same : j ≡ i = eqb-true j i q in
        let low : i < length is = subst (λ (z : ℕ). i < z) (sym h.sized) (unfit_below k i x e) in
        subst (λ (z : ℕ). unfit k z (get_or (set is i x) z empty) ≡ none) (sym same) (subst (λ (y : InputContent). unfit k i y ≡ none) (sym (get_or-set_same is i x empty low)) e)
    pick j l false q = subst (λ (y : InputContent). unfit k j y ≡ none) (sym (get_or-set_other is i j x empty (eqb-false j i q))) (h.each j l)

abbrev pub AllFit : Make → List Booking → Type 0
AllFit k [] = Unit {0}
AllFit k (y ∷ ys) = (unfit k y.input y.content ≡ none) × AllFit k ys

booked_fit : (k : Make) (x : Booking) (ys : List Booking) → unfit k x.input x.content ≡ none → AllFit k ys → AllFit k (booked x ys)
booked_fit k x [] e h = (e, tt)
booked_fit k x (y ∷ ys) e h = pick (booked_fit k x ys e h.1) (same_key x y) (stands_before x y)
  where
    pick : AllFit k (booked x ys) → (s t : Bool) → AllFit k (cond s (x ∷ ys) (cond t (x ∷ (y ∷ ys)) (y ∷ booked x ys)))
    pick w true t = (e, h.1)
    pick w false true = (e, h)
    pick w false false = (h.0, w)

due_fit : (k : Make) (d : ℕ) (ys : List Booking) → AllFit k ys → AllFit k (due d ys)
due_fit k d [] h = tt
due_fit k d (y ∷ ys) h = pick (due_fit k d ys h.1) (leb y.day d)
  where
    pick : AllFit k (due d ys) → (t : Bool) → AllFit k (cond t (y ∷ due d ys) (due d ys))
    pick w true = (h.0, w)
    pick w false = w

left_fit : (k : Make) (d : ℕ) (ys : List Booking) → AllFit k ys → AllFit k (left d ys)
left_fit k d [] h = tt
left_fit k d (y ∷ ys) h = pick (left_fit k d ys h.1) (leb y.day d)
  where
    pick : AllFit k (left d ys) → (t : Bool) → AllFit k (cond t (left d ys) (y ∷ left d ys))
    pick w true = w
    pick w false = (h.0, w)

posted_fits : (k : Make) (ys : List Booking) (is : List InputContent) → AllFit k ys → Fits k is → Fits k (posted ys is)
posted_fits k [] is h f = f
posted_fits k (y ∷ ys) is h f = posted_fits k ys (set is y.input y.content) h.1 (set_fits k is y.input y.content f h.0)

unfit_ok : (k : Make) (i : ℕ) (x : InputContent) → ltb i (count_of_inputs k) ≡ true → has_right_kind k i x ≡ true → has_right_cell k x ≡ true → unfit k i x ≡ none
unfit_ok k i x a b c =
    ap (λ (t : Bool). unless t no_such_input (unless (has_right_kind k i x) other_kind (unless (has_right_cell k x) wrong_cell none))) a
    ∙ ap (λ (t : Bool). unless t other_kind (unless (has_right_cell k x) wrong_cell none)) b
    ∙ ap (λ (t : Bool). unless t wrong_cell none) c

blank_fits : (k : Make) → Fits k (blank k)
blank_fits k = record {
  sized = length-append (replicate k.program.numbers (number (pos 0))) (replicate k.program.lists empty) ∙ simp length-replicate;
  each = λ i l. pick i l (ltb i k.program.numbers) refl;
}
  where
    front : List InputContent
    front = replicate k.program.numbers (number (pos 0))

    back : List InputContent
    back = replicate k.program.lists empty

    pick : (i : ℕ) → i < count_of_inputs k → (t : Bool) → ltb i k.program.numbers ≡ t → unfit k i (get_or (blank k) i empty) ≡ none
    pick i l true e =
        let low : i < k.program.numbers = ltb-true i k.program.numbers e in
        let len : length (replicate k.program.numbers (number (pos 0))) ≡ k.program.numbers = length-replicate k.program.numbers (number (pos 0)) in
        let is : get_or (blank k) i empty ≡ number (pos 0) =
        get_or-append (replicate k.program.numbers (number (pos 0))) (replicate k.program.lists empty) empty i (omega arith)
        ∙ get_or-replicate k.program.numbers i (number (pos 0)) empty low in
        subst (λ (y : InputContent). unfit k i y ≡ none) (sym is) (unfit_ok k i (number (pos 0)) (lt-ltb i (count_of_inputs k) l) e refl)
    pick i l false e =
        let high : k.program.numbers ≤ i = ltb-false i k.program.numbers e in
        let len : length (replicate k.program.numbers (number (pos 0))) ≡ k.program.numbers = length-replicate k.program.numbers (number (pos 0)) in
        let at_i : length (replicate k.program.numbers (number (pos 0))) + (i - k.program.numbers) ≡ i = omega arith in
        let is : get_or (blank k) i empty ≡ empty =
        ap (λ (z : ℕ). get_or (blank k) z empty) (sym at_i)
        ∙ get_or-append-add (replicate k.program.numbers (number (pos 0))) (replicate k.program.lists empty) (i - k.program.numbers) empty
        ∙ get_or-replicate k.program.lists (i - k.program.numbers) empty empty (omega arith) in
        subst (λ (y : InputContent). unfit k i y ≡ none) (sym is) (unfit_ok k i empty (lt-ltb i (count_of_inputs k) l) (le-leb k.program.numbers i high) refl)

pub record FitBook (k : Make) (b : Book) : Type 0 where
  pub same_make : b.made_of ≡ k
  pub now_fit : Fits k b.inputs
  pub noted_fit : Fits k (noted b)
  pub bookings_fit : AllFit k b.bookings

pub first_fit : (k : Make) → FitBook k (first_book k)
first_fit k = record { same_make = refl; now_fit = blank_fits k; noted_fit = blank_fits k; bookings_fit = tt }

open_fit : (k : Make) (b : Book) (st : State) → b.state ≡ st → FitBook k b → FitBook k (opening b st)
open_fit k b (rests r) e h = record { same_make = h.same_make; now_fit = h.now_fit; noted_fit = h.now_fit; bookings_fit = h.bookings_fit }
open_fit k b (open_since r js) e h = h

withdraw_fit : (k : Make) (b : Book) (st : State) → b.state ≡ st → FitBook k b → FitBook k (withdrawing b st)
withdraw_fit k b (rests r) e h = h
withdraw_fit k b (open_since r js) e h =
    let back : Fits k js = subst (λ (z : State). Fits k (noted_at z b.inputs)) e h.noted_fit in
    record { same_make = h.same_make; now_fit = back; noted_fit = back; bookings_fit = h.bookings_fit }

post_fit : (k : Make) (b : Book) (st : State) (is : List InputContent) → b.state ≡ st → Fits k is → FitBook k b → FitBook k (with_inputs b is)
post_fit k b (rests r) is e f h = record { same_make = h.same_make; now_fit = f; noted_fit = subst (λ (z : State). Fits k (noted_at z is)) (sym e) f; bookings_fit = h.bookings_fit }
post_fit k b (open_since r js) is e f h =
    record {
      same_make = h.same_make;
      now_fit = f;
      noted_fit = subst (λ (z : State). Fits k (noted_at z is)) (sym e) (subst (λ (z : State). Fits k (noted_at z b.inputs)) e h.noted_fit);
      bookings_fit = h.bookings_fit;
    }

pub turned_fits : (k : Make) (b : Book) (d : ℕ) → FitBook k b → Fits k (day_turned b d).inputs
turned_fits k b d h = posted_fits k (due d b.bookings) b.inputs (due_fit k d b.bookings h.bookings_fit) h.now_fit

or_else_none : (o p : Option Refusal) → or_else o p ≡ none → o ≡ none
or_else_none none p e = refl
or_else_none (some r) p e = e

change_fit : (k : Make) (b : Book) (c : Call) → refusal b c ≡ none → FitBook k b → FitBook k (change b c)
change_fit k b (OPEN q) e h = open_fit k b b.state refl h
change_fit k b (POST q i x) e h =
    let u : unfit b.made_of i x ≡ none = (unless_true (bears b q && not (at_rest q.sort)) wrong_pass (unfit b.made_of i x) e).1 in
    post_fit k b b.state (set b.inputs i x) refl (set_fits k b.inputs i x h.now_fit (subst (λ (z : Make). unfit z i x ≡ none) h.same_make u)) h
change_fit k b (WITHDRAW q) e h = withdraw_fit k b b.state refl h
change_fit k b (SETTLE q) e h = record { same_make = h.same_make; now_fit = h.now_fit; noted_fit = h.now_fit; bookings_fit = h.bookings_fit }
change_fit k b (BOOK q x) e h =
    let w = (unless_true (bears b q && at_rest q.sort) wrong_pass (or_else (unfit b.made_of x.input x.content) (unless (room x b.bookings) bookings_full none)) e).1 in
    let u : unfit b.made_of x.input x.content ≡ none = or_else_none (unfit b.made_of x.input x.content) (unless (room x b.bookings) bookings_full none) w in
    record {
      same_make = h.same_make;
      now_fit = h.now_fit;
      noted_fit = h.noted_fit;
      bookings_fit = booked_fit k x b.bookings (subst (λ (z : Make). unfit z x.input x.content ≡ none) h.same_make u) h.bookings_fit;
    }
change_fit k b (TURN q d) e h =
    record { same_make = h.same_make; now_fit = turned_fits k b d h; noted_fit = turned_fits k b d h; bookings_fit = left_fit k d b.bookings h.bookings_fit }
change_fit k b (RESULT q) e h = h
change_fit k b (LINE q r) e h = h

pub step_fit : (k : Make) (b : Book) (c : Call) → FitBook k b → FitBook k (book_step b c)
step_fit k b c h = pick (refusal b c) refl
  where
    pick : (o : Option Refusal) → refusal b c ≡ o → FitBook k (unless_refused o b (change b c))
    pick none e = change_fit k b c e h
    pick (some r) e = h

pub from_fit : (k : Make) (b : Book) (cs : List Call) → FitBook k b → FitBook k (book_from b cs)
from_fit k b [] h = h
from_fit k b (c ∷ cs) h = from_fit k (book_step b c) cs (step_fit k b c h)

-- ── a new sheet takes them all ──

abbrev pub NoneRefused : Book → List Call → Type 0
NoneRefused b [] = Unit {0}
NoneRefused b (c ∷ cs) = (refusal b c ≡ none) × NoneRefused (book_step b c) cs

-- an open sheet with these inputs
abbrev pub open_with : Make → List InputContent → Book
open_with k is = record { made_of = k; state = open_since unsettled (blank k); inputs = is; bookings = [] }

own_open : (k : Make) (is : List InputContent) → bears (open_with k is) (a_pass opened k.number) ≡ true
own_open k is = ap (λ (t : Bool). t && true) (eq-eqb k.number k.number refl)

takes_post : (k : Make) (is : List InputContent) (i : ℕ) (x : InputContent) → unfit k i x ≡ none → refusal (open_with k is) (POST (a_pass opened k.number) i x) ≡ none
takes_post k is i x e = ap (λ (t : Bool). unless (t && true) wrong_pass (unfit k i x)) (own_open k is) ∙ e

pub takes_settle : (k : Make) (is : List InputContent) → refusal (open_with k is) (SETTLE (a_pass opened k.number)) ≡ none
takes_settle k is = ap (λ (t : Bool). unless (t && true) wrong_pass none) (own_open k is)

record PostedAll (k : Make) (from : Book) (cs : List Call) (is : List InputContent) : Type 0 where
  taken : NoneRefused from cs
  holds : book_from from cs ≡ open_with k is

post_all : (k : Make) (over before is : List InputContent) → length over ≡ length is →
    ((j : ℕ) → j < length is → unfit k (length before + j) (get_or is j empty) ≡ none) →
    PostedAll k (open_with k (before ++ over)) (posts (a_pass opened k.number) (length before) is) (before ++ is)
post_all k [] before [] l h = record { taken = tt; holds = refl }
post_all k [] before (x ∷ is) l h = absurd (omega arith)
post_all k (y ∷ over) before [] l h = absurd (omega arith)
post_all k (y ∷ over) before (x ∷ is) l h =
    let q = a_pass opened k.number in
    let n = length before in
    let ok : unfit k n x ≡ none = subst (λ (z : ℕ). unfit k z x ≡ none) (add-zero n) (h 0 (omega arith)) in
    let r = takes_post k (before ++ (y ∷ over)) n x ok in
    let now : book_step (open_with k (before ++ (y ∷ over))) (POST q n x) ≡ open_with k ((before ++ (x ∷ [])) ++ over) =
    ap (λ (o : Option Refusal). unless_refused o (open_with k (before ++ (y ∷ over))) (open_with k (set (before ++ (y ∷ over)) n x))) r
    ∙ ap (open_with k) (set-append_seam before y over x ∙ sym (append_assoc before (x ∷ []) over)) in
    let len : length (before ++ (x ∷ [])) ≡ suc n = length-append before (x ∷ []) ∙ omega arith in
    let rest = post_all k over (before ++ (x ∷ [])) is (omega arith)
    (λ j b. subst (λ (z : ℕ). unfit k z (get_or is j empty) ≡ none) (omega (arith, len)) (h (suc j) (omega arith))) in
    let rest' : PostedAll k (open_with k ((before ++ (x ∷ [])) ++ over)) (posts q (suc n) is) (before ++ (x ∷ is)) =
    subst (λ (z : ℕ). PostedAll k (open_with k ((before ++ (x ∷ [])) ++ over)) (posts q z is) (before ++ (x ∷ is))) len
    (subst (λ (z : List InputContent). PostedAll k (open_with k ((before ++ (x ∷ [])) ++ over)) (posts q (length (before ++ (x ∷ []))) is) z) (append_assoc before (x ∷ []) is) rest) in
    let rest'' : PostedAll k (book_step (open_with k (before ++ (y ∷ over))) (POST q n x)) (posts q (suc n) is) (before ++ (x ∷ is)) =
    subst (λ (z : Book). PostedAll k z (posts q (suc n) is) (before ++ (x ∷ is))) (sym now) rest' in
    record { taken = (r, rest''.taken); holds = rest''.holds }

takes_open : (k : Make) → refusal (first_book k) (OPEN (a_pass (resting unsettled) k.number)) ≡ none
takes_open k = ap (λ (t : Bool). unless ((t && true) && true) wrong_pass none) (eq-eqb k.number k.number refl)

pub fills_all : (k : Make) (is : List InputContent) → Fits k is → NoneRefused (first_book k) (fill_calls k.number is) × (book_of k (fill_calls k.number is) ≡ open_with k is)
fills_all k is f =
    let c = OPEN (a_pass (resting unsettled) k.number) in
    let e = takes_open k in
    let now : book_step (first_book k) c ≡ open_with k (blank k) = ap (λ (o : Option Refusal). unless_refused o (first_book k) (open_with k (blank k))) e in
    let all = post_all k (blank k) [] is ((blank_fits k).sized ∙ sym f.sized)
    (λ j l. subst (λ (z : ℕ). unfit k z (get_or is j empty) ≡ none) (omega arith) (f.each j (subst (λ (z : ℕ). j < z) f.sized l))) in
    let all' = subst (λ (z : Book). PostedAll k z (posts (a_pass opened k.number) 0 is) is) (sym now) all in
    ((e, all'.taken), all'.holds)
