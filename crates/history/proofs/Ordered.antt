use Rattle.std.proofs.lemmas.Bool.{and_parts}
use mathlib.Core.Path.{◌≡◌, refl, sym, ◌∙◌, ap, subst}
use mathlib.Core.Bool.{Bool, true, false, cond, ◌&&◌}
use mathlib.Core.List.{List, [], ◌∷◌}
use mathlib.Core.Option.{Option, some, none}
use Prim.Native.Nat.{ℕ, suc, ◌≤◌, ◌<◌}
use native.Mathlib.Omega.{arith}
use lib.Dec.{eqb, leb, ltb}
use lib.ListN.{length}
use borrow.Author.Tests.{both_ways, ltb-true, ltb-false, eqb-true, eqb-false, lt-ltb, le-ltb, eq-eqb}
use Rattle.history.specs.Calls.{Booking, Call, OPEN, POST, WITHDRAW, SETTLE, BOOK, TURN, RESULT, LINE, Refusal, wrong_pass, bookings_full}
use Rattle.history.specs.Book.{Book, State, rests, open_since, first_book, unless, or_else, bears, at_rest, unfit, same_key, waits, room, refusal, stands_before, booked, left, opening, withdrawing, change, unless_refused, book_step, book_from}
use Rattle.history.specs.Bookings.{BeforeAll, InTurn, BookingsInOrder}
use Rattle.history.proofs.Steps.{unless_true}

-- as numbers
data Less (a b c d : ℕ) : Type 0 where
  by_day : a < c → Less a b c d
  by_input : a ≡ c → b < d → Less a b c d

less : (x y : Booking) → stands_before x y ≡ true → Less x.day x.input y.day y.input
less x y e = pick (ltb x.day y.day) refl e
  where
    pick : (t : Bool) → ltb x.day y.day ≡ t → cond t true (eqb x.day y.day && ltb x.input y.input) ≡ true → Less x.day x.input y.day y.input
    pick true q h = by_day (ltb-true x.day y.day q)
    pick false q h = let w = and_parts (eqb x.day y.day) (ltb x.input y.input) h in by_input (eqb-true x.day y.day w.0) (ltb-true x.input y.input w.1)

more : (x y : Booking) → Less x.day x.input y.day y.input → stands_before x y ≡ true
more x y (by_day l) = ap (λ (t : Bool). cond t true (eqb x.day y.day && ltb x.input y.input)) (lt-ltb x.day y.day l)
more x y (by_input e l) =
    ap (λ (t : Bool). cond t true (eqb x.day y.day && ltb x.input y.input)) (le-ltb x.day y.day (omega arith))
    ∙ ap (λ (t : Bool). t && ltb x.input y.input) (eq-eqb x.day y.day e) ∙ lt-ltb x.input y.input l

less_trans : {a b c d e f : ℕ} → Less a b c d → Less c d e f → Less a b e f
less_trans (by_day l) (by_day k) = by_day (omega arith)
less_trans (by_day l) (by_input e k) = by_day (omega arith)
less_trans (by_input e l) (by_day k) = by_day (omega arith)
less_trans (by_input e l) (by_input f k) = by_input (omega arith) (omega arith)

-- neither the same key nor before: behind
behind : (x y : Booking) → same_key x y ≡ false → stands_before x y ≡ false → stands_before y x ≡ true
behind x y e f = more y x (pick (ltb y.day x.day) refl (ltb x.day y.day) refl (ltb y.input x.input) refl (eqb x.day y.day) refl (eqb x.input y.input) refl (ltb x.input y.input) refl)
  where
    pick : (a : Bool) → ltb y.day x.day ≡ a → (b : Bool) → ltb x.day y.day ≡ b → (c : Bool) → ltb y.input x.input ≡ c → (d : Bool) → eqb x.day y.day ≡ d →
        (g : Bool) → eqb x.input y.input ≡ g → (i : Bool) → ltb x.input y.input ≡ i → Less y.day y.input x.day x.input
    pick true p b q c r d s g t i u = by_day (ltb-true y.day x.day p)
    pick false p true q c r d s g t i u = absurd (both_ways (stands_before x y) f (ap (λ (z : Bool). cond z true (eqb x.day y.day && ltb x.input y.input)) q))
    pick false p false q c r d s g t i u =
        let same : x.day ≡ y.day = omega (arith, ltb-false y.day x.day p, ltb-false x.day y.day q) in
        let d-true : eqb x.day y.day ≡ true = eq-eqb x.day y.day same in
        let at-false : eqb x.input y.input ≡ false = ap (λ (z : Bool). z && eqb x.input y.input) (sym d-true) ∙ e in
        let lt-false : ltb x.input y.input ≡ false =
        ap (λ (z : Bool). z && ltb x.input y.input) (sym d-true) ∙ ap (λ (z : Bool). cond z true (eqb x.day y.day && ltb x.input y.input)) (sym q) ∙ f in
        let ne = eqb-false x.input y.input at-false in
        let le = ltb-false x.input y.input lt-false in
        by_input (sym same) (strict y.input x.input le ne)
      where
        strict : (m n : ℕ) → m ≤ n → (n ≡ m → ⊥) → m < n
        strict m n l k = pick' (ltb m n) refl
          where
            pick' : (z : Bool) → ltb m n ≡ z → m < n
            pick' true w = ltb-true m n w
            pick' false w = absurd (k (let v = ltb-false m n w in omega arith))

before_trans : (x y : Booking) (zs : List Booking) → stands_before x y ≡ true → BeforeAll y zs → BeforeAll x zs
before_trans x y [] e h = tt
before_trans x y (z ∷ zs) e h = (more x z (less_trans (less x y e) (less y z h.0)), before_trans x y zs e h.1)

-- the same key stands before the same
same_key_is : (x y : Booking) → same_key x y ≡ true → (x.day ≡ y.day) × (x.input ≡ y.input)
same_key_is x y e = let w = and_parts (eqb x.day y.day) (eqb x.input y.input) e in (eqb-true x.day y.day w.0, eqb-true x.input y.input w.1)

same_before : (x y : Booking) (zs : List Booking) → same_key x y ≡ true → BeforeAll y zs → BeforeAll x zs
same_before x y [] e h = tt
same_before x y (z ∷ zs) e h = let k = same_key_is x y e in
    (more x z (subst (λ (d : ℕ). Less d x.input z.day z.input) (sym k.0) (subst (λ (a : ℕ). Less y.day a z.day z.input) (sym k.1) (less y z h.0))), same_before x y zs e h.1)

booked_behind : (y x : Booking) (zs : List Booking) → stands_before y x ≡ true → BeforeAll y zs → BeforeAll y (booked x zs)
booked_behind y x [] e h = (e, tt)
booked_behind y x (z ∷ zs) e h = pick (booked_behind y x zs e h.1) (same_key x z) (stands_before x z)
  where
    pick : BeforeAll y (booked x zs) → (s t : Bool) → BeforeAll y (cond s (x ∷ zs) (cond t (x ∷ (z ∷ zs)) (z ∷ booked x zs)))
    pick w true t = (e, h.1)
    pick w false true = (e, h)
    pick w false false = (h.0, w)

booked_in_turn : (x : Booking) (ys : List Booking) → InTurn ys → InTurn (booked x ys)
booked_in_turn x [] h = (tt, tt)
booked_in_turn x (y ∷ ys) h = pick (booked_in_turn x ys h.1) (same_key x y) refl (stands_before x y) refl
  where
    pick : InTurn (booked x ys) → (s : Bool) → same_key x y ≡ s → (t : Bool) → stands_before x y ≡ t → InTurn (cond s (x ∷ ys) (cond t (x ∷ (y ∷ ys)) (y ∷ booked x ys)))
    pick w true p t q = (same_before x y ys p h.0, h.1)
    pick w false p true q = ((q, before_trans x y ys q h.0), h)
    pick w false p false q = (booked_behind y x ys (behind x y p q) h.0, w)

left_before : (y : Booking) (d : ℕ) (zs : List Booking) → BeforeAll y zs → BeforeAll y (left d zs)
left_before y d [] h = tt
left_before y d (z ∷ zs) h = pick (left_before y d zs h.1) (leb z.day d)
  where
    pick : BeforeAll y (left d zs) → (t : Bool) → BeforeAll y (cond t (left d zs) (z ∷ left d zs))
    pick w true = w
    pick w false = (h.0, w)

left_in_turn : (d : ℕ) (ys : List Booking) → InTurn ys → InTurn (left d ys)
left_in_turn d [] h = tt
left_in_turn d (y ∷ ys) h = pick (left_in_turn d ys h.1) (leb y.day d)
  where
    pick : InTurn (left d ys) → (t : Bool) → InTurn (cond t (left d ys) (y ∷ left d ys))
    pick w true = w
    pick w false = (left_before y d ys h.0, w)

left_fewer : (d : ℕ) (ys : List Booking) → length (left d ys) ≤ length ys
left_fewer d [] = omega arith
left_fewer d (y ∷ ys) = pick (left_fewer d ys) (leb y.day d)
  where
    pick : length (left d ys) ≤ length ys → (t : Bool) → length (cond t (left d ys) (y ∷ left d ys)) ≤ suc (length ys)
    pick w true = omega arith
    pick w false = omega arith

booked_most : (x : Booking) (ys : List Booking) → length (booked x ys) ≤ suc (length ys)
booked_most x [] = omega arith
booked_most x (y ∷ ys) = pick (booked_most x ys) (same_key x y) (stands_before x y)
  where
    pick : length (booked x ys) ≤ suc (length ys) → (s t : Bool) → length (cond s (x ∷ ys) (cond t (x ∷ (y ∷ ys)) (y ∷ booked x ys))) ≤ suc (suc (length ys))
    pick w true t = omega arith
    pick w false true = omega arith
    pick w false false = omega arith

-- one that has its place there takes it
not_self : (x y : Booking) → same_key x y ≡ true → stands_before x y ≡ true → ⊥
not_self x y e f = let k = same_key_is x y e in clash k.0 k.1 (less x y f)
  where
    clash : {a b c d : ℕ} → a ≡ c → b ≡ d → Less a b c d → ⊥
    clash p q (by_day l) = omega arith
    clash p q (by_input r l) = omega arith

waits_not_before : (x : Booking) (ys : List Booking) → waits x ys ≡ true → BeforeAll x ys → ⊥
waits_not_before x [] e h = both_ways false refl e
waits_not_before x (y ∷ ys) e h = pick (waits_not_before x ys) (same_key x y) refl e
  where
    pick : (waits x ys ≡ true → BeforeAll x ys → ⊥) → (s : Bool) → same_key x y ≡ s → cond s true (waits x ys) ≡ true → ⊥
    pick w true p q = not_self x y p h.0
    pick w false p q = w q h.1

booked_same : (x : Booking) (ys : List Booking) → InTurn ys → waits x ys ≡ true → length (booked x ys) ≡ length ys
booked_same x [] h e = absurd (both_ways false refl e)
booked_same x (y ∷ ys) h e = pick (booked_same x ys h.1) (same_key x y) refl (stands_before x y) refl e
  where
    pick : (waits x ys ≡ true → length (booked x ys) ≡ length ys) → (s : Bool) → same_key x y ≡ s → (t : Bool) → stands_before x y ≡ t → cond s true (waits x ys) ≡ true →
        length (cond s (x ∷ ys) (cond t (x ∷ (y ∷ ys)) (y ∷ booked x ys))) ≡ suc (length ys)
    pick w true p t q r = refl
    pick w false p true q r = absurd (waits_not_before x ys r (before_trans x y ys q h.0))
    pick w false p false q r = ap suc (w r)

pub record Fine (ys : List Booking) : Type 0 where
  pub in_turn : InTurn ys
  pub few : length ys ≤ 64

booked_fine : (x : Booking) (ys : List Booking) → room x ys ≡ true → Fine ys → Fine (booked x ys)
booked_fine x ys e h = record { in_turn = booked_in_turn x ys h.in_turn; few = pick (ltb (length ys) 64) refl e }
  where
    pick : (t : Bool) → ltb (length ys) 64 ≡ t → cond t true (waits x ys) ≡ true → length (booked x ys) ≤ 64
    pick true p q = omega (arith, booked_most x ys, ltb-true (length ys) 64 p)
    pick false p q = omega (arith, booked_same x ys h.in_turn q, h.few)

opening_fine : (b : Book) (st : State) → Fine b.bookings → Fine (opening b st).bookings
opening_fine b (rests r) h = h
opening_fine b (open_since r js) h = h

withdrawing_fine : (b : Book) (st : State) → Fine b.bookings → Fine (withdrawing b st).bookings
withdrawing_fine b (rests r) h = h
withdrawing_fine b (open_since r js) h = h

or_else_rest : (o p : Option Refusal) → or_else o p ≡ none → p ≡ none
or_else_rest none p e = e
or_else_rest (some r) p e = absurd (mathlib.Core.Option.none-ne-some r (sym e))

change_fine : (b : Book) (c : Call) → refusal b c ≡ none → Fine b.bookings → Fine (change b c).bookings
change_fine b (OPEN q) e h = opening_fine b b.state h
change_fine b (POST q i x) e h = h
change_fine b (WITHDRAW q) e h = withdrawing_fine b b.state h
change_fine b (SETTLE q) e h = h
change_fine b (BOOK q x) e h =
    let w = (unless_true (bears b q && at_rest q.sort) wrong_pass (or_else (unfit b.made_of x.input x.content) (unless (room x b.bookings) bookings_full none)) e).1 in
    let r = or_else_rest (unfit b.made_of x.input x.content) (unless (room x b.bookings) bookings_full none) w in
    booked_fine x b.bookings (unless_true (room x b.bookings) bookings_full none r).0 h
change_fine b (TURN q d) e h = record { in_turn = left_in_turn d b.bookings h.in_turn; few = omega (arith, left_fewer d b.bookings, h.few) }
change_fine b (RESULT q) e h = h
change_fine b (LINE q r) e h = h

from_fine : (b : Book) (cs : List Call) → Fine b.bookings → Fine (book_from b cs).bookings
from_fine b [] h = h
from_fine b (c ∷ cs) h = from_fine (book_step b c) cs (pick (refusal b c) refl)
  where
    pick : (o : Option Refusal) → refusal b c ≡ o → Fine (unless_refused o b (change b c)).bookings
    pick none e = change_fine b c e h
    pick (some r) e = h

pub bookings_in_order : BookingsInOrder
bookings_in_order k cs = let h = from_fine (first_book k) cs (record { in_turn = tt; few = omega arith }) in (h.in_turn, h.few)
