-- What keeping and taking a booking does to the list that is meant.
use Rattle.std.proofs.Common.{◌≡◌, ℕ, ◌+◌, ◌-◌, ◌≤◌, min, Bool, true, false, List, [], ◌∷◌, length, get_or, take, set, position, Some, None, Ok, Err, Option, MatchOption, sym, refl, ap, ◌∙◌, inl, inr, arith, lt-ltb, le-ltb}
use Rattle.std.specs.List.{AllByRecursion, position_from}
use Rattle.std.specs.List.Sorted.{IsPermutation}
use Rattle.std.specs.Bool.{then_some}
use Rattle.std.proofs.Math.Seq.{take-set-lt}
use Rattle.std.proofs.lemmas.Bool.{cases_Bool, false≢true}
use Rattle.std.proofs.lemmas.Bool.Decides.{nat_tests, leb_tells}
use Rattle.std.proofs.lemmas.Iterator.Adapters.{position_from-zero}
use Rattle.std.proofs.lemmas.List.{length-take-le}
use Rattle.std.proofs.lemmas.List.Quantifiers.{position-Some}
use Rattle.queue.specs.declared.booking.Booking.{Booking}
use Rattle.queue.specs.declared.bookings.Bookings.{Bookings}
use Rattle.queue.specs.Refusals.{most_bookings}
use Rattle.queue.specs.declared.refusal.QueueRefusal.{QueueRefusal}
use Rattle.queue.specs.declared.refusal.BookingRefusal.TheVariants.{Full}
use Rattle.queue.specs.Heaps.{Heaped, First, Puts, Takes}
use Rattle.queue.specs.Listing.{same, placed, listed, has_place, Once, Ascending}
use Rattle.queue.specs.Sooner.{sooner, is_same_place, due, sooner_lawful}
use Rattle.queue.specs.Waiting.{waiting, book_refusal, first_due, after_due}
use Rattle.queue.proofs.Listings.{ascending_listed, has_listed, once_behind, once_more, once_shuffled, once_set, same_listed, length_listed, first_listed, set_listed, heaped_set, some_place}

-- neither is sooner exactly where both are for the same day and input
same_place : (a b : Booking) → same sooner a b ≡ is_same_place a b
same_place a b = grind (arith, nat_tests)

-- none is found where none has the place
none_from : (b : Booking) (i : ℕ) (xs : List Booking) → position_from (λ p. is_same_place p b) i xs ≡ None → has_place sooner xs b ≡ false
none_from b i [] e = refl
none_from b i (x ∷ xs) e = grind (arith, same_place x b, none_from b (i + 1) xs)

none_has : (b : Booking) (xs : List Booking) → position (λ p. is_same_place p b) xs ≡ None → has_place sooner xs b ≡ false
none_has b xs e = none_from b 0 xs (sym (position_from-zero (λ p. is_same_place p b) xs) ∙ e)

-- the first m of ys wait where s kept b
pub record Keeps (s : Bookings) (b : Booking) (ys : List Booking) (m : ℕ) : Type 0 where
  pub sized : m ≤ most_bookings
  pub heaped : Heaped sooner (take m ys)
  pub once : Once sooner (take m ys)
  pub unrefused : book_refusal (waiting s) b ≡ None
  pub is_placed : listed sooner (take m ys) ≡ placed sooner b (waiting s)

module _ (s : Bookings) (whole : length s.places ≡ most_bookings) (b : Booking) where
  front_long : length (take s.count s.places) ≡ s.count
  front_long = length-take-le s.count s.places (omega arith)

  waiting_long : length (waiting s) ≡ s.count
  waiting_long = length_listed sooner sooner_lawful (take s.count s.places) s.once ∙ front_long

  pub replaced : (k : ℕ) → Some k ≡ position (λ p. is_same_place p b) (take s.count s.places) → Keeps s b (set s.places k b) s.count
  replaced k found =
      let at : (d : Booking) → same sooner (get_or (take s.count s.places) k d) b ≡ true = λ d. same_place (get_or (take s.count s.places) k d) b ∙ (position-Some (λ p. is_same_place p b) (take s.count s.places) k d (sym found)).1 in
      let within = (position-Some (λ p. is_same_place p b) (take s.count s.places) k b (sym found)).0 in
      let e = has_listed sooner sooner_lawful (take s.count s.places) b ∙ some_place sooner sooner_lawful (take s.count s.places) b k b within (at b) in
      let is = take-set-lt s.count s.places k b (omega (arith, within, front_long)) in
      record {
        sized = s.sized;
        heaped = rw is (heaped_set sooner sooner_lawful (take s.count s.places) k b within at s.heaped);
        once = rw is (once_set sooner sooner_lawful (take s.count s.places) k b b within (at b) s.once);
        unrefused = rw e refl;
        is_placed = ap (listed sooner) is ∙ set_listed sooner sooner_lawful (take s.count s.places) k b b within (at b) s.once;
      }

  module _ (none : None ≡ position (λ p. is_same_place p b) (take s.count s.places)) (ys : List Booking) where
    unlisted : has_place sooner (waiting s) b ≡ false
    unlisted = has_listed sooner sooner_lawful (take s.count s.places) b ∙ none_has b (take s.count s.places) (sym none)

    pub added : (m : ℕ) → Puts (λ _. Unit {0}) sooner s.count b s.places (Ok m) ys → Keeps s b ys m
    added m p =
        let l = lt-ltb s.count most_bookings (omega (arith, p.fits.0 refl)) in
        let more = once_more sooner sooner_lawful b (take s.count s.places) (none_has b (take s.count s.places) (sym none)) s.once in
        rw p.items.0 (record {
          sized = omega (arith, p.fits.0 refl);
          heaped = p.heaped (λ k d f. tt) s.heaped;
          once = once_shuffled sooner sooner_lawful (b ∷ take s.count s.places) (take (s.count + 1) ys) p.items.1 more;
          unrefused = rw (unlisted, waiting_long, l) refl;
          is_placed = sym (same_listed sooner sooner_lawful (b ∷ take s.count s.places) (take (s.count + 1) ys) p.items.1 more);
        })

    pub refused : (e : QueueRefusal) → Puts (λ _. Unit {0}) sooner s.count b s.places (Err e) ys → book_refusal (waiting s) b ≡ Some Full
    refused e p =
        let l = le-ltb s.count most_bookings (elim (leb_tells most_bookings s.count) [ inl q ↦ q.1 | inr q ↦ absurd (false≢true (p.fits.1 (omega (arith, q.1)))) ]) in
        rw (unlisted, waiting_long, l) refl

-- the first m of ys wait where s answered whether one is due by d
pub record TakesDue (s : Bookings) (d : ℕ) (answer : Option Booking) (ys : List Booking) (m : ℕ) : Type 0 where
  pub sized : m ≤ most_bookings
  pub heaped : Heaped sooner (take m ys)
  pub once : Once sooner (take m ys)
  pub is_first : answer ≡ first_due (waiting s) d
  pub is_left : listed sooner (take m ys) ≡ after_due (waiting s) d

module _ (s : Bookings) (whole : length s.places ≡ most_bookings) (d : ℕ) (ys : List Booking) where
  nothing : Takes (λ _. Unit {0}) sooner (min s.count (length s.places)) s.places None ys → TakesDue s d None s.places s.count
  nothing t =
      let e : s.count ≡ 0 = elim (leb_tells 1 s.count) [ inl q ↦ absurd (false≢true (t.some.1 (omega (arith, q.1)))) | inr q ↦ omega (arith, q.1) ] in
      let none : take s.count s.places ≡ [] = ap (λ k. take k s.places) e in
      record { sized = s.sized; heaped = s.heaped; once = s.once; is_first = rw none refl; is_left = rw none refl }

  module _ (x : Booking) (t : Takes (λ _. Unit {0}) sooner (min s.count (length s.places)) s.places (Some x) ys) where
    all : min s.count (length s.places) ≡ s.count
    all = omega arith

    split : IsPermutation (take s.count s.places) (x ∷ take (s.count - 1) ys)
    split = rw all at t.items

    first : First sooner x (take s.count s.places) × Heaped sooner (take (s.count - 1) ys)
    first = (rw all at t.first) (λ k e f. tt) s.heaped

    is_waiting : waiting s ≡ x ∷ listed sooner (take (s.count - 1) ys)
    is_waiting = first_listed sooner sooner_lawful (take s.count s.places) x (take (s.count - 1) ys) split first.0 s.once

    taken : due x d ≡ true → TakesDue s d (Some x) ys (s.count - 1)
    taken e = record {
      sized = omega arith;
      heaped = first.1;
      once = once_behind sooner sooner_lawful x (take (s.count - 1) ys) (once_shuffled sooner sooner_lawful (take s.count s.places) (x ∷ take (s.count - 1) ys) split s.once);
      is_first = rw (is_waiting, e) refl;
      is_left = rw (is_waiting, e) refl;
    }

    not_taken : due x d ≡ false → TakesDue s d None s.places s.count
    not_taken e = record { sized = s.sized; heaped = s.heaped; once = s.once; is_first = rw (is_waiting, e) refl; is_left = rw (is_waiting, e) refl }

  -- what is taken, if it passes the test whether it is due
  pub due_answer : {Told : Booking → Bool → Type 0} → (o r : Option Booking) → Takes (λ _. Unit {0}) sooner (min s.count (length s.places)) s.places o ys → MatchOption o (r ≡ None) (λ x. (b : Bool) × Told x b × (r ≡ then_some b x)) → ((x : Booking) (b : Bool) → Told x b → b ≡ due x d) → MatchOption r (TakesDue s d None s.places s.count) (λ x. TakesDue s d (Some x) ys (s.count - 1))
  due_answer None r t m f = rw m (nothing t)
  due_answer (Some x) r t m f = elim (cases_Bool (due x d)) [
    | inl e ↦ rw (m.2, f x m.0 m.1, e) (taken x t e)
    | inr e ↦ rw (m.2, f x m.0 m.1, e) (not_taken x t e)
  ]

-- what waits is in order of day and input
pub waiting_ascends : (s : Bookings) → Ascending sooner (waiting s)
waiting_ascends s = ascending_listed sooner sooner_lawful (take s.count s.places)

later_too : (d : ℕ) (a b : Booking) → due a d ≡ false → sooner a b ≡ true → due b d ≡ false
later_too d a b n s = grind (arith, nat_tests)

none_behind : (d : ℕ) (a : Booking) (bs : List Booking) → due a d ≡ false → AllByRecursion (λ b. sooner a b ≡ true) bs → AllByRecursion (λ b. due b d ≡ false) bs
none_behind d a [] n h = tt
none_behind d a (b ∷ bs) n h = (later_too d a b n h.0, none_behind d a bs n h.1)

-- where the first is not due, none is
pub none_left : (d : ℕ) (ws : List Booking) → Ascending sooner ws → first_due ws d ≡ None → AllByRecursion (λ b. due b d ≡ false) ws
none_left d [] a n = tt
none_left d (b ∷ bs) a n = grind (arith, none_behind d b bs)
