-- What is computed of the tried sheets holds of runs and of settling by turns.
use Rattle.std.proofs.lemmas.Bool.{and_parts, not-true}
use mathlib.Core.Path.{◌≡◌, refl, subst}
use mathlib.Core.Bool.{Bool, true, false, cond, ◌&&◌, not}
use mathlib.Core.List.{List, [], ◌∷◌}
use mathlib.Core.Option.{Option, some, none, some-injective, none-ne-some}
use Prim.Native.Nat.{ℕ, suc, ◌+◌, ◌≤◌}
use native.Mathlib.Omega.{arith}
use lib.Dec.{eqb, leb, ltb}
use borrow.Author.Tests.{eqb-false, leb-true, ltb-true, both_ways}
use Rattle.program.specs.Arith.{applied}
use Rattle.program.specs.View.{View}
use Rattle.trace.specs.Trace.{Trace, size, places, Absent, Distinct}
use Rattle.trace.specs.Run.{initial, Stands, plain_run}
use Rattle.program.specs.declared.value.InputContent.{InputContent}
use Rattle.trace.specs.Listing.{Line, listing, result}
use Rattle.trace.specs.Turns.{Turns}
use Rattle.trace.specs.Computed.{Settle, computed_turns, Outcome, settled, too_large, occurs, distinct, below, and_outcome, with_outcome, later_outcomes, first_outcome, outcomes}
use Rattle.trace.specs.Tried.{LaterOutcomes, no_more, by_turns, Outcomes, runs_anew, is_too_large, Lists, Case, sheet, lines, operation, cases, Holds, EveryHolds, TriedSheetsHold}
use Rattle.trace.proofs.Plain.{plain_run_stands}
use Rattle.trace.proofs.Settled.{turns_leave_a_run}
use Rattle.trace.proofs.Computed.{FreeFrom, turns_right}

-- ── what the tests say ──

occurs_not : (n : ℕ) (ps : List ℕ) → occurs n ps ≡ false → Absent n ps
occurs_not n [] e = tt
occurs_not n (p ∷ ps) e = pick (occurs_not n ps) (eqb n p) refl e
  where
    pick : (occurs n ps ≡ false → Absent n ps) → (z : Bool) → eqb n p ≡ z → cond z true (occurs n ps) ≡ false → Absent n (p ∷ ps)
    pick rec true q h = absurd (both_ways true h refl)
    pick rec false q h = (eqb-false n p q, rec h)

distinct_right : (ps : List ℕ) → distinct ps ≡ true → Distinct ps
distinct_right [] e = tt
distinct_right (p ∷ ps) e =
    let h = and_parts (not (occurs p ps)) (distinct ps) e in
    (occurs_not p ps (not-true (occurs p ps) h.0), distinct_right ps h.1)

below_free : (i : ℕ) (ps : List ℕ) → below i ps ≡ true → (p : ℕ) → i ≤ p → Absent p ps
below_free i [] e p l = tt
below_free i (q ∷ ps) e p l =
    let h = and_parts (ltb q i) (below i ps) e in
    let k = ltb-true q i h.0 in
    ((λ w. omega (arith, w, k, l)), below_free i ps h.1 p l)

cond_some : (z : Bool) (o : Option (List Outcome)) (outs : List Outcome) → cond z o none ≡ some outs → (z ≡ true) × (o ≡ some outs)
cond_some true o outs e = (refl, e)
cond_some false o outs e = absurd (none-ne-some outs e)

record OneMore (a : Outcome) (o : Option (List Outcome)) (outs : List Outcome) : Type 0 where
  others : List Outcome
  found : o ≡ some others
  all : a ∷ others ≡ outs

and_some : (a : Outcome) (o : Option (List Outcome)) (outs : List Outcome) → and_outcome a o ≡ some outs → OneMore a o outs
and_some a none outs e = absurd (none-ne-some outs e)
and_some a (some os) outs e = record { others = os; found = refl; all = some-injective (a ∷ os) outs e }

-- ── the settles ──

later_right : (L : ℕ) (P : View) (iss : List (List InputContent)) (i : ℕ) (t : Trace) (js : List InputContent) (outs : List Outcome) → Stands P js t →
    later_outcomes L P i t iss ≡ some outs → LaterOutcomes L P t iss outs
later_right L P [] i t js outs h e = subst (LaterOutcomes L P t []) (some-injective [] outs e) no_more
later_right L P (is ∷ iss) i t js outs h e =
    let c = cond_some (below i (places t)) _ outs e in
    pick (λ r outs. later_right L P iss (i + r.M) r.trace is outs) (below_free i (places t) c.0) (computed_turns P (suc L) t (initial is) i) refl c.1
  where
    pick : ((r : Settle) (os : List Outcome) → Stands P is r.trace → later_outcomes L P (i + r.M) r.trace iss ≡ some os → LaterOutcomes L P r.trace iss os) →
        FreeFrom (places t) i → (o : Option Settle) → computed_turns P (suc L) t (initial is) i ≡ o →
        with_outcome L o (λ r. later_outcomes L P (i + r.M) r.trace iss) ≡ some outs → LaterOutcomes L P t (is ∷ iss) outs
    pick rec free none q k = absurd (none-ne-some outs k)
    pick rec free (some r) q k =
        let c = cond_some (leb (size r.trace) L && distinct (places r.trace)) _ outs k in
        let b = and_parts (leb (size r.trace) L) (distinct (places r.trace)) c.0 in
        let a = and_some (settled 1 r.E r.M (size r.trace) (result r.trace)) _ outs c.1 in
        let w : Turns P (places t) (initial is) t r.trace r.E r.M = turns_right P (places t) (suc L) t (initial is) i r free q in
        let s : Stands P is r.trace = turns_leave_a_run P js is t r.trace r.E r.M h w (distinct_right (places r.trace) b.1) in
        subst (LaterOutcomes L P t (is ∷ iss)) a.all
        (by_turns w s (leb-true (size r.trace) L b.0) (rec r a.others s a.found))

pub outcomes_right : (L : ℕ) (P : View) (is : List InputContent) (iss : List (List InputContent)) (outs : List Outcome) →
    outcomes L P is iss ≡ some outs → Outcomes L P is iss outs
outcomes_right L P is iss outs e = pick iss (plain_run L P is) refl e
  where
    pick : (iss : List (List InputContent)) (o : Option Trace) → plain_run L P is ≡ o → first_outcome L P o iss ≡ some outs → Outcomes L P is iss outs
    pick [] none q k = subst (Outcomes L P is []) (some-injective (too_large ∷ []) outs k) (is_too_large q)
    pick (js ∷ iss) none q k = absurd (none-ne-some outs k)
    pick iss (some t) q k =
        let s = plain_run_stands L P is t q in
        let a = and_some (settled 2 0 (size t) (size t) (result t)) _ outs k in
        subst (Outcomes L P is iss) a.all (runs_anew s.0 s.1 (later_right L P iss (size t) t is a.others s.0 a.found))

-- ── the table ──

abbrev listed : Option Trace → Option (List Line)
listed none = none
listed (some t) = some (listing t)

lists_right : (L : ℕ) (P : View) (is : List InputContent) (ls : List Line) → listed (plain_run L P is) ≡ some ls → Lists L P is ls
lists_right L P is ls e = pick (plain_run L P is) refl e
  where
    pick : (o : Option Trace) → plain_run L P is ≡ o → listed o ≡ some ls → Lists L P is ls
    pick none q k = absurd (none-ne-some ls k)
    pick (some t) q k = let s = plain_run_stands L P is t q in record { trace = t; stands = s.0; fits = s.1; lists = some-injective (listing t) ls k }

-- a case, computed
abbrev Computes : Case → Type 0
Computes (sheet L P is iss outs) = outcomes L P is iss ≡ some outs
Computes (lines L P is ls) = listed (plain_run L P is) ≡ some ls
Computes (operation op a b c) = applied op a b ≡ c

abbrev EveryComputes : List Case → Type 0
EveryComputes [] = Unit {0}
EveryComputes (c ∷ cs) = Computes c × EveryComputes cs

holds : (c : Case) → Computes c → Holds c
holds (sheet L P is iss outs) e = (outcomes_right L P is iss outs e, e)
holds (lines L P is ls) e = lists_right L P is ls e
holds (operation op a b c) e = e

every_holds : (cs : List Case) → EveryComputes cs → EveryHolds cs
every_holds [] h = tt
every_holds (c ∷ cs) h = (holds c h.0, every_holds cs h.1)

computed : EveryComputes cases
computed = (refl, (refl, (refl, (refl, (refl, (refl, (refl, tt)))))))

pub tried_sheets_hold : TriedSheetsHold
tried_sheets_hold = every_holds cases computed
