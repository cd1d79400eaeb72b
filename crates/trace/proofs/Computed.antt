-- The computed turns are turns.
use Rattle.std.proofs.lemmas.Bool.{and_parts}
use mathlib.Core.Path.{◌≡◌, refl, ap, ap₂, subst}
use mathlib.Core.Bool.{Bool, true, false, ◌&&◌}
use mathlib.Core.List.{List, [], ◌∷◌, ◌++◌}
use mathlib.Core.Option.{Option, some, none, some-injective, none-ne-some}
use Prim.Native.Nat.{ℕ, suc, ◌+◌, ◌≤◌}
use native.Mathlib.Omega.{arith}
use lib.IntN.{ℤ, pos, negsuc}
use borrow.Author.Tests.{eqb-true, eq-eqb, both_ways}
use Rattle.program.specs.View.{View}
use Rattle.trace.specs.Code.{Reader, enter, entered, arguments}
use Rattle.trace.specs.Trace.{Trace, write, new, read, written, size, places, Store, put, after, Absent, Fresh}
use Rattle.trace.specs.Run.{trace_of}
use Rattle.trace.specs.Turns.{Turns, at_write, past_new, kept, re_executed}
use Rattle.trace.specs.Computed.{same_number, same_name, same, Settle, bind_settle, re_execution, computed_turns}
use Rattle.program.specs.declared.value.Name.{Name}
use Rattle.program.specs.declared.value.Name.TheVariants.{Input, Made}
use Rattle.program.specs.declared.value.Content.{Content}
use Rattle.program.specs.declared.value.Content.TheVariants.{Number, Empty, Cell}
use Rattle.trace.proofs.Plain.{right, Numbered}

number_right : (a b : ℤ) → same_number a b ≡ true → a ≡ b
number_right (pos a) (pos b) e = ap pos (eqb-true a b e)
number_right (pos a) (negsuc b) e = absurd (both_ways false refl e)
number_right (negsuc a) (pos b) e = absurd (both_ways false refl e)
number_right (negsuc a) (negsuc b) e = ap negsuc (eqb-true a b e)

number_self : (a : ℤ) → same_number a a ≡ true
number_self (pos a) = eq-eqb a a refl
number_self (negsuc a) = eq-eqb a a refl

name_right : (a b : Name) → same_name a b ≡ true → a ≡ b
name_right (Input a) (Input b) e = ap Input (eqb-true a b e)
name_right (Input a) (Made b) e = absurd (both_ways false refl e)
name_right (Made a) (Input b) e = absurd (both_ways false refl e)
name_right (Made a) (Made b) e = ap Made (eqb-true a b e)

name_self : (a : Name) → same_name a a ≡ true
name_self (Input a) = eq-eqb a a refl
name_self (Made a) = eq-eqb a a refl

pub same_right : (x y : Content) → same x y ≡ true → x ≡ y
same_right (Number a) (Number b) e = ap Number (number_right a b e)
same_right (Number a) Empty e = absurd (both_ways false refl e)
same_right (Number a) (Cell h t) e = absurd (both_ways false refl e)
same_right Empty (Number b) e = absurd (both_ways false refl e)
same_right Empty Empty e = refl
same_right Empty (Cell h t) e = absurd (both_ways false refl e)
same_right (Cell a b) (Number c) e = absurd (both_ways false refl e)
same_right (Cell a b) Empty e = absurd (both_ways false refl e)
same_right (Cell a b) (Cell c d) e =
    let h = and_parts (same_name a c) (same_name b d) e in ap₂ (λ (p q : Name). Cell p q) (name_right a c h.0) (name_right b d h.1)

pub same_self : (x : Content) → same x x ≡ true
same_self (Number a) = number_self a
same_self Empty = refl
same_self (Cell a b) = ap₂ ◌&&◌ (name_self a) (name_self b)

pub same_wrong : (x y : Content) → same x y ≡ false → x ≡ y → ⊥
same_wrong x y e q = both_ways (same x y) e (subst (λ (z : Content). same x z ≡ true) q (same_self x))

fresh-++ : (old ps qs : List ℕ) → Fresh old ps → Fresh old qs → Fresh old (ps ++ qs)
fresh-++ old [] qs h k = k
fresh-++ old (p ∷ ps) qs h k = (h.0, fresh-++ old ps qs h.1 k)

module _ (old : List ℕ) where
  abbrev pub FreeFrom : ℕ → Type 0
  FreeFrom i = (p : ℕ) → i ≤ p → Absent p old

  numbered_fresh : (i : ℕ) (t : Trace) → FreeFrom i → Numbered i t → Fresh old (places t)
  numbered_fresh i (write x) h k = tt
  numbered_fresh i (new n f vs inner rest) h k = (
    h n (omega (arith, k.0)),
    fresh-++ old (places inner) (places rest)
        (numbered_fresh (suc i) inner (λ p l. h p (omega arith)) k.1)
        (numbered_fresh (suc i + size inner) rest (λ p l. h p (omega arith)) k.2),
  )
  numbered_fresh i (read n s b x rest) h k = (h n (omega (arith, k.0)), numbered_fresh (suc i) rest (λ p l. h p (omega arith)) k.1)

then_some : (o : Option Settle) (k : Settle → Option Settle) {r : Settle} → bind_settle o k ≡ some r → (q : Settle) × (o ≡ some q) × (k q ≡ some r)
then_some none k {r} e = absurd (none-ne-some r e)
then_some (some q) k e = (q, refl, e)

same_settle : {r q : Settle} → ◌≡◌ {A = Option Settle} (some r) (some q) → r ≡ q
same_settle {r} {q} e = some-injective r q e

module _ (P : View) (old : List ℕ) (d : ℕ) where
  abbrev Right : Store → Trace → Settle → Type 0
  Right σ t r = Turns P old σ t r.trace r.E r.M

  anew_right : (σ : Store) (i n : ℕ) (s : Name) (b : Reader) (x : Content) (rest : Trace) (r : Settle) → FreeFrom old i → ¬ (σ s ≡ x) →
      (o : Option Trace) → trace_of P d (enter P (entered b (σ s)) (arguments b (σ s))) σ i ≡ o → re_execution o n s b (σ s) ≡ some r → Right σ (read n s b x rest) r
  anew_right σ i n s b x rest r free h none e q = absurd (none-ne-some r q)
  anew_right σ i n s b x rest r free h (some u) e q =
      let R = right P d (enter P (entered b (σ s)) (arguments b (σ s))) σ i u e in
      subst (Right σ (read n s b x rest)) (same_settle q)
      (re_executed h refl (record { follows = R.follows; all_kept = R.all_kept }) (numbered_fresh old i u free R.numbered) refl refl)

  pub turns_right : (t : Trace) (σ : Store) (i : ℕ) (r : Settle) → FreeFrom old i → computed_turns P d t σ i ≡ some r → Right σ t r
  turns_right (write x) σ i r free e = subst (Right σ (write x)) (same_settle e) at_write
  turns_right (new n f vs inner rest) σ i r free e =
      let a = then_some (computed_turns P d inner σ i) _ e in
      let u = a.0 in
      let b = then_some (computed_turns P d rest (put (after u.trace σ) n (written u.trace)) (i + u.M)) _ a.2 in
      let A = turns_right inner σ i u free a.1 in
      let B = turns_right rest (put (after u.trace σ) n (written u.trace)) (i + u.M) b.0 (λ p l. free p (omega arith)) b.1 in
      subst (Right σ (new n f vs inner rest)) (same_settle b.2) (past_new A B refl refl)
  turns_right (read n s b x rest) σ i r free e = pick (turns_right rest σ i) (same (σ s) x) refl e
    where
      pick : ((q : Settle) → FreeFrom old i → computed_turns P d rest σ i ≡ some q → Right σ rest q) → (v : Bool) → same (σ s) x ≡ v →
          ◌≡◌ {A = Option Settle} (elim v [
            | true ↦ bind_settle (computed_turns P d rest σ i) (λ q. some (record { trace = read n s b x q.trace; E = q.E; M = q.M }))
            | false ↦ re_execution (trace_of P d (enter P (entered b (σ s)) (arguments b (σ s))) σ i) n s b (σ s)
          ]) (some r) → Right σ (read n s b x rest) r
      pick rec true h q =
          let a = then_some (computed_turns P d rest σ i) _ q in
          subst (Right σ (read n s b x rest)) (same_settle a.2) (kept (same_right (σ s) x h) (rec a.0 free a.1))
      pick rec false h q = anew_right σ i n s b x rest r free (same_wrong (σ s) x h) (trace_of P d (enter P (entered b (σ s)) (arguments b (σ s))) σ i) refl q
