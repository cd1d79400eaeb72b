-- One more insertion into two lists.
use Rattle.std.proofs.Common.{◌≡◌, ℕ, true, List, ◌∷◌, None, Ok, Err, sym, ◌∙◌, inl, inr, arith}
use Rattle.order_list.specs.declared.refusal.ListRefusal.{ListRefusal}
use Rattle.order_list.specs.declared.alike.Twin.{Twin}
use Rattle.order_list.specs.Order.{Inserted, insert_refusal}
use Rattle.order_list.specs.Alike.{named, Same, Together, inserted}
use Rattle.order_list.proofs.Twins.{in_step, indistinct}

-- what is inserted behind is a member
stands : (c : ℕ) (ns : List Twin) (xs ys : List ℕ) (m n : ℕ) → Same ns xs ys m n → insert_refusal c xs m ≡ None → named ns m n ≡ true
stands c ns xs ys m n (inl h) e = h
stands c ns xs ys m n (inr h) e = let z = rw h.0 at e in let y : ◌≡◌ {A = ℕ} 0 1 = cc in absurd (omega arith)

module _ (c d : ℕ) (ns : List Twin) (xs ys xs' ys' : List ℕ) (m n : ℕ) (g : Together c d ns xs ys) (s : Same ns xs ys m n) where
  pub both_done : (t : Twin) → Inserted c xs m (Ok t.left) xs' → Inserted d ys n (Ok t.right) ys' → Together c d (t ∷ ns) xs' ys'
  both_done t p q = inserted ns xs ys xs' ys' m n t g (stands c ns xs ys m n s p.0) p q

  alike : c ≡ d → insert_refusal c xs m ≡ insert_refusal d ys n
  alike e = (indistinct c d ns xs ys (in_step g)).insertion m n s e

  pub not_left : c ≡ d → (l : ℕ) (e : ListRefusal) → Inserted c xs m (Ok l) xs' → Inserted d ys n (Err e) ys' → ⊥
  not_left same l e p q = let h = sym p.0 ∙ alike same ∙ q.0 in let y : ◌≡◌ {A = ℕ} 0 1 = cc in omega arith

  pub not_right : c ≡ d → (l : ℕ) (e : ListRefusal) → Inserted c xs m (Err e) xs' → Inserted d ys n (Ok l) ys' → ⊥
  not_right same l e p q = let h = sym p.0 ∙ alike same ∙ q.0 in let y : ◌≡◌ {A = ℕ} 0 1 = cc in omega arith
