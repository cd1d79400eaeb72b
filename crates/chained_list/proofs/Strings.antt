-- Links that are followed through a list.
use Rattle.std.proofs.Common.{◌≡◌, ℕ, zero, suc, ◌≤◌, true, false, List, [], ◌∷◌, length, sym, refl, ap, ◌∙◌, inl, inr, arith}
use Rattle.std.proofs.lemmas.Bool.Decides.{eqb_tells}
use Rattle.order_list.specs.Order.{has, Apart, insert_after}
use Rattle.chained_list.specs.Chain.{walk, first, Linked}
use Rattle.order_list.proofs.Lists.{has_here, has_there, has_none, apart_from}

-- links that agree on the members
pub linked_same : (f g : ℕ → ℕ) (xs : List ℕ) → ((k : ℕ) → has xs k ≡ true → g k ≡ f k) → Linked f xs → Linked g xs
linked_same f g [] same l = tt
linked_same f g (x ∷ xs) same l =
    (same x (has_here x x xs refl) ∙ l.0, linked_same f g xs (λ k h. same k (has_there x k xs h)) l.1)

pub first_insert : (xs : List ℕ) (m n : ℕ) → first (insert_after xs m n) ≡ first xs
first_insert [] m n = refl
first_insert (x ∷ xs) m n = elim (eqb_tells x m) [ inl p ↦ rw p.0 | inr p ↦ rw p.0 ]

-- n put behind m: m then links to n, and n to where m did
pub linked_insert : (f g : ℕ → ℕ) (m n : ℕ) → g m ≡ n → g n ≡ f m → ((k : ℕ) → (k ≡ m → ⊥) → (k ≡ n → ⊥) → g k ≡ f k) →
    (xs : List ℕ) → has xs n ≡ false → Apart xs → Linked f xs → Linked g (insert_after xs m n)
linked_insert f g m n gm gn other [] nn apt l = tt
linked_insert f g m n gm gn other (x ∷ xs) nn apt l =
    let nn' = has_none x n xs nn in
    elim (eqb_tells x m) [
      | inl p ↦ rw p.0 (
        ap g p.1 ∙ gm,
        (
          gn ∙ ap f (sym p.1) ∙ l.0,
          linked_same f g xs (λ k h. other k (λ e. apart_from k x xs apt.0 h (e ∙ sym p.1)) (apart_from k n xs nn'.1 h)) l.1,
        ),
      )
      | inr p ↦ rw p.0 (other x p.1 nn'.0 ∙ l.0 ∙ sym (first_insert xs m n), linked_insert f g m n gm gn other xs nn'.1 apt.1 l.1)
    ]

-- links that are followed from the first of a list give the list
pub walk_is : (n : ℕ) (f : ℕ → ℕ) (x : ℕ) (xs : List ℕ) → has xs 0 ≡ false → length xs ≤ n → Linked f (x ∷ xs) → walk n f x ≡ x ∷ xs
unfolding walk
walk_is zero f x [] z le l = refl
walk_is zero f x (y ∷ ys) z le l = absurd (omega arith)
walk_is (suc n) f x [] z le l = rw l.0
walk_is (suc n) f x (y ∷ ys) z le l =
    let z' = has_none y 0 ys z in
    elim (eqb_tells y 0) [
      | inl p ↦ absurd (z'.0 p.1)
      | inr p ↦ rw (l.0, p.0, walk_is n f y ys z'.1 (omega arith) l.1)
    ]
