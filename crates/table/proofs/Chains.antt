-- Chains of numbers that are linked there and back.
use Rattle.std.proofs.Common.{◌≡◌, ℕ, true, false, ◌⊎◌, List, [], ◌∷◌, sym, refl, ap, ◌∙◌, inl, inr}
use Rattle.std.proofs.lemmas.Bool.Decides.{eqb_tells}
use Rattle.order_list.specs.Order.{has, Apart}
use Rattle.order_list.proofs.Lists.{has_here, has_there, has_none, apart_from, has_tail}
use Rattle.table.specs.Rings.{Chained}

-- one or behind it
pub has_or : (x k : ℕ) (xs : List ℕ) → has (x ∷ xs) k ≡ true → (x ≡ k) ⊎ (has xs k ≡ true)
has_or x k xs h = elim (eqb_tells x k) [ inl e ↦ inl e.1 | inr e ↦ inr (has_tail x k xs e.1 h) ]

-- links that agree along a chain
pub chained_same : (n p n' p' : ℕ → ℕ) (a : ℕ) (xs : List ℕ) (b : ℕ) →
    ((k : ℕ) → has (a ∷ xs) k ≡ true → n' k ≡ n k) → ((k : ℕ) → has (b ∷ xs) k ≡ true → p' k ≡ p k) →
    Chained n p a xs b → Chained n' p' a xs b
chained_same n p n' p' a [] b sn sp c = (sn a (has_here a a [] refl) ∙ c.0, sp b (has_here b b [] refl) ∙ c.1)
chained_same n p n' p' a (x ∷ xs) b sn sp c = (
  sn a (has_here a a (x ∷ xs) refl) ∙ c.0,
  sp x (has_there b x (x ∷ xs) (has_here x x xs refl)) ∙ c.1,
  chained_same n p n' p' x xs b
      (λ k h. sn k (has_there a k (x ∷ xs) h))
      (λ k h. sp k (elim (has_or b k xs h) [ inl e ↦ has_here b k (x ∷ xs) e | inr e ↦ has_there b k (x ∷ xs) (has_there x k xs e) ]))
      c.2,
)

-- r put in directly behind the start
pub chained_put : (n p n' p' : ℕ → ℕ) (a r : ℕ) (xs : List ℕ) (b : ℕ) →
    n' a ≡ r → n' r ≡ n a → ((k : ℕ) → (k ≡ a → ⊥) → (k ≡ r → ⊥) → n' k ≡ n k) →
    p' r ≡ a → p' (n a) ≡ r → ((k : ℕ) → (k ≡ n a → ⊥) → (k ≡ r → ⊥) → p' k ≡ p k) →
    Apart xs → has xs a ≡ false → has xs b ≡ false → has xs r ≡ false → (b ≡ r → ⊥) →
    Chained n p a xs b → Chained n' p' a (r ∷ xs) b
chained_put n p n' p' a r [] b na nr nk pr pn pk ap' ha hb hr br c = (na, pr, (nr ∙ c.0, ap p' (sym c.0) ∙ pn))
chained_put n p n' p' a r (x ∷ xs) b na nr nk pr pn pk ap' ha hb hr br c =
    let xb = has_none x b xs hb in
    let xr = has_none x r xs hr in
    let e = c.0 in (
      na,
      pr,
      (
        nr ∙ e,
        ap p' (sym e) ∙ pn,
        chained_same n p n' p' x xs b
            (λ k h. nk k (apart_from k a (x ∷ xs) ha h) (apart_from k r (x ∷ xs) hr h))
            (λ k h. elim (has_or b k xs h) [
              | inl q ↦ pk k (λ z. xb.0 (sym (q ∙ z ∙ e))) (λ z. br (q ∙ z))
              | inr q ↦ pk k (λ z. apart_from k x xs ap'.0 q (z ∙ e)) (apart_from k r xs xr.1 q)
            ])
            c.2,
      ),
    )

-- what a number of a chain links to
pub next_in : (n p : ℕ → ℕ) (a r : ℕ) (xs : List ℕ) (b : ℕ) → has (a ∷ xs) r ≡ true → Chained n p a xs b → has (b ∷ xs) (n r) ≡ true
next_in n p a r [] b h c = elim (has_or a r [] h) [
  | inl e ↦ has_here b (n r) [] (sym (ap n (sym e) ∙ c.0))
  | inr e ↦ let z : false ≡ true = e in cc
]
next_in n p a r (x ∷ xs) b h c = elim (has_or a r (x ∷ xs) h) [
  | inl e ↦ has_there b (n r) (x ∷ xs) (has_here x (n r) xs (sym (ap n (sym e) ∙ c.0)))
  | inr e ↦ elim (has_or b (n r) xs (next_in n p x r xs b e c.2)) [
    | inl q ↦ has_here b (n r) (x ∷ xs) q
    | inr q ↦ has_there b (n r) (x ∷ xs) (has_there x (n r) xs q)
  ]
]
