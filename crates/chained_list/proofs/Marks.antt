-- Members with their tags.
use Rattle.std.proofs.Common.{◌≡◌, ℕ, true, List, [], ◌∷◌, refl, ap, inl, inr}
use Rattle.std.proofs.lemmas.Bool.Decides.{eqb_tells}
use Rattle.order_list.specs.Order.{has, insert_after}
use Rattle.chained_list.specs.Tags.{put_behind, tags_of}
use Rattle.chained_list.specs.Chain.{mark, along}
use Rattle.order_list.proofs.Lists.{has_here, has_there}

pub mark_same : (t u : ℕ → ℕ) (xs : List ℕ) → ((k : ℕ) → has xs k ≡ true → u k ≡ t k) → mark u xs ≡ mark t xs
mark_same t u [] f = refl
mark_same t u (x ∷ xs) f = let e = f x (has_here x x xs refl) in let r = mark_same t u xs (λ k h. f k (has_there x k xs h)) in rw (e, r)

pub mark_insert : (t u : ℕ → ℕ) (m n v : ℕ) (xs : List ℕ) → u n ≡ v → ((k : ℕ) → has xs k ≡ true → u k ≡ t k) → mark u (insert_after xs m n) ≡ put_behind (mark t xs) m n v
mark_insert t u m n v [] un f = refl
mark_insert t u m n v (x ∷ xs) un f =
    let e = f x (has_here x x xs refl) in
    let more : (k : ℕ) → has xs k ≡ true → u k ≡ t k = λ k h. f k (has_there x k xs h) in
    let s = mark_same t u xs more in
    let i = mark_insert t u m n v xs un more in
    elim (eqb_tells x m) [ inl p ↦ rw (p.0, e, un, s) | inr p ↦ rw (p.0, e, i) ]

pub tags_mark : (t : ℕ → ℕ) (xs : List ℕ) → tags_of (mark t xs) ≡ along t xs
tags_mark t [] = refl
tags_mark t (x ∷ xs) = ap (λ (ys : List ℕ). t x ∷ ys) (tags_mark t xs)
