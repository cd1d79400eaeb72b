-- What each place of a sound list holds.
use Rattle.std.proofs.Common.{◌≡◌, ℕ, Bool, true, false, not, List, [], ◌∷◌, get_or, sym, refl, ap, ◌∙◌, inl, inr, arith}
use Rattle.std.proofs.lemmas.Bool.Decides.{eqb_tells}
use Rattle.std.proofs.lemmas.Bool.{cases_Bool}
use Rattle.order_list.specs.Order.{has, behind}
use Rattle.chained_list.specs.Tags.{members_of, tag_at}
use Rattle.chained_list.specs.Chain.{blank, first, Linked, Backed, Strung, Sound, order, chain, next_of, previous_of, tag_of, mark, tagged}
use Rattle.chained_list.specs.Contents.{last_of, ahead, previous_in, Stands}
use Rattle.chained_list.specs.declared.member.Member.{Member}
use Rattle.order_list.proofs.Lists.{has_here, has_there, has_tail}
use Rattle.chained_list.proofs.Looks.{links_behind}
use Rattle.chained_list.proofs.Neighbours.{tag_at_tagged}

members_mark : (t : ℕ → ℕ) (xs : List ℕ) → members_of (mark t xs) ≡ xs
members_mark t [] = refl
members_mark t (x ∷ xs) = ap (λ (ys : List ℕ). x ∷ ys) (members_mark t xs)

-- the last links to none
last_links : (f : ℕ → ℕ) (x : ℕ) (xs : List ℕ) → Linked f (x ∷ xs) → f (last_of x xs) ≡ 0
last_links f x [] l = l.0
last_links f x (y ∷ ys) l = last_links f y ys l.1

last_has : (x : ℕ) (xs : List ℕ) → has (x ∷ xs) (last_of x xs) ≡ true
last_has x [] = has_here x x [] refl
last_has x (y ∷ ys) = has_there x (last_of y ys) (y ∷ ys) (last_has y ys)

-- links back lead to what stands before
ahead_is : (f g : ℕ → ℕ) (p x : ℕ) (xs : List ℕ) (k : ℕ) → g x ≡ p → Linked f (x ∷ xs) → Backed f g (x ∷ xs) → has (x ∷ xs) k ≡ true → g k ≡ ahead p (x ∷ xs) k
ahead_is f g p x [] k e l b h =
    elim (eqb_tells x k) [
      | inl q ↦ rw q.0 (ap g (sym q.1) ∙ e)
      | inr q ↦ let z : false ≡ true = has_tail x k [] q.1 h in absurd (grind arith)
    ]
ahead_is f g p x (y ∷ ys) k e l b h =
    elim (eqb_tells x k) [
      | inl q ↦ rw q.0 (ap g (sym q.1) ∙ e)
      | inr q ↦ rw q.0 (ahead_is f g x y ys k (ap g (sym l.0) ∙ b x (has_here x x (y ∷ ys) refl)) l.1 (λ z hz. b z (has_there x z (y ∷ ys) hz)) (has_tail x k (y ∷ ys) q.1 h))
    ]

previous_is : (ps : List Member) (xs : List ℕ) (k : ℕ) → Strung ps xs → has xs k ≡ true → previous_of ps k ≡ previous_in xs k
previous_is ps [] k s h = absurd s.based
previous_is ps (x ∷ xs) k s h =
    let z : next_of ps (last_of x xs) ≡ x = last_links (next_of ps) x xs s.linked ∙ sym s.based in
    let e : previous_of ps x ≡ last_of x xs = ap (previous_of ps) (sym z) ∙ s.backed (last_of x xs) (last_has x xs) in
    ahead_is (next_of ps) (previous_of ps) (last_of x xs) x xs k e s.linked s.backed h

-- a place by its parts
by_parts : (p : Member) (u : Bool) (n v t : ℕ) → p.used ≡ u → p.next ≡ n → p.previous ≡ v → p.tag ≡ t → p ≡ record { used = u; next = n; previous = v; tag = t }
by_parts p u n v t eu en ev et = λ i. record { used = eu i; next = en i; previous = ev i; tag = et i }

pub each_place : (ps : List Member) (h : ℕ) → Sound ps h → Stands ps h
each_place ps h s k lt =
    let e = members_mark (tag_of ps) (order ps) in
    let str = s.holds.strung in
    let u = str.marked k lt in
    elim (cases_Bool (has (order ps) k)) [
      | inl y ↦ rw (e, y) (by_parts (get_or ps k blank) true (first (behind (order ps) k)) (previous_in (order ps) k) (tag_at (tagged ps) k) (u ∙ y)
          (links_behind (next_of ps) (order ps) k str.linked y) (previous_is ps (order ps) k str y) (sym (tag_at_tagged ps s.holds k y)))
      | inr n ↦
          let f : has (chain ps h) k ≡ true = s.spare.others k lt ∙ ap not n in
          let b = s.cleared k n in
          rw (e, n) (by_parts (get_or ps k blank) false (first (behind (chain ps h) k)) 0 0 (u ∙ n) (links_behind (next_of ps) (chain ps h) k s.spare.linked f) b.1 b.0)
    ]
