-- Lemmas on lists of different numbers.
use Rattle.std.proofs.Common.{◌≡◌, ℕ, zero, suc, ◌<◌, ◌≤◌, true, false, cond, eqb, List, [], ◌∷◌, length, sym, refl, ap, ◌∙◌, inl, inr, zero-le, arith}
use Rattle.std.proofs.lemmas.Bool.Decides.{eqb_tells, nat_tests}
use Rattle.std.proofs.lemmas.Bool.{cases_Bool}
use Rattle.order_list.specs.Order.{has, Apart, Under, Based, earlier, behind, insert_after, without}

-- what is among x and xs, one way or the other
pub has_here : (x k : ℕ) (xs : List ℕ) → x ≡ k → has (x ∷ xs) k ≡ true
has_here x k xs e = grind (arith, nat_tests)

pub has_there : (x k : ℕ) (xs : List ℕ) → has xs k ≡ true → has (x ∷ xs) k ≡ true
has_there x k xs h = grind (arith, nat_tests)

pub has_none : (x k : ℕ) (xs : List ℕ) → has (x ∷ xs) k ≡ false → (x ≡ k → ⊥) × (has xs k ≡ false)
has_none x k xs h = grind (arith, nat_tests)

pub apart_from : (k x : ℕ) (xs : List ℕ) → has xs x ≡ false → has xs k ≡ true → k ≡ x → ⊥
apart_from k x xs n h e = grind (arith, nat_tests)

-- what is not at the head is behind it
pub has_tail : (x k : ℕ) (xs : List ℕ) → (x ≡ k → ⊥) → has (x ∷ xs) k ≡ true → has xs k ≡ true
has_tail x k xs ne h = grind (arith, nat_tests)

-- what stands in a list after an insertion
pub has_insert : (xs : List ℕ) (m n k : ℕ) → has xs m ≡ true → has (insert_after xs m n) k ≡ cond (eqb n k) true (has xs k)
has_insert [] m n k h = let z : false ≡ true = h in grind arith
has_insert (x ∷ xs) m n k h =
    elim (eqb_tells x m) [
      | inl p ↦ rw p.0 (grind (arith, nat_tests))
      | inr p ↦ let h' : has xs m ≡ true = rw p.0 at h in let e = has_insert xs m n k h' in rw p.0 (grind (arith, nat_tests))
    ]

pub apart_insert : (xs : List ℕ) (m n : ℕ) → has xs m ≡ true → has xs n ≡ false → Apart xs → Apart (insert_after xs m n)
apart_insert [] m n h nn a = tt
apart_insert (x ∷ xs) m n h nn a =
    let nn' = has_none x n xs nn in
    elim (eqb_tells x m) [
      | inl p ↦ rw p.0 (let q : has (n ∷ xs) x ≡ false = grind (arith, nat_tests) in (q, (nn'.1, a.1)))
      | inr p ↦ let h' : has xs m ≡ true = rw p.0 at h in
          let e = has_insert xs m n x h' in
          let q : has (insert_after xs m n) x ≡ false = grind (arith, nat_tests) in
          rw p.0 (q, apart_insert xs m n h' nn'.1 a.1)
    ]

pub under_insert : (c : ℕ) (xs : List ℕ) (m n : ℕ) → n < c → Under c xs → Under c (insert_after xs m n)
under_insert c [] m n lt u = tt
under_insert c (x ∷ xs) m n lt u =
    elim (eqb_tells x m) [ inl p ↦ rw p.0 (u.0, (lt, u.1)) | inr p ↦ rw p.0 (u.0, under_insert c xs m n lt u.1) ]

-- no more different numbers stand in a list than its length
pub length_without : (xs : List ℕ) (m : ℕ) → has xs m ≡ true → length xs ≡ suc (length (without xs m))
length_without [] m h = let z : false ≡ true = h in grind arith
length_without (x ∷ xs) m h =
    elim (eqb_tells x m) [
      | inl p ↦ rw p.0
      | inr p ↦ let h' : has xs m ≡ true = rw p.0 at h in rw p.0 (ap suc (length_without xs m h'))
    ]

pub has_without : (xs : List ℕ) (m k : ℕ) → (k ≡ m → ⊥) → has xs k ≡ true → has (without xs m) k ≡ true
has_without [] m k ne h = h
has_without (x ∷ xs) m k ne h =
    elim (eqb_tells x m) [
      | inl p ↦ rw p.0 (grind (arith, nat_tests))
      | inr p ↦ rw p.0 (elim (eqb_tells x k) [
        | inl q ↦ has_here x k (without xs m) q.1
        | inr q ↦ let h' : has xs k ≡ true = rw q.0 at h in has_there x k (without xs m) (has_without xs m k ne h')
      ])
    ]

pub no_more : (ys xs : List ℕ) → Apart ys → ((k : ℕ) → has ys k ≡ true → has xs k ≡ true) → length ys ≤ length xs
no_more [] xs a within = zero-le
no_more (y ∷ ys) xs a within =
    let here = within y (has_here y y ys refl) in
    let e = length_without xs y here in
    let le = no_more ys (without xs y) a.1
    (λ k h. has_without xs y k (apart_from k y ys a.0 h) (within k (has_there y k ys h))) in
    omega arith

-- the numbers below c
abbrev below : ℕ → List ℕ
below zero = []
below (suc c) = c ∷ below c

length_below : (c : ℕ) → length (below c) ≡ c
length_below zero = refl
length_below (suc c) = ap suc (length_below c)

has_below : (c k : ℕ) → k < c → has (below c) k ≡ true
has_below zero k h = absurd (omega arith)
has_below (suc c) k h = elim (eqb_tells c k) [
  | inl p ↦ has_here c k (below c) p.1
  | inr p ↦ let l : k < c = omega (arith, p.1) in has_there c k (below c) (has_below c k l)
]

below_has : (c k : ℕ) → has (below c) k ≡ true → k < c
below_has zero k h = let z : false ≡ true = h in grind arith
below_has (suc c) k h = elim (eqb_tells c k) [
  | inl p ↦ omega (arith, p.1)
  | inr p ↦ let h' : has (below c) k ≡ true = rw p.0 at h in omega (arith, below_has c k h')
]

apart_below : (c : ℕ) → Apart (below c)
apart_below zero = tt
apart_below (suc c) = (elim (cases_Bool (has (below c) c)) [ inl e ↦ absurd (omega (arith, below_has c c e)) | inr e ↦ e ], apart_below c)

pub under_has : (c : ℕ) (xs : List ℕ) (k : ℕ) → Under c xs → has xs k ≡ true → k < c
under_has c [] k u h = let z : false ≡ true = h in grind arith
under_has c (x ∷ xs) k u h = elim (eqb_tells x k) [
  | inl p ↦ omega (arith, p.1, u.0)
  | inr p ↦ let h' : has xs k ≡ true = rw p.0 at h in under_has c xs k u.1 h'
]

pub fits : (c : ℕ) (xs : List ℕ) → Apart xs → Under c xs → length xs ≤ c
fits c xs a u = let h = no_more xs (below c) a (λ k h. has_below c k (under_has c xs k u h)) in omega (arith, h, length_below c)

pub filled : (c : ℕ) (xs : List ℕ) → ((k : ℕ) → k < c → has xs k ≡ true) → c ≤ length xs
filled c xs all = let h = no_more (below c) xs (apart_below c) (λ k h. all k (below_has c k h)) in omega (arith, h, length_below c)

pub based_has : (xs : List ℕ) → Based xs → has xs 0 ≡ true
based_has [] b = absurd b
based_has (x ∷ xs) b = has_here x 0 xs b

pub based_insert : (xs : List ℕ) (m n : ℕ) → Based xs → Based (insert_after xs m n)
based_insert [] m n b = absurd b
based_insert (x ∷ xs) m n b = elim (eqb_tells x m) [ inl p ↦ rw p.0 b | inr p ↦ rw p.0 b ]

pub none_earlier_left : (xs : List ℕ) (a b : ℕ) → has xs a ≡ false → earlier xs a b ≡ false
none_earlier_left [] a b h = refl
none_earlier_left (x ∷ xs) a b h =
    let h' = has_none x a xs h in
    elim (eqb_tells x a) [ inl p ↦ absurd (h'.0 p.1) | inr p ↦ rw p.0 (none_earlier_left xs a b h'.1) ]

pub none_behind : (xs : List ℕ) (m : ℕ) → has xs m ≡ false → behind xs m ≡ []
none_behind [] m h = refl
none_behind (x ∷ xs) m h =
    let h' = has_none x m xs h in
    elim (eqb_tells x m) [ inl p ↦ absurd (h'.0 p.1) | inr p ↦ rw p.0 (none_behind xs m h'.1) ]

pub has_behind : (xs : List ℕ) (m k : ℕ) → has xs k ≡ false → has (behind xs m) k ≡ false
has_behind [] m k h = refl
has_behind (x ∷ xs) m k h =
    let h' = has_none x k xs h in
    elim (eqb_tells x m) [ inl p ↦ rw p.0 h'.1 | inr p ↦ rw p.0 (has_behind xs m k h'.1) ]

pub no_base_behind : (xs : List ℕ) (m : ℕ) → Based xs → Apart xs → has (behind xs m) 0 ≡ false
no_base_behind [] m b a = refl
no_base_behind (x ∷ xs) m b a =
    let n0 : has xs 0 ≡ false = rw b at a.0 in
    elim (eqb_tells x m) [ inl p ↦ rw p.0 n0 | inr p ↦ rw p.0 (has_behind xs m 0 n0) ]

pub has_with : (xs : List ℕ) (m k : ℕ) → Apart xs → has (without xs m) k ≡ cond (eqb m k) false (has xs k)
has_with [] m k a = grind (arith, nat_tests)
has_with (x ∷ xs) m k a =
    let e = has_with xs m k a.1 in
    elim (eqb_tells x m) [ inl p ↦ rw p.0 (grind (arith, nat_tests)) | inr p ↦ rw p.0 (grind (arith, nat_tests)) ]

pub apart_without : (xs : List ℕ) (m : ℕ) → Apart xs → Apart (without xs m)
apart_without [] m a = tt
apart_without (x ∷ xs) m a =
    let e = has_with xs m x a.1 in
    elim (eqb_tells x m) [
      | inl p ↦ rw p.0 a.1
      | inr p ↦ let q : has (without xs m) x ≡ false = grind (arith, nat_tests) in rw p.0 (q, apart_without xs m a.1)
    ]

pub under_without : (c : ℕ) (xs : List ℕ) (m : ℕ) → Under c xs → Under c (without xs m)
under_without c [] m u = tt
under_without c (x ∷ xs) m u =
    elim (eqb_tells x m) [ inl p ↦ rw p.0 u.1 | inr p ↦ rw p.0 (u.0, under_without c xs m u.1) ]

pub based_without : (xs : List ℕ) (m : ℕ) → (m ≡ 0 → ⊥) → Based xs → Based (without xs m)
based_without [] m ne b = absurd b
based_without (x ∷ xs) m ne b = elim (eqb_tells x m) [ inl q ↦ absurd (ne (sym q.1 ∙ b)) | inr q ↦ rw q.0 b ]
