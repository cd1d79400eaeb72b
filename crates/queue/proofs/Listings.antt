-- Lists in order, at most one element to a place.
use Rattle.std.proofs.Common.{◌≡◌, ℕ, suc, ◌+◌, ◌<◌, Bool, true, false, not, ◌&&◌, ◌||◌, cond, ◌⊎◌, List, [], ◌∷◌, ◌++◌, All, length, get_or, take, drop, set, count_by, sym, refl, ap, ◌∙◌, subst, inl, inr, arith}
use Rattle.std.specs.List.Sorted.{IsPermutation}
use Rattle.std.specs.List.{AllByRecursion}
use Rattle.std.proofs.ByRecursion.{all_shuffled}
use Rattle.std.proofs.lemmas.Bool.{cases_Bool, both_ways}
use Rattle.std.proofs.lemmas.List.Elements.{All-tail}
use Rattle.std.proofs.lemmas.List.Folds.{list_any-from_Any}
use Rattle.std.proofs.lemmas.List.{get_or-set_same, get_or-set_other, get_or_default, set-get_or, set_split, length-set}
use Rattle.std.proofs.lemmas.List.Sorted.{All-permutation, sum_by-IsPermutation, IsPermutation-sym, IsPermutation-middle}
use Rattle.std.proofs.lemmas.List.Sums.{sum_by-cons, sum_by-set}
use Rattle.queue.specs.Heaps.{Heaped, First}
use Rattle.queue.specs.Listing.{same, placed, listed, has_place, Once, Ascending}
use Rattle.queue.specs.Order.{Lawful}

-- 1 where both have the same place
abbrev one : {X : Type 0} → (X → X → Bool) → X → X → ℕ
one before q y = cond (same before y q) 1 0

-- z is an element
abbrev pub In : {X : Type 0} → List X → X → Type 0
In [] z = ⊥
In (y ∷ ys) z = (y ≡ z) ⊎ In ys z

all_map : {X : Type 0} (P Q : X → Type 0) (f : (z : X) → P z → Q z) (xs : List X) → AllByRecursion P xs → AllByRecursion Q xs
all_map P Q f [] h = tt
all_map P Q f (x ∷ xs) h = (f x h.0, all_map P Q f xs h.1)

by_recursion : {X : Type 0} (P : X → Type 0) (xs : List X) → All P xs → AllByRecursion P xs
by_recursion P [] h = tt
by_recursion P (x ∷ xs) h = (h 0 x (omega arith), by_recursion P xs (All-tail P x xs h))

all_at : {X : Type 0} (P : X → Type 0) (xs : List X) (z : X) → AllByRecursion P xs → In xs z → P z
all_at P [] z a h = absurd h
all_at P (x ∷ xs) z a (inl e) = subst P e a.0
all_at P (x ∷ xs) z a (inr h) = all_at P xs z a.1 h

all_from : {X : Type 0} (P : X → Type 0) (xs : List X) → ((z : X) → In xs z → P z) → AllByRecursion P xs
all_from P [] f = tt
all_from P (x ∷ xs) f = (f x (inl refl), all_from P xs (λ z h. f z (inr h)))

shuffled_in : {X : Type 0} (xs ys : List X) → IsPermutation xs ys → (z : X) → In ys z → In xs z
shuffled_in xs ys s z h = all_at (In xs) ys z (all_shuffled (In xs) xs ys s (all_from (In xs) xs (λ w k. k))) h

-- the element b that is set at k, before the others
set_at : {X : Type 0} (xs : List X) (k : ℕ) (b : X) → k < length xs → IsPermutation (set xs k b) (b ∷ (take k xs ++ drop (suc k) xs))
set_at xs k b l = subst (λ q. IsPermutation q (b ∷ (take k xs ++ drop (suc k) xs))) (sym (set_split xs k b l)) (IsPermutation-middle (take k xs) b (drop (suc k) xs))

module _ {X : Type 0} (before : X → X → Bool) (laws : Lawful (λ _. Unit {0}) before) where
  oneway : (a b : X) → before a b ≡ true → before b a ≡ false
  oneway a b h = laws.oneway a b tt tt h

  chain : (a b c : X) → before b a ≡ false → before c b ≡ false → before c a ≡ false
  chain a b c g h = laws.chain a b c tt tt tt g h

  itself : (a : X) → before a a ≡ false
  itself a = elim (cases_Bool (before a a)) [ inl e ↦ oneway a a e | inr e ↦ e ]

  over : (a b c : X) → before a b ≡ true → before b c ≡ true → before a c ≡ true
  over a b c e f = grind (arith, oneway b c, chain b c a)

  same_both : (a b : X) → same before a b ≡ true → (before a b ≡ false) × (before b a ≡ false)
  same_both a b h = grind arith

  both_same : (a b : X) → before a b ≡ false → before b a ≡ false → same before a b ≡ true
  both_same a b e f = rw (e, f) refl

  left_same : (a b c : X) → same before a b ≡ true → before a c ≡ before b c
  left_same a b c h = grind (arith, chain c a b, chain c b a)

  right_same : (a b c : X) → same before a b ≡ true → before c a ≡ before c b
  right_same a b c h = grind (arith, chain b a c, chain a b c)

  same_left : (a b c : X) → same before a b ≡ true → same before a c ≡ same before b c
  same_left a b c h = λ i. not (left_same a b c h i) && not (right_same a b c h i)

  same_right : (a b c : X) → same before a b ≡ true → same before c a ≡ same before c b
  same_right a b c h = λ i. not (right_same a b c h i) && not (left_same a b c h i)

  same_itself : (a : X) → same before a a ≡ true
  same_itself a = both_same a a (itself a) (itself a)

  all_placed : (P : X → Type 0) (x : X) (m : List X) → P x → AllByRecursion P m → AllByRecursion P (placed before x m)
  all_placed P x [] p a = (p, tt)
  all_placed P x (y ∷ ys) p a = grind (arith, all_placed P x ys)

  all_listed : (P : X → Type 0) (xs : List X) → AllByRecursion P xs → AllByRecursion P (listed before xs)
  all_listed P [] a = tt
  all_listed P (x ∷ xs) a = all_placed P x (listed before xs) a.0 (all_listed P xs a.1)

  ascending_placed : (x : X) (m : List X) → Ascending before m → Ascending before (placed before x m)
  ascending_placed x [] a = (tt, tt)
  ascending_placed x (y ∷ ys) a =
      let past = λ (f : (z : X) → before y z ≡ true → before x z ≡ true). all_map (λ z. before y z ≡ true) (λ z. before x z ≡ true) f ys a.0 in
      let over_y = λ (e : before x y ≡ true). past (λ z h. over x y z e h) in
      let as_y = λ (e : same before x y ≡ true). past (λ z h. left_same x y z e ∙ h) in
      grind (arith, over_y, as_y, all_placed (λ z. before y z ≡ true) x ys, ascending_placed x ys)

  -- what is listed is in order
  pub ascending_listed : (xs : List X) → Ascending before (listed before xs)
  ascending_listed [] = tt
  ascending_listed (x ∷ xs) = ascending_placed x (listed before xs) (ascending_listed xs)

  has_placed : (x : X) (m : List X) (q : X) → has_place before (placed before x m) q ≡ (same before x q || has_place before m q)
  has_placed x [] q = refl
  has_placed x (y ∷ ys) q = grind (arith, has_placed x ys q, same_left x y q)

  pub has_listed : (xs : List X) (q : X) → has_place before (listed before xs) q ≡ has_place before xs q
  has_listed [] q = refl
  has_listed (x ∷ xs) q = has_placed x (listed before xs) q ∙ ap (λ t. same before x q || t) (has_listed xs q)

  -- how many more one is
  count_more : (x : X) (xs : List X) (q : X) → count_by (λ y. same before y q) (x ∷ xs) ≡ one before q x + count_by (λ y. same before y q) xs
  count_more x xs q = sum_by-cons (one before q) x xs

  none_counted : (xs : List X) (q : X) → count_by (λ y. same before y q) xs ≡ 0 → has_place before xs q ≡ false
  none_counted [] q h = refl
  none_counted (y ∷ ys) q h = grind (arith, count_more y ys q, none_counted ys q)

  counted_none : (xs : List X) (q : X) → has_place before xs q ≡ false → count_by (λ y. same before y q) xs ≡ 0
  counted_none [] q h = refl
  counted_none (y ∷ ys) q h = grind (arith, count_more y ys q, counted_none ys q)

  pub once_behind : (x : X) (xs : List X) → Once before (x ∷ xs) → Once before xs
  once_behind x xs h q = omega (arith, h q, count_more x xs q)

  once_none : (x : X) (xs : List X) → Once before (x ∷ xs) → has_place before xs x ≡ false
  once_none x xs h = grind (arith, none_counted xs x, h x, count_more x xs x, itself x)

  has_same : (a b : X) → same before a b ≡ true → (xs : List X) → has_place before xs a ≡ has_place before xs b
  has_same a b h [] = refl
  has_same a b h (y ∷ ys) = λ i. same_right a b y h i || has_same a b h ys i

  pub once_more : (b : X) (xs : List X) → has_place before xs b ≡ false → Once before xs → Once before (b ∷ xs)
  once_more b xs n h q = grind (arith, count_more b xs q, counted_none xs q, has_same b q, h q)

  pub once_shuffled : (xs ys : List X) → IsPermutation xs ys → Once before xs → Once before ys
  once_shuffled xs ys s h q = omega (arith, h q, sum_by-IsPermutation (one before q) xs ys s)

  pub once_set : (xs : List X) (k : ℕ) (b d : X) → k < length xs → same before (get_or xs k d) b ≡ true → Once before xs → Once before (set xs k b)
  once_set xs k b d l e h q =
      let o : one before q (get_or xs k d) ≡ one before q b = ap (λ t. cond t 1 0) (same_left (get_or xs k d) b q e) in
      omega (arith, h q, sum_by-set (one before q) xs k b d l)

  in_placed_self : (x : X) (m : List X) → In (placed before x m) x
  in_placed_self x [] = inl refl
  in_placed_self x (y ∷ ys) = grind (arith, in_placed_self x ys)

  in_placed : (x : X) (m : List X) (z : X) → same before z x ≡ false → In m z → In (placed before x m) z
  in_placed x [] z n h = absurd h
  in_placed x (y ∷ ys) z n h = grind (arith, in_placed x ys z)

  none_in : (xs : List X) (x z : X) → has_place before xs x ≡ false → In xs z → same before z x ≡ false
  none_in [] x z n h = absurd h
  none_in (y ∷ ys) x z n h = grind (arith, none_in ys x z)

  in_listed : (xs : List X) → Once before xs → (z : X) → In xs z → In (listed before xs) z
  in_listed [] o z h = absurd h
  in_listed (x ∷ xs) o z (inl e) = subst (In (placed before x (listed before xs))) e (in_placed_self x (listed before xs))
  in_listed (x ∷ xs) o z (inr h) = in_placed x (listed before xs) z (none_in xs x z (once_none x xs o) h) (in_listed xs (once_behind x xs o) z h)

  listed_in : (xs : List X) (z : X) → In (listed before xs) z → In xs z
  listed_in xs z h = all_at (In xs) (listed before xs) z (all_listed (In xs) xs (all_from (In xs) xs (λ w k. k))) h

  same_heads : (x y : X) (xs ys : List X) → Ascending before (x ∷ xs) → Ascending before (y ∷ ys) → In (y ∷ ys) x → In (x ∷ xs) y → x ≡ y
  same_heads x y xs ys a b (inl e) k = sym e
  same_heads x y xs ys a b (inr h) (inl e) = e
  same_heads x y xs ys a b (inr h) (inr k) = absurd (both_ways (before y x) (oneway x y (all_at (λ z. before x z ≡ true) xs y a.0 k)) (all_at (λ z. before y z ≡ true) ys x b.0 h))

  behind : (x y : X) (xs ys : List X) → x ≡ y → Ascending before (x ∷ xs) → ((z : X) → In (x ∷ xs) z → In (y ∷ ys) z) → (z : X) → In xs z → In ys z
  behind x y xs ys e a f z h = elim (f z (inr h)) [
    | inl g ↦ absurd (both_ways (before x z) (subst (λ w. before x w ≡ false) (e ∙ g) (itself x)) (all_at (λ w. before x w ≡ true) xs z a.0 h))
    | inr g ↦ g
  ]

  same_ascending : (xs ys : List X) → Ascending before xs → Ascending before ys → ((z : X) → In xs z → In ys z) → ((z : X) → In ys z → In xs z) → xs ≡ ys
  same_ascending [] [] a b f g = refl
  same_ascending [] (y ∷ ys) a b f g = absurd (g y (inl refl))
  same_ascending (x ∷ xs) [] a b f g = absurd (f x (inl refl))
  same_ascending (x ∷ xs) (y ∷ ys) a b f g =
      let e = same_heads x y xs ys a b (f x (inl refl)) (g y (inl refl)) in
      λ i. e i ∷ same_ascending xs ys a.1 b.1 (behind x y xs ys e a f) (behind y x ys xs (sym e) b g) i

  -- the same elements are listed the same
  pub same_listed : (xs ys : List X) → IsPermutation xs ys → Once before xs → listed before xs ≡ listed before ys
  same_listed xs ys s o =
      same_ascending (listed before xs) (listed before ys) (ascending_listed xs) (ascending_listed ys)
      (λ z h. in_listed ys (once_shuffled xs ys s o) z (shuffled_in ys xs (IsPermutation-sym xs ys s) z (listed_in xs z h)))
      (λ z h. in_listed xs o z (shuffled_in xs ys s z (listed_in ys z h)))

  length_placed : (x : X) (m : List X) → has_place before m x ≡ false → length (placed before x m) ≡ suc (length m)
  length_placed x [] n = refl
  length_placed x (y ∷ ys) n = grind (arith, length_placed x ys)

  -- as many are listed as there are
  pub length_listed : (xs : List X) → Once before xs → length (listed before xs) ≡ length xs
  length_listed [] o = refl
  length_listed (x ∷ xs) o = length_placed x (listed before xs) (has_listed xs x ∙ once_none x xs o) ∙ ap suc (length_listed xs (once_behind x xs o))

  placed_first : (x : X) (m : List X) → AllByRecursion (λ z. before x z ≡ true) m → placed before x m ≡ x ∷ m
  placed_first x [] a = refl
  placed_first x (y ∷ ys) a = rw a.0 refl

  ahead : (x : X) (m : List X) → AllByRecursion (λ z. before z x ≡ false) m → has_place before m x ≡ false → AllByRecursion (λ z. before x z ≡ true) m
  ahead x m a n = all_from (λ z. before x z ≡ true) m (λ z h. elim (cases_Bool (before x z)) [
    | inl e ↦ e
    | inr e ↦ absurd (both_ways (same before z x) (none_in m x z n h) (both_same z x (all_at (λ w. before w x ≡ false) m z a h) e))
  ])

  -- the first is listed first
  pub first_listed : (xs : List X) (x : X) (r : List X) → IsPermutation xs (x ∷ r) → First before x xs → Once before xs → listed before xs ≡ x ∷ listed before r
  first_listed xs x r s f o =
      let o' = once_shuffled xs (x ∷ r) s o in
      let a = by_recursion (λ z. before z x ≡ false) (x ∷ r) (All-permutation (λ z. before z x ≡ false) xs (x ∷ r) s f) in
      same_listed xs (x ∷ r) s o ∙ placed_first x (listed before r) (all_listed (λ z. before x z ≡ true) r (ahead x r a.1 (once_none x r o')))

  placed_over : (y b : X) → same before y b ≡ true → (m : List X) → placed before b (placed before y m) ≡ placed before b m
  placed_over y b h [] = grind arith
  placed_over y b h (z ∷ ms) = grind (arith, left_same y b z, right_same y b z, placed_over y b h ms)

  -- one that is replaced by another with the same place
  pub set_listed : (xs : List X) (k : ℕ) (b d : X) → k < length xs → same before (get_or xs k d) b ≡ true → Once before xs → listed before (set xs k b) ≡ placed before b (listed before xs)
  set_listed xs k b d l e o =
      let others = take k xs ++ drop (suc k) xs in
      let was = subst (λ q. IsPermutation q (get_or xs k d ∷ others)) (set-get_or xs k d) (set_at xs k (get_or xs k d) l) in
      same_listed (set xs k b) (b ∷ others) (set_at xs k b l) (once_set xs k b d l e o)
      ∙ sym (placed_over (get_or xs k d) b e (listed before others))
      ∙ ap (placed before b) (sym (same_listed xs (get_or xs k d ∷ others) was o))

  alike_set : (xs : List X) (k : ℕ) (b : X) → k < length xs → ((d : X) → same before (get_or xs k d) b ≡ true) → (i : ℕ) (d : X) → same before (get_or (set xs k b) i d) (get_or xs i d) ≡ true
  alike_set xs k b l e i d = grind (arith, get_or-set_same xs k b d l, get_or-set_other xs k i b d, e d, itself (get_or xs i d))

  pub heaped_set : (xs : List X) (k : ℕ) (b : X) → k < length xs → ((d : X) → same before (get_or xs k d) b ≡ true) → Heaped before xs → Heaped before (set xs k b)
  heaped_set xs k b l e h p i d a a' f =
      left_same (get_or (set xs k b) i d) (get_or xs i d) (get_or (set xs k b) p d) (alike_set xs k b l e i d)
      ∙ right_same (get_or (set xs k b) p d) (get_or xs p d) (get_or xs i d) (alike_set xs k b l e p d)
      ∙ h p i d a a' (omega (arith, length-set xs k b))

  pub some_place : (xs : List X) (b : X) (k : ℕ) (d : X) → k < length xs → same before (get_or xs k d) b ≡ true → has_place before xs b ≡ true
  some_place xs b k d l e = list_any-from_Any (λ y. same before y b) xs (k, get_or xs k d, l, get_or_default xs k (get_or xs k d) d l, e)
