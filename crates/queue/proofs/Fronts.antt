-- The first places of a slice as a queue: one more at the end, and one less at the front.
use Rattle.std.proofs.Common.{◌≡◌, ℕ, zero, suc, ◌+◌, ◌-◌, ◌<◌, ◌≤◌, Bool, List, [], ◌∷◌, ◌++◌, All, length, get_or, take, drop, set, Some, Ok, refl, sym, ap, ◌∙◌, subst, arith}
use Rattle.std.specs.List.Sorted.{IsPermutation}
use Rattle.std.proofs.Math.Seq.{take-suc, take-length}
use Rattle.std.proofs.lemmas.List.{length-take-le, length-set, get_or-take, get_or-set_other, get_or_default, take_more_set, take-append-le, drop-set-lt}
use Rattle.std.proofs.lemmas.List.Elements.{All-tail}
use Rattle.std.proofs.lemmas.List.Sorted.{All-permutation, IsPermutation-refl, IsPermutation-sym, IsPermutation-trans, IsPermutation-to_front, IsPermutation-cons, length_permutation}
use Rattle.std.proofs.lemmas.Slice.{drop-append-drop}
use Rattle.queue.specs.Heaps.{HeapedTo, Heaped, HeapedBut, First, Puts, Takes}
use Rattle.queue.specs.Order.{Lawful}
use Rattle.queue.proofs.Sifting.{top}

-- the first k of a slice after ys was written to them
written : {X : Type 0} (k : ℕ) (xs ys : List X) → k ≤ length xs → IsPermutation (take k xs) ys → take k (ys ++ drop k xs) ≡ ys
written k xs ys l s =
    let long : length ys ≡ k = length_permutation (take k xs) ys s ∙ length-take-le k xs l in
    take-append-le k ys (drop k xs) (omega arith) ∙ ap (λ i. take i ys) (sym long) ∙ take-length ys

-- what lies behind them
behind : {X : Type 0} (k n : ℕ) (xs ys : List X) → k ≤ n → k ≤ length xs → IsPermutation (take k xs) ys → drop n (ys ++ drop k xs) ≡ drop n xs
behind k n xs ys m l s = drop-append-drop k xs ys n m (length_permutation (take k xs) ys s ∙ length-take-le k xs l)

module _ {X : Type 0} (P : X → Type 0) (before : X → X → Bool) (xs : List X) (n : ℕ) (x : X) (room : n < length xs) where
  grown : IsPermutation (x ∷ take n xs) (take (n + 1) (set xs n x))
  grown = IsPermutation-sym _ _ (subst (λ l. IsPermutation l (x ∷ take n xs)) (sym (take_more_set xs n x room)) (IsPermutation-to_front (take n xs) x))

  grown_heaped : Heaped before (take n xs) → HeapedTo before (take (n + 1) (set xs n x)) n
  grown_heaped h p k d a b f =
      let long = length-take-le n xs (omega arith) in
      grind (arith, get_or-take, get_or-set_other xs n k x d, get_or-set_other xs n p x d, h p k d)

  -- a put whose last element rose
  pub puts : (ys : List X) → IsPermutation (take (n + 1) (set xs n x)) ys → (All P (take (n + 1) (set xs n x)) → HeapedTo before (take (n + 1) (set xs n x)) (length (take (n + 1) (set xs n x)) - 1) → Heaped before ys) → Puts P before n x xs (Ok (n + 1)) (ys ++ drop (n + 1) (set xs n x))
  puts ys s rises =
      let fits : n + 1 ≤ length (set xs n x) = omega (arith, length-set xs n x) in
      let is = written (n + 1) (set xs n x) ys fits s in
      let last : length (take (n + 1) (set xs n x)) - 1 ≡ n = omega (arith, length-take-le (n + 1) (set xs n x) fits) in
      record {
        fits = (λ _. room, λ _. refl);
        items = (refl, rw is (IsPermutation-trans _ _ ys grown s));
        rest = behind (n + 1) (n + 1) (set xs n x) ys (omega arith) fits s ∙ drop-set-lt (n + 1) xs n x (omega arith);
        heaped = λ all h. rw is (rises (All-permutation P _ _ grown all) (rw last (grown_heaped h)));
      }

-- the first before the others, when the last took its place
taken : {X : Type 0} (xs : List X) (m : ℕ) (x v : X) → m < length xs → x ≡ get_or xs 0 x → v ≡ get_or xs m v → IsPermutation (take (suc m) xs) (x ∷ take m (set xs 0 v))
taken [] m x v l is_x is_v = absurd (omega arith)
taken (y ∷ ys) zero x v l is_x is_v = subst (λ z. IsPermutation (y ∷ []) (z ∷ [])) (sym is_x) (IsPermutation-refl (y ∷ []))
taken (y ∷ ys) (suc k) x v l is_x is_v =
    subst (λ z. IsPermutation (y ∷ take (suc k) ys) (z ∷ v ∷ take k ys)) (sym is_x)
    (IsPermutation-cons y (take (suc k) ys) (v ∷ take k ys) (subst (λ q. IsPermutation q (v ∷ take k ys)) (sym (take-suc ys k v (omega arith) ∙ ap (λ z. take k ys ++ z ∷ []) (sym is_v))) (IsPermutation-to_front (take k ys) v)))

module _ {X : Type 0} (P : X → Type 0) (before : X → X → Bool) (laws : Lawful P before) (xs : List X) (m : ℕ) (x v : X) (room : m < length xs) (is_x : x ≡ get_or xs 0 x) (is_v : v ≡ get_or xs m v) where
  left_heaped : Heaped before (take (suc m) xs) → HeapedBut before (take m (set xs 0 v))
  left_heaped h p k d one a b f =
      let long = length-take-le (suc m) xs (omega arith) in
      let short = length-take-le m (set xs 0 v) (omega (arith, length-set xs 0 v)) in
      grind (arith, get_or-take, get_or-set_other xs 0 k v d, get_or-set_other xs 0 p v d, h p k d)

  first_of : All P (take (suc m) xs) → Heaped before (take (suc m) xs) → First before x (take (suc m) xs)
  first_of all h k d f = grind (arith, get_or-take (suc m) xs 0 d, get_or_default xs 0 x d, top before P laws (take (suc m) xs) d all h k k)

  -- a take whose first element sank
  pub takes : (n : ℕ) → n ≡ suc m → (ys : List X) → IsPermutation (take m (set xs 0 v)) ys → (All P (take m (set xs 0 v)) → HeapedBut before (take m (set xs 0 v)) → Heaped before ys) → Takes P before n xs (Some x) (ys ++ drop m (set xs 0 v))
  takes n e ys s sinks =
      let fits : m ≤ length (set xs 0 v) = omega (arith, length-set xs 0 v) in
      let is = written m (set xs 0 v) ys fits s in
      let split = taken xs m x v room is_x is_v in
      let less : suc m - 1 ≡ m = omega arith in
      rw e (record {
        some = (λ _. omega arith, λ _. refl);
        items = rw (less, is) (IsPermutation-trans _ _ (x ∷ ys) split (IsPermutation-cons x _ ys s));
        rest = behind m (suc m) (set xs 0 v) ys (omega arith) fits s ∙ drop-set-lt (suc m) xs 0 v (omega arith);
        first = λ all h. (first_of all h, rw (less, is) (sinks (All-tail P _ _ (All-permutation P _ _ split all)) (left_heaped h)));
      })
