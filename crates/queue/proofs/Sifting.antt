-- An element that rises or sinks through a heap.
use Rattle.std.proofs.Common.{◌≡◌, ℕ, zero, suc, ◌+◌, ◌-◌, ◌*◌, ◌/◌, ◌<◌, ◌≤◌, Bool, true, false, List, All, length, get_or, sym, ◌∙◌, subst, inl, inr, arith}
use Rattle.std.specs.List.Sorted.{IsPermutation}
use Rattle.std.proofs.lemmas.List.{get_or_default}
use Rattle.std.proofs.lemmas.Bool.{cases_Bool}
use Rattle.queue.specs.Heaps.{HeapedTo, Heaped, HeapedBut, Foremost}
use Rattle.queue.specs.Order.{Lawful}

-- nothing that belongs stands before itself
pub never_itself : {X : Type 0} {P : X → Type 0} {before : X → X → Bool} → Lawful P before → (a : X) → P a → before a a ≡ false
never_itself {before = before} o a p = elim (cases_Bool (before a a)) [ inl e ↦ o.oneway a a p p e | inr e ↦ e ]

-- a heap, were the element at j taken out
abbrev pub Gap : {X : Type 0} → (X → X → Bool) → List X → ℕ → Type 0
Gap {X} before xs j =
    ((p k : ℕ) (d : X) → p * 2 + 1 ≤ k → k ≤ p * 2 + 2 → k < length xs → (k ≡ j → ⊥) → (p ≡ j → ⊥) → before (get_or xs k d) (get_or xs p d) ≡ false)
    × ((p k : ℕ) (d : X) → p * 2 + 1 ≤ j → j ≤ p * 2 + 2 → j * 2 + 1 ≤ k → k ≤ j * 2 + 2 → k < length xs → before (get_or xs k d) (get_or xs p d) ≡ false)

-- the element at j does not stand before its parent
abbrev pub Under : {X : Type 0} → (X → X → Bool) → List X → ℕ → Type 0
Under {X} before xs j = (p : ℕ) (d : X) → p * 2 + 1 ≤ j → j ≤ p * 2 + 2 → before (get_or xs j d) (get_or xs p d) ≡ false

-- a gap that is filled on both sides is none
pub filled : {X : Type 0} (before : X → X → Bool) (xs : List X) (j : ℕ) → Gap before xs j → Foremost before xs j j → Under before xs j → Heaped before xs
filled before xs j g f u p k d a b l = grind (arith, g.0 p k d, f k d, u p d)

-- what a test of two elements says of their places
pub at_places : {X : Type 0} (P : X → Type 0) (before : X → X → Bool) (xs : List X) (i j : ℕ) {x y : X} {r : Bool} → All P xs → i < length xs → j < length xs → x ≡ get_or xs i x → y ≡ get_or xs j y → (P x → P y → r ≡ before x y) → (d : X) → before (get_or xs i d) (get_or xs j d) ≡ r
at_places P before xs i j {x = x} {y = y} all l m is_x is_y test d =
    let e = is_x ∙ get_or_default xs i x d l in
    let f = is_y ∙ get_or_default xs j y d m in
    sym (test (subst P (sym e) (all i d l)) (subst P (sym f) (all j d m)) ∙ (λ k. before (e k) (f k)))

-- xs, of which the last element rose to place, leaving a gap there
pub record Rises {X : Type 0} (P : X → Type 0) (before : X → X → Bool) (old xs : List X) (place : ℕ) : Type 0 where
  pub within : place < length xs
  pub same_length : length xs ≡ length old
  pub shuffled : IsPermutation old xs
  pub gap : All P old → HeapedTo before old (length old - 1) → Gap before xs place × Foremost before xs place place

-- xs, of which the first element sank to place, leaving a gap there
pub record Sinks {X : Type 0} (P : X → Type 0) (before : X → X → Bool) (old xs : List X) (place : ℕ) : Type 0 where
  pub same_length : length xs ≡ length old
  pub shuffled : IsPermutation old xs
  pub gap : All P old → HeapedBut before old → Gap before xs place × Under before xs place

-- p is the parent of j, and ys is xs with the two exchanged
module _ {X : Type 0} (before : X → X → Bool) (P : X → Type 0) (o : Lawful P before) (xs ys : List X) (p j : ℕ) (all : All P xs) (low : p * 2 + 1 ≤ j) (high : j ≤ p * 2 + 2) (fits : j < length xs) (long : length ys ≡ length xs) (at_p : (d : X) → get_or ys p d ≡ get_or xs j d) (at_j : (d : X) → get_or ys j d ≡ get_or xs p d) (at-k : (k : ℕ) (d : X) → (k ≡ p → ⊥) → (k ≡ j → ⊥) → get_or ys k d ≡ get_or xs k d) (up : (d : X) → before (get_or xs j d) (get_or xs p d) ≡ true) where
  turned : (d : X) → before (get_or xs p d) (get_or xs j d) ≡ false
  turned d = o.oneway (get_or xs j d) (get_or xs p d) (all j d fits) (all p d (omega arith)) (up d)

  pub rise_steps : Gap before xs j × Foremost before xs j j → Gap before ys p × Foremost before ys p p
  rise_steps h =
      let over : (q k : ℕ) (d : X) → P (get_or xs q d) → P (get_or xs p d) → P (get_or xs k d) → before (get_or xs p d) (get_or xs q d) ≡ false → before (get_or xs k d) (get_or xs p d) ≡ false → before (get_or xs k d) (get_or xs q d) ≡ false = λ q k d. o.chain (get_or xs q d) (get_or xs p d) (get_or xs k d) in (
        (
          λ q k d a b l nk nq. grind (arith, at-k k d, at-k q d, at_j d, h.0.0 q k d, h.0.1 p k d),
          λ q k d a b a' b' l. grind (arith, at-k k d, at-k q d, at_j d, h.0.0 q p d, h.0.0 p k d, over q k d, all q d, all p d, all k d),
        ),
        λ k d a b l. grind (arith, at-k k d, at_j d, at_p d, turned d, h.0.0 p k d, over j k d, all j d, all p d, all k d),
      )

  pub sink_steps : Foremost before xs p j → Gap before xs p × Under before xs p → Gap before ys j × Under before ys j
  sink_steps f h = (
    (
      λ q k d a b l nk nq. grind (arith, at-k k d, at-k q d, at_p d, h.0.1 q j d, f k d, h.0.0 q k d),
      λ q k d a b a' b' l. grind (arith, at-k k d, at_p d, h.0.0 j k d),
    ),
    λ q d a b. grind (arith, at_j d, at_p d, turned d),
  )

-- the foremost child c of j does not stand before it
pub sink_rests : {X : Type 0} (before : X → X → Bool) (P : X → Type 0) → Lawful P before → (xs : List X) (j c : ℕ) → All P xs → j < length xs → c < length xs → ((d : X) → before (get_or xs c d) (get_or xs j d) ≡ false) → Foremost before xs j c → Gap before xs j × Under before xs j → Heaped before xs
sink_rests before P o xs j c all lj lc n f h p k d a b l = grind (arith, h.0.0 p k d, h.1 p d, o.chain (get_or xs j d) (get_or xs c d) (get_or xs k d), all j d, all c d, all k d, n d, f k d)

-- no element of a heap stands before the first
pub top : {X : Type 0} (before : X → X → Bool) (P : X → Type 0) → Lawful P before → (xs : List X) (d : X) → All P xs → Heaped before xs → (n k : ℕ) → k ≤ n → k < length xs → before (get_or xs k d) (get_or xs 0 d) ≡ false
top before P o xs d all h n zero le l = never_itself o (get_or xs 0 d) (all 0 d l)
top before P o xs d all h zero (suc k) le l = absurd (omega arith)
top before P o xs d all h (suc n) (suc k) le l =
    let p = k / 2 in
    o.chain (get_or xs 0 d) (get_or xs p d) (get_or xs (suc k) d) (all 0 d (omega arith)) (all p d (omega arith)) (all (suc k) d l) (top before P o xs d all h n p (omega arith) (omega arith)) (h p (suc k) d (omega arith) (omega arith) l)
