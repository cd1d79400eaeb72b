-- What the contracts of the queue cite.
use Rattle.std.specs.Prelude.{◌≡◌, ◌↔◌, ℕ, ◌+◌, ◌-◌, ◌*◌, ◌<◌, ◌≤◌, Bool, false, List, ◌∷◌, length, take, drop, slice_index_or, All, Option, Result, IsOk, IsSome, OnOk, IfSome, MatchOption, MatchResult}
use Rattle.std.specs.List.Sorted.{IsPermutation}
use Rattle.queue.specs.declared.refusal.QueueRefusal.{QueueRefusal}

-- among the first n, no element stands before its parent: the children of place p are at 2p + 1 and 2p + 2
abbrev pub HeapedTo : {X : Type 0} → (X → X → Bool) → List X → ℕ → Type 0
HeapedTo {X} before xs n = (p k : ℕ) (d : X) → p * 2 + 1 ≤ k → k ≤ p * 2 + 2 → k < n → before (slice_index_or xs k d) (slice_index_or xs p d) ≡ false

-- no element stands before its parent
abbrev pub Heaped : {X : Type 0} → (X → X → Bool) → List X → Type 0
Heaped before xs = HeapedTo before xs (length xs)

-- no element stands before its parent, unless that is the first
abbrev pub HeapedBut : {X : Type 0} → (X → X → Bool) → List X → Type 0
HeapedBut {X} before xs = (p k : ℕ) (d : X) → 1 ≤ p → p * 2 + 1 ≤ k → k ≤ p * 2 + 2 → k < length xs → before (slice_index_or xs k d) (slice_index_or xs p d) ≡ false

-- of the children of j, none stands before the one at c
abbrev pub Foremost : {X : Type 0} → (X → X → Bool) → List X → ℕ → ℕ → Type 0
Foremost {X} before xs j c = (k : ℕ) (d : X) → j * 2 + 1 ≤ k → k ≤ j * 2 + 2 → k < length xs → before (slice_index_or xs k d) (slice_index_or xs c d) ≡ false

-- no element stands before x
abbrev pub First : {X : Type 0} → (X → X → Bool) → X → List X → Type 0
First before x xs = All (λ y. before y x ≡ false) xs

-- putting x behind the first count of old answers so, and leaves new
pub record Puts {X : Type 0} (belongs : X → Type 0) (before : X → X → Bool) (count : ℕ) (x : X) (old : List X) (answer : Result ℕ QueueRefusal) (new : List X) : Type 0 where
  pub fits : IsOk answer ↔ (count < length old)
  -- the elements afterwards are those before and x, each once; or nothing changed
  pub items : MatchResult answer (λ n. (n ≡ count + 1) × IsPermutation (x ∷ take count old) (take (count + 1) new)) (λ _. new ≡ old)
  pub rest : drop (count + 1) new ≡ drop (count + 1) old
  pub heaped : OnOk answer (All belongs (x ∷ take count old) → Heaped before (take count old) → Heaped before (take (count + 1) new))

-- taking one of the first n of old answers so, and leaves new
pub record Takes {X : Type 0} (belongs : X → Type 0) (before : X → X → Bool) (n : ℕ) (old : List X) (answer : Option X) (new : List X) : Type 0 where
  pub some : IsSome answer ↔ (0 < n)
  -- the elements before are the one taken and those afterwards, each once; or nothing changed
  pub items : MatchOption answer (new ≡ old) (λ x. IsPermutation (take n old) (x ∷ take (n - 1) new))
  pub rest : drop n new ≡ drop n old
  pub first : IfSome answer (λ x. All belongs (take n old) → Heaped before (take n old) → First before x (take n old) × Heaped before (take (n - 1) new))
