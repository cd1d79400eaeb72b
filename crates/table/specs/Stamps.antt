-- Stamps put into an order list behind a cursor.
use Rattle.std.specs.Prelude.{◌≡◌, ℕ, List, [], ◌∷◌, ◌++◌}

-- m stands in the list
pub record Member (xs : List ℕ) (m : ℕ) : Type 0 where
  pub pre : List ℕ
  pub post : List ℕ
  pub split : xs ≡ pre ++ (m ∷ post)

-- `Moved xs m ns ys m'`: the list xs with ns put in directly behind m is ys, and m' is the last of m and ns
pub record Moved (xs : List ℕ) (m : ℕ) (ns ys : List ℕ) (m' : ℕ) : Type 0 where
  pub spliced : (pre post : List ℕ) → xs ≡ pre ++ (m ∷ post) → ys ≡ pre ++ (m ∷ (ns ++ post))
  pub front : List ℕ
  pub last : m ∷ ns ≡ front ++ (m' ∷ [])
