-- The readers of each source: a ring of places for each, through a head.
use Rattle.std.specs.Prelude.{◌≡◌, ℕ, ◌+◌, ◌<◌, true, false, cond, List, [], ◌∷◌, ◌==◌, slice_index_or}
use Rattle.order_list.specs.Order.{has, Apart, Under}
use Rattle.table.specs.declared.readers.Links.{Links}
use Rattle.table.specs.declared.readers.Readers.{Readers}

-- the links of a node; behind the last (never read) they are 0
abbrev pub links_of : Readers → ℕ → Links
links_of r k = slice_index_or r.nodes k (record { next = 0; previous = 0 })

abbrev pub next_of : Readers → ℕ → ℕ
next_of r k = (links_of r k).next

abbrev pub previous_of : Readers → ℕ → ℕ
previous_of r k = (links_of r k).previous

-- the links n and p lead from a along xs to b, there and back
abbrev pub Chained : (ℕ → ℕ) → (ℕ → ℕ) → ℕ → List ℕ → ℕ → Type 0
Chained n p a [] b = (n a ≡ b) × (p b ≡ a)
Chained n p a (x ∷ xs) b = (n a ≡ x) × (p x ≡ a) × Chained n p x xs b

-- the links n and p hold the readers f s of each source s, below 1280; a place, below 1024, is a reader of one source at most, and once
pub record Linked (n p : ℕ → ℕ) (f : ℕ → List ℕ) : Type 0 where
  pub ring : (s : ℕ) → s < 1280 → Chained n p (1024 + s) (f s) (1024 + s)
  pub apart : (s : ℕ) → s < 1280 → Apart (f s)
  pub under : (s : ℕ) → s < 1280 → Under 1024 (f s)
  pub once : (s q k : ℕ) → s < 1280 → q < 1280 → has (f s) k ≡ true → has (f q) k ≡ true → s ≡ q

-- the rings hold the readers f
pub record Rings (r : Readers) (f : ℕ → List ℕ) : Type 0 where
  pub linked : Linked (next_of r) (previous_of r) f

-- the place k is a reader of no source
abbrev pub NoReader : (ℕ → List ℕ) → ℕ → Type 0
NoReader f k = (s : ℕ) → s < 1280 → has (f s) k ≡ false

-- the rings hold some readers, and the place k is none of them
pub record Unlinked (r : Readers) (k : ℕ) : Type 0 where
  pub readers : ℕ → List ℕ
  pub rings : Rings r readers
  pub none : NoReader readers k

-- the readers f, with k put first among those of s
abbrev pub joined : (ℕ → List ℕ) → ℕ → ℕ → ℕ → List ℕ
joined f s k q = cond (s == q) (k ∷ f q) (f q)

-- the place k is now the first reader of the source s, and all else is as it was
pub record Joins (a b : Readers) (s k : ℕ) : Type 0 where
  pub puts : (f : ℕ → List ℕ) → Rings a f → NoReader f k → Rings b (joined f s k)
