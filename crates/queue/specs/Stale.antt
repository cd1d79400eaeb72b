-- The order of stale reads: by their start stamps in an order list.
use Rattle.std.specs.Prelude.{◌≡◌, ℕ, Bool, true, false, List, [], ◌∷◌, ◌==◌, refl}
use Rattle.std.proofs.Common.{arith}
use Rattle.std.proofs.lemmas.Bool.Decides.{nat_tests}
use Rattle.order_list.specs.Order.{has, Apart, earlier, Lawful as InOrder}
use Rattle.order_list.specs.Laws.{none_earlier, oneway_earlier}
use Rattle.queue.specs.Order.{Lawful}
use Rattle.queue.specs.declared.stale.StaleRead.{StaleRead}

-- the start stamp of the read is a member
abbrev pub Stands : List ℕ → StaleRead → Type 0
Stands xs x = has xs x.start ≡ true

-- the start stamp of a stands earlier than that of b
abbrev pub stale_before : List ℕ → StaleRead → StaleRead → Bool
stale_before xs a b = earlier xs a.start b.start

-- never both ways
pub stale_oneway : (n : ℕ) (xs : List ℕ) (a b : StaleRead) → InOrder n xs → stale_before xs a b ≡ true → stale_before xs b a ≡ false
stale_oneway n xs a b l e = oneway_earlier xs a.start b.start l.apart e

-- a member that is not the first is behind it
behind_the_first : (x k : ℕ) (xs : List ℕ) → (x == k) ≡ false → has (x ∷ xs) k ≡ true → has xs k ≡ true
behind_the_first x k xs e h = let g : has xs k ≡ true = rw e at h in g

chain_earlier : (xs : List ℕ) (a b c : ℕ) → Apart xs → has xs a ≡ true → has xs b ≡ true → has xs c ≡ true → earlier xs b a ≡ false → earlier xs c b ≡ false → earlier xs c a ≡ false
chain_earlier [] a b c ap ha hb hc p q = refl
chain_earlier (x ∷ xs) a b c ap ha hb hc p q = grind (arith, nat_tests, chain_earlier xs a b c, none_earlier xs c a, ap)

-- where b is not before a, nor c before b, c is not before a
pub stale_chain : (n : ℕ) (xs : List ℕ) (a b c : StaleRead) → InOrder n xs → Stands xs a → Stands xs b → Stands xs c → stale_before xs b a ≡ false → stale_before xs c b ≡ false → stale_before xs c a ≡ false
stale_chain n xs a b c l ha hb hc p q = chain_earlier xs a.start b.start c.start l.apart ha hb hc p q

pub stale_lawful : (n : ℕ) (xs : List ℕ) → InOrder n xs → Lawful (Stands xs) (stale_before xs)
stale_lawful n xs l = record { oneway = λ a b _ _. stale_oneway n xs a b l; chain = λ a b c. stale_chain n xs a b c l }
