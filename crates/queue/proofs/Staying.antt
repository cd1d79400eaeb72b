-- Queued reads stay a heap where the list gets one member more.
use Rattle.std.proofs.Common.{◌≡◌, ◌≢◌, ℕ, true, false, List, [], All, ◌∷◌, Ok, Err, Result, sym, ap, refl, ◌∙◌, arith}
use Rattle.std.proofs.lemmas.Bool.Decides.{nat_tests}
use Rattle.std.proofs.lemmas.Bool.{both_ways}
use Rattle.order_list.specs.declared.refusal.ListRefusal.{ListRefusal}
use Rattle.order_list.specs.Order.{has, earlier, insert_after, Inserted}
use Rattle.queue.specs.declared.stale.StaleRead.{StaleRead}
use Rattle.queue.specs.Heaps.{Heaped}
use Rattle.queue.specs.Stale.{Stands, stale_before}

-- a member is not a number that is no member
apart : (xs : List ℕ) (n k : ℕ) → has xs n ≡ false → has xs k ≡ true → n ≢ k
apart xs n k f t e = both_ways (has xs k) (ap (has xs) (sym e) ∙ f) t

has_inserted : (xs : List ℕ) (m n k : ℕ) → n ≢ k → has (insert_after xs m n) k ≡ has xs k
has_inserted [] m n k e = refl
has_inserted (x ∷ xs) m n k e = grind (arith, nat_tests, has_inserted xs m n k)

earlier_inserted : (xs : List ℕ) (m n a b : ℕ) → n ≢ a → n ≢ b → earlier (insert_after xs m n) a b ≡ earlier xs a b
earlier_inserted [] m n a b e f = refl
earlier_inserted (x ∷ xs) m n a b e f = grind (arith, nat_tests, has_inserted xs m n b, earlier_inserted xs m n a b)

-- a member is one after an insertion
pub still_has : (c : ℕ) (xs : List ℕ) (m : ℕ) (r : Result ℕ ListRefusal) (ys : List ℕ) → Inserted c xs m r ys → (k : ℕ) → has xs k ≡ true → has ys k ≡ true
still_has c xs m (Ok n) ys h k t = rw h.3 (has_inserted xs m n k (apart xs n k h.1 t) ∙ t)
still_has c xs m (Err e) ys h k t = rw h.1 t

-- members stand as before after an insertion
pub still_earlier : (c : ℕ) (xs : List ℕ) (m : ℕ) (r : Result ℕ ListRefusal) (ys : List ℕ) → Inserted c xs m r ys → (a b : ℕ) → has xs a ≡ true → has xs b ≡ true → earlier ys a b ≡ earlier xs a b
still_earlier c xs m (Ok n) ys h a b s t = rw h.3 (earlier_inserted xs m n a b (apart xs n a h.1 s) (apart xs n b h.1 t))
still_earlier c xs m (Err e) ys h a b s t = rw h.1 refl

-- queued reads that stood still stand
pub still_stand : (c : ℕ) (xs : List ℕ) (m : ℕ) (r : Result ℕ ListRefusal) (ys : List ℕ) → Inserted c xs m r ys → (reads : List StaleRead) → All (Stands xs) reads → All (Stands ys) reads
still_stand c xs m r ys h reads all k d l = still_has c xs m r ys h _ (all k d l)

-- and they are a heap still
pub still_heaped : (c : ℕ) (xs : List ℕ) (m : ℕ) (r : Result ℕ ListRefusal) (ys : List ℕ) → Inserted c xs m r ys → (reads : List StaleRead) → All (Stands xs) reads → Heaped (stale_before xs) reads → Heaped (stale_before ys) reads
still_heaped c xs m r ys h reads all heap p k d a b l = still_earlier c xs m r ys h _ _ (all k d l) (all p d (omega arith)) ∙ heap p k d a b l
