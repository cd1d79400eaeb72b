-- Two lists side by side that are given the same calls, and what cannot tell them apart.
use Rattle.std.specs.Prelude.{◌≡◌, ℕ, Bool, true, false, cond, ◌⊎◌, List, [], ◌∷◌, Some, None, Ok, Err, Option, ◌==◌}
use Rattle.std.specs.Bool.{beq}
use Rattle.order_list.specs.declared.refusal.ListRefusal.{ListRefusal}
use Rattle.order_list.specs.declared.alike.Twin.{Twin}
use Rattle.order_list.specs.Order.{has, earlier, behind, Inserted, Removed, NextIs, insert_refusal, remove_refusal}

-- the base in both lists
abbrev pub base : Twin
base = record { left = 0; right = 0 }

-- whether t is one member's number a in the left list and b in the right
abbrev pub twin : Twin → ℕ → ℕ → Bool
twin t a b = cond (t.left == a) (t.right == b) false

-- whether a and b are one member's numbers by the renaming ns
abbrev pub named : List Twin → ℕ → ℕ → Bool
named [] a b = false
named (t ∷ ts) a b = cond (twin t a b) true (named ts a b)

-- the renaming without the member that has the number m in the left list
abbrev pub forget : List Twin → ℕ → List Twin
forget [] m = []
forget (t ∷ ts) m = cond (t.left == m) (forget ts m) (t ∷ forget ts m)

-- a and b mean the same in the two lists: one member's numbers, or no member's
abbrev pub Same : List Twin → List ℕ → List ℕ → ℕ → ℕ → Type 0
Same ns xs ys a b = (named ns a b ≡ true) ⊎ ((has xs a ≡ false) × (has ys b ≡ false))

-- two lists of the capacities c and d were given the same calls from the base alone on, and answered them alike: both did as they
-- were told, or both refused. They hold xs and ys, and the renaming ns has the two numbers of each member. Which free numbers
-- they took is left open
pub data Together (c d : ℕ) : List Twin → List ℕ → List ℕ → Type 0 where
  made : Together c d (base ∷ []) (0 ∷ []) (0 ∷ [])
  cleared : (ns : List Twin) (xs ys : List ℕ) → Together c d ns xs ys → Together c d (base ∷ []) (0 ∷ []) (0 ∷ [])
  inserted : (ns : List Twin) (xs ys xs' ys' : List ℕ) (m n : ℕ) (t : Twin) → Together c d ns xs ys → named ns m n ≡ true →
      Inserted c xs m (Ok t.left) xs' → Inserted d ys n (Ok t.right) ys' → Together c d (t ∷ ns) xs' ys'
  not_inserted : (ns : List Twin) (xs ys xs' ys' : List ℕ) (m n : ℕ) (e f : ListRefusal) → Together c d ns xs ys →
      Inserted c xs m (Err e) xs' → Inserted d ys n (Err f) ys' → Together c d ns xs' ys'
  removed : (ns : List Twin) (xs ys xs' ys' : List ℕ) (m n : ℕ) → Together c d ns xs ys → named ns m n ≡ true →
      Removed xs m (Ok tt) xs' → Removed ys n (Ok tt) ys' → Together c d (forget ns m) xs' ys'
  not_removed : (ns : List Twin) (xs ys xs' ys' : List ℕ) (m n : ℕ) (e f : ListRefusal) → Together c d ns xs ys →
      Removed xs m (Err e) xs' → Removed ys n (Err f) ys' → Together c d ns xs' ys'

-- two answers of next: one member's numbers, or none in both
abbrev pub Paired : List Twin → Option ℕ → Option ℕ → Type 0
Paired ns (Some a) (Some b) = named ns a b ≡ true
Paired ns (Some a) None = ⊥
Paired ns None (Some b) = ⊥
Paired ns None None = Unit {0}

-- whether there is any member
abbrev pub any : List ℕ → Bool
any [] = false
any (x ∷ xs) = true

-- whether two lists answer alike, each by its own numbers: before of x and y, and whether next of x answers a member
abbrev pub agrees : List ℕ → List ℕ → Twin → Twin → Bool
agrees xs ys x y = cond (beq (earlier xs x.left y.left) (earlier ys x.right y.right)) (beq (any (behind xs x.left)) (any (behind ys x.right))) false

-- the lists cannot be told apart: before and next answer alike, and so do the refusals of a removal and, if the capacities are
-- the same, of an insertion
pub record Indistinct (c d : ℕ) (ns : List Twin) (xs ys : List ℕ) : Type 0 where
  pub before : (a a' b b' : ℕ) → Same ns xs ys a a' → Same ns xs ys b b' → earlier xs a b ≡ earlier ys a' b'
  pub next : (a a' : ℕ) (r r' : Option ℕ) → Same ns xs ys a a' → NextIs xs a r → NextIs ys a' r' → Paired ns r r'
  pub insertion : (a a' : ℕ) → Same ns xs ys a a' → c ≡ d → insert_refusal c xs a ≡ insert_refusal d ys a'
  pub removal : (a a' : ℕ) → Same ns xs ys a a' → remove_refusal xs a ≡ remove_refusal ys a'

-- whatever the two lists were given alike, they cannot be told apart
abbrev pub Alike : ℕ → ℕ → List ℕ → List ℕ → Type 0
Alike c d xs ys = (ns : List Twin) → Together c d ns xs ys → Indistinct c d ns xs ys

-- the answer r is yes for lists that were given the same calls, where x and y are each one member's numbers or no member's
abbrev pub Agreed : ℕ → ℕ → List ℕ → List ℕ → Twin → Twin → Bool → Type 0
Agreed c d xs ys x y r =
    (ns : List Twin) → Together c d ns xs ys → Same ns xs ys x.left x.right → Same ns xs ys y.left y.right → r ≡ true
