-- What an order list means: a list of different member numbers, the base 0 first.
use Rattle.std.specs.Prelude.{◌≡◌, ℕ, ◌<◌, ◌≤◌, Bool, true, false, cond, List, [], ◌∷◌, length, Some, None, Ok, Err, Option, Result, ◌==◌, nat_lt}
use Rattle.order_list.specs.declared.refusal.ListRefusal.{ListRefusal}
use Rattle.order_list.specs.declared.refusal.ListRefusal.TheVariants.{NoMember, Full, Base, Places}
use Rattle.order_list.specs.Refusals.{most_places}
use denote.Struct.Props.{props}

-- whether k is among xs
abbrev pub has : List ℕ → ℕ → Bool
has [] k = false
has (x ∷ xs) k = cond (x == k) true (has xs k)

-- no number stands twice
abbrev pub Apart : List ℕ → Type 0
Apart [] = Unit {0}
Apart (x ∷ xs) = (has xs x ≡ false) × Apart xs

pub Apart-prop : (xs : List ℕ) → IsProp (Apart xs)
Apart-prop [] = Prim.hlevel props
Apart-prop (x ∷ xs) = Prim.hlevel (Apart-prop xs, props)

-- each is below c
abbrev pub Under : ℕ → List ℕ → Type 0
Under c [] = Unit {0}
Under c (x ∷ xs) = (x < c) × Under c xs

pub Under-prop : (c : ℕ) (xs : List ℕ) → IsProp (Under c xs)
Under-prop c [] = Prim.hlevel props
Under-prop c (x ∷ xs) = Prim.hlevel (Under-prop c xs, props)

-- the first is the base 0
abbrev pub Based : List ℕ → Type 0
Based [] = ⊥
Based (x ∷ xs) = x ≡ 0

pub Based-prop : (xs : List ℕ) → IsProp (Based xs)
Based-prop [] = Prim.hlevel props
Based-prop (x ∷ xs) = Prim.hlevel props

-- the laws of an order list with the capacity c: different members below c, the base first, and c at most 4,096
pub record Lawful (c : ℕ) (xs : List ℕ) : Type 0 where
  pub based : Based xs
  pub apart : Apart xs
  pub under : Under c xs
  pub few : c ≤ most_places

-- xs with n directly behind m
abbrev pub insert_after : List ℕ → ℕ → ℕ → List ℕ
insert_after [] m n = []
insert_after (x ∷ xs) m n = cond (x == m) (x ∷ n ∷ xs) (x ∷ insert_after xs m n)

-- xs without m
abbrev pub without : List ℕ → ℕ → List ℕ
without [] m = []
without (x ∷ xs) m = cond (x == m) xs (x ∷ without xs m)

-- whether both are members and a stands earlier than b
abbrev pub earlier : List ℕ → ℕ → ℕ → Bool
earlier [] a b = false
earlier (x ∷ xs) a b = cond (x == a) (has xs b) (earlier xs a b)

-- why an insertion behind m is refused, if it is: m is tested before the room
abbrev pub insert_refusal : ℕ → List ℕ → ℕ → Option ListRefusal
insert_refusal c xs m = cond (has xs m) (cond (nat_lt (length xs) c) None (Some Full)) (Some NoMember)

-- an insertion behind m, by what it answers: a number below c that was no member now stands directly behind m, or nothing changed
abbrev pub Inserted : ℕ → List ℕ → ℕ → Result ℕ ListRefusal → List ℕ → Type 0
Inserted c xs m (Ok n) ys = (insert_refusal c xs m ≡ None) × (has xs n ≡ false) × (n < c) × (ys ≡ insert_after xs m n)
Inserted c xs m (Err e) ys = (insert_refusal c xs m ≡ Some e) × (ys ≡ xs)

-- why a removal of m is refused, if it is: whether m is a member is tested first
abbrev pub remove_refusal : List ℕ → ℕ → Option ListRefusal
remove_refusal xs m = cond (has xs m) (cond (m == 0) (Some Base) None) (Some NoMember)

-- a removal of m, by what it answers: m is gone, or nothing changed
abbrev pub Removed : List ℕ → ℕ → Result (Unit {0}) ListRefusal → List ℕ → Type 0
Removed xs m (Ok _) ys = (remove_refusal xs m ≡ None) × (ys ≡ without xs m)
Removed xs m (Err e) ys = (remove_refusal xs m ≡ Some e) × (ys ≡ xs)

-- the first of a list, if there is one
abbrev pub FirstIs : List ℕ → Option ℕ → Type 0
FirstIs [] (Some _) = ⊥
FirstIs [] None = Unit {0}
FirstIs (x ∷ xs) (Some n) = n ≡ x
FirstIs (x ∷ xs) None = ⊥

-- what stands behind m; nothing where m is no member
abbrev pub behind : List ℕ → ℕ → List ℕ
behind [] m = []
behind (x ∷ xs) m = cond (x == m) xs (behind xs m)

-- r is what stands directly behind m, if anything
abbrev pub NextIs : List ℕ → ℕ → Option ℕ → Type 0
NextIs xs m r = FirstIs (behind xs m) r

-- why no list is built in c member places, if none is
abbrev pub make_refusal : ℕ → Option ListRefusal
make_refusal c = cond (nat_lt c 1) (Some Places) (cond (nat_lt most_places c) (Some Places) None)
