-- A linked list in member places: following the links from the base gives the order.
use Rattle.std.specs.Prelude.{◌≡◌, ℕ, zero, suc, ◌<◌, ◌≤◌, Bool, true, false, cond, not, List, [], ◌∷◌, length, Option, Some, None, ◌==◌, ◌≢◌, slice_index, slice_index_or, slice_set}
use Rattle.order_list.specs.Refusals.{most_places}
use Rattle.order_list.specs.Order.{has, Apart, Apart-prop, Under, Under-prop, Based, Based-prop, Lawful}
use Rattle.chained_list.specs.declared.member.Member.{Member}
use Rattle.chained_list.specs.Tags.{Tagged, tag_limit}
use denote.Struct.Props.{props}

-- a free place that links to none
abbrev pub blank : Member
blank = record { used = false; next = 0; previous = 0; tag = 0 }

-- the parts of place i
abbrev pub next_of : List Member → ℕ → ℕ
next_of ps i = (slice_index_or ps i blank).next

abbrev pub previous_of : List Member → ℕ → ℕ
previous_of ps i = (slice_index_or ps i blank).previous

abbrev pub used_of : List Member → ℕ → Bool
used_of ps i = (slice_index_or ps i blank).used

abbrev pub tag_of : List Member → ℕ → ℕ
tag_of ps i = (slice_index_or ps i blank).tag

-- r is what place i holds, where a member stands there
abbrev pub StandsAs : List Member → ℕ → Option Member → Type 0
StandsAs ps i None = used_of ps i ≡ false
StandsAs ps i (Some p) = (used_of ps i ≡ true) × (p ≡ slice_index_or ps i blank)

-- the places with the link of place i to v, and with its link back to v
abbrev pub relink : List Member → ℕ → ℕ → List Member
relink ps i v = slice_set ps i (record { used = used_of ps i; next = v; previous = previous_of ps i; tag = tag_of ps i })

abbrev pub reback : List Member → ℕ → ℕ → List Member
reback ps i v = slice_set ps i (record { used = used_of ps i; next = next_of ps i; previous = v; tag = tag_of ps i })

-- the places with b linked directly behind a, both ways
abbrev pub link_both : List Member → ℕ → ℕ → List Member
link_both ps a b = reback (relink ps a b) b a

-- what is met from m on by at most n links; 0 is no link
unfoldable pub walk : ℕ → (ℕ → ℕ) → ℕ → List ℕ
walk zero f m = m ∷ []
walk (suc n) f m = m ∷ cond (f m == 0) [] (walk n f (f m))

-- the members, the base first
abbrev pub order : List Member → List ℕ
order ps = walk (length ps) (next_of ps) 0

-- the free places in the order of their chain, which begins at the place h, or nowhere at 0
abbrev pub chain : List Member → ℕ → List ℕ
chain ps h = cond (h == 0) [] (walk (length ps) (next_of ps) h)

-- the first of a list, 0 where it is empty
abbrev pub first : List ℕ → ℕ
first [] = 0
first (x ∷ xs) = x

-- each links to the one behind it, the last to none
abbrev pub Linked : (ℕ → ℕ) → List ℕ → Type 0
Linked f [] = Unit {0}
Linked f (x ∷ xs) = (f x ≡ first xs) × Linked f xs

pub Linked-prop : (f : ℕ → ℕ) (xs : List ℕ) → IsProp (Linked f xs)
Linked-prop f [] = Prim.hlevel props
Linked-prop f (x ∷ xs) = Prim.hlevel (Linked-prop f xs, props)

-- the one behind a member links back to it, and the base, behind the last, to the last
abbrev pub Backed : (ℕ → ℕ) → (ℕ → ℕ) → List ℕ → Type 0
Backed f g xs = (x : ℕ) → has xs x ≡ true → g (f x) ≡ x

-- each has a tag over b
abbrev pub Over : (ℕ → ℕ) → ℕ → List ℕ → Type 0
Over t b [] = Unit {0}
Over t b (x ∷ xs) = (b < t x) × Over t b xs

pub Over-prop : (t : ℕ → ℕ) (b : ℕ) (xs : List ℕ) → IsProp (Over t b xs)
Over-prop t b [] = Prim.hlevel props
Over-prop t b (x ∷ xs) = Prim.hlevel (Over-prop t b xs, props)

-- tags rise along the list
abbrev pub Rising : (ℕ → ℕ) → List ℕ → Type 0
Rising t [] = Unit {0}
Rising t (x ∷ xs) = Over t (t x) xs × Rising t xs

pub Rising-prop : (t : ℕ → ℕ) (xs : List ℕ) → IsProp (Rising t xs)
Rising-prop t [] = Prim.hlevel props
Rising-prop t (x ∷ xs) = Prim.hlevel (Over-prop t (t x) xs, Rising-prop t xs, props)

-- the links of the places go along the list xs
pub record Strung (ps : List Member) (xs : List ℕ) : Type 0 where
  pub based : Based xs
  pub apart : Apart xs
  pub under : Under (length ps) xs
  pub linked : Linked (next_of ps) xs
  pub backed : Backed (next_of ps) (previous_of ps) xs
  pub marked : (k : ℕ) → k < length ps → used_of ps k ≡ has xs k

-- the free places, those that are not among xs, are chained: fs from the place h on
pub record Spare (ps : List Member) (xs : List ℕ) (h : ℕ) (fs : List ℕ) : Type 0 where
  pub head : h ≡ first fs
  pub apart : Apart fs
  pub under : Under (length ps) fs
  pub linked : Linked (next_of ps) fs
  pub others : (k : ℕ) → k < length ps → has fs k ≡ not (has xs k)

-- tags along xs: the base has 0, they rise, and stay below 2 ^ 32
pub record Ranging (t : ℕ → ℕ) (xs : List ℕ) : Type 0 where
  pub base : t 0 ≡ 0
  pub rising : Rising t xs
  pub below : (k : ℕ) → has xs k ≡ true → t k < tag_limit

-- the places hold the list xs
pub record Holds (ps : List Member) (xs : List ℕ) : Type 0 where
  pub strung : Strung ps xs
  pub ranging : Ranging (tag_of ps) xs

-- the soundness of a list in lent places, with the free places chained from h on: the links go along the order and back, exactly
-- the members are marked, their tags rise from the base's 0, and each free place has the tag 0 and no link back
pub record Sound (ps : List Member) (h : ℕ) : Type 0 where
  pub some : 0 < length ps
  pub few : length ps ≤ most_places
  pub holds : Holds ps (order ps)
  pub cleared : (k : ℕ) → has (order ps) k ≡ false → (tag_of ps k ≡ 0) × (previous_of ps k ≡ 0)
  pub spare : Spare ps (order ps) h (chain ps h)

-- it has one proof at most, so a list may keep it as a ghost field
pub Sound-prop : (ps : List Member) (h : ℕ) → IsProp (Sound ps h)
Sound-prop ps h = Prim.hlevel (Based-prop, Apart-prop, Under-prop, Linked-prop, Rising-prop, props)

pub sound_lawful : {ps : List Member} {h : ℕ} → Sound ps h → Lawful (length ps) (order ps)
sound_lawful s = let h = s.holds.strung in record { based = h.based; apart = h.apart; under = h.under; few = s.few }

-- n was put behind m in the links of the places, with the tag t
pub record Spliced (ps qs : List Member) (m n t : ℕ) : Type 0 where
  pub size : length qs ≡ length ps
  pub here : next_of qs m ≡ n
  pub there : next_of qs n ≡ next_of ps m
  pub others : (k : ℕ) → (k ≢ m) → (k ≢ n) → next_of qs k ≡ next_of ps k
  pub back : previous_of qs n ≡ m
  pub forth : previous_of qs (next_of ps m) ≡ n
  pub backs : (k : ℕ) → (k ≢ next_of ps m) → (k ≢ n) → previous_of qs k ≡ previous_of ps k
  pub tag : tag_of qs n ≡ t
  pub tags : (k : ℕ) → (k ≢ n) → tag_of qs k ≡ tag_of ps k
  pub marks : (k : ℕ) → used_of qs k ≡ cond (n == k) true (used_of ps k)

-- only tags of members differ
pub record Retagged (ps qs : List Member) : Type 0 where
  pub size : length qs ≡ length ps
  pub links : (k : ℕ) → next_of qs k ≡ next_of ps k
  pub backs : (k : ℕ) → previous_of qs k ≡ previous_of ps k
  pub marks : (k : ℕ) → used_of qs k ≡ used_of ps k
  pub others : (k : ℕ) → used_of ps k ≡ false → tag_of qs k ≡ tag_of ps k

-- the first n of xs have the ranks 0, 1, 2 ..
abbrev pub Ranked : List Member → List ℕ → ℕ → Type 0
Ranked ps xs n = (j : ℕ) → j < n → tag_of ps (slice_index xs j) ≡ j

-- m was taken out of the links of the places, where p links to it, and links to h
pub record Unlinked (ps qs : List Member) (p m h : ℕ) : Type 0 where
  pub size : length qs ≡ length ps
  pub here : next_of qs p ≡ next_of ps m
  pub freed : next_of qs m ≡ h
  pub others : (k : ℕ) → (k ≢ p) → (k ≢ m) → next_of qs k ≡ next_of ps k
  pub back : previous_of qs (next_of ps m) ≡ p
  pub backs : (k : ℕ) → (k ≢ next_of ps m) → (k ≢ m) → previous_of qs k ≡ previous_of ps k
  pub untagged : tag_of qs m ≡ 0
  pub unbacked : previous_of qs m ≡ 0
  pub tags : (k : ℕ) → (k ≢ m) → tag_of qs k ≡ tag_of ps k
  pub marks : (k : ℕ) → used_of qs k ≡ cond (m == k) false (used_of ps k)

-- members with their tags
abbrev pub mark : (ℕ → ℕ) → List ℕ → List Tagged
mark t [] = []
mark t (x ∷ xs) = record { member = x; tag = t x } ∷ mark t xs

-- the tags along xs
abbrev pub along : (ℕ → ℕ) → List ℕ → List ℕ
along t [] = []
along t (x ∷ xs) = t x ∷ along t xs

-- the members in order with their tags
abbrev pub tagged : List Member → List Tagged
tagged ps = mark (tag_of ps) (order ps)

-- the tags in order
abbrev pub tags : List Member → List ℕ
tags ps = along (tag_of ps) (order ps)

-- m stands, and the places are in order with the free place h first in the chain
pub record Room (ps : List Member) (h m : ℕ) : Type 0 where
  pub sound : Sound ps h
  pub stands : true ≡ used_of ps m
  pub some : h ≡ 0 → ⊥

-- m stands and is not the base, and the places are in order with the free place h first in the chain
pub record Ready (ps : List Member) (h m : ℕ) : Type 0 where
  pub sound : Sound ps h
  pub stands : true ≡ used_of ps m
  pub inner : m ≡ 0 → ⊥
