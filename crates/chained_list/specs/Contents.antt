-- What stands in the member places after each call.
use Rattle.std.specs.Prelude.{◌≡◌, ℕ, zero, suc, ◌-◌, ◌<◌, true, false, cond, List, [], ◌∷◌, length, Some, None, Ok, Err, Result, ◌==◌, slice_index_or}
use Rattle.chained_list.specs.declared.member.Member.{Member}
use Rattle.order_list.specs.declared.refusal.ListRefusal.{ListRefusal}
use Rattle.order_list.specs.Order.{has, behind, insert_refusal, make_refusal}
use Rattle.chained_list.specs.Tags.{Tagged, members_of, tag_at, tags_after_remove}
use Rattle.chained_list.specs.Chain.{blank, first, order, chain, tagged, Sound, Room}

-- the base alone, with the tag 0
abbrev pub only_base : List Tagged
only_base = record { member = 0; tag = 0 } ∷ []

-- the n numbers from a on
abbrev pub numbers_from : ℕ → ℕ → List ℕ
numbers_from a zero = []
numbers_from a (suc n) = a ∷ numbers_from (suc a) n

-- the last of a list, d where it is empty
abbrev pub last_of : ℕ → List ℕ → ℕ
last_of d [] = d
last_of d (x ∷ xs) = last_of x xs

-- what stands directly before k in a list that p stands before
abbrev pub ahead : ℕ → List ℕ → ℕ → ℕ
ahead p [] k = 0
ahead p (x ∷ xs) k = cond (x == k) p (ahead x xs k)

-- what stands directly before k; the last for the first
abbrev pub previous_in : List ℕ → ℕ → ℕ
previous_in xs k = ahead (last_of 0 xs) xs k

-- what place k holds where the members with their tags are ts and the free places, in the order of their chain, are fs
abbrev pub place_in : List Tagged → List ℕ → ℕ → Member
place_in ts fs k =
    cond (has (members_of ts) k)
    (record { used = true; next = first (behind (members_of ts) k); previous = previous_in (members_of ts) k; tag = tag_at ts k })
    (record { used = false; next = first (behind fs k); previous = 0; tag = 0 })

-- every place by value, from the members with their tags and the free places
abbrev pub Stands : List Member → ℕ → Type 0
Stands qs h = (k : ℕ) → k < length qs → slice_index_or qs k blank ≡ place_in (tagged qs) (chain qs h) k

-- the places are cleared: the base alone, and all other places free, chained in their order
pub record Cleared (qs : List Member) (h : ℕ) : Type 0 where
  pub tags : tagged qs ≡ only_base
  pub free : chain qs h ≡ numbers_from 1 (length qs - 1)
  pub each : Stands qs h

-- a list of the base alone was built: qs for the places ps, with the free places chained from h on
pub record Built (ps qs : List Member) (h : ℕ) : Type 0 where
  pub allowed : make_refusal (length ps) ≡ None
  pub size : length qs ≡ length ps
  pub only : order qs ≡ 0 ∷ []
  pub placed : Cleared qs h
  pub sound : Sound qs h

-- no list was built, for the reason e, and the places are as they were
pub record Kept (ps qs : List Member) (e : ListRefusal) : Type 0 where
  pub refused : make_refusal (length ps) ≡ Some e
  pub same : qs ≡ ps

-- the free place that an insertion behind m takes, the first of the chain; or why it is refused
abbrev pub Vacant : List Member → ℕ → ℕ → Result ℕ ListRefusal → Type 0
Vacant ps h m (Ok n) = (n ≡ h) × Room ps n m
Vacant ps h m (Err e) = insert_refusal (length ps) (order ps) m ≡ Some e

-- an insertion behind m into the places ps, which leaves qs: the members have the tags that after gives, and the first free place
-- was taken; a refusal changes no place
abbrev pub InsertedPlaces : (List Tagged → ℕ → ℕ → List Tagged) → List Member → ℕ → ℕ → Result ℕ ListRefusal → List Member → ℕ → Type 0
InsertedPlaces after ps h m (Ok n) qs i = (tagged qs ≡ after (tagged ps) m n) × (chain ps h ≡ n ∷ chain qs i) × Stands qs i
InsertedPlaces after ps h m (Err e) qs i = (qs ≡ ps) × (i ≡ h)

-- a removal of m from the places ps, which leaves qs: the other members keep their tags, and m is the first free place; a refusal
-- changes no place
abbrev pub RemovedPlaces : List Member → ℕ → ℕ → Result (Unit {0}) ListRefusal → List Member → ℕ → Type 0
RemovedPlaces ps h m (Ok _) qs i = (tagged qs ≡ tags_after_remove (tagged ps) m) × (chain qs i ≡ m ∷ chain ps h) × Stands qs i
RemovedPlaces ps h m (Err e) qs i = (qs ≡ ps) × (i ≡ h)
