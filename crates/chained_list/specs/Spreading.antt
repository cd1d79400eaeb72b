-- What the steps of a spread tell of the member places.
use Rattle.std.specs.Prelude.{◌≡◌, ℕ, ◌+◌, ◌-◌, ◌*◌, ◌^◌, ◌<◌, ◌≤◌, true, cond, List, nat_lt}
use Rattle.chained_list.specs.declared.member.Member.{Member}
use Rattle.order_list.specs.Order.{has}
use Rattle.chained_list.specs.Tags.{tag_limit, among, start, loose_level, spread_tag, Smallest, tag_at, behind_tag, spread}
use Rattle.chained_list.specs.Chain.{order, tag_of, tags, tagged, Holds, Retagged}

-- r is the first member with a tag of s or more; m has one
pub record FirstFrom (ps : List Member) (s m r : ℕ) : Type 0 where
  pub member : has (order ps) r ≡ true
  pub low : s ≤ tag_of ps r
  pub high : tag_of ps r ≤ tag_of ps m
  pub none : among s (tag_of ps r) (tags ps) ≡ 0

-- f is the first of the k members whose tags are among the w from s on, and these can be spread
pub record Spreadable (ps : List Member) (f s w k : ℕ) : Type 0 where
  pub member : has (order ps) f ≡ true
  pub low : s ≤ tag_of ps f
  pub inside : tag_of ps f < s + w
  pub none : among s (tag_of ps f) (tags ps) ≡ 0
  pub count : k ≡ among s (s + w) (tags ps)
  pub wide : 2 * k ≤ w
  pub top : s + w ≤ tag_limit

-- the smallest loose block that contains m's tag
pub record LooseBlock (ps : List Member) (m f s w k : ℕ) : Type 0 where
  pub smallest : Smallest (tags ps) (tag_of ps m) (loose_level (tags ps) (tag_of ps m))
  pub begins : s ≡ start (loose_level (tags ps) (tag_of ps m)) (tag_of ps m)
  pub width : w ≡ 2 ^ loose_level (tags ps) (tag_of ps m)
  pub ready : Spreadable ps f s w k

-- the w tags from s on were spread
pub record SpreadOut (ps qs : List Member) (s w : ℕ) : Type 0 where
  pub same : Retagged ps qs
  pub after : (k : ℕ) → has (order ps) k ≡ true → tag_of qs k ≡ spread_tag s w (tags ps) (tag_of ps k)

-- room was made behind m
pub record RoomMade (ps qs : List Member) (m : ℕ) : Type 0 where
  pub same : Retagged ps qs
  pub kept : order qs ≡ order ps
  pub holds : Holds qs (order qs)
  pub room : 2 ≤ behind_tag (tagged qs) m - tag_of qs m
  pub after : tagged qs ≡ cond (nat_lt (behind_tag (tagged ps) m - tag_at (tagged ps) m) 2) (spread (tagged ps) (tag_at (tagged ps) m)) (tagged ps)
