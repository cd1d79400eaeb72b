-- The tags of the tag-range list, and what an insertion makes of them.
use Rattle.std.specs.Prelude.{◌≡◌, ℕ, zero, suc, ◌+◌, ◌-◌, ◌*◌, ◌/◌, ◌^◌, ◌<◌, ◌≤◌, Bool, true, false, cond, List, [], ◌∷◌, ◌==◌, nat_le, nat_lt}

-- tags are below this
abbrev pub tag_limit : ℕ
tag_limit = 4294967296

-- how many of the tags are lo or more and below hi
abbrev pub among : ℕ → ℕ → List ℕ → ℕ
among lo hi [] = 0
among lo hi (t ∷ ts) = cond (nat_lt t lo) (among lo hi ts) (cond (nat_lt t hi) (suc (among lo hi ts)) (among lo hi ts))

-- where the block of level i that contains the tag t begins: its 2 ^ i tags go from a multiple of 2 ^ i
abbrev pub start : ℕ → ℕ → ℕ
start i t = t / 2 ^ i * 2 ^ i

-- how many members the block has
abbrev pub held : List ℕ → ℕ → ℕ → ℕ
held ts t i = among (start i t) (start i t + 2 ^ i) ts

-- whether it is loose: not too many members for its level
abbrev pub loose : List ℕ → ℕ → ℕ → Bool
loose ts t i = nat_le (held ts t i * 2 ^ i) (3 ^ i)

-- the first loose level of n + 1 levels from i on
unfoldable pub loose_from : ℕ → List ℕ → ℕ → ℕ → ℕ
loose_from zero ts t i = i
loose_from (suc n) ts t i = cond (loose ts t i) i (loose_from n ts t (suc i))

-- the level of the smallest loose block that contains t, of the levels 4 to 32
abbrev pub loose_level : List ℕ → ℕ → ℕ
loose_level ts t = loose_from 28 ts t 4

-- i is the smallest loose level, of 4 to 32, for the tag t
pub record Smallest (ts : List ℕ) (t i : ℕ) : Type 0 where
  pub low : 4 ≤ i
  pub high : i ≤ 32
  pub fits : loose ts t i ≡ true
  pub none : (j : ℕ) → 4 ≤ j → j < i → loose ts t j ≡ false

-- the tag that a member with the tag a has once the w tags from s on are shared out evenly: its number j in the block, which is
-- how many of the block's tags are below a, gives s + j × w / k
abbrev pub spread_tag : ℕ → ℕ → List ℕ → ℕ → ℕ
spread_tag s w ts a = cond (nat_lt a s) a (cond (nat_lt a (s + w)) (s + (among s a ts * w) / among s (s + w) ts) a)

-- a member with its tag
pub record Tagged : Type 0 where
  pub member : ℕ
  pub tag : ℕ

-- the members alone
abbrev pub members_of : List Tagged → List ℕ
members_of [] = []
members_of (x ∷ xs) = x.member ∷ members_of xs

-- the tags alone
abbrev pub tags_of : List Tagged → List ℕ
tags_of [] = []
tags_of (x ∷ xs) = x.tag ∷ tags_of xs

-- each tag a replaced by f a
abbrev pub retag : (ℕ → ℕ) → List Tagged → List Tagged
retag f [] = []
retag f (x ∷ xs) = record { member = x.member; tag = f x.tag } ∷ retag f xs

-- m's tag
abbrev pub tag_at : List Tagged → ℕ → ℕ
tag_at [] m = 0
tag_at (x ∷ xs) m = cond (x.member == m) x.tag (tag_at xs m)

-- the first tag, 2 ^ 32 where there is none
abbrev pub first_tag : List Tagged → ℕ
first_tag [] = tag_limit
first_tag (x ∷ xs) = x.tag

-- the tag of the member behind m, 2 ^ 32 behind the last
abbrev pub behind_tag : List Tagged → ℕ → ℕ
behind_tag [] m = tag_limit
behind_tag (x ∷ xs) m = cond (x.member == m) (first_tag xs) (behind_tag xs m)

-- the smallest loose block that contains t, spread
abbrev pub spread : List Tagged → ℕ → List Tagged
spread ts t = retag (spread_tag (start (loose_level (tags_of ts) t) t) (2 ^ loose_level (tags_of ts) t) (tags_of ts)) ts

-- the level at which an insertion behind m spreads, where it spreads, is that of the smallest loose block that contains m's tag
abbrev pub SmallestLoose : List Tagged → ℕ → Type 0
SmallestLoose ts m = Smallest (tags_of ts) (tag_at ts m) (loose_level (tags_of ts) (tag_at ts m))

-- n with the tag t directly behind m
abbrev pub put_behind : List Tagged → ℕ → ℕ → ℕ → List Tagged
put_behind [] m n t = []
put_behind (x ∷ xs) m n t = cond (x.member == m) (x ∷ record { member = n; tag = t } ∷ xs) (x ∷ put_behind xs m n t)

-- n behind m, with the tag halfway to the next
abbrev pub halfway : List Tagged → ℕ → ℕ → List Tagged
halfway ts m n = put_behind ts m n (tag_at ts m + (behind_tag ts m - tag_at ts m) / 2)

-- what an insertion of n behind m makes of the members and their tags: a spread first where there is no tag between
unfoldable pub tags_after_insert : List Tagged → ℕ → ℕ → List Tagged
tags_after_insert ts m n = cond (nat_lt (behind_tag ts m - tag_at ts m) 2) (halfway (spread ts (tag_at ts m)) m n) (halfway ts m n)

-- m gone, the other tags as they were
abbrev pub tags_after_remove : List Tagged → ℕ → List Tagged
tags_after_remove [] m = []
tags_after_remove (x ∷ xs) m = cond (x.member == m) xs (x ∷ tags_after_remove xs m)

-- the members ranked d, d + 1, d + 2 ..
abbrev pub ranked_from : ℕ → List Tagged → List Tagged
ranked_from d [] = []
ranked_from d (x ∷ xs) = record { member = x.member; tag = d } ∷ ranked_from (suc d) xs

-- n behind m, and all ranked anew: 0, 1, 2 ..
abbrev pub ranks_after_insert : List Tagged → ℕ → ℕ → List Tagged
ranks_after_insert ts m n = ranked_from 0 (put_behind ts m n 0)
