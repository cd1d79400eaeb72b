-- Tags worked out.
use Rattle.std.specs.Prelude.{◌≡◌, ℕ, [], ◌∷◌, refl}
use Rattle.chained_list.specs.Tags.{Tagged, tags_after_insert, loose_from}

abbrev at : ℕ → ℕ → Tagged
at m t = record { member = m; tag = t }

-- behind the base alone: halfway to 2 ^ 32
pub first_one : tags_after_insert (at 0 0 ∷ []) 0 1 ≡ at 0 0 ∷ at 1 2147483648 ∷ []
unfolding tags_after_insert loose_from
first_one = refl

-- no tag between 0 and 1: the block of level 4 is spread, 0 and 8, and 4 is taken
pub spread_one : tags_after_insert (at 0 0 ∷ at 1 1 ∷ at 3 40 ∷ []) 0 2 ≡ at 0 0 ∷ at 2 4 ∷ at 1 8 ∷ at 3 40 ∷ []
unfolding tags_after_insert loose_from
spread_one = refl

-- seven members in the block of level 4 are too many, 112 above 81; that of level 5 is loose, 224 up to 243, and gives multiples of 32 by 7
pub spread_more :
    tags_after_insert (at 0 0 ∷ at 1 1 ∷ at 2 2 ∷ at 3 3 ∷ at 4 4 ∷ at 5 5 ∷ at 6 6 ∷ []) 3 7 ≡
    at 0 0 ∷ at 1 4 ∷ at 2 9 ∷ at 3 13 ∷ at 7 15 ∷ at 4 18 ∷ at 5 22 ∷ at 6 27 ∷ []
unfolding tags_after_insert loose_from
spread_more = refl
