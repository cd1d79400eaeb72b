-- Links as numbers.
use Rattle.std.specs.Prelude.{ℕ, Option}
use Rattle.std.specs.Option.{unwrap_or}

-- the number of a link: a link to place 0 leads nowhere
abbrev pub link_of : Option ℕ → ℕ
link_of to = unwrap_or to 0
