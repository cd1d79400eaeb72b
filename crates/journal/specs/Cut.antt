-- The first line of a journal.
use Rattle.std.specs.Prelude.{◌≡◌, ℕ, ◌<◌, Bool, List, ◌∷◌, ◌++◌, length}
use Rattle.text.specs.Lines.{lines_in}
use Rattle.journal.specs.Journal.{newline}

pub record Cut (bs line behind : List ℕ) : Type 0 where
  pub ended : Bool
  pub lines : lines_in bs ≡ (ended, line) ∷ lines_in behind
  pub bytes : bs ≡ line ++ (newline ended ++ behind)
  pub shorter : length behind < length bs
