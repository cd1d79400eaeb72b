-- The laws of an order.
use Rattle.std.specs.Prelude.{◌≡◌, Bool, true, false}

-- before keeps the laws, among those that belong
pub record Lawful {X : Type 0} (belongs : X → Type 0) (before : X → X → Bool) : Type 0 where
  -- it never holds both ways
  pub oneway : (a b : X) → belongs a → belongs b → before a b ≡ true → before b a ≡ false
  -- where b is not before a, nor c before b, c is not before a
  pub chain : (a b c : X) → belongs a → belongs b → belongs c → before b a ≡ false → before c b ≡ false → before c a ≡ false
