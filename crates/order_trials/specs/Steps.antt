-- One more call on two lists.
use Rattle.std.specs.Prelude.{◌≡◌, ℕ, ◌⊎◌, List, ◌∷◌, Ok, Err, Result}
use Rattle.order_list.specs.Order.{Inserted}
use Rattle.order_list.specs.declared.alike.Twin.{Twin}
use Rattle.order_list.specs.Alike.{Together}
use Rattle.order_trials.specs.declared.both.NotBoth.{NotBoth}
use Rattle.order_trials.specs.declared.both.NotBoth.TheVariants.{Refused, Differing}

-- an insertion into two lists of the capacities c and d, behind m in each: both did it, both refused, or only one did it. A list that
-- refused is as it was
abbrev pub Answered : ℕ → ℕ → List ℕ → List ℕ → Twin → List ℕ → List ℕ → Result Twin NotBoth → Type 0
Answered c d xs ys m xs' ys' (Ok t) = Inserted c xs m.left (Ok t.left) xs' × Inserted d ys m.right (Ok t.right) ys'
Answered c d xs ys m xs' ys' (Err (Refused e)) = Inserted c xs m.left (Err e) xs' × (ys' ≡ ys)
Answered c d xs ys m xs' ys' (Err Differing) = (xs' ≡ xs) ⊎ (ys' ≡ ys)

-- after an insertion two lists are together still: with the new member named, or as they were; they never differ
abbrev pub Continued : ℕ → ℕ → List Twin → List ℕ → List ℕ → Result Twin NotBoth → Type 0
Continued c d ns xs ys (Ok t) = Together c d (t ∷ ns) xs ys
Continued c d ns xs ys (Err (Refused e)) = Together c d ns xs ys
Continued c d ns xs ys (Err Differing) = ⊥
