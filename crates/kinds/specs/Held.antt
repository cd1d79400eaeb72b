-- What the code of layer 3 holds.
use Rattle.std.specs.Prelude.{◌≡◌, List, map, ℤ, Some, None, Ok, Err, vec_items, Option, Result}
use Rattle.text.specs.declared.fields.Fields.{Fields}
use Rattle.text.specs.Values.{values}
use Rattle.kinds.specs.declared.fault.KindFault.{KindFault}
use Rattle.kinds.specs.declared.fault.Refusal.{Refusal}
use Rattle.kinds.specs.declared.fault.Refusal.TheVariants.{Fault, Memory}
use Rattle.kinds.specs.declared.scope.Scope.{Scope}
use Rattle.kinds.specs.Kinds.{Known}

-- the numbers of the FUN lines
abbrev pub heads_held : List Fields → List (List ℤ)
heads_held fs = map values fs

abbrev pub heads_known : Scope → List (List ℤ)
heads_known k = heads_held (vec_items k.heads)

abbrev pub known : Scope → Known
known k = (vec_items k.kinds, k.result)

-- a call that finds no memory says so; else it tells the fault, or that there is none
abbrev pub Tells : {T : Type 0} → Result T Refusal → Option KindFault → Type 0
Tells (Ok t) o = o ≡ None
Tells (Err Memory) o = Unit {0}
Tells (Err (Fault f)) o = o ≡ Some f
