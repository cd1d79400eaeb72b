-- The numbers of the refusals, and the most places that a list is built in.
use Rattle.std.specs.Prelude.{ℕ}
use Rattle.order_list.specs.declared.refusal.ListRefusal.{ListRefusal}
use Rattle.order_list.specs.declared.refusal.ListRefusal.TheVariants.{NoMember, Full, Base, Places}

-- the number by which a refusal is told
abbrev pub number_of : ListRefusal → ℕ
number_of NoMember = 31
number_of Full = 32
number_of Base = 33
number_of Places = 34

-- the most member places of a list
abbrev pub most_places : ℕ
most_places = 4096
