-- What the fields of a line say.
use Rattle.std.specs.Prelude.{List, ℤ}
use Rattle.text.specs.declared.fields.Fields.{Fields}
use Rattle.text.specs.declared.fields.Numbers.{Numbers}
use Rattle.text.specs.Numbers.{numbers_in}

-- the numbers that the fields hold, in order
abbrev pub values : Fields → List ℤ
values fs = numbers_in fs.columns.now

-- those that an iterator of them has left
abbrev pub numbers_left : Numbers → List ℤ
numbers_left it = numbers_in it.columns.now
