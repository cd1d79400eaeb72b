use Rattle.std.proofs.Common.{◌≡◌, ◌^◌, ◌<◌, drop}
use Rattle.text.specs.Field.{digits_on}
use Rattle.text.proofs.fields.digits_value.Given as goal

abbrev pub invariant-loop-b : goal.invariant-loop-b
invariant-loop-b l = (digits_on l.value (drop l.b-index l.digits) ≡ digits_on 0 l.digits) × (l.value < 10 ^ l.b-index)
