use Rattle.std.proofs.Common.{◌^◌, ◌≤◌, sym, ◌∙◌, arith}
use native.Mathlib.Nat.{pow-le-pow_right}
use Rattle.std.proofs.lemmas.List.{at_drop_all}
use Rattle.text.specs.Field.{digits_on}
use Rattle.text.proofs.fields.digits_value.Goals as goal

pub returns : goal.returns
returns c =
    let l = c.loop-b in
    let xs = c.args.digits.now in
    let small : l.b-index ≤ 6 = omega arith in
    let p : 10 ^ l.b-index ≤ 10 ^ 6 = pow-le-pow_right (omega arith) small in
    record { value = sym (sym l.invariant.0 ∙ at_drop_all (digits_on l.value) xs l.b-index (omega arith)); bound = omega arith }
