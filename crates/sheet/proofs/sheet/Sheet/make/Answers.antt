use Rattle.std.proofs.Common.{ℕ, sym, refl, ap, ◌∙◌, arith}
use Rattle.sheet.specs.Making.{sheet_refusal}
use Rattle.sheet.proofs.Making.{just_made}
use Rattle.sheet.proofs.sheet.Sheet.make.Goals as goal

pub returns : goal.returns
returns g c =
    let k = c.clear.ensures in
    let t = c.new-table.ensures in
    let l = c.in-Ok.ensures in (
      ap (λ (n : ℕ). sheet_refusal n c.args.limit) (sym c.capacity.ensures) ∙ l.0,
      c.first.ensures,
      record {
        sheet = record { program = c.args.program; number = c.args.number; limit = c.in-Ok.limit; state = _; table = c.new-table.result; list = c.clear.new.self };
        placed = refl;
        shows = just_made l.1 t.vacant t.inputs t.noted k.only (let r = l.2 in let e = l.1 in let w = k.same in let q = c.capacity.ensures in omega arith);
        same = k.same;
      },
    )
