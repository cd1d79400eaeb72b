use Rattle.std.proofs.Common.{refl, ap, arith}
use Rattle.table.specs.declared.record.Record.{Record}
use Rattle.table.proofs.Vacancy.{vacant, standing_in}
use Rattle.table.proofs.table.Table.clear.Goals as goal

pub returns : goal.returns
returns g c =
    let l = c.clear.ensures in
    let w = c.requires in
    let s = l.same in
    record {
      cleared = record {
        holding = record {
          standing = standing_in l.only (omega arith) (vacant c.args.limit.most (record {
            blank = λ q. ap (λ (r : Record). r.entry) (c.blanks-self.ensures q);
            spares = c.places_for-self.ensures;
            spare = c.all_places-self.ensures;
            rings = c.new-self.ensures;
          }));
        };
        room = c.value-self.ensures;
        same = record { inputs = refl; noted = refl };
      };
      same = l.same;
    }
