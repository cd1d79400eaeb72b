use Rattle.std.proofs.Common.{refl, ap}
use Rattle.table.specs.declared.record.Record.{Record}
use Rattle.table.proofs.Vacancy.{vacant}
use Rattle.table.proofs.table.Table.new.Goals as goal

pub returns : goal.returns
returns c = let e = c.places_for.ensures in record {
  vacant = vacant c.args.limit.most (record {
    blank = λ q. ap (λ (r : Record). r.entry) (c.blanks.ensures q);
    spares = e;
    spare = c.all_places.ensures;
    rings = c.new.ensures;
  });
  inputs = c.zeros-inputs.ensures;
  noted = refl;
}
