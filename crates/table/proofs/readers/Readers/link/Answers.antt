use Rattle.std.proofs.Common.{refl}
use Rattle.table.proofs.Linking.{first_below, joins}
use Rattle.table.proofs.readers.Readers.link.Goals as goal

pub bounds-self-first : goal.bounds-self-first
bounds-self-first c = first_below c.args.self.now c.args.source c.args.place c.requires.unlinked c.requires.source

pub returns : goal.returns
returns c = joins c.args.self.now _ c.args.source c.args.place c.requires.source c.requires.place refl
