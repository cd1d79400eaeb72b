use Rattle.trace.proofs.tried_sheets_hold.Goals as goal
use Rattle.trace.proofs.Tried.{tried_sheets_hold}

pub returns : goal.returns
returns c = tried_sheets_hold
