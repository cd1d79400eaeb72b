use Rattle.history.proofs.the_book_is_kept.Goals as goal
use Rattle.history.proofs.Ordered.{bookings_in_order}
use Rattle.history.proofs.Tried.{tried_holds}

pub returns : goal.returns
returns c = record { in_order = bookings_in_order; tried = tried_holds }
