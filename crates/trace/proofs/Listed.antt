-- A line for each record.
use mathlib.Core.Path.{◌≡◌, refl, ◌∙◌, ap}
use Prim.Native.Nat.{ℕ, suc, ◌+◌}
use native.Mathlib.Omega.{arith}
use lib.ListN.{length, length-append}
use Rattle.trace.specs.Trace.{Trace, write, new, read, size}
use Rattle.trace.specs.Listing.{rank, canonical, lines}
use Rattle.trace.specs.Laws.{OneLineEach}
use Rattle.trace.proofs.Renamed.{size_renamed}

pub lines_count : (d r : ℕ) (t : Trace) → length (lines d r t) ≡ size t
lines_count d r (write x) = refl
lines_count d r (new n f vs inner rest) =
    let l = length-append (lines r (suc r) inner) (lines d (suc r + size inner) rest) in
    let a = lines_count r (suc r) inner in
    let b = lines_count d (suc r + size inner) rest in omega arith
lines_count d r (read n s b x rest) = ap suc (lines_count d (suc r) rest)

pub one_line_each : OneLineEach
one_line_each t = lines_count 0 0 (canonical t) ∙ size_renamed (rank t) t
