-- For those who make the calls: a history grows by what each call ensures.
use mathlib.Core.Path.{◌≡◌, ◌∙◌, ap}
use mathlib.Core.List.{List, [], ◌∷◌, ◌++◌}
use mathlib.Core.Option.{Option}
use Prim.Native.Nat.{◌≤◌}
use lib.ListN.{length}
use Rattle.trace.specs.Trace.{Trace, size}
use Rattle.trace.specs.Listing.{canonical, rank}
use Rattle.trace.specs.Run.{Stands}
use Rattle.trace.proofs.Listed.{lines_count}
use Rattle.trace.proofs.Renamed.{size_renamed}
use Rattle.trace.proofs.Plain.{is_plain}
use Rattle.history.specs.Calls.{Call, Answer}
use Rattle.history.specs.Book.{Book, plain_run_of, plain_lines}
use Rattle.history.specs.Sheet.{Sheet, Does}
use Rattle.history.specs.History.{History, untouched, then}

pub history_then : {s s' s'' : Sheet} {cs : List Call} {ans : List Answer} {c : Call} {a : Answer} → History s cs ans s' → Does s' c a s'' → History s (cs ++ (c ∷ [])) (ans ++ (a ∷ [])) s''
history_then untouched d = then d untouched
history_then (then h k) d = then h (history_then k d)

-- S, as the book has it: the bound of the lines that may be read
pub line_bound : (b : Book) (t : Trace) → Stands b.made_of.program b.inputs t → size t ≤ b.made_of.limit →
    length (plain_lines (plain_run_of b)) ≡ size t
line_bound b t s f =
    ap (λ (o : Option Trace). length (plain_lines o)) ((is_plain b.made_of.program b.inputs t b.made_of.limit s).0 f)
    ∙ lines_count 0 0 (canonical t) ∙ size_renamed (rank t) t
