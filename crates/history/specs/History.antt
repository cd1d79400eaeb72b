-- Histories of sheets, and an old sheet against a new one.
use Rattle.std.specs.Prelude.{◌≡◌, List, [], ◌∷◌, ◌↔◌, ℕ, suc, ◌<◌}
use Rattle.std.proofs.Math.Option.{some, none}
use Rattle.trace.specs.Run.{initial, Stands, plain_run}
use Rattle.program.specs.declared.value.InputContent.{InputContent}
use Rattle.trace.specs.Trace.{Trace, size, places, Distinct}
use Rattle.trace.specs.Listing.{lines, result_of}
use Rattle.trace.specs.Turns.{Turns, ReadOut}
use Rattle.history.specs.Calls.{settled, unsettled, Sort, resting, opened, Pass, Make, Call, OPEN, POST, SETTLE, RESULT, LINE, Answer, done, told_number, show}
use Rattle.history.specs.Book.{Book, rests, book_step, book_from, book_of, plain_run_of, sort_before, noted, Settles}
use Rattle.history.specs.Sheet.{Sheet, fresh, Does, shown_result, shown_lines, standing_count}

-- `History s cs ans s'`: the calls cs are made on the sheet s in order, answer ans, and leave s'; nothing else happens to it
pub data History : Sheet → List Call → List Answer → Sheet → Type 0 where
  untouched : {s : Sheet} → History s [] [] s
  then : {s s' s'' : Sheet} {c : Call} {a : Answer} {cs : List Call} {ans : List Answer} →
      Does s c a s' → History s' cs ans s'' → History s (c ∷ cs) (a ∷ ans) s''

-- ── the new sheet ──

-- a pass of this sort that bears the number n
abbrev pub a_pass : Sort → ℕ → Pass
a_pass o n = record { sort = o; number = n }

-- the same program and limit, under the number n
abbrev pub renumbered : Make → ℕ → Make
renumbered k n = record { program = k.program; number = n; limit = k.limit }

-- each of the inputs is posted, from input i on
abbrev pub posts : Pass → ℕ → List InputContent → List Call
posts q i [] = []
posts q i (x ∷ is) = POST q i x ∷ posts q (suc i) is

-- a new sheet of the number n is opened, and every input posted
abbrev pub fill_calls : ℕ → List InputContent → List Call
fill_calls n is = OPEN (a_pass (resting unsettled) n) ∷ posts (a_pass opened n) 0 is

-- a new sheet beside the old one: made from the same program and limit, posted with the inputs `is`, and settled; it answered
-- a and is now s
pub record NewBeside (k : Make) (is : List InputContent) (a : Answer) (s : Sheet) : Type 0 where
  pub number : ℕ
  pub answers : List Answer
  pub filled : Sheet
  pub fills : History (fresh (renumbered k number)) (fill_calls number is) answers filled
  pub settles : Does filled (SETTLE (a_pass opened number)) a s

-- there is one for the number n
pub record SomeNew (k : Make) (is : List InputContent) (n : ℕ) : Type 0 where
  pub answer : Answer
  pub sheet : Sheet
  pub beside : NewBeside k is answer sheet
  pub numbered_so : beside.number ≡ n

-- none of these calls was refused
abbrev pub AllTaken : List Answer → Type 0
AllTaken [] = Unit {0}
AllTaken (a ∷ ans) = (told_number a ≡ none) × AllTaken ans

-- ── what both hold ──

-- the sheet s holds the plain run t: its result, its listing, its count of records
pub record HoldsPlain (t : Trace) (s : Sheet) : Type 0 where
  pub result : shown_result s.trace ≡ show (result_of t)
  pub listing : shown_lines s.trace ≡ lines 0 0 t
  pub records : standing_count s.trace ≡ size t

-- a reading
pub data Reading : Type 0 where
  of_result : Reading
  of_line : ℕ → Reading

-- it, as a call on a settled sheet of the number n
abbrev pub reading : Reading → ℕ → Call
reading of_result n = RESULT (a_pass (resting settled) n)
reading (of_line r) n = LINE (a_pass (resting settled) n) r

-- no settle among these calls
abbrev pub NoSettle : Book → List Call → Type 0
NoSettle b [] = Unit {0}
NoSettle b (c ∷ cs) = ¬ (Settles b c) × NoSettle (book_step b c) cs

-- the old sheet, which answered a and is s, is as a new one, which answered a₂ and is s₂; b is the book after the settle
pub record OldAsNew (b : Book) (a : Answer) (s : Sheet) (a₂ : Answer) (s₂ : Sheet)
    (new : NewBeside b.made_of b.inputs a₂ s₂) : Type 0 where
  -- posting the book's inputs to the new sheet is never refused
  pub posts_taken : AllTaken new.answers
  -- each says too large exactly where the plain run is, and otherwise both hold the plain run
  pub old_too_large : (told_number a ≡ some 21) ↔ (plain_run_of b ≡ none)
  pub new_too_large : (told_number a₂ ≡ some 21) ↔ (plain_run_of b ≡ none)
  pub old_holds : (t : Trace) → plain_run_of b ≡ some t → HoldsPlain t s
  pub new_holds : (t : Trace) → plain_run_of b ≡ some t → HoldsPlain t s₂
  -- until the old one settles again, both give the same readings whenever the old one's pass is a settled one
  pub read_alike : (cs : List Call) (ans : List Answer) (s' : Sheet) → History s cs ans s' → NoSettle b cs →
      (book_from b cs).state ≡ rests settled → (r : Reading) (x y : Answer) (s'' s₂' : Sheet) →
      Does s' (reading r b.made_of.number) x s'' → Does s₂ (reading r new.number) y s₂' → x ≡ y

-- the settle had a trace, that of s₀, which stood on the inputs at open, or at the turn, as the book b₀ has them: its records had
-- their turns
pub record ByTurns (b₀ b : Book) (s₀ : Sheet) (a : Answer) (s : Sheet) : Type 0 where
  pub old_trace : Trace
  pub new_trace : Trace
  pub e : ℕ
  pub m : ℕ
  pub stood : s₀.trace ≡ some old_trace
  pub stood_on : Stands b.made_of.program (noted b₀) old_trace
  pub stands : s.trace ≡ some new_trace
  pub turns : Turns b.made_of.program (places old_trace) (initial b.inputs) old_trace new_trace e m
  -- exactly the stale reads were re-executed, E counts them and M the records made, and all others stand in their old places
  pub read_out : ReadOut turns
  pub apart : Distinct (places new_trace)
  pub answers : a ≡ done 1 e m (size new_trace) (a_pass (resting settled) b.made_of.number)
  -- no other numbers can be given
  pub counts : (u : Trace) (f n : ℕ) →
      Turns b.made_of.program (places old_trace) (initial b.inputs) old_trace u f n → Distinct (places u) → (f ≡ e) × (n ≡ m)
  -- and they are the book's: those of the plain run's own trace on the inputs at open
  pub by_value : (t u : Trace) (f n : ℕ) → plain_run b.made_of.limit b.made_of.program (noted b₀) ≡ some t →
      Turns b.made_of.program (places t) (initial b.inputs) t u f n → Distinct (places u) → (f ≡ e) × (n ≡ m)

-- the settle had none: all was run anew, E is 0, and M is S
pub record RunAnew (b : Book) (a : Answer) (s : Sheet) : Type 0 where
  pub new_trace : Trace
  pub stands : s.trace ≡ some new_trace
  pub answers : a ≡ done 2 0 (size new_trace) (size new_trace) (a_pass (resting settled) b.made_of.number)

-- a settle of the sheet s₀, whose book was b₀ before and is b afterwards: it answered a and left s
pub record AtSettle (b₀ b : Book) (s₀ : Sheet) (a : Answer) (s : Sheet) : Type 0 where
  -- too large: no trace of L records or fewer stands
  pub too_large_means : (plain_run_of b ≡ none) ↔ ((t : Trace) → Stands b.made_of.program b.inputs t → b.made_of.limit < size t)
  -- there is a new sheet under every number, and each is as the old one
  pub new_sheets : (n : ℕ) → SomeNew b.made_of b.inputs n
  pub beside : (a₂ : Answer) (s₂ : Sheet) (new : NewBeside b.made_of b.inputs a₂ s₂) → OldAsNew b a s a₂ s₂ new
  -- the settle has a trace exactly where the sort before open or turn was settled
  pub with_trace : sort_before b₀.state ≡ settled → ¬ (plain_run_of b ≡ none) → ByTurns b₀ b s₀ a s
  pub without_trace : sort_before b₀.state ≡ unsettled → ¬ (plain_run_of b ≡ none) → RunAnew b a s

-- a sheet that was made from k and has had the calls cs keeps the plain book, and each settle that follows is as said
pub record Compared (k : Make) (cs : List Call) (s : Sheet) : Type 0 where
  pub by_the_book : s.keeps ≡ book_of k cs
  pub same_make : (book_of k cs).made_of ≡ k
  pub at_settle : (c : Call) (a : Answer) (s' : Sheet) → Does s c a s' → Settles (book_of k cs) c →
      AtSettle (book_of k cs) (book_step (book_of k cs) c) s a s'

-- whatever calls a sheet has had, refused ones included, each of its settles leaves it as a new sheet, and by turns
abbrev pub OldAgainstNew : Type 0
OldAgainstNew = (k : Make) (cs : List Call) (ans : List Answer) (s : Sheet) → History (fresh k) cs ans s → Compared k cs s
