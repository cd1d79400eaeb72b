-- Every call is answered, and what it answers follows from the calls alone.
use Rattle.std.specs.Prelude.{◌≡◌, List}
use Rattle.history.specs.Calls.{Make, Call, Answer}
use Rattle.history.specs.Sheet.{Sheet, fresh, Does, shown_result, shown_lines}
use Rattle.history.specs.History.{History}

-- the call c on the sheet s has an answer
pub record Answered (s : Sheet) (c : Call) : Type 0 where
  pub answer : Answer
  pub leaves : Sheet
  pub does : Does s c answer leaves

-- whatever calls a sheet has had, each further call has an answer
abbrev pub EveryCallIsAnswered : Type 0
EveryCallIsAnswered = (k : Make) (cs : List Call) (ans : List Answer) (s : Sheet) → History (fresh k) cs ans s → (c : Call) → Answered s c

-- two sheets keep the same book, and show the same result and lines
pub record LookAlike (s s₂ : Sheet) : Type 0 where
  pub books : s.keeps ≡ s₂.keeps
  pub results : shown_result s.trace ≡ shown_result s₂.trace
  pub listings : shown_lines s.trace ≡ shown_lines s₂.trace

-- two sheets made alike that have had the same calls answered alike, with every number, and look alike, at whatever places their records
-- stand
abbrev pub AnswersAreDetermined : Type 0
AnswersAreDetermined = (k : Make) (cs : List Call) (ans ans₂ : List Answer) (s s₂ : Sheet) →
    History (fresh k) cs ans s → History (fresh k) cs ans₂ s₂ → (ans ≡ ans₂) × LookAlike s s₂
