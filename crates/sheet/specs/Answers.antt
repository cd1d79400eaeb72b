-- What the calls ensure.
use Rattle.std.specs.Prelude.{◌≡◌, ℕ, true, false, ◌↔◌, Ok, Err, Result}
use Rattle.std.proofs.Math.Option.{some, none}
use Rattle.history.specs.Calls.{Call, Answer, refused, gives, done, too_large, settled, unsettled, resting, opened, told_number}
use Rattle.trace.specs.Trace.{Trace}
use Rattle.history.specs.Book.{refusal, plain_run_of}
use Rattle.history.specs.History.{a_pass, HoldsPlain}
use Rattle.history.specs.Sheet.{Does}
use Rattle.order_list.specs.declared.list.OrderList.{Ghosts}
use Rattle.sheet.specs.declared.pass.OpenPass.{OpenPass}
use Rattle.sheet.specs.declared.pass.UnsettledPass.{UnsettledPass}
use Rattle.sheet.specs.declared.refusal.Refused.{Refused}
use Rattle.sheet.specs.declared.settled.Mark.{Mark}
use Rattle.sheet.specs.declared.settled.Mark.TheVariants.{ByTurns, Anew}
use Rattle.sheet.specs.declared.settled.Settled.{Settled}
use Rattle.sheet.specs.declared.settled.NotSettled.{NotSettled}
use Rattle.sheet.specs.declared.settled.NotSettled.TheVariants as instead
use Rattle.sheet.specs.declared.refusal.Refusal.TheVariants.{WrongPass}
use Rattle.sheet.specs.declared.sheet.State.{State}
use Rattle.sheet.specs.declared.sheet.Sheet.{Sheet}
use Rattle.sheet.specs.Refusals.{refusal_of}
use Rattle.sheet.specs.Shows.{Model, takes_pass, Shows}

-- ── answers, in the words of histories ──

abbrev pub open_answer : {P : Type 0} → Result OpenPass (Refused P) → Answer
open_answer (Ok q) = gives (a_pass opened q.0)
open_answer (Err e) = refused (refusal_of e.refusal)

abbrev pub rest_answer : {P : Type 0} → Result UnsettledPass (Refused P) → Answer
rest_answer (Ok q) = gives (a_pass (resting unsettled) q.0)
rest_answer (Err e) = refused (refusal_of e.refusal)

-- the number of a mark
abbrev pub mark_of : Mark → ℕ
mark_of ByTurns = 1
mark_of Anew = 2

abbrev pub settle_answer : Result Settled NotSettled → Answer
settle_answer (Ok k) = done (mark_of k.mark) k.reexecuted k.made k.standing (a_pass (resting settled) k.pass.0)
settle_answer (Err (instead.Refused e)) = refused (refusal_of e.refusal)
settle_answer (Err (instead.TooLarge q)) = too_large (a_pass (resting unsettled) q.0)

-- a refusal hands the pass back
abbrev pub HandsBack : {A P : Type 0} → P → Result A (Refused P) → Type 0
HandsBack q (Ok x) = Unit {0}
HandsBack q (Err e) = e.pass ≡ q

abbrev pub SettleHandsBack : OpenPass → Result Settled NotSettled → Type 0
SettleHandsBack q (Ok k) = Unit {0}
SettleHandsBack q (Err (instead.Refused e)) = e.pass ≡ q
SettleHandsBack q (Err (instead.TooLarge p)) = Unit {0}

-- a pass of the number n that goes with the state k is admitted where the sheet takes it; else it is handed back, and is the wrong pass
abbrev pub Admits : {X P : Type 0} → Sheet X → ℕ → State → P → Result P (Refused P) → Type 0
Admits s n k q (Ok p) = (takes_pass s n k ≡ true) × (p ≡ q)
Admits s n k q (Err e) = (takes_pass s n k ≡ false) × (e.refusal ≡ WrongPass) × (e.pass ≡ q)

-- ── what a call does ──

-- from the model m the call c answered a, and the sheet s shows what it left
pub record Done {X : Type 0} (g : Ghosts X) (m : Model) (c : Call) (a : Answer) (s : Sheet X) : Type 0 where
  pub after : Model
  pub shows : Shows g s after
  pub does : Does m c a after

-- the call c on the sheet s answered a and left s': whatever model s showed, the call did to it what it is to do
pub record Serves {X : Type 0} (g : Ghosts X) (s : Sheet X) (c : Call) (a : Answer) (s' : Sheet X) : Type 0 where
  pub serves : (m : Model) → Shows g s m → Done g m c a s'

-- ── settles ──

-- a settle that is not refused: it is too large exactly where the plain run of the inputs makes more than L records; else the sheet
-- holds the result, the listing and the count of records of the plain run
pub record Plainly (m : Model) (c : Call) (a : Answer) (after : Model) : Type 0 where
  pub too_large : refusal m.keeps c ≡ none → (told_number a ≡ some 21) ↔ (plain_run_of m.keeps ≡ none)
  pub holds : refusal m.keeps c ≡ none → (t : Trace) → plain_run_of m.keeps ≡ some t → HoldsPlain t after

-- whatever model s showed, the settle c did to it what it is to do, and left the plain run
pub record Settles {X : Type 0} (g : Ghosts X) (s : Sheet X) (c : Call) (a : Answer) (s' : Sheet X) : Type 0 where
  pub settles : (m : Model) → Shows g s m → (d : Done g m c a s') × Plainly m c a d.after
