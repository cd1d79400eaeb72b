-- What a journal is answered.
use Rattle.std.specs.Prelude.{◌≡◌, ℕ, ◌<◌, Bool, List, [], ◌∷◌, ◌++◌, length, codes, IfSome, Option}
use Rattle.std.specs.Io.KnownBytes.{Appends}
use Rattle.text.specs.Lines.{Raw, lines_in}
use Rattle.journal.specs.declared.call.Call.TheVariants.{Passed, Text, Unknown}
use Rattle.journal.specs.Journal.{call_in, text_of, behind_text}
use Rattle.journal.specs.Verdicts.{Verdict}

-- call by call: lines of a journal, and the answers
pub data Answers : List Raw → List ℕ → Type 0 where
  ends : Answers [] []
  passes : (e : Bool) (l : List ℕ) (ls : List Raw) (out : List ℕ) → call_in l ≡ Passed → Answers ls out → Answers ((e, l) ∷ ls) out
  checks : (e : Bool) (l : List ℕ) (ls : List Raw) (said out : List ℕ) → call_in l ≡ Text → Verdict (text_of ls) said → Answers (behind_text ls) out → Answers ((e, l) ∷ ls) (said ++ out)
  no_call : (e : Bool) (l : List ℕ) (ls : List Raw) (out : List ℕ) → call_in l ≡ Unknown → Answers ls out → Answers ((e, l) ∷ ls) (l ++ (codes ": not a call\n" ++ out))

abbrev pub Answered : List ℕ → List ℕ → Type 0
Answered journal out = Answers (lines_in journal) out

-- the first call's answer is added to what stood before; the rest of the journal is still to be answered
pub record GoesOn (journal before rest after : List ℕ) : Type 0 where
  pub shorter : length rest < length journal
  pub said : List ℕ
  pub added : after ≡ before ++ said
  pub goes : (out : List ℕ) → Answered rest out → Answered journal (said ++ out)

-- the journal that was still to be read is answered, and the answer is added to what was written
abbrev pub Served : Option (List ℕ) → Option (List ℕ) → Option (List ℕ) → Type 0
Served read before after = IfSome read (λ journal. (out : List ℕ) × Answered journal out × Appends before after out)
