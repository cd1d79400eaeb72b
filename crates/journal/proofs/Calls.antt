-- Each call's answer.
use Rattle.std.proofs.Common.{◌≡◌, ℕ, ◌≤◌, List, [], ◌∷◌, ◌++◌, length, codes, sym, ap, ◌∙◌, subst, arith}
use Rattle.std.proofs.lemmas.List.{append-nil, append_assoc}
use Rattle.text.specs.Lines.{Raw, lines_in}
use Rattle.journal.specs.declared.call.Call.TheVariants.{Passed, Text, Unknown}
use Rattle.journal.specs.Journal.{call_in, text_of, behind_text}
use Rattle.journal.specs.Verdicts.{Verdict}
use Rattle.journal.specs.Answers.{Answers, passes, checks, no_call, Answered, GoesOn}
use Rattle.journal.specs.Cut.{Cut}

module _ (journal line behind before : List ℕ) (c : Cut journal line behind) where
  first : (out : List ℕ) → Answers ((c.ended, line) ∷ lines_in behind) out → Answered journal out
  first out a = subst (λ (ls : List Raw). Answers ls out) (sym c.lines) a

  pub passed : Passed ≡ call_in line → GoesOn journal before behind before
  passed e = record { shorter = c.shorter; said = []; added = sym (append-nil before); goes = λ out a. first out (passes c.ended line (lines_in behind) out (sym e) a) }

  pub checked : (text rest said after : List ℕ) → Text ≡ call_in line → text ≡ text_of (lines_in behind) → lines_in rest ≡ behind_text (lines_in behind) → length rest ≤ length behind → Verdict text said → after ≡ before ++ said → GoesOn journal before rest after
  checked text rest said after e t r l v a = record {
    shorter = omega (arith, c.shorter);
    said = said;
    added = a;
    goes = λ out b. first (said ++ out) (checks c.ended line (lines_in behind) said out (sym e) (subst (λ bs. Verdict bs said) t v) (subst (λ (ls : List Raw). Answers ls out) r b));
  }

  pub unknown : (between after : List ℕ) → Unknown ≡ call_in line → between ≡ before ++ line → after ≡ between ++ codes ": not a call\n" → GoesOn journal before behind after
  unknown between after e a b = record {
    shorter = c.shorter;
    said = line ++ codes ": not a call\n";
    added = b ∙ ap (λ xs. xs ++ codes ": not a call\n") a ∙ append_assoc before line (codes ": not a call\n");
    goes = λ out h. subst (Answered journal) (sym (append_assoc line (codes ": not a call\n") out)) (first (line ++ (codes ": not a call\n" ++ out)) (no_call c.ended line (lines_in behind) out (sym e) h));
  }
