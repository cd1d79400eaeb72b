use Rattle.std.proofs.Common.{◌≡◌, ℕ, List, length, Err, vec_items, string_bytes, sym, ap, ◌∙◌, subst}
use Rattle.std.proofs.lemmas.List.{length-map}
use Rattle.std.proofs.lemmas.Result.{IfOk-weaker}
use Rattle.kinds.specs.declared.fault.KindFault.{KindFault}
use Rattle.kinds.specs.declared.fault.Refusal.{Refusal}
use Rattle.kinds.specs.declared.fault.Refusal.TheVariants.{Fault}
use Rattle.kinds.specs.Laws.{Faultless}
use Rattle.program.specs.declared.program.Program.{Program}
use Rattle.program.specs.Checks.{Says, Checks}
use Rattle.program.specs.View.{viewed, function_viewed}
use Rattle.program.specs.Sound.{steps_in}
use Rattle.journal.specs.Verdicts.{accepted_words, fault_words, Verdict, accepts, refuses}
use Rattle.journal.proofs.verdict.verdict.Goals as goal

accepting : (bs : List ℕ) (p : Program) (m n : ℕ) (out : List ℕ) → Faultless bs → Says bs p → m ≡ length (viewed p).functions → n ≡ steps_in (viewed p).functions → out ≡ accepted_words m n → Verdict bs out
accepting bs p m n out f s a b e = subst (Verdict bs) (sym (e ∙ ap (λ x. accepted_words x n) a ∙ ap (accepted_words (length (viewed p).functions)) b)) (accepts p f s)

pub returns-in-Ok : goal.returns-in-Ok
returns-in-Ok c =
    let p = c.check.new.place in
    let ok = c.in-Ok.ensures in
    IfOk-weaker c.format.result _ _ (λ s. accepting c.args.text.now p c.len-functions.result c.steps-steps.result (string_bytes s) ok.0 ok.1 (c.len-functions.ensures ∙ p.functions.ok.0 ∙ sym (length-map (vec_items p.functions) function_viewed)) c.steps-steps.ensures.value) c.format.ensures.ok

refusing : (bs : List ℕ) (old new : Program) (x : Refusal) (f : KindFault) (out : List ℕ) → x ≡ Fault f → Checks bs old (Err x) new → out ≡ fault_words f → Verdict bs out
refusing bs old new x f out i h e = subst (Verdict bs) (sym e) (refuses f (subst (λ y. Checks bs old (Err y) new) i h).0)

pub returns-in-Err-Fault : goal.returns-in-Err-Fault
returns-in-Err-Fault c = IfOk-weaker c.format-in-Err-Fault.result _ _ (λ s. refusing c.args.text.now c.args.place.now c.check.new.place c.in-Err-Fault.field-0 c.in-Err-Fault.fault (string_bytes s) c.in-Err-Fault.field-0-is c.in-Err-Fault.ensures) c.format-in-Err-Fault.ensures.ok
