use Rattle.std.proofs.Common.{◌≡◌, vec_items, sym, ◌∙◌, arith, rules}
use Rattle.std.proofs.lemmas.Iterator.{YieldsList-from_slice, YieldsList-from_map}
use Rattle.std.proofs.lemmas.Iterator.Consumers.{sum_by_from_yields_List, fits_by_from_yields_list}
use Rattle.std.specs.List.{sum_by}
use Rattle.program.proofs.Sound.{sound}
use Rattle.program.proofs.Steps.{steps_of, steps_are}
use Rattle.program.proofs.program.Program.steps.Goals as goal

pub sum-requires-clause-fits : goal.sum-requires-clause-fits
sum-requires-clause-fits c =
    let fs = vec_items c.args.self.now.functions in
    fits_by_from_yields_list steps_of fs c.map.result _ (YieldsList-from_map _ steps_of (YieldsList-from_slice fs (cc)) c.map.ensures.closure (λ x r q k. search rules)) (omega (arith, steps_are fs, (sound c.args.self.now).steps_fit))

pub returns-clause-value : goal.returns-clause-value
returns-clause-value c =
    let fs = vec_items c.args.self.now.functions in
    sum_by_from_yields_List steps_of fs c.map.result _ c.sum.ensures.ran (YieldsList-from_map _ steps_of (YieldsList-from_slice fs (cc)) c.map.ensures.closure (λ x r q k. search rules)) ∙ sym (steps_are fs)

pub returns-clause-bound : goal.returns-clause-bound
returns-clause-bound c =
    let fs = vec_items c.args.self.now.functions in
    let e : c.sum.result ≡ sum_by steps_of fs = sum_by_from_yields_List steps_of fs c.map.result _ c.sum.ensures.ran (YieldsList-from_map _ steps_of (YieldsList-from_slice fs (cc)) c.map.ensures.closure (λ x r q k. search rules)) in
    omega (arith, e, steps_are fs, (sound c.args.self.now).steps_fit)
