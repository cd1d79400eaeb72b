-- Commands and tails, counted function by function.
use Rattle.std.proofs.Common.{◌≡◌, ℕ, ◌+◌, List, [], ◌∷◌, map, vec_items, vec_len, sym, refl, ap, ◌∙◌}
use Rattle.std.proofs.lemmas.List.{length-map}
use Rattle.std.proofs.lemmas.List.Sums.{sum_by-cons}
use Rattle.std.specs.List.{sum_by}
use Rattle.program.specs.declared.function.Function.{Function}
use Rattle.program.specs.View.{command_viewed, function_viewed}
use Rattle.program.specs.Sound.{steps_in}

abbrev pub steps_of : Function → ℕ
steps_of f = vec_len f.commands + 1

pub steps_are : (fs : List Function) → steps_in (map function_viewed fs) ≡ sum_by steps_of fs
steps_are [] = refl
steps_are (f ∷ fs) =
    ap (λ n. n + 1 + steps_in (map function_viewed fs)) (length-map (vec_items f.commands) command_viewed ∙ sym f.commands.ok.0) ∙ ap (λ n. steps_of f + n) (steps_are fs) ∙ sym (sum_by-cons steps_of f fs)
