-- The program of a new place keeps the rules.
use Rattle.std.proofs.Common.{◌≡◌, ℕ, ◌<◌, true, leb, List, [], ◌∷◌, ◌++◌, length, pos, refl, ap, ◌∙◌, arith}
use Rattle.std.proofs.lemmas.Fmt.{decimal_digit}
use Rattle.text.specs.Rendering.{fits, all_fit}
use Rattle.text.specs.declared.line.Word.TheVariants as w
use Rattle.program.specs.declared.function.Function.{Function}
use Rattle.program.specs.Programs.{function_lines, lines_with, keeps_rules}
use Rattle.program.specs.Smallest.{zero_lines, smallest_lines}
use Rattle.program.proofs.Kept.{keeps}

pub smallest_is : (run : List ℕ) (fs : List Function) (f : Function) → run ≡ [] → fs ≡ f ∷ [] → function_lines f ≡ zero_lines → lines_with 1 0 run fs ≡ smallest_lines
smallest_is run fs f r e l = ap (λ xs. lines_with 1 0 xs fs) r ∙ ap (lines_with 1 0 []) e ∙ ap (λ ls. (w.Inp, pos 1 ∷ pos 0 ∷ []) ∷ (w.Run, []) ∷ (ls ++ [])) l

digit_fits : (n : ℕ) → n < 10 → fits (pos n) ≡ true
digit_fits n l = ap (λ ds. leb (length ds) 6) (decimal_digit n l)

smallest_fits : all_fit smallest_lines ≡ true
smallest_fits =
    let zero' = digit_fits 0 (omega arith) in
    let one = digit_fits 1 (omega arith) in
    let two = digit_fits 2 (omega arith) in
    simp (zero', one, two)

pub smallest_keeps : (run : List ℕ) (fs : List Function) → lines_with 1 0 run fs ≡ smallest_lines → keeps_rules 1 0 run fs ≡ true
smallest_keeps run fs e = keeps 1 0 run fs smallest_lines e refl smallest_fits
