-- A program keeps the rules of texts.
use Rattle.std.proofs.Common.{arith, ◌≡◌, ℕ, Bool, true, ◌&&◌, List, None, Option, ap, ◌∙◌}
use Rattle.text.specs.First.{no_fault}
use Rattle.text.specs.Lines.{Said}
use Rattle.text.specs.Rendering.{all_fit}
use Rattle.kinds.specs.declared.fault.KindFault.{KindFault}
use Rattle.program.specs.declared.function.Function.{Function}
use Rattle.program.specs.Programs.{lines_with, lines_fault, keeps_rules}

pub keeps : (a b : ℕ) (run : List ℕ) (fs : List Function) (ls : List Said) → lines_with a b run fs ≡ ls → lines_fault ls ≡ None → all_fit ls ≡ true → keeps_rules a b run fs ≡ true
unfolding keeps_rules
keeps a b run fs ls e f g = ap (λ xs. no_fault (lines_fault xs) && all_fit xs) e ∙ ap (λ o. no_fault o && all_fit ls) f ∙ g

split : (o : Option KindFault) (b : Bool) → (no_fault o && b) ≡ true → (o ≡ None) × (b ≡ true)
split o b e = grind arith

pub kept : (a b : ℕ) (run : List ℕ) (fs : List Function) → keeps_rules a b run fs ≡ true → (lines_fault (lines_with a b run fs) ≡ None) × (all_fit (lines_with a b run fs) ≡ true)
unfolding keeps_rules
kept a b run fs e = split (lines_fault (lines_with a b run fs)) (all_fit (lines_with a b run fs)) e
