-- What is read line by line is what the lines say.
use Rattle.std.proofs.Common.{◌≡◌, ℕ, true, arith, List, [], ◌∷◌, get_or, ℤ, pos, sym, refl, ap, ◌∙◌, subst}
use Rattle.std.specs.List.{flat_map}
use Rattle.text.specs.declared.line.Word.{Word}
use Rattle.text.specs.declared.line.Word.TheVariants as w
use Rattle.text.specs.Lines.{Said}
use Rattle.shape.specs.declared.standing.Due.TheVariants as d
use Rattle.shape.specs.Parts.{part_of, fits}
use Rattle.program.specs.declared.function.Function.{Function}
use Rattle.program.specs.Programs.{function_lines, lines_with, wholes}
use Rattle.program.specs.Formed.{Held, due_after, Formed, Gives, entry_of, entries}
use Rattle.program.proofs.Entries.{two_back}

pub inputs_due : (k : Word) → fits d.Inputs (part_of k) ≡ true → k ≡ w.Inp
inputs_due k e = grind arith

pub run_due : (k : Word) → fits d.Run (part_of k) ≡ true → k ≡ w.Run
run_due k e = grind arith

pub gives : (l m : List Said) (k : Word) (zs : List ℤ) (x : Said) → l ≡ x ∷ m → (k, zs) ≡ x → Gives l zs m
gives l m k zs x e q = subst (λ ls. Gives ls zs m) (sym (e ∙ ap (λ y. y ∷ m) (sym q))) (refl, refl)

-- the first two lines
pub opening : (ls m n : List Said) (zs ys : List ℤ) → Formed d.Inputs ls → Gives ls zs m → Gives m ys n → (ls ≡ (w.Inp, zs) ∷ (w.Run, ys) ∷ n) × Held w.Inp zs × Held w.Run ys × Formed d.Head n
opening [] m n zs ys f g h = absurd (cc)
opening ((k, us) ∷ ls) m n zs ys f g h =
    let e = inputs_due k f.0 in
    let a : Held w.Inp zs = subst (λ (j : Word). Held j zs) e (subst (Held k) (sym g.0) f.1) in
    let r : Formed d.Run m = subst (λ (j : Word). Formed (due_after (part_of j)) m) e (subst (Formed (due_after (part_of k))) (sym g.1) f.2) in
    let s = second m n ys r h in
    (ap (λ (j : Word). (j, us) ∷ ls) e ∙ ap (λ us. (w.Inp, us) ∷ ls) (sym g.0) ∙ ap (λ xs. (w.Inp, zs) ∷ xs) (sym g.1 ∙ s.0), a, s.1, s.2)
  where
    second : (m n : List Said) (ys : List ℤ) → Formed d.Run m → Gives m ys n → (m ≡ (w.Run, ys) ∷ n) × Held w.Run ys × Formed d.Head n
    second [] n ys f h = absurd (cc)
    second ((k, bs) ∷ m) n ys f h =
        let e = run_due k f.0 in
        (ap (λ (j : Word). (j, bs) ∷ m) e ∙ ap (λ bs. (w.Run, bs) ∷ m) (sym h.0) ∙ ap (λ xs. (w.Run, ys) ∷ xs) (sym h.1), subst (λ (j : Word). Held j ys) e (subst (Held k) (sym h.0) f.1), subst (λ (j : Word). Formed (due_after (part_of j)) n) e (subst (Formed (due_after (part_of k))) (sym h.1) f.2))

-- the program that is read says what the lines say
pub program_read : (ls m n : List Said) (zs ys : List ℤ) (a b : ℕ) (run : List ℕ) (fs : List Function) → Formed d.Inputs ls → Gives ls zs m → Gives m ys n → a ≡ entry_of (get_or zs 0 (pos 0)) → b ≡ entry_of (get_or zs 1 (pos 0)) → run ≡ entries ys → flat_map function_lines fs ≡ n → lines_with a b run fs ≡ ls
program_read ls m n zs ys a b run fs f g h p q r t =
    let o = opening ls m n zs ys f g h in
    ap (λ x. lines_with x b run fs) p ∙ ap (λ x. lines_with (entry_of (get_or zs 0 (pos 0))) x run fs) q ∙ ap (λ x. (w.Inp, x) ∷ (w.Run, wholes run) ∷ flat_map function_lines fs) (two_back zs o.1.0 o.1.1) ∙ ap (λ x. (w.Inp, zs) ∷ (w.Run, x) ∷ flat_map function_lines fs) (ap wholes r ∙ o.2) ∙ ap (λ x. (w.Inp, zs) ∷ (w.Run, ys) ∷ x) t ∙ sym o.0
