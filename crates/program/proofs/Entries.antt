-- A line that keeps the rules is the line of the command that is read from it.
use Rattle.std.proofs.Common.{◌≡◌, ℕ, ◌+◌, true, List, [], ◌∷◌, length, get_or, ℤ, pos, negsuc, refl, ap, ◌∙◌, arith}
use Rattle.std.proofs.lemmas.Bool.{and_parts}
use Rattle.text.specs.declared.line.Word.{Word}
use Rattle.kinds.specs.declared.rules.Names.{Names}
use Rattle.kinds.specs.declared.rules.Names.TheVariants as m
use Rattle.text.specs.Numbers.{whole_of}
use Rattle.kinds.specs.Named.{names, there, all_there}
use Rattle.program.specs.Programs.{wholes}
use Rattle.program.specs.Formed.{entry_of, entries}

back : (rs fs : ℕ) (k : Names) (z : ℤ) → (k ≡ m.Value → ⊥) → there rs fs k (whole_of z) ≡ true → pos (entry_of z) ≡ z
back rs fs k (pos n) h e = refl
back rs fs m.Value (negsuc n) h e = absurd (h refl)
back rs fs m.Register (negsuc n) h e = absurd (cc)
back rs fs m.Function (negsuc n) h e = absurd (cc)

-- what is there is not negative
pub named_whole : (rs fs : ℕ) (k : Word) (j : ℕ) (zs : List ℤ) → ((i : ℕ) → names k i ≡ m.Value → ⊥) → all_there rs fs k j zs ≡ true → wholes (entries zs) ≡ zs
named_whole rs fs k j [] h e = refl
named_whole rs fs k j (z ∷ zs) h e =
    let p = and_parts (there rs fs (names k j) (whole_of z)) (all_there rs fs k (j + 1) zs) e in
    ap (λ y. y ∷ wholes (entries zs)) (back rs fs (names k j) z (h j) p.0) ∙ ap (λ ys. z ∷ ys) (named_whole rs fs k (j + 1) zs h p.1)

pub two_back : (zs : List ℤ) → length zs ≡ 2 → wholes (entries zs) ≡ zs → pos (entry_of (get_or zs 0 (pos 0))) ∷ pos (entry_of (get_or zs 1 (pos 0))) ∷ [] ≡ zs
two_back [] l e = absurd (omega arith)
two_back (a ∷ []) l e = absurd (omega arith)
two_back (a ∷ b ∷ []) l e = e
two_back (a ∷ b ∷ c ∷ zs) l e = absurd (omega arith)
