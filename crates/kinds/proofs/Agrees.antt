-- What chains over the fields of a line answer, against the kinds' rules.
use Rattle.std.proofs.Common.{◌≡◌, ℕ, suc, ◌+◌, ◌<◌, ◌≤◌, false, ◌&&◌, List, [], ◌∷◌, length, get_or, drop, ℤ, pos, Some, None, sym, refl, ap, ◌∙◌, ⊎_elim, arith}
use Rattle.std.proofs.lemmas.Bool.{cases_lt, and_left, and_right}
use Rattle.std.proofs.lemmas.List.{at_drop_more, at_drop_all, get_or_past}
use Rattle.std.specs.List.{list_all, enumerate_from, zip}
use Rattle.text.specs.declared.fields.Kind.{Kind}
use Rattle.text.specs.declared.line.Word.{Word}
use Rattle.text.specs.Numbers.{whole_of, kind_of}
use Rattle.kinds.specs.Named.{names, there, all_there}
use Rattle.kinds.specs.Kinds.{same_kind, kind_in, starts, takes}

-- the numbers with their indices from j on
pub there_over : (rs fs : ℕ) (w : Word) (j : ℕ) (zs : List ℤ) → list_all (λ p. there rs fs (names w p.0) (whole_of p.1)) (enumerate_from j zs) ≡ all_there rs fs w j zs
there_over rs fs w j [] = refl
there_over rs fs w j (z ∷ zs) = ap (λ b. there rs fs (names w j) (whole_of z) && b) (there_over rs fs w (j + 1) zs)

pub takes_over : (ks : List Kind) (zs ps : List ℤ) → length zs ≡ length ps → list_all (λ p. same_kind (kind_in ks (whole_of p.0)) (kind_of p.1)) (zip zs ps) ≡ takes ks zs ps
takes_over ks [] [] e = refl
takes_over ks [] (p ∷ ps) e = absurd (omega arith)
takes_over ks (z ∷ zs) [] e = absurd (omega arith)
takes_over ks (z ∷ zs) (p ∷ ps) e = ap (λ b. same_kind (kind_in ks (whole_of z)) (kind_of p) && b) (takes_over ks zs ps (omega arith))

pub takes_uneven : (ks : List Kind) (zs ps : List ℤ) → (length zs ≡ length ps → ⊥) → takes ks zs ps ≡ false
takes_uneven ks [] [] h = absurd (h refl)
takes_uneven ks [] (p ∷ ps) h = refl
takes_uneven ks (z ∷ zs) [] h = refl
takes_uneven ks (z ∷ zs) (p ∷ ps) h = and_right _ _ (takes_uneven ks zs ps (λ e. h (ap suc e)))

no_kind : (k : Kind) → same_kind (Some k) None ≡ false
no_kind k = grind arith

-- kinds, with their indices from j on, against the parameters from j on
pub starts_over : (lead : List Kind) (j : ℕ) (zs : List ℤ) → list_all (λ p. same_kind (Some p.1) (kind_of (get_or zs p.0 (pos 0)))) (enumerate_from j lead) ≡ starts lead (drop j zs)
starts_over [] j zs = refl
starts_over (k ∷ lead) j zs = ⊎_elim (within (starts_over lead (j + 1) zs)) past (cases_lt j (length zs))
  where
    within : list_all (λ p. same_kind (Some p.1) (kind_of (get_or zs p.0 (pos 0)))) (enumerate_from (j + 1) lead) ≡ starts lead (drop (j + 1) zs) → j < length zs → (same_kind (Some k) (kind_of (get_or zs j (pos 0))) && list_all (λ p. same_kind (Some p.1) (kind_of (get_or zs p.0 (pos 0)))) (enumerate_from (j + 1) lead)) ≡ starts (k ∷ lead) (drop j zs)
    within e l = ap (λ b. same_kind (Some k) (kind_of (get_or zs j (pos 0))) && b) e ∙ sym (at_drop_more (starts (k ∷ lead)) zs j (pos 0) l)

    past : length zs ≤ j → (same_kind (Some k) (kind_of (get_or zs j (pos 0))) && list_all (λ p. same_kind (Some p.1) (kind_of (get_or zs p.0 (pos 0)))) (enumerate_from (j + 1) lead)) ≡ starts (k ∷ lead) (drop j zs)
    past l = and_left _ _ (ap (λ z. same_kind (Some k) (kind_of z)) (get_or_past zs j (pos 0) l) ∙ no_kind k) ∙ sym (at_drop_all (starts (k ∷ lead)) zs j l)
