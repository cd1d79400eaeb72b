-- The fault that is told is the least of all that the text has, and none is told exactly when it has none.
use Rattle.std.proofs.Common.{◌≡◌, ℕ, zero, suc, ◌+◌, ◌/◌, ◌<◌, ◌≤◌, Bool, true, false, cond, ◌&&◌, leb, ◌⊎◌, List, length, get_or, drop, is_some, Some, None, Ok, Err, Option, sym, refl, subst, inl, inr, ⊎_elim, arith}
use Rattle.std.proofs.lemmas.Bool.{leb-true, leb-false}
use Rattle.text.specs.declared.line.Word.{Word}
use Rattle.text.specs.declared.line.LineFault.{LineFault}
use Rattle.text.specs.declared.line.LineFault.TheVariants as f
use Rattle.shape.specs.declared.fault.ShapeFault.{ShapeFault}
use Rattle.shape.specs.declared.fault.ShapeFault.TheVariants as e
use Rattle.kinds.specs.declared.fault.KindFault.{KindFault}
use Rattle.kinds.specs.declared.fault.KindFault.TheVariants as k
use Rattle.text.specs.Numbers.{fields_stand, numbers_in}
use Rattle.text.specs.Lines.{Told as Line-told, word_of, right_length, worded, Raw, lines_in, same, line_rules, line_fault, text_fault, fault_in, lines_of}
use Rattle.shape.specs.Shapes.{after, start, shape_rules, shape_fault_of, over_lines}
use Rattle.kinds.specs.Kinds.{known_after, kind_rules, unknown, heads_of, kind_fault_of, over_shape, fault_of}
use Rattle.kinds.specs.Laws.{Breaks, keeps_line, keeps_shape, keeps_kinds, HasFault, of_length, of_line, of_shape, of_kinds, NotAfter, Least, Faultless}
use Rattle.kinds.proofs.Least.{judge, told, clean}

abbrev line_fault_by : ℕ → ℕ → LineFault
line_fault_by zero n = f.Length n
line_fault_by (suc zero) n = f.Word n
line_fault_by (suc (suc r)) n = f.Field n

by_fields : (n : ℕ) (k : Word) (fs : List ℕ) (b : Bool) → fault_in {T = Line-told} (cond b (Ok (n, (k, numbers_in fs))) (Err (f.Field n))) ≡ cond b None (Some (f.Field n))
by_fields n k fs true = refl
by_fields n k fs false = refl

by_word : (n : ℕ) (o : Option Word) (fs : List ℕ) → fault_in (worded n o fs) ≡ judge true (is_some o) (fields_stand (length fs / 6) fs) (f.Length n) (f.Word n) (f.Field n)
by_word n None fs = refl
by_word n (Some k) fs = by_fields n k fs (fields_stand (length fs / 6) fs)

by_length : (n : ℕ) (b : Bool) (o : Option Word) (fs : List ℕ) → fault_in (cond b (worded n o fs) (Err (f.Length n))) ≡ judge b (is_some o) (fields_stand (length fs / 6) fs) (f.Length n) (f.Word n) (f.Field n)
by_length n false o fs = refl
by_length n true o fs = by_word n o fs

line_by : (s : Unit {0}) (n : ℕ) (x : Raw) (b : Bool) → line_rules s n x b ≡ judge (keeps_line 0 s x b) (keeps_line 1 s x b) (keeps_line 2 s x b) (f.Length n) (f.Word n) (f.Field n)
line_by s n (false, l) b = refl
line_by s n (true, l) b = by_length n (right_length (length l)) (word_of (get_or l 0 0) (get_or l 1 0) (get_or l 2 0)) (drop 3 l)

abbrev shape_fault_by : ℕ → ℕ → ShapeFault
shape_fault_by zero n = e.Position n
shape_fault_by (suc zero) n = e.Count n
shape_fault_by (suc (suc r)) n = e.Range n

abbrev kind_fault_by : ℕ → ℕ → KindFault
kind_fault_by zero n = k.Missing n
kind_fault_by (suc r) n = k.Kinds n

same_layer : (base a i r j q : ℕ) → (i < j) ⊎ ((i ≡ j) × (r ≤ q)) → NotAfter a i (base + r) a j (base + q)
same_layer base a i r j q (inl h) = inr (refl, inl h)
same_layer base a i r j q (inr h) = inr (refl, inr (h.0, omega (arith, h.1)))

module _ (bs : List ℕ) where
  -- layer 1
  over_length : (length bs ≡ 0) ⊎ (65536 < length bs) → (b j q : ℕ) → HasFault bs b j q → NotAfter 1 0 1 b j q
  over_length l _ _ _ (of_length h) = inr (refl, inr (refl, omega arith))
  over_length l _ _ _ (of_line i r h) = inr (refl, inl (omega (arith, h.number)))
  over_length l _ _ _ (of_shape i r h) = inl (omega arith)
  over_length l _ _ _ (of_kinds i r h) = inl (omega arith)

  in_lines : 1 ≤ length bs → length bs ≤ 65536 → (i r : ℕ) → ((j q : ℕ) → Breaks same keeps_line tt 1 (lines_in bs) j q → (i < j) ⊎ ((i ≡ j) × (r ≤ q))) → (b j q : ℕ) → HasFault bs b j q → NotAfter 1 i (1 + r) b j q
  in_lines lo hi i r least _ _ _ (of_length h) = absurd (⊎_elim (λ x. omega arith) (λ x. omega arith) h)
  in_lines lo hi i r least _ _ _ (of_line j q h) = same_layer 1 1 i r j q (least j q h)
  in_lines lo hi i r least _ _ _ (of_shape j q h) = inl (omega arith)
  in_lines lo hi i r least _ _ _ (of_kinds j q h) = inl (omega arith)

  of_told : 1 ≤ length bs → length bs ≤ 65536 → (i r : ℕ) → r < 3 → Breaks same keeps_line tt 1 (lines_in bs) i r → ((j q : ℕ) → Breaks same keeps_line tt 1 (lines_in bs) j q → (i < j) ⊎ ((i ≡ j) × (r ≤ q))) → Least bs (k.Shape (e.Line (line_fault_by r i)))
  of_told lo hi i zero s h least = record { has = of_line i 0 h; least = in_lines lo hi i 0 least }
  of_told lo hi i (suc zero) s h least = record { has = of_line i 1 h; least = in_lines lo hi i 1 least }
  of_told lo hi i (suc (suc zero)) s h least = record { has = of_line i 2 h; least = in_lines lo hi i 2 least }
  of_told lo hi i (suc (suc (suc r))) s h least = absurd (omega arith)

  line_least : (a b : Bool) → leb 1 (length bs) ≡ a → leb (length bs) 65536 ≡ b → (x : LineFault) → cond (a && b) (line_fault 1 (lines_in bs)) (Some (f.Length 0)) ≡ Some x → Least bs (k.Shape (e.Line x))
  line_least false b p q x h = let i : f.Length 0 ≡ x = cc in let l : (length bs ≡ 0) ⊎ (65536 < length bs) = inl (omega (arith, leb-false 1 (length bs) p)) in subst (λ (y : LineFault). Least bs (k.Shape (e.Line y))) i (record { has = of_length l; least = over_length l })
  line_least true false p q x h = let i : f.Length 0 ≡ x = cc in let l : (length bs ≡ 0) ⊎ (65536 < length bs) = inr (leb-false (length bs) 65536 q) in subst (λ (y : LineFault). Least bs (k.Shape (e.Line y))) i (record { has = of_length l; least = over_length l })
  line_least true true p q x h =
      let t = told same line_rules keeps_line line_fault_by line_by (λ r s x b. refl) tt 1 (lines_in bs) x h in
      subst (λ (y : LineFault). Least bs (k.Shape (e.Line y))) (sym t.is) (of_told (leb-true 1 (length bs) p) (leb-true (length bs) 65536 q) t.at t.rule t.small t.breaks t.least)

  line_clean : (a b : Bool) → leb 1 (length bs) ≡ a → leb (length bs) 65536 ≡ b → cond (a && b) (line_fault 1 (lines_in bs)) (Some (f.Length 0)) ≡ None → (1 ≤ length bs) × (length bs ≤ 65536) × ((j q : ℕ) → Breaks same keeps_line tt 1 (lines_in bs) j q → ⊥)
  line_clean false b p q h = absurd (cc)
  line_clean true false p q h = absurd (cc)
  line_clean true true p q h = (leb-true 1 (length bs) p, leb-true (length bs) 65536 q, clean same line_rules keeps_line line_fault_by line_by (λ r s x b. refl) tt 1 (lines_in bs) h)

  -- layer 2
  module _ (none : text_fault bs ≡ None) where
    c₁ : (1 ≤ length bs) × (length bs ≤ 65536) × ((j q : ℕ) → Breaks same keeps_line tt 1 (lines_in bs) j q → ⊥)
    c₁ = line_clean (leb 1 (length bs)) (leb (length bs) 65536) refl refl none

    no_length : (length bs ≡ 0) ⊎ (65536 < length bs) → ⊥
    no_length h = let a = c₁.0 in let b = c₁.1 in ⊎_elim (λ x. omega arith) (λ x. omega arith) h

    in_shape : (i r : ℕ) → ((j q : ℕ) → Breaks after keeps_shape start 1 (lines_of bs) j q → (i < j) ⊎ ((i ≡ j) × (r ≤ q))) → (b j q : ℕ) → HasFault bs b j q → NotAfter 2 i (4 + r) b j q
    in_shape i r least _ _ _ (of_length h) = absurd (no_length h)
    in_shape i r least _ _ _ (of_line j q h) = absurd (c₁.2 j q h)
    in_shape i r least _ _ _ (of_shape j q h) = same_layer 4 2 i r j q (least j q h)
    in_shape i r least _ _ _ (of_kinds j q h) = inl (omega arith)

    of_shape_told : (i r : ℕ) → r < 3 → Breaks after keeps_shape start 1 (lines_of bs) i r → ((j q : ℕ) → Breaks after keeps_shape start 1 (lines_of bs) j q → (i < j) ⊎ ((i ≡ j) × (r ≤ q))) → Least bs (k.Shape (shape_fault_by r i))
    of_shape_told i zero s h least = record { has = of_shape i 0 h; least = in_shape i 0 least }
    of_shape_told i (suc zero) s h least = record { has = of_shape i 1 h; least = in_shape i 1 least }
    of_shape_told i (suc (suc zero)) s h least = record { has = of_shape i 2 h; least = in_shape i 2 least }
    of_shape_told i (suc (suc (suc r))) s h least = absurd (omega arith)

    shape_least : (x : ShapeFault) → shape_fault_of (lines_of bs) ≡ Some x → Least bs (k.Shape x)
    shape_least x h =
        let t = told after shape_rules keeps_shape shape_fault_by (λ s n x b. refl) (λ r s x b. refl) start 1 (lines_of bs) x h in
        subst (λ (y : ShapeFault). Least bs (k.Shape y)) (sym t.is) (of_shape_told t.at t.rule t.small t.breaks t.least)

    module _ (none₂ : shape_fault_of (lines_of bs) ≡ None) where
      c₂ : (j q : ℕ) → Breaks after keeps_shape start 1 (lines_of bs) j q → ⊥
      c₂ = clean after shape_rules keeps_shape shape_fault_by (λ s n x b. refl) (λ r s x b. refl) start 1 (lines_of bs) none₂

      in_kinds : (i r : ℕ) → ((j q : ℕ) → Breaks (known_after (heads_of (lines_of bs))) (keeps_kinds (heads_of (lines_of bs))) unknown 1 (lines_of bs) j q → (i < j) ⊎ ((i ≡ j) × (r ≤ q))) → (b j q : ℕ) → HasFault bs b j q → NotAfter 3 i (7 + r) b j q
      in_kinds i r least _ _ _ (of_length h) = absurd (no_length h)
      in_kinds i r least _ _ _ (of_line j q h) = absurd (c₁.2 j q h)
      in_kinds i r least _ _ _ (of_shape j q h) = absurd (c₂ j q h)
      in_kinds i r least _ _ _ (of_kinds j q h) = same_layer 7 3 i r j q (least j q h)

      of_kinds_told : (i r : ℕ) → Breaks (known_after (heads_of (lines_of bs))) (keeps_kinds (heads_of (lines_of bs))) unknown 1 (lines_of bs) i r → ((j q : ℕ) → Breaks (known_after (heads_of (lines_of bs))) (keeps_kinds (heads_of (lines_of bs))) unknown 1 (lines_of bs) j q → (i < j) ⊎ ((i ≡ j) × (r ≤ q))) → Least bs (kind_fault_by r i)
      of_kinds_told i zero h least = record { has = of_kinds i 0 h; least = in_kinds i 0 least }
      of_kinds_told i (suc zero) h least = record { has = of_kinds i 1 h; least = in_kinds i 1 least }
      of_kinds_told i (suc (suc r)) h least = absurd (let p = h.broken in cc)

      kinds_least : (x : KindFault) → kind_fault_of (lines_of bs) ≡ Some x → Least bs x
      kinds_least x h =
          let t = told (known_after (heads_of (lines_of bs))) (kind_rules (heads_of (lines_of bs))) (keeps_kinds (heads_of (lines_of bs))) kind_fault_by (λ s n x b. refl) (λ r s x b. refl) unknown 1 (lines_of bs) x h in
          subst (Least bs) (sym t.is) (of_kinds_told t.at t.rule t.breaks t.least)

      faultless : kind_fault_of (lines_of bs) ≡ None → Faultless bs
      faultless h _ _ _ (of_length x) = no_length x
      faultless h _ _ _ (of_line j q x) = c₁.2 j q x
      faultless h _ _ _ (of_shape j q x) = c₂ j q x
      faultless h _ _ _ (of_kinds j q x) = clean (known_after (heads_of (lines_of bs))) (kind_rules (heads_of (lines_of bs))) (keeps_kinds (heads_of (lines_of bs))) kind_fault_by (λ s n x b. refl) (λ r s x b. refl) unknown 1 (lines_of bs) h j q x

  least_by : (o₁ : Option LineFault) (o₂ : Option ShapeFault) → text_fault bs ≡ o₁ → shape_fault_of (lines_of bs) ≡ o₂ → (x : KindFault) → over_shape (over_lines o₁ o₂) (kind_fault_of (lines_of bs)) ≡ Some x → Least bs x
  least_by (Some y) o₂ p q x h = let i : k.Shape (e.Line y) ≡ x = cc in subst (Least bs) i (line_least (leb 1 (length bs)) (leb (length bs) 65536) refl refl y p)
  least_by None (Some y) p q x h = let i : k.Shape y ≡ x = cc in subst (Least bs) i (shape_least p y q)
  least_by None None p q x h = kinds_least p q x h

  none_by : (o₁ : Option LineFault) (o₂ : Option ShapeFault) → text_fault bs ≡ o₁ → shape_fault_of (lines_of bs) ≡ o₂ → over_shape (over_lines o₁ o₂) (kind_fault_of (lines_of bs)) ≡ None → Faultless bs
  none_by (Some y) o₂ p q h = absurd (cc)
  none_by None (Some y) p q h = absurd (cc)
  none_by None None p q h = faultless p q h

  pub told_least : (x : KindFault) → fault_of bs ≡ Some x → Least bs x
  told_least x h = least_by (text_fault bs) (shape_fault_of (lines_of bs)) refl refl x h

  pub told_none : fault_of bs ≡ None → Faultless bs
  told_none h = none_by (text_fault bs) (shape_fault_of (lines_of bs)) refl refl h
