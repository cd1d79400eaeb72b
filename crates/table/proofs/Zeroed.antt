-- Arrays filled with one value, and the inputs at first.
use Rattle.std.proofs.Common.{◌≡◌, ℕ, ◌+◌, ◌<◌, ◌≤◌, cond, ltb, List, length, get_or, set, replicate, pos, sym, ap, ◌∙◌, subst, inl, inr, arith, get_or-set_other, get_or-set_same}
use lib.ListN.{get_or-replicate, length-replicate}
use Rattle.std.proofs.lemmas.List.{get_or_past}
use Rattle.std.proofs.lemmas.Bool.{cases_eq, cases_lt, lt-ltb, le-ltb}
use Rattle.program.specs.declared.program.Program.{Program}
use Rattle.program.proofs.Sound.{sound}
use Rattle.program.specs.declared.value.InputContent.{InputContent}
use Rattle.program.specs.declared.value.InputContent.TheVariants.{Number, Empty}

pub all_alike : {A : Type 0} (n j : ℕ) (x : A) → get_or (replicate n x) j x ≡ x
all_alike n j x = elim (cases_lt j n) [ inl l ↦ get_or-replicate n j x x l | inr l ↦ get_or_past (replicate n x) j x (let e = length-replicate n x in omega arith) ]

-- the first k are zero
abbrev pub first_zero : ℕ → ℕ → InputContent
first_zero k j = cond (ltb j k) (Number (pos 0)) Empty

pub none_zero : (j : ℕ) → Empty ≡ first_zero 0 j
none_zero j = let t = le-ltb j 0 (omega arith) in rw t

pub one_zero_more : (xs : List InputContent) (k : ℕ) → k < length xs → ((j : ℕ) → get_or xs j Empty ≡ first_zero k j) → (j : ℕ) → get_or (set xs k (Number (pos 0))) j Empty ≡ first_zero (k + 1) j
one_zero_more xs k l h j = elim (cases_eq j k) [
  | inl e ↦ subst (λ (i : ℕ). get_or (set xs k (Number (pos 0))) i Empty ≡ first_zero (k + 1) i) (sym e)
      (get_or-set_same xs k (Number (pos 0)) Empty l ∙ sym (let t = lt-ltb k (k + 1) (omega arith) in rw t))
  | inr ne ↦ get_or-set_other xs k j (Number (pos 0)) Empty ne ∙ h j ∙ same ne
]
  where
    same : (j ≡ k → ⊥) → first_zero k j ≡ first_zero (k + 1) j
    same ne = elim (cases_lt j k) [
      | inl a ↦ let s = lt-ltb j k a in let t = lt-ltb j (k + 1) (omega arith) in rw (s, t)
      | inr a ↦ let s = le-ltb j k a in let t = le-ltb j (k + 1) (omega (arith, ne)) in rw (s, t)
    ]

-- a program has at most 256 inputs
pub numbers_few : (p : Program) → p.numbers ≤ 256
numbers_few p = let s = (sound p).inputs_fit in omega arith
