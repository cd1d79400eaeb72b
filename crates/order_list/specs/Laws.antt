-- Laws of the meaning of an order list.
use Rattle.std.specs.Prelude.{◌≡◌, ℕ, true, false, List, [], ◌∷◌, refl}
use Rattle.std.proofs.Common.{ap, inl, inr}
use Rattle.std.proofs.lemmas.Bool.Decides.{eqb_tells}
use Rattle.order_list.specs.Order.{has, Apart, earlier}

pub none_earlier : (xs : List ℕ) (a b : ℕ) → has xs b ≡ false → earlier xs a b ≡ false
none_earlier [] a b h = refl
none_earlier (x ∷ xs) a b h =
    elim (eqb_tells x b) [
      | inl p ↦ let z : true ≡ false = rw p.0 at h in cc
      | inr p ↦ let h' : has xs b ≡ false = rw p.0 at h in
          elim (eqb_tells x a) [
            | inl q ↦ rw q.0 h'
            | inr q ↦ rw q.0 (none_earlier xs a b h')
          ]
    ]

pub oneway_earlier : (xs : List ℕ) (a b : ℕ) → Apart xs → earlier xs a b ≡ true → earlier xs b a ≡ false
oneway_earlier [] a b ap e = refl
oneway_earlier (x ∷ xs) a b ap e =
    elim (eqb_tells x a) [
      | inl p ↦ let na : has xs a ≡ false = rw p.1 at ap.0 in
          elim (eqb_tells x b) [
            | inl q ↦ rw q.0 na
            | inr q ↦ rw q.0 (none_earlier xs b a na)
          ]
      | inr p ↦ let e' : earlier xs a b ≡ true = rw p.0 at e in
          elim (eqb_tells x b) [
            | inl q ↦ let nb : has xs b ≡ false = rw q.1 at ap.0 in
                let z = none_earlier xs a b nb in
                let y : true ≡ false = cc in cc
            | inr q ↦ rw q.0 (oneway_earlier xs a b ap.1 e')
          ]
    ]
