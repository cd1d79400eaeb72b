-- The mathematics of a spread.
use Rattle.std.proofs.Common.{◌≡◌, ℕ, zero, suc, ◌+◌, ◌-◌, ◌*◌, ◌/◌, ◌^◌, ◌<◌, ◌≤◌, true, false, ◌⊎◌, List, [], ◌∷◌, length, sym, refl, ap, ◌∙◌, inl, inr, zero-le, mul-le-mul_right, mul_assoc, add-mul, one-mul, zero-mul, div-mul-le_self, mul_left_comm, arith, lit≤}
use native.Mathlib.Nat.{pow-succ', lt-div-mul-add, mul-div_cancel_left, zero-div}
use Rattle.std.proofs.lemmas.Bool.Decides.{eqb_tells, nat_tests}
use Rattle.std.proofs.lemmas.Bool.{cases_lt, lt-ltb, le-ltb, le-leb}
use Rattle.std.proofs.lemmas.Nat.{pow_pos, pow-add, le-div, div_below}
use Rattle.order_list.specs.Order.{has}
use Rattle.chained_list.specs.Chain.{Over, Rising}
use Rattle.chained_list.specs.Tags.{among, start, loose, loose_from, loose_level, spread_tag, Smallest}
use Rattle.order_list.proofs.Lists.{has_here, has_there, has_tail}

above : (b : ℕ) (xs : List ℕ) (k : ℕ) → Over (λ a. a) b xs → has xs k ≡ true → b < k
above b [] k o h = let z : false ≡ true = h in grind arith
above b (x ∷ xs) k o h =
    elim (eqb_tells x k) [ inl p ↦ omega (arith, o.0, p.1) | inr p ↦ above b xs k o.1 (has_tail x k xs p.1 h) ]

-- counting
pub among_le : (lo h : ℕ) (ts : List ℕ) → among lo h ts ≤ length ts
among_le lo h [] = zero-le
among_le lo h (t ∷ ts) = let r = among_le lo h ts in grind (arith, nat_tests)

pub among_mono : (lo h k : ℕ) (ts : List ℕ) → h ≤ k → among lo h ts ≤ among lo k ts
among_mono lo h k [] le = zero-le
among_mono lo h k (t ∷ ts) le = let r = among_mono lo h k ts le in grind (arith, nat_tests)

pub among_step : (lo a h : ℕ) (ts : List ℕ) → has ts a ≡ true → lo ≤ a → a < h → among lo a ts < among lo h ts
among_step lo a h [] p la ah = let z : false ≡ true = p in grind arith
among_step lo a h (t ∷ ts) p la ah =
    elim (eqb_tells t a) [
      | inl e ↦ let r = among_mono lo a h ts (omega arith) in let q = e.1 in grind (arith, nat_tests)
      | inr ne ↦ let r = among_step lo a h ts (has_tail t a ts ne.1 p) la ah in grind (arith, nat_tests)
    ]

pub among_none : (lo h : ℕ) (ts : List ℕ) → ((b : ℕ) → has ts b ≡ true → (b < lo) ⊎ (h ≤ b)) → among lo h ts ≡ 0
among_none lo h [] f = refl
among_none lo h (t ∷ ts) f =
    let r = among_none lo h ts (λ b p. f b (has_there t b ts p)) in
    elim (f t (has_here t t ts refl)) [ inl lt ↦ grind (arith, nat_tests) | inr le ↦ grind (arith, nat_tests) ]

pub nothing : (lo h : ℕ) (ts : List ℕ) → h ≤ lo → among lo h ts ≡ 0
nothing lo h ts le = among_none lo h ts (λ b _. elim (cases_lt b lo) [ inl lt ↦ inl lt | inr ge ↦ inr (omega arith) ])

-- one more counted where no tag lies between
pub among_next : (lo a h : ℕ) (ts : List ℕ) → Rising (λ b. b) ts → has ts a ≡ true → lo ≤ a → a < h →
    ((b : ℕ) → has ts b ≡ true → (b ≤ a) ⊎ (h ≤ b)) → among lo h ts ≡ suc (among lo a ts)
among_next lo a h [] r p la ah f = let z : false ≡ true = p in grind arith
among_next lo a h (t ∷ ts) r p la ah f =
    elim (eqb_tells t a) [
      | inl e ↦
          let over : (b : ℕ) → has ts b ≡ true → a < b = λ b q. omega (arith, above t ts b r.0 q, e.1) in
          let n1 = among_none lo h ts (λ b q. elim (f b (has_there t b ts q)) [ inl le ↦ absurd (omega (arith, over b q)) | inr le ↦ inr le ]) in
          let n2 = among_none lo a ts (λ b q. inr (omega (arith, over b q))) in
          let q = e.1 in
          grind (arith, nat_tests)
      | inr ne ↦
          let n = among_next lo a h ts r.1 (has_tail t a ts ne.1 p) la ah (λ b q. f b (has_there t b ts q)) in
          elim (f t (has_here t t ts refl)) [ inl le ↦ let lt : t < a = omega (arith, ne.1) in grind (arith, nat_tests) | inr le ↦ grind (arith, nat_tests) ]
    ]

-- sharing w out among k
pub gap : (w k j l : ℕ) → 0 < k → 2 * k ≤ w → j < l → (j * w) / k + 2 ≤ (l * w) / k
gap w k j l pos wide lt =
    let q = (j * w) / k in
    le-div (q + 2) (l * w) k pos
    (omega (arith, add-mul q 2 k, div-mul-le_self (j * w) k, mul-le-mul_right w lt, add-mul 1 j w, one-mul w))

pub gap_end : (w k j : ℕ) → 2 * k ≤ w → j < k → (j * w) / k + 2 ≤ w
gap_end w k j wide lt =
    let pos : 0 < k = omega arith in
    omega (arith, gap w k j k pos wide lt, mul-div_cancel_left w pos)

square : (a : ℕ) → (2 * a) * (2 * a) ≡ 4 * (a * a)
square a = omega (arith, mul_assoc 2 a (2 * a), mul_left_comm a 2 a)

powers : (i : ℕ) → 4 ≤ i → 2 * 3 ^ i ≤ 2 ^ i * 2 ^ i
powers zero h = absurd (omega arith)
powers (suc i) h =
    elim (cases_lt 3 i) [
      | inl lt ↦ let r = powers i lt in rw (pow-succ' 3 i, pow-succ' 2 i, square (2 ^ i)) (omega arith)
      | inr le ↦ let e : i ≡ 3 = omega arith in rw e (lit≤ tt)
    ]

-- in a loose block there are at least two tags for each member
pub loose_wide : (i k : ℕ) → 4 ≤ i → k * 2 ^ i ≤ 3 ^ i → 2 * k ≤ 2 ^ i
loose_wide i k low le =
    elim (cases_lt (2 ^ i) (2 * k)) [
      | inl lt ↦ absurd (omega (arith, mul-le-mul_right (2 ^ i) lt, add-mul 1 (2 ^ i) (2 ^ i), one-mul (2 ^ i), mul_assoc 2 k (2 ^ i), powers i low, pow_pos i))
      | inr ge ↦ ge
    ]

-- the block contains t, and ends at 2 ^ 32 or below
pub start_le : (i t : ℕ) → start i t ≤ t
start_le i t = div-mul-le_self t (2 ^ i)

pub start_end : (i t : ℕ) → t < start i t + 2 ^ i
start_end i t = lt-div-mul-add (pow_pos i)

pub start_top : (i t : ℕ) → i ≤ 32 → t < 4294967296 → start i t + 2 ^ i ≤ 4294967296
start_top i t le lt =
    let d = 32 - i in
    let e : d + i ≡ 32 = omega arith in
    let p : 2 ^ d * 2 ^ i ≡ 4294967296 = sym (pow-add 2 d i) ∙ ap (λ (n : ℕ). 2 ^ n) e in
    let b = div_below t (2 ^ i) (2 ^ d) (pow_pos i) (omega arith) in
    omega (arith, mul-le-mul_right (2 ^ i) b, add-mul 1 (t / 2 ^ i) (2 ^ i), one-mul (2 ^ i))

-- at level 32 every block of at most 4096 members is loose
pub top_loose : (ts : List ℕ) (t : ℕ) → length ts ≤ 4096 → loose ts t 32 ≡ true
top_loose ts t le =
    let s = start 32 t in
    let k = among s (s + 4294967296) ts in
    let b = among_le s (s + 4294967296) ts in
    le-leb (k * 4294967296) 1853020188851841 (omega arith)

-- a spread tag, by the place of the old one
pub spread_low : (s w : ℕ) (ts : List ℕ) (a : ℕ) → a < s → spread_tag s w ts a ≡ a
spread_low s w ts a lt = rw (lt-ltb a s lt)

pub spread_high : (s w : ℕ) (ts : List ℕ) (a : ℕ) → s + w ≤ a → spread_tag s w ts a ≡ a
spread_high s w ts a le = rw (le-ltb a s (omega arith), le-ltb a (s + w) le)

pub spread_in : (s w : ℕ) (ts : List ℕ) (a : ℕ) → s ≤ a → a < s + w → spread_tag s w ts a ≡ s + (among s a ts * w) / among s (s + w) ts
spread_in s w ts a le lt = rw (le-ltb a s le, lt-ltb a (s + w) lt)

module _ (s w : ℕ) (ts : List ℕ) (wide : 2 * among s (s + w) ts ≤ w) where
  -- a member's new tag lies in the block, at least 2 before its end
  pub inside : (a : ℕ) → has ts a ≡ true → s ≤ a → a < s + w → (s ≤ spread_tag s w ts a) × (spread_tag s w ts a + 2 ≤ s + w)
  inside a h le lt =
      let e = spread_in s w ts a le lt in
      let g = gap_end w (among s (s + w) ts) (among s a ts) wide (among_step s a (s + w) ts h le lt) in
      (omega arith, omega arith)

  -- behind a member of the block there is room afterwards
  pub room : (a b : ℕ) → has ts a ≡ true → s ≤ a → a < s + w → a < b → (has ts b ≡ true) ⊎ (s + w ≤ b) → spread_tag s w ts a + 2 ≤ spread_tag s w ts b
  room a b h le lt ab o =
      elim (cases_lt b (s + w)) [
        | inl bl ↦
            let k = among s (s + w) ts in
            let ja = among_step s a (s + w) ts h le lt in
            let g = gap w k (among s a ts) (among s b ts) (omega arith) wide (among_step s a b ts h le ab) in
            omega (arith, spread_in s w ts a le lt, spread_in s w ts b (omega arith) bl)
        | inr bh ↦ omega (arith, spread_high s w ts b bh, (inside a h le lt).1)
      ]

  -- tags rise as before
  pub climbs : (a b : ℕ) → has ts a ≡ true → has ts b ≡ true → a < b → spread_tag s w ts a < spread_tag s w ts b
  climbs a b ha hb ab =
      elim (cases_lt a s) [
        | inl al ↦
            elim (cases_lt b s) [
              | inl bl ↦ omega (arith, spread_low s w ts a al, spread_low s w ts b bl)
              | inr bs ↦ elim (cases_lt b (s + w)) [
                | inl bl ↦ omega (arith, spread_low s w ts a al, (inside b hb bs bl).0)
                | inr bh ↦ omega (arith, spread_low s w ts a al, spread_high s w ts b bh)
              ]
            ]
        | inr ge ↦ elim (cases_lt a (s + w)) [
          | inl al ↦ omega (arith, room a b ha ge al ab (inl hb))
          | inr ah ↦ omega (arith, spread_high s w ts a ah, spread_high s w ts b (omega arith))
        ]
      ]

  pub keeps_below : (a c : ℕ) → has ts a ≡ true → s + w ≤ c → a < c → spread_tag s w ts a < c
  keeps_below a c h le lt =
      elim (cases_lt a s) [
        | inl al ↦ omega (arith, spread_low s w ts a al)
        | inr ge ↦ elim (cases_lt a (s + w)) [
          | inl al ↦ omega (arith, (inside a h ge al).1)
          | inr ah ↦ omega (arith, spread_high s w ts a ah)
        ]
      ]

-- the tag 0 stays
pub keeps_zero : (s w : ℕ) (ts : List ℕ) → spread_tag s w ts 0 ≡ 0
keeps_zero s w ts =
    elim (cases_lt 0 s) [
      | inl lt ↦ spread_low s w ts 0 lt
      | inr le ↦ elim (cases_lt 0 (s + w)) [
        | inl lt ↦
            let n = among_none s 0 ts (λ b _. inr zero-le) in
            let z : (among s 0 ts * w) / among s (s + w) ts ≡ 0 = rw (n, zero-mul w) (zero-div (among s (s + w) ts)) in
            omega (arith, spread_in s w ts 0 le lt)
        | inr ge ↦ spread_high s w ts 0 ge
      ]
    ]

from_is : (n : ℕ) (ts : List ℕ) (t j i : ℕ) → j ≤ i → i ≤ j + n → loose ts t i ≡ true → ((l : ℕ) → j ≤ l → l < i → loose ts t l ≡ false) → loose_from n ts t j ≡ i
unfolding loose_from
from_is zero ts t j i le up loosed none = omega arith
from_is (suc n) ts t j i le up loosed none =
    elim (cases_lt j i) [
      | inl lt ↦ let f = none j (omega arith) lt in rw f (from_is n ts t (suc j) i lt (omega arith) loosed (λ l a b. none l (omega arith) b))
      | inr ge ↦ let e : i ≡ j = omega arith in let y' : loose ts t j ≡ true = rw e at loosed in rw (y', e)
    ]

pub level_is : (ts : List ℕ) (t i : ℕ) → Smallest ts t i → loose_level ts t ≡ i
level_is ts t i r = from_is 28 ts t 4 i r.low (omega (arith, r.high)) r.fits r.none
