-- Looking for the smallest loose block.
use Rattle.std.proofs.Common.{◌≡◌, ℕ, zero, suc, ◌+◌, ◌*◌, ◌/◌, ◌^◌, ◌<◌, ◌≤◌, true, false, List, [], ◌∷◌, length, sym, refl, ap, ◌∙◌, subst, inl, inr, arith, pow_mono}
use native.Mathlib.Nat.{lt-div-mul-add, pow-le-pow_right}
use Rattle.std.proofs.lemmas.Bool.Decides.{nat_tests}
use Rattle.std.proofs.lemmas.Bool.{cases_Bool, cases_lt, le-leb, lt-leb}
use Rattle.std.proofs.lemmas.Nat.{pow_pos, mul-le}
use Rattle.chained_list.specs.Tags.{among, start, held, loose, loose_from, loose_level, Smallest, SmallestLoose, tags_of, tag_at}
use Rattle.chained_list.specs.Chain.{order, Holds, Sound, tag_of, tags, tagged}
use Rattle.chained_list.specs.Spreading.{LooseBlock, FirstFrom}
use Rattle.chained_list.specs.declared.member.Member.{Member}
use Rattle.chained_list.proofs.Marks.{tags_mark}
use Rattle.chained_list.proofs.Neighbours.{few_tags}
use Rattle.chained_list.proofs.Spread.{among_le, loose_wide, start_top, level_is, top_loose}

pub among_split : (lo mid hi : ℕ) (ts : List ℕ) → lo ≤ mid → mid ≤ hi → among lo hi ts ≡ among lo mid ts + among mid hi ts
among_split lo mid hi [] a b = refl
among_split lo mid hi (t ∷ ts) a b = let r = among_split lo mid hi ts a b in grind (arith, nat_tests)

pub two_le : (i : ℕ) → i ≤ 32 → 2 ^ i ≤ 4294967296
two_le i le = pow_mono {i = i} {j = 32} le

pub three_le : (i : ℕ) → i ≤ 32 → 3 ^ i ≤ 1853020188851841
three_le i le = pow-le-pow_right {n = 3} (omega arith) {i = i} {j = 32} le

-- none of the levels below i is loose
abbrev pub NoneBelow : List Member → ℕ → ℕ → Type 0
NoneBelow ps m i = (j : ℕ) → 4 ≤ j → j < i → loose (tags ps) (tag_of ps m) j ≡ false

module _ (ps : List Member) (h : Holds ps (order ps)) (few : length ps ≤ 4096) (m i w : ℕ) (width : w ≡ 2 ^ i) where
  pub wide_pos : 0 < w
  wide_pos = omega (arith, width, pow_pos i)

  pub start_high : tag_of ps m < (tag_of ps m / w) * w + w
  start_high = lt-div-mul-add wide_pos

  pub w_le : i ≤ 32 → w ≤ 4294967296
  w_le le = omega (arith, width, two_le i le)

  pub top_le : i ≤ 32 → tag_of ps m < 4294967296 → (tag_of ps m / w) * w + w ≤ 4294967296
  top_le high below = omega (arith, start_top i (tag_of ps m) high below, ap (λ (x : ℕ). (tag_of ps m / x) * x) width, width)

  module _ (f k : ℕ) (ff : FirstFrom ps ((tag_of ps m / w) * w) m f) (ek : k ≡ among (tag_of ps f) ((tag_of ps m / w) * w + w) (tags ps)) where
    s : ℕ
    s = (tag_of ps m / w) * w

    start_is : (tag_of ps m / w) * w ≡ start i (tag_of ps m)
    start_is = ap (λ (x : ℕ). (tag_of ps m / x) * x) width

    pub k_le : k ≤ 4096
    k_le = omega (arith, ek, among_le (tag_of ps f) ((tag_of ps m / w) * w + w) (tags ps), few_tags ps h, few)

    count_is : k ≡ among ((tag_of ps m / w) * w) ((tag_of ps m / w) * w + w) (tags ps)
    count_is =
        let e = among_split ((tag_of ps m / w) * w) (tag_of ps f) ((tag_of ps m / w) * w + w) (tags ps) ff.low (omega (arith, ff.high, start_high)) in
        omega (arith, e, ff.none, ek)

    held_is : k ≡ held (tags ps) (tag_of ps m) i
    held_is = count_is ∙ ap (λ (x : ℕ). among ((tag_of ps m / x) * x) ((tag_of ps m / x) * x + x) (tags ps)) width

    product : k * w ≡ held (tags ps) (tag_of ps m) i * 2 ^ i
    product = ap (λ (x : ℕ). x * w) held_is ∙ ap (λ (x : ℕ). held (tags ps) (tag_of ps m) i * x) width

    pub is_loose : k * w ≤ 3 ^ i → loose (tags ps) (tag_of ps m) i ≡ true
    is_loose le = le-leb (held (tags ps) (tag_of ps m) i * 2 ^ i) (3 ^ i) (omega (arith, product))

    pub not_loose : 3 ^ i < k * w → loose (tags ps) (tag_of ps m) i ≡ false
    not_loose lt = lt-leb (held (tags ps) (tag_of ps m) i * 2 ^ i) (3 ^ i) (omega (arith, product))

    pub product_le : i ≤ 32 → k * w ≤ 17592186044416
    product_le le = mul-le k w 4096 4294967296 k_le (w_le le)

    pub found : NoneBelow ps m i → 4 ≤ i → i ≤ 32 → k * w ≤ 3 ^ i → tag_of ps m < 4294967296 → LooseBlock ps m f ((tag_of ps m / w) * w) w k
    found none low high le below =
        let sm : Smallest (tags ps) (tag_of ps m) i = record { low = low; high = high; fits = is_loose le; none = none } in
        let e : loose_level (tags ps) (tag_of ps m) ≡ i = level_is (tags ps) (tag_of ps m) i sm in
        record {
          smallest = subst (λ (x : ℕ). Smallest (tags ps) (tag_of ps m) x) (sym e) sm;
          begins = start_is ∙ ap (λ (x : ℕ). start x (tag_of ps m)) (sym e);
          width = width ∙ ap (λ (x : ℕ). 2 ^ x) (sym e);
          ready = record {
            member = ff.member;
            low = ff.low;
            inside = omega (arith, ff.high, start_high);
            none = ff.none;
            count = count_is;
            wide = (let c = loose_wide i k low (omega (arith, ap (λ (x : ℕ). k * x) width)) in omega (arith, c, width));
            top = top_le high below;
          };
        }

    pub none_more : NoneBelow ps m i → 3 ^ i < k * w → NoneBelow ps m (suc i)
    none_more none lt j a b = elim (cases_lt j i) [
      | inl l ↦ none j a l
      | inr g ↦ let e : j ≡ i = omega arith in ap (loose (tags ps) (tag_of ps m)) e ∙ not_loose lt
    ]

-- one level is always loose
pub never : (ps : List Member) → Holds ps (order ps) → length ps ≤ 4096 → (m i : ℕ) → 32 < i → NoneBelow ps m i → ⊥
never ps h few m i lt none =
    let y = top_loose (tags ps) (tag_of ps m) (omega (arith, few_tags ps h)) in
    let n = none 32 (omega arith) lt in
    let z : true ≡ false = sym y ∙ n in grind arith

-- the level that is found is the smallest loose one
smallest_from : (n : ℕ) (ts : List ℕ) (t i : ℕ) → i + n ≡ 32 → 4 ≤ i → loose ts t 32 ≡ true → ((j : ℕ) → 4 ≤ j → j < i → loose ts t j ≡ false) → Smallest ts t (loose_from n ts t i)
unfolding loose_from
smallest_from zero ts t i e low top none =
    let q : i ≡ 32 = omega arith in record { low = low; high = omega arith; fits = ap (loose ts t) q ∙ top; none = none }
smallest_from (suc n) ts t i e low top none =
    elim (cases_Bool (loose ts t i)) [
      | inl y ↦ rw y (record { low = low; high = omega arith; fits = y; none = none })
      | inr k ↦ rw k (smallest_from n ts t (suc i) (omega arith) (omega arith) top (λ j a b. elim (cases_lt j i) [
        | inl l ↦ none j a l
        | inr g ↦ let q : j ≡ i = omega arith in ap (loose ts t) q ∙ k
      ]))
    ]

pub sound_smallest : (ps : List Member) (h m : ℕ) → Sound ps h → SmallestLoose (tagged ps) m
sound_smallest ps h m s =
    let ts = tags_of (tagged ps) in
    let few : length ts ≤ 4096 = omega (arith, ap length (tags_mark (tag_of ps) (order ps)), few_tags ps s.holds, s.few) in
    smallest_from 28 ts (tag_at (tagged ps) m) 4 refl (omega arith) (top_loose ts (tag_at (tagged ps) m) few) (λ j a b. absurd (omega arith))
