-- Places just wiped.
use Rattle.std.proofs.Common.{◌≡◌, ℕ, zero, suc, ◌+◌, ◌-◌, ◌<◌, ◌≤◌, true, false, cond, eqb, List, [], ◌∷◌, length, get_or, None, sym, refl, ap, ◌∙◌, inl, inr, arith}
use Rattle.std.proofs.lemmas.List.{get_or_past}
use Rattle.std.proofs.lemmas.Bool.Decides.{eqb_tells, nat_tests}
use Rattle.std.proofs.lemmas.Bool.{cases_lt, lt-ltb, le-ltb, ne_eqb, eq-eqb}
use Rattle.order_list.specs.Order.{has, Apart, Under, make_refusal}
use Rattle.chained_list.specs.Chain.{order, first, chain, Linked, Strung, Spare, Ranging, Sound, blank, next_of, previous_of, tag_of, tagged, mark}
use Rattle.chained_list.specs.Contents.{numbers_from, Cleared}
use Rattle.chained_list.specs.declared.member.Member.{Member}
use Rattle.order_list.proofs.Lists.{has_here, has_there, has_tail}
use Rattle.chained_list.proofs.Standing.{each_place}
use Rattle.chained_list.proofs.Chains.{Bare, order_is, chain_is, sound_from}

-- how many places are allowed
pub allowed : (c : ℕ) → make_refusal c ≡ None → (0 < c) × (c ≤ 4096)
allowed c e =
    elim (cases_lt c 1) [
      | inl lt ↦ let z = rw (lt-ltb c 1 lt) at e in let y : ◌≡◌ {A = ℕ} 0 1 = cc in absurd (omega arith)
      | inr ge ↦ elim (cases_lt 4096 c) [
        | inl lt ↦ let z = rw (le-ltb c 1 ge, lt-ltb 4096 c lt) at e in let y : ◌≡◌ {A = ℕ} 0 1 = cc in absurd (omega arith)
        | inr le ↦ (omega arith, le)
      ]
    ]

-- place k of c just wiped
abbrev pub born : ℕ → ℕ → Member
born c k = record { used = eqb k 0; next = cond (eqb k 0) 0 (cond (eqb (suc k) c) 0 (suc k)); previous = 0; tag = 0 }

has_up : (a n k : ℕ) → a ≤ k → k < a + n → has (numbers_from a n) k ≡ true
has_up a zero k le lt = absurd (omega arith)
has_up a (suc n) k le lt = elim (eqb_tells a k) [
  | inl q ↦ has_here a k (numbers_from (suc a) n) q.1
  | inr q ↦ has_there a k (numbers_from (suc a) n) (has_up (suc a) n k (omega (arith, q.1)) (omega arith))
]

none_up : (a n k : ℕ) → k < a → has (numbers_from a n) k ≡ false
none_up a zero k lt = refl
none_up a (suc n) k lt = elim (eqb_tells a k) [ inl q ↦ absurd (omega (arith, q.1)) | inr q ↦ rw q.0 (none_up (suc a) n k (omega arith)) ]

apart_up : (a n : ℕ) → Apart (numbers_from a n)
apart_up a zero = tt
apart_up a (suc n) = (none_up (suc a) n a (omega arith), apart_up (suc a) n)

under_up : (a n c : ℕ) → a + n ≤ c → Under c (numbers_from a n)
under_up a zero c le = tt
under_up a (suc n) c le = (omega arith, under_up (suc a) n c (omega arith))

module _ (ps : List Member) (some : 0 < length ps) (few : length ps ≤ 4096) (all : (k : ℕ) → k < length ps → get_or ps k blank ≡ born (length ps) k) where
  linked_up : (a n : ℕ) → 0 < a → a + n ≡ length ps → Linked (next_of ps) (numbers_from a n)
  linked_up a zero pos e = tt
  linked_up a (suc zero) pos e =
      let b = ap (λ (p : Member). p.next) (all a (omega arith)) in
      (b ∙ rw (ne_eqb a 0 (omega arith), eq-eqb (suc a) (length ps) (omega arith)), tt)
  linked_up a (suc (suc n)) pos e =
      let b = ap (λ (p : Member). p.next) (all a (omega arith)) in
      (b ∙ rw (ne_eqb a 0 (omega arith), ne_eqb (suc a) (length ps) (omega arith)), linked_up (suc a) (suc n) (omega arith) (omega arith))

  strung : Strung ps (0 ∷ [])
  strung = record {
    based = refl;
    apart = (refl, tt);
    under = (some, tt);
    linked = (ap (λ (p : Member). p.next) (all 0 some), tt);
    backed = λ x h.
        elim (eqb_tells 0 x) [
          | inl q ↦
              ap (λ (z : ℕ). previous_of ps (next_of ps z)) (sym q.1) ∙ ap (previous_of ps) (ap (λ (p : Member). p.next) (all 0 some)) ∙
              ap (λ (p : Member). p.previous) (all 0 some) ∙ q.1
          | inr q ↦ let z : false ≡ true = has_tail 0 x [] q.1 h in absurd (grind arith)
        ];
    marked = λ k h. ap (λ (p : Member). p.used) (all k h) ∙ grind (arith, nat_tests);
  }

  tag0 : tag_of ps 0 ≡ 0
  tag0 = ap (λ (p : Member). p.tag) (all 0 some)

  ranging : Ranging (tag_of ps) (0 ∷ [])
  ranging = record {
    base = tag0;
    rising = (tt, tt);
    below = λ k h. elim (eqb_tells 0 k) [
      | inl q ↦ omega (arith, ap (tag_of ps) (sym q.1), tag0)
      | inr q ↦ let z : false ≡ true = has_tail 0 k [] q.1 h in absurd (grind arith)
    ];
  }

  cleared : Bare ps (0 ∷ [])
  cleared k _ = elim (cases_lt k (length ps)) [
    | inl lt ↦ (ap (λ (p : Member). p.tag) (all k lt), ap (λ (p : Member). p.previous) (all k lt))
    | inr le ↦ (ap (λ (p : Member). p.tag) (get_or_past ps k blank le), ap (λ (p : Member). p.previous) (get_or_past ps k blank le))
  ]

  spare : (n h : ℕ) → 1 + n ≡ length ps → h ≡ first (numbers_from 1 n) → Spare ps (0 ∷ []) h (numbers_from 1 n)
  spare n h e hd = record {
    head = hd;
    apart = apart_up 1 n;
    under = under_up 1 n (length ps) (omega arith);
    linked = linked_up 1 n (omega arith) e;
    others = λ k l. elim (eqb_tells 0 k) [
      | inl q ↦ rw q.0 (none_up 1 n k (omega (arith, q.1)))
      | inr q ↦ rw q.0 (has_up 1 n k (omega (arith, q.1)) (omega arith))
    ];
  }

  pub wiped_order : order ps ≡ 0 ∷ []
  wiped_order = order_is ps (0 ∷ []) strung

  pub wiped_tags : tagged ps ≡ record { member = 0; tag = 0 } ∷ []
  wiped_tags = ap (mark (tag_of ps)) wiped_order ∙ rw tag0

  free_are : (n h : ℕ) → 1 + n ≡ length ps → h ≡ first (numbers_from 1 n) → chain ps h ≡ numbers_from 1 (length ps - 1)
  free_are n h e hd =
      let q : n ≡ length ps - 1 = omega arith in
      chain_is ps (0 ∷ []) h (numbers_from 1 n) refl some (spare n h e hd) ∙ ap (numbers_from 1) q

  pub wiped_one : length ps ≡ 1 → Sound ps 0
  wiped_one e = sound_from ps (0 ∷ []) 0 (numbers_from 1 0) some few strung ranging cleared (spare 0 0 (omega arith) refl)

  wiped_at : (n : ℕ) → 2 + n ≡ length ps → Sound ps 1
  wiped_at n e = sound_from ps (0 ∷ []) 1 (numbers_from 1 (suc n)) some few strung ranging cleared (spare (suc n) 1 (omega arith) refl)

  pub wiped_more : (length ps ≡ 1 → ⊥) → Sound ps 1
  wiped_more ne = wiped_at (length ps - 2) (omega (arith, ne))

  pub cleared_one : length ps ≡ 1 → Cleared ps 0
  cleared_one e = record { tags = wiped_tags; free = free_are 0 0 (omega arith) refl; each = each_place ps 0 (wiped_one e) }

  cleared_at : (n : ℕ) → 2 + n ≡ length ps → Cleared ps 1
  cleared_at n e = record { tags = wiped_tags; free = free_are (suc n) 1 (omega arith) refl; each = each_place ps 1 (wiped_at n e) }

  pub cleared_more : (length ps ≡ 1 → ⊥) → Cleared ps 1
  cleared_more ne = cleared_at (length ps - 2) (omega (arith, ne))
