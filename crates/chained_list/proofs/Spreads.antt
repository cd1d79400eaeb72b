-- A spread, member by member.
use Rattle.std.proofs.Common.{◌≡◌, ℕ, suc, ◌+◌, ◌*◌, ◌/◌, ◌<◌, ◌≤◌, true, false, cond, ltb, List, [], ◌∷◌, length, sym, ap, ◌∙◌, subst, inl, inr, zero-le, arith}
use Rattle.std.proofs.lemmas.Bool.Decides.{eqb_tells}
use Rattle.std.proofs.lemmas.Bool.{cases_lt, lt-ltb, le-ltb}
use Rattle.order_list.specs.Order.{has}
use Rattle.chained_list.specs.Tags.{among, spread_tag}
use Rattle.chained_list.specs.Chain.{order, Rising, Holds, Retagged, next_of, tag_of, tags}
use Rattle.chained_list.specs.Spreading.{Spreadable, SpreadOut}
use Rattle.chained_list.specs.declared.member.Member.{Member}
use Rattle.order_list.proofs.Lists.{has_tail}
use Rattle.chained_list.proofs.Looks.{over_at}
use Rattle.chained_list.proofs.Chains.{used_is}
use Rattle.chained_list.proofs.Writes.{retag, retagged_more, tag_at}
use Rattle.chained_list.proofs.Neighbours.{in_tags, few_tags, in_range, next_member, next_higher, count_next, count_end}
use Rattle.chained_list.proofs.Spread.{among_le, among_step, gap_end}

-- the tag that a has when the first j members of the block are done
abbrev pub partly : ℕ → ℕ → List ℕ → ℕ → ℕ → ℕ
partly s w ts j a =
    cond (ltb a s) a (cond (ltb a (s + w)) (cond (ltb (among s a ts) j) (s + (among s a ts * w) / among s (s + w) ts) a) a)

-- member number j of the block
pub record AtBlock (ps : List Member) (s w j a : ℕ) : Type 0 where
  pub member : has (order ps) a ≡ true
  pub low : s ≤ tag_of ps a
  pub inside : tag_of ps a < s + w
  pub number : among s (tag_of ps a) (tags ps) ≡ j

partly_none : (s w : ℕ) (ts : List ℕ) (a : ℕ) → a ≡ partly s w ts 0 a
partly_none s w ts a =
    elim (cases_lt a s) [
      | inl l ↦ rw (lt-ltb a s l)
      | inr g ↦ elim (cases_lt a (s + w)) [
        | inl l ↦ rw (le-ltb a s g, lt-ltb a (s + w) l, le-ltb (among s a ts) 0 zero-le)
        | inr h ↦ rw (le-ltb a s g, le-ltb a (s + w) h)
      ]
    ]

partly_all : (s w : ℕ) (ts : List ℕ) (a k : ℕ) → has ts a ≡ true → k ≡ among s (s + w) ts → partly s w ts k a ≡ spread_tag s w ts a
partly_all s w ts a k h e =
    elim (cases_lt a s) [
      | inl l ↦ rw (lt-ltb a s l)
      | inr g ↦ elim (cases_lt a (s + w)) [
        | inl l ↦ rw (le-ltb a s g, lt-ltb a (s + w) l, lt-ltb (among s a ts) k (omega (arith, among_step s a (s + w) ts h g l)))
        | inr u ↦ rw (le-ltb a s g, le-ltb a (s + w) u)
      ]
    ]

partly_here : (s w : ℕ) (ts : List ℕ) (j a : ℕ) → s ≤ a → a < s + w → among s a ts ≡ j → s + (j * w) / among s (s + w) ts ≡ partly s w ts (suc j) a
partly_here s w ts j a g l e =
    rw (le-ltb a s g, lt-ltb a (s + w) l, lt-ltb (among s a ts) (suc j) (omega arith)) (ap (λ (x : ℕ). s + (x * w) / among s (s + w) ts) (sym e))

partly_there : (s w : ℕ) (ts : List ℕ) (j a : ℕ) → (s ≤ a → a < s + w → among s a ts ≡ j → ⊥) → partly s w ts j a ≡ partly s w ts (suc j) a
partly_there s w ts j a ne =
    elim (cases_lt a s) [
      | inl l ↦ rw (lt-ltb a s l)
      | inr g ↦ elim (cases_lt a (s + w)) [
        | inl l ↦ elim (cases_lt (among s a ts) j) [
          | inl q ↦ rw (le-ltb a s g, lt-ltb a (s + w) l, lt-ltb (among s a ts) j q, lt-ltb (among s a ts) (suc j) (omega arith))
          | inr q ↦ rw (le-ltb a s g, lt-ltb a (s + w) l, le-ltb (among s a ts) j q, le-ltb (among s a ts) (suc j) (omega (arith, ne g l)))
        ]
        | inr u ↦ rw (le-ltb a s g, le-ltb a (s + w) u)
      ]
    ]

-- two members have two tags
tags_differ : (t : ℕ → ℕ) (xs : List ℕ) (a b : ℕ) → Rising t xs → has xs a ≡ true → has xs b ≡ true → (a ≡ b → ⊥) → t a ≡ t b → ⊥
tags_differ t [] a b r ha hb ne e = let z : false ≡ true = ha in grind arith
tags_differ t (x ∷ xs) a b r ha hb ne e =
    elim (eqb_tells x a) [
      | inl p ↦ elim (eqb_tells x b) [
        | inl q ↦ ne (sym p.1 ∙ q.1)
        | inr q ↦ omega (arith, over_at t (t x) xs b r.0 (has_tail x b xs q.1 hb), ap t p.1)
      ]
      | inr p ↦ elim (eqb_tells x b) [
        | inl q ↦ omega (arith, over_at t (t x) xs a r.0 (has_tail x a xs p.1 ha), ap t q.1)
        | inr q ↦ tags_differ t xs a b r.1 (has_tail x a xs p.1 ha) (has_tail x b xs q.1 hb) ne e
      ]
    ]

module _ (ps : List Member) (h : Holds ps (order ps)) (f s w n : ℕ) (b : Spreadable ps f s w n) where
  pub begins : (j : ℕ) → j ≡ 0 → AtBlock ps s w j f
  begins j e = record { member = b.member; low = b.low; inside = b.inside; number = b.none ∙ sym e }

  pub starts : (k : ℕ) → tag_of ps k ≡ partly s w (tags ps) 0 (tag_of ps k)
  starts k = partly_none s w (tags ps) (tag_of ps k)

  pub few : n ≤ length ps
  few = omega (arith, b.count, among_le s (s + w) (tags ps), few_tags ps h)

  pub pos : 0 < n
  pos = omega (arith, b.count, among_step s (tag_of ps f) (s + w) (tags ps) (in_tags ps h f b.member) b.low b.inside)

  -- the tag of number j fits
  pub small : (j : ℕ) → j < n → s + (j * w) / n + 2 ≤ 4294967296
  small j lt = omega (arith, gap_end w n j b.wide lt, b.top)

  module _ (qs : List Member) (j a : ℕ) (lt : j < n) (same : Retagged ps qs) (at : AtBlock ps s w j a)
      (tg : (k : ℕ) → has (order ps) k ≡ true → tag_of qs k ≡ partly s w (tags ps) j (tag_of ps k)) where
    pub a_below : a < length qs
    a_below = omega (arith, in_range ps h a at.member, same.size)

    pub same_more : Retagged ps (retag qs a (s + (j * w) / n))
    same_more = retagged_more ps qs a (s + (j * w) / n) a_below (used_is ps (order ps) h.strung a ∙ at.member) same

    pub tags_more : (k : ℕ) → has (order ps) k ≡ true → tag_of (retag qs a (s + (j * w) / n)) k ≡ partly s w (tags ps) (suc j) (tag_of ps k)
    tags_more k hk =
        let e = tag_at qs a (s + (j * w) / n) a_below k in
        elim (eqb_tells a k) [
          | inl q ↦
              let e' = rw q.0 at e in
              let p : s + (j * w) / among s (s + w) (tags ps) ≡ partly s w (tags ps) (suc j) (tag_of ps a) = partly_here s w (tags ps) j (tag_of ps a) at.low at.inside at.number in
              e' ∙ ap (λ (x : ℕ). s + (j * w) / x) b.count ∙ p ∙ ap (λ (x : ℕ). partly s w (tags ps) (suc j) (tag_of ps x)) q.1
          | inr q ↦
              let e' = rw q.0 at e in
              e' ∙ tg k hk ∙ partly_there s w (tags ps) j (tag_of ps k) (λ g l m.
              let d = tags_differ (tag_of ps) (order ps) a k h.ranging.rising at.member hk q.1 in
              elim (cases_lt (tag_of ps a) (tag_of ps k)) [
                | inl u ↦ omega (arith, among_step s (tag_of ps a) (tag_of ps k) (tags ps) (in_tags ps h a at.member) at.low u, at.number)
                | inr u ↦
                    let u' : tag_of ps k < tag_of ps a = omega (arith, d) in
                    omega (arith, among_step s (tag_of ps k) (tag_of ps a) (tags ps) (in_tags ps h k hk) g u', at.number)
              ])
        ]

    pub at_more : suc j < n → AtBlock ps s w (suc j) (next_of (retag qs a (s + (j * w) / n)) a)
    at_more lt' =
        let e : next_of (retag qs a (s + (j * w) / n)) a ≡ next_of ps a = same_more.links a in
        let nz : next_of ps a ≡ 0 → ⊥ = λ z.
        (let q = count_end ps h s a (s + w) at.member at.low at.inside (λ c. absurd (c z)) in omega (arith, q, at.number, b.count)) in
        let inb : tag_of ps (next_of ps a) < s + w =
        elim (cases_lt (tag_of ps (next_of ps a)) (s + w)) [
          | inl l ↦ l
          | inr g ↦ absurd (let q = count_end ps h s a (s + w) at.member at.low at.inside (λ _. g) in omega (arith, q, at.number, b.count))
        ] in
        let r : AtBlock ps s w (suc j) (next_of ps a) = record {
          member = next_member ps h a at.member nz;
          low = omega (arith, next_higher ps h a at.member nz, at.low);
          inside = inb;
          number = count_next ps h s a at.member at.low nz ∙ ap suc at.number;
        } in
        subst (λ (x : ℕ). AtBlock ps s w (suc j) x) (sym e) r

  pub ends : (qs : List Member) (j : ℕ) → j ≡ n → Retagged ps qs → ((k : ℕ) → has (order ps) k ≡ true → tag_of qs k ≡ partly s w (tags ps) j (tag_of ps k)) → SpreadOut ps qs s w
  ends qs j e same tg = record {
    same = same;
    after = λ k hk. tg k hk ∙ partly_all s w (tags ps) (tag_of ps k) j (in_tags ps h k hk) (e ∙ b.count);
  }
