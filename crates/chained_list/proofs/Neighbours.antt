-- What stands next to a member, by its tag.
use Rattle.std.proofs.Common.{◌≡◌, ℕ, suc, ◌<◌, ◌≤◌, true, false, ◌⊎◌, List, [], ◌∷◌, length, sym, refl, ap, ◌∙◌, inl, inr, arith}
use Rattle.std.proofs.lemmas.Bool.Decides.{eqb_tells}
use Rattle.order_list.specs.Order.{has, Apart, Based}
use Rattle.chained_list.specs.Tags.{among, tag_at, behind_tag, first_tag}
use Rattle.chained_list.specs.Chain.{order, first, Linked, Over, Rising, Holds, next_of, previous_of, tag_of, along, mark, tags, tagged}
use Rattle.chained_list.specs.declared.member.Member.{Member}
use Rattle.order_list.proofs.Lists.{has_here, has_there, has_none, has_tail, under_has, fits}
use Rattle.chained_list.proofs.Looks.{over_at}
use Rattle.chained_list.proofs.Chains.{next_has}
use Rattle.chained_list.proofs.Remove.{before_it}
use Rattle.chained_list.proofs.Spread.{among_none, among_next}

pub has_along : (t : ℕ → ℕ) (xs : List ℕ) (x : ℕ) → has xs x ≡ true → has (along t xs) (t x) ≡ true
has_along t [] x h = let z : false ≡ true = h in absurd (grind arith)
has_along t (y ∷ ys) x h =
    elim (eqb_tells y x) [
      | inl e ↦ has_here (t y) (t x) (along t ys) (ap t e.1)
      | inr ne ↦ has_there (t y) (t x) (along t ys) (has_along t ys x (has_tail y x ys ne.1 h))
    ]

pub along_has : (t : ℕ → ℕ) (xs : List ℕ) (b : ℕ) → has (along t xs) b ≡ true → (x : ℕ) × ((has xs x ≡ true) × (t x ≡ b))
along_has t [] b h = let z : false ≡ true = h in absurd (grind arith)
along_has t (y ∷ ys) b h =
    elim (eqb_tells (t y) b) [
      | inl e ↦ (y, (has_here y y ys refl, e.1))
      | inr ne ↦ let r = along_has t ys b (has_tail (t y) b (along t ys) ne.1 h) in (r.0, (has_there y r.0 ys r.1.0, r.1.1))
    ]

over_along : (t : ℕ → ℕ) (b : ℕ) (xs : List ℕ) → Over t b xs → Over (λ a. a) b (along t xs)
over_along t b [] o = tt
over_along t b (x ∷ xs) o = (o.0, over_along t b xs o.1)

pub rising_along : (t : ℕ → ℕ) (xs : List ℕ) → Rising t xs → Rising (λ a. a) (along t xs)
rising_along t [] r = tt
rising_along t (x ∷ xs) r = (over_along t (t x) xs r.0, rising_along t xs r.1)

pub length_along : (t : ℕ → ℕ) (xs : List ℕ) → length (along t xs) ≡ length xs
length_along t [] = refl
length_along t (x ∷ xs) = ap suc (length_along t xs)

-- no tag lies between a member's and the next one's
closest : (f t : ℕ → ℕ) (x : ℕ) (xs : List ℕ) (a z : ℕ) → has xs 0 ≡ false → Linked f (x ∷ xs) → Rising t (x ∷ xs) → has (x ∷ xs) a ≡ true → has (x ∷ xs) z ≡ true →
    (t z ≤ t a) ⊎ ((f a ≡ 0 → ⊥) × (t (f a) ≤ t z))
closest f t x [] a z n0 l r ha hz =
    elim (eqb_tells x z) [
      | inl e ↦ elim (eqb_tells x a) [
        | inl q ↦ inl (omega (arith, ap t (sym e.1 ∙ q.1)))
        | inr q ↦ let c : false ≡ true = has_tail x a [] q.1 ha in absurd (grind arith)
      ]
      | inr ne ↦ let c : false ≡ true = has_tail x z [] ne.1 hz in absurd (grind arith)
    ]
closest f t x (y ∷ ys) a z n0 l r ha hz =
    let n = has_none y 0 ys n0 in
    elim (eqb_tells x a) [
      | inl q ↦
          let fa : f a ≡ y = ap f (sym q.1) ∙ l.0 in
          elim (eqb_tells x z) [
            | inl e ↦ inl (omega (arith, ap t (sym e.1 ∙ q.1)))
            | inr e ↦
                let hz' = has_tail x z (y ∷ ys) e.1 hz in
                inr (
                  λ c. n.0 (sym fa ∙ c),
                  elim (eqb_tells y z) [
                    | inl p ↦ omega (arith, ap t fa, ap t p.1)
                    | inr p ↦ omega (arith, ap t fa, over_at t (t y) ys z r.1.0 (has_tail y z ys p.1 hz'))
                  ],
                )
          ]
      | inr q ↦
          let ha' = has_tail x a (y ∷ ys) q.1 ha in
          elim (eqb_tells x z) [
            | inl e ↦ inl (omega (arith, ap t e.1, over_at t (t x) (y ∷ ys) a r.0 ha'))
            | inr e ↦ closest f t y ys a z n.1 l.1 r.1 ha' (has_tail x z (y ∷ ys) e.1 hz)
          ]
    ]

next_over : (f t : ℕ → ℕ) (x : ℕ) (xs : List ℕ) (a : ℕ) → Linked f (x ∷ xs) → Rising t (x ∷ xs) → has (x ∷ xs) a ≡ true → (f a ≡ 0 → ⊥) → t a < t (f a)
next_over f t x [] a l r ha nz =
    elim (eqb_tells x a) [
      | inl q ↦ absurd (nz (ap f (sym q.1) ∙ l.0))
      | inr q ↦ let c : false ≡ true = has_tail x a [] q.1 ha in absurd (grind arith)
    ]
next_over f t x (y ∷ ys) a l r ha nz =
    elim (eqb_tells x a) [
      | inl q ↦ omega (arith, ap t (ap f (sym q.1) ∙ l.0), ap t q.1, r.0.0)
      | inr q ↦ next_over f t y ys a l.1 r.1 (has_tail x a (y ∷ ys) q.1 ha) nz
    ]

closest_in : (f t : ℕ → ℕ) (xs : List ℕ) (a z : ℕ) → Based xs → Apart xs → Linked f xs → Rising t xs → has xs a ≡ true → has xs z ≡ true →
    (t z ≤ t a) ⊎ ((f a ≡ 0 → ⊥) × (t (f a) ≤ t z))
closest_in f t [] a z b p l r ha hz = absurd b
closest_in f t (x ∷ xs) a z b p l r ha hz = let n0 : has xs 0 ≡ false = rw b at p.0 in closest f t x xs a z n0 l r ha hz

next_over_in : (f t : ℕ → ℕ) (xs : List ℕ) (a : ℕ) → Based xs → Linked f xs → Rising t xs → has xs a ≡ true → (f a ≡ 0 → ⊥) → t a < t (f a)
next_over_in f t [] a b l r ha nz = absurd b
next_over_in f t (x ∷ xs) a b l r ha nz = next_over f t x xs a l r ha nz

-- the members and their tags
tag_at_is : (t : ℕ → ℕ) (xs : List ℕ) (m : ℕ) → has xs m ≡ true → tag_at (mark t xs) m ≡ t m
tag_at_is t [] m h = let z : false ≡ true = h in absurd (grind arith)
tag_at_is t (x ∷ xs) m h =
    elim (eqb_tells x m) [
      | inl e ↦ rw e.0 (ap t e.1)
      | inr ne ↦ rw ne.0 (tag_at_is t xs m (has_tail x m xs ne.1 h))
    ]

first_tag_none : (t : ℕ → ℕ) (xs : List ℕ) → has xs 0 ≡ false → first xs ≡ 0 → first_tag (mark t xs) ≡ 4294967296
first_tag_none t [] n e = refl
first_tag_none t (x ∷ xs) n e = absurd ((has_none x 0 xs n).0 e)

first_tag_some : (t : ℕ → ℕ) (xs : List ℕ) → (first xs ≡ 0 → ⊥) → first_tag (mark t xs) ≡ t (first xs)
first_tag_some t [] n = absurd (n refl)
first_tag_some t (x ∷ xs) n = refl

behind_none : (f t : ℕ → ℕ) (x : ℕ) (xs : List ℕ) (m : ℕ) → has xs 0 ≡ false → Linked f (x ∷ xs) → has (x ∷ xs) m ≡ true → f m ≡ 0 → behind_tag (mark t (x ∷ xs)) m ≡ 4294967296
behind_none f t x [] m n0 l h z =
    elim (eqb_tells x m) [
      | inl e ↦ rw e.0
      | inr ne ↦ let c : false ≡ true = has_tail x m [] ne.1 h in absurd (grind arith)
    ]
behind_none f t x (y ∷ ys) m n0 l h z =
    elim (eqb_tells x m) [
      | inl e ↦ rw e.0 (first_tag_none t (y ∷ ys) n0 (sym l.0 ∙ ap f e.1 ∙ z))
      | inr ne ↦ rw ne.0 (behind_none f t y ys m (has_none y 0 ys n0).1 l.1 (has_tail x m (y ∷ ys) ne.1 h) z)
    ]

behind_none_in : (f t : ℕ → ℕ) (xs : List ℕ) (m : ℕ) → Based xs → Apart xs → Linked f xs → has xs m ≡ true → f m ≡ 0 → behind_tag (mark t xs) m ≡ 4294967296
behind_none_in f t [] m b p l h z = absurd b
behind_none_in f t (x ∷ xs) m b p l h z = let n0 : has xs 0 ≡ false = rw b at p.0 in behind_none f t x xs m n0 l h z

behind_some : (f t : ℕ → ℕ) (xs : List ℕ) (m : ℕ) → Linked f xs → has xs m ≡ true → (f m ≡ 0 → ⊥) → behind_tag (mark t xs) m ≡ t (f m)
behind_some f t [] m l h nz = let z : false ≡ true = h in absurd (grind arith)
behind_some f t (x ∷ xs) m l h nz =
    elim (eqb_tells x m) [
      | inl e ↦ let q : f m ≡ first xs = ap f (sym e.1) ∙ l.0 in rw e.0 (first_tag_some t xs (λ z. nz (q ∙ z)) ∙ ap t (sym q))
      | inr ne ↦ rw ne.0 (behind_some f t xs m l.1 (has_tail x m xs ne.1 h) nz)
    ]

module _ (ps : List Member) (h : Holds ps (order ps)) where
  xs : List ℕ
  xs = order ps

  pub in_tags : (a : ℕ) → has (order ps) a ≡ true → has (tags ps) (tag_of ps a) ≡ true
  in_tags a ha = has_along (tag_of ps) (order ps) a ha

  pub tags_rise : Rising (λ a. a) (tags ps)
  tags_rise = rising_along (tag_of ps) (order ps) h.ranging.rising

  pub few_tags : length (tags ps) ≤ length ps
  few_tags = omega (arith, length_along (tag_of ps) (order ps), fits (length ps) (order ps) h.strung.apart h.strung.under)

  pub in_range : (a : ℕ) → has (order ps) a ≡ true → a < length ps
  in_range a ha = under_has (length ps) (order ps) a h.strung.under ha

  pub next_member : (a : ℕ) → has (order ps) a ≡ true → (next_of ps a ≡ 0 → ⊥) → has (order ps) (next_of ps a) ≡ true
  next_member a ha nz = elim (next_has (next_of ps) (order ps) a h.strung.linked ha) [ inl z ↦ absurd (nz z) | inr q ↦ q ]

  pub next_higher : (a : ℕ) → has (order ps) a ≡ true → (next_of ps a ≡ 0 → ⊥) → tag_of ps a < tag_of ps (next_of ps a)
  next_higher a ha nz = next_over_in (next_of ps) (tag_of ps) (order ps) a h.strung.based h.strung.linked h.ranging.rising ha nz

  pub before_member : (a : ℕ) → has (order ps) a ≡ true → (a ≡ 0 → ⊥) → (has (order ps) (previous_of ps a) ≡ true) × (next_of ps (previous_of ps a) ≡ a)
  before_member a ha nz = before_it (next_of ps) (previous_of ps) (order ps) a h.strung.based h.strung.linked h.strung.backed ha nz

  pub before_lower : (a : ℕ) → has (order ps) a ≡ true → (a ≡ 0 → ⊥) → tag_of ps (previous_of ps a) < tag_of ps a
  before_lower a ha nz =
      let b = before_member a ha nz in
      omega (arith, next_higher (previous_of ps a) b.0 (λ z. nz (sym b.1 ∙ z)), ap (tag_of ps) b.1)

  pub between : (a b : ℕ) → has (order ps) a ≡ true → has (tags ps) b ≡ true → (b ≤ tag_of ps a) ⊎ ((next_of ps a ≡ 0 → ⊥) × (tag_of ps (next_of ps a) ≤ b))
  between a b ha hb =
      let r = along_has (tag_of ps) (order ps) b hb in
      elim (closest_in (next_of ps) (tag_of ps) (order ps) a r.0 h.strung.based h.strung.apart h.strung.linked h.ranging.rising ha r.1.0) [
        | inl le ↦ inl (omega (arith, r.1.1))
        | inr q ↦ inr (q.0, omega (arith, q.1, r.1.1))
      ]

  -- counting on from a member to the next, or to an end before the next
  pub count_next : (lo a : ℕ) → has (order ps) a ≡ true → lo ≤ tag_of ps a → (next_of ps a ≡ 0 → ⊥) → among lo (tag_of ps (next_of ps a)) (tags ps) ≡ suc (among lo (tag_of ps a) (tags ps))
  count_next lo a ha le nz =
      among_next lo (tag_of ps a) (tag_of ps (next_of ps a)) (tags ps) tags_rise (in_tags a ha) le (next_higher a ha nz)
      (λ b hb. elim (between a b ha hb) [ inl q ↦ inl q | inr q ↦ inr q.1 ])

  pub count_end : (lo a e : ℕ) → has (order ps) a ≡ true → lo ≤ tag_of ps a → tag_of ps a < e → ((next_of ps a ≡ 0 → ⊥) → e ≤ tag_of ps (next_of ps a)) → among lo e (tags ps) ≡ suc (among lo (tag_of ps a) (tags ps))
  count_end lo a e ha le lt stop =
      among_next lo (tag_of ps a) e (tags ps) tags_rise (in_tags a ha) le lt
      (λ b hb. elim (between a b ha hb) [ inl q ↦ inl q | inr q ↦ inr (omega (arith, q.1, stop q.0)) ])

  pub none_before : (lo a : ℕ) → has (order ps) a ≡ true → (a ≡ 0 → ⊥) → tag_of ps (previous_of ps a) < lo → among lo (tag_of ps a) (tags ps) ≡ 0
  none_before lo a ha nz lt =
      let p = before_member a ha nz in
      among_none lo (tag_of ps a) (tags ps) (λ b hb.
      elim (between (previous_of ps a) b p.0 hb) [
        | inl q ↦ inl (omega arith)
        | inr q ↦ inr (omega (arith, q.1, ap (tag_of ps) p.1))
      ])

  pub none_at_base : (lo a : ℕ) → a ≡ 0 → among lo (tag_of ps a) (tags ps) ≡ 0
  none_at_base lo a z = among_none lo (tag_of ps a) (tags ps) (λ b _. inr (omega (arith, ap (tag_of ps) z, h.ranging.base)))

  pub tag_at_tagged : (m : ℕ) → has (order ps) m ≡ true → tag_at (tagged ps) m ≡ tag_of ps m
  tag_at_tagged m hm = tag_at_is (tag_of ps) (order ps) m hm

  pub behind_last : (m : ℕ) → has (order ps) m ≡ true → next_of ps m ≡ 0 → behind_tag (tagged ps) m ≡ 4294967296
  behind_last m hm z = behind_none_in (next_of ps) (tag_of ps) (order ps) m h.strung.based h.strung.apart h.strung.linked hm z

  pub behind_next : (m : ℕ) → has (order ps) m ≡ true → (next_of ps m ≡ 0 → ⊥) → behind_tag (tagged ps) m ≡ tag_of ps (next_of ps m)
  behind_next m hm nz = behind_some (next_of ps) (tag_of ps) (order ps) m h.strung.linked hm nz
