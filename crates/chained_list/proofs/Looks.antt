-- What the tags and the links of a kept list tell.
use Rattle.std.proofs.Common.{◌≡◌, ℕ, ◌<◌, true, false, ltb, List, [], ◌∷◌, Option, Some, None, sym, ap, ◌∙◌, inl, inr, arith}
use Rattle.std.proofs.lemmas.Bool.Decides.{eqb_tells}
use Rattle.std.proofs.lemmas.Bool.{lt-ltb, le-ltb}
use Rattle.order_list.specs.Order.{has, Apart, earlier, behind, NextIs, FirstIs}
use Rattle.order_list.specs.Laws.{none_earlier}
use Rattle.chained_list.specs.Links.{link_of}
use Rattle.chained_list.specs.Chain.{StandsAs, order, first, Linked, Over, Rising, Holds, used_of, next_of, tag_of}
use Rattle.chained_list.specs.declared.member.Member.{Member}
use Rattle.order_list.proofs.Lists.{has_none, has_tail, no_base_behind, none_behind, none_earlier_left}
use Rattle.chained_list.proofs.Chains.{used_is}

pub over_at : (t : ℕ → ℕ) (b : ℕ) (xs : List ℕ) (k : ℕ) → Over t b xs → has xs k ≡ true → b < t k
over_at t b [] k o h = let z : false ≡ true = h in grind arith
over_at t b (x ∷ xs) k o h =
    elim (eqb_tells x k) [ inl p ↦ rw p.1 at o.0 | inr p ↦ over_at t b xs k o.1 (has_tail x k xs p.1 h) ]

-- of two members the one with the lower tag is earlier
pub earlier_is : (t : ℕ → ℕ) (xs : List ℕ) (a b : ℕ) → Apart xs → Rising t xs → has xs a ≡ true → has xs b ≡ true → ltb (t a) (t b) ≡ earlier xs a b
earlier_is t [] a b ax r ha hb = let z : false ≡ true = ha in grind arith
earlier_is t (x ∷ xs) a b ax r ha hb =
    elim (eqb_tells x a) [
      | inl p ↦ elim (eqb_tells x b) [
        | inl q ↦
            let nb : has xs b ≡ false = rw q.1 at ax.0 in
            let e : t a ≡ t b = ap t (sym p.1 ∙ q.1) in
            rw (p.0, nb) (le-ltb (t a) (t b) (omega arith))
        | inr q ↦
            let hb' = has_tail x b xs q.1 hb in
            let e : t x ≡ t a = ap t p.1 in
            rw (p.0, hb') (lt-ltb (t a) (t b) (omega (arith, over_at t (t x) xs b r.0 hb')))
      ]
      | inr p ↦
          let ha' = has_tail x a xs p.1 ha in
          elim (eqb_tells x b) [
            | inl q ↦
                let nb : has xs b ≡ false = rw q.1 at ax.0 in
                let e : t x ≡ t b = ap t q.1 in
                let ne : earlier xs a b ≡ false = none_earlier xs a b nb in
                rw (p.0, ne) (le-ltb (t a) (t b) (omega (arith, over_at t (t x) xs a r.0 ha')))
            | inr q ↦ rw p.0 (earlier_is t xs a b ax.1 r.1 ha' (has_tail x b xs q.1 hb))
          ]
    ]

pub no_left : (ps : List Member) (a b : ℕ) → Holds ps (order ps) → used_of ps a ≡ false → false ≡ earlier (order ps) a b
no_left ps a b k e = sym (none_earlier_left (order ps) a b (sym (used_is ps (order ps) k.strung a) ∙ e))

pub no_right : (ps : List Member) (a b : ℕ) → Holds ps (order ps) → used_of ps b ≡ false → false ≡ earlier (order ps) a b
no_right ps a b k e = sym (none_earlier (order ps) a b (sym (used_is ps (order ps) k.strung b) ∙ e))

pub by_tags : (ps : List Member) (a b : ℕ) (p q : Member) → Holds ps (order ps) → StandsAs ps a (Some p) → StandsAs ps b (Some q) → ltb p.tag q.tag ≡ earlier (order ps) a b
by_tags ps a b p q k sa sb =
    let s = k.strung in
    rw (sa.1, sb.1) (earlier_is (tag_of ps) (order ps) a b s.apart k.ranging.rising (sym (used_is ps (order ps) s a) ∙ sa.0) (sym (used_is ps (order ps) s b) ∙ sb.0))

-- the links
pub links_behind : (f : ℕ → ℕ) (xs : List ℕ) (m : ℕ) → Linked f xs → has xs m ≡ true → f m ≡ first (behind xs m)
links_behind f [] m l h = let z : false ≡ true = h in grind arith
links_behind f (x ∷ xs) m l h =
    elim (eqb_tells x m) [
      | inl p ↦ rw p.0 (ap f (sym p.1) ∙ l.0)
      | inr p ↦ rw p.0 (links_behind f xs m l.1 (has_tail x m xs p.1 h))
    ]

first_none : (ys : List ℕ) → has ys 0 ≡ false → first ys ≡ 0 → FirstIs ys None
first_none [] h e = tt
first_none (y ∷ ys) h e = absurd ((has_none y 0 ys h).0 e)

first_some : (ys : List ℕ) (n : ℕ) → n ≡ first ys → (n ≡ 0 → ⊥) → FirstIs ys (Some n)
first_some [] n e ne = ne e
first_some (y ∷ ys) n e ne = e

pub next_none : (ps : List Member) (m : ℕ) → Holds ps (order ps) → used_of ps m ≡ false → NextIs (order ps) m None
next_none ps m k e = let z = none_behind (order ps) m (sym (used_is ps (order ps) k.strung m) ∙ e) in rw z tt

-- the link of what stands at m, as an answer
pub next_is : (ps : List Member) (m : ℕ) (p : Member) (r : Option ℕ) → Holds ps (order ps) → StandsAs ps m (Some p) → link_of r ≡ p.next → (r ≡ Some 0 → ⊥) → NextIs (order ps) m r
next_is ps m p r k t l i =
    let s = k.strung in
    let h : has (order ps) m ≡ true = sym (used_is ps (order ps) s m) ∙ t.0 in
    let e : p.next ≡ first (behind (order ps) m) = ap (λ (q : Member). q.next) t.1 ∙ links_behind (next_of ps) (order ps) m s.linked h in
    go r (l ∙ e) i where
      go : (r : Option ℕ) → link_of r ≡ first (behind (order ps) m) → (r ≡ Some 0 → ⊥) → FirstIs (behind (order ps) m) r
      go None e i = first_none (behind (order ps) m) (no_base_behind (order ps) m k.strung.based k.strung.apart) (sym e)
      go (Some n) e i = first_some (behind (order ps) m) n e (λ z. i (ap Some z))
