-- A member taken out of a list that is kept in places.
use Rattle.std.proofs.Common.{◌≡◌, ℕ, ◌<◌, ◌≤◌, Bool, true, false, cond, not, eqb, ◌⊎◌, List, [], ◌∷◌, length, Some, None, sym, refl, ap, ◌∙◌, subst, inl, inr, arith}
use Rattle.std.proofs.lemmas.Bool.Decides.{eqb_tells, nat_tests}
use Rattle.std.proofs.lemmas.Bool.{cases_Bool, cases_eq}
use Rattle.order_list.specs.Order.{has, Apart, Under, Based, without, remove_refusal}
use Rattle.order_list.specs.declared.refusal.ListRefusal.TheVariants.{NoMember}
use Rattle.chained_list.specs.Chain.{Ready, order, first, chain, Linked, Backed, Over, Rising, Sound, Strung, Spare, Ranging, Unlinked, used_of, next_of, previous_of, tag_of, mark, tagged}
use Rattle.chained_list.specs.Tags.{tags_after_remove}
use Rattle.chained_list.specs.declared.member.Member.{Member}
use Rattle.order_list.proofs.Lists.{has_here, has_there, has_tail, apart_from, under_has, apart_without, based_has, based_without, has_with, under_without}
use Rattle.chained_list.proofs.Marks.{mark_same}
use Rattle.chained_list.proofs.Chains.{Bare, next_in, order_is, chain_is, used_is, used_below, sound_from, next_below, same_next, free_out}
use Rattle.chained_list.proofs.Strings.{linked_same}

-- p stands directly before m
abbrev Adjacent : List ℕ → ℕ → ℕ → Type 0
Adjacent [] p m = ⊥
Adjacent (x ∷ xs) p m = ((x ≡ p) × (first xs ≡ m)) ⊎ Adjacent xs p m

adjacent_from : (f : ℕ → ℕ) (xs : List ℕ) (p m : ℕ) → Linked f xs → has xs p ≡ true → f p ≡ m → Adjacent xs p m
adjacent_from f [] p m l h e = let z : false ≡ true = h in grind arith
adjacent_from f (x ∷ xs) p m l h e =
    elim (eqb_tells x p) [
      | inl q ↦ inl (q.1, sym l.0 ∙ ap f q.1 ∙ e)
      | inr q ↦ inr (adjacent_from f xs p m l.1 (has_tail x p xs q.1 h) e)
    ]

adjacent_left : (xs : List ℕ) (p m : ℕ) → Adjacent xs p m → has xs p ≡ true
adjacent_left [] p m a = absurd a
adjacent_left (x ∷ xs) p m a = elim a [ inl q ↦ has_here x p xs q.0 | inr q ↦ has_there x p xs (adjacent_left xs p m q) ]

first_has : (xs : List ℕ) (m : ℕ) → first xs ≡ m → (m ≡ 0 → ⊥) → has xs m ≡ true
first_has [] m e ne = absurd (ne (sym e))
first_has (x ∷ xs) m e ne = has_here x m xs e

adjacent_right : (x : ℕ) (xs : List ℕ) (p m : ℕ) → (m ≡ 0 → ⊥) → Adjacent (x ∷ xs) p m → has xs m ≡ true
adjacent_right x [] p m ne a = elim a [ inl q ↦ absurd (ne (sym q.1)) | inr q ↦ absurd q ]
adjacent_right x (y ∷ ys) p m ne a =
    elim a [ inl q ↦ first_has (y ∷ ys) m q.1 ne | inr q ↦ has_there y m ys (adjacent_right y ys p m ne q) ]

over_without : (t : ℕ → ℕ) (b : ℕ) (xs : List ℕ) (m : ℕ) → Over t b xs → Over t b (without xs m)
over_without t b [] m u = tt
over_without t b (x ∷ xs) m u =
    elim (eqb_tells x m) [ inl p ↦ rw p.0 u.1 | inr p ↦ rw p.0 (u.0, over_without t b xs m u.1) ]

rising_without : (t : ℕ → ℕ) (xs : List ℕ) (m : ℕ) → Rising t xs → Rising t (without xs m)
rising_without t [] m r = tt
rising_without t (x ∷ xs) m r =
    elim (eqb_tells x m) [
      | inl p ↦ rw p.0 r.1
      | inr p ↦ rw p.0 (over_without t (t x) xs m r.0, rising_without t xs m r.1)
    ]

over_same : (s t : ℕ → ℕ) (b : ℕ) (xs : List ℕ) → ((k : ℕ) → has xs k ≡ true → t k ≡ s k) → Over s b xs → Over t b xs
over_same s t b [] same o = tt
over_same s t b (x ∷ xs) same o =
    let e = same x (has_here x x xs refl) in (omega arith, over_same s t b xs (λ k h. same k (has_there x k xs h)) o.1)

pub rising_same : (s t : ℕ → ℕ) (xs : List ℕ) → ((k : ℕ) → has xs k ≡ true → t k ≡ s k) → Rising s xs → Rising t xs
rising_same s t [] same r = tt
rising_same s t (x ∷ xs) same r =
    let e = same x (has_here x x xs refl) in
    let more : (k : ℕ) → has xs k ≡ true → t k ≡ s k = λ k h. same k (has_there x k xs h) in
    (rw e (over_same s t (s x) xs more r.0), rising_same s t xs more r.1)

-- without the first, what is left
without_first : (xs : List ℕ) (m : ℕ) → (m ≡ 0 → ⊥) → first xs ≡ m → (f : ℕ → ℕ) → Linked f xs → Apart xs → (f m ≡ first (without xs m)) × Linked f (without xs m) × (has (without xs m) m ≡ false)
without_first [] m ne e f l a = absurd (ne (sym e))
without_first (x ∷ xs) m ne e f l a =
    elim (eqb_tells x m) [
      | inl p ↦ let n : has xs m ≡ false = rw p.1 at a.0 in rw p.0 (ap f (sym p.1) ∙ l.0, l.1, n)
      | inr p ↦ absurd (p.1 e)
    ]

linked_without : (f g : ℕ → ℕ) (p m : ℕ) → (m ≡ 0 → ⊥) → g p ≡ f m → ((k : ℕ) → (k ≡ p → ⊥) → (k ≡ m → ⊥) → g k ≡ f k) →
    (x : ℕ) (xs : List ℕ) → Apart (x ∷ xs) → Linked f (x ∷ xs) → Adjacent (x ∷ xs) p m → Linked g (x ∷ without xs m)
linked_without f g p m ne gp other x xs a l (inl q) =
    let w = without_first xs m ne q.1 f l.1 a.1 in
    let nx : has (without xs m) p ≡ false = (let e = has_with xs m p a.1 in let n : has xs p ≡ false = rw q.0 at a.0 in grind (arith, nat_tests)) in
    (ap g q.0 ∙ gp ∙ w.0, linked_same f g (without xs m) (λ k h. other k (apart_from k p (without xs m) nx h) (apart_from k m (without xs m) w.2 h)) w.1)
linked_without f g p m ne gp other x [] a l (inr q) = absurd q
linked_without f g p m ne gp other x (y ∷ ys) a l (inr q) =
    let hm = adjacent_right y ys p m ne q in
    let ym : y ≡ m → ⊥ = λ e. apart_from m y ys a.1.0 hm (sym e) in
    let xp : x ≡ p → ⊥ = λ e. apart_from p x (y ∷ ys) a.0 (adjacent_left (y ∷ ys) p m q) (sym e) in
    let xm : x ≡ m → ⊥ = λ e. apart_from m x (y ∷ ys) a.0 (has_there y m ys hm) (sym e) in
    elim (eqb_tells y m) [
      | inl z ↦ absurd (ym z.1)
      | inr z ↦ rw z.0 (other x xp xm ∙ l.0, linked_without f g p m ne gp other y ys a.1 l.1 q)
    ]

adjacent_apart : (xs : List ℕ) (p m : ℕ) → (m ≡ 0 → ⊥) → Apart xs → Adjacent xs p m → p ≡ m → ⊥
adjacent_apart [] p m ne a q e = q
adjacent_apart (x ∷ xs) p m ne a (inl q) e = apart_from m x xs a.0 (first_has xs m q.1 ne) (sym (q.0 ∙ e))
adjacent_apart (x ∷ xs) p m ne a (inr q) e = adjacent_apart xs p m ne a.1 q e

-- each member but the first has one that links to it
pred : (f : ℕ → ℕ) (x : ℕ) (xs : List ℕ) (m : ℕ) → Linked f (x ∷ xs) → has xs m ≡ true → (p : ℕ) × ((has (x ∷ xs) p ≡ true) × (f p ≡ m))
pred f x [] m l h = let z : false ≡ true = h in grind arith
pred f x (y ∷ ys) m l h =
    elim (eqb_tells y m) [
      | inl q ↦ (x, (has_here x x (y ∷ ys) refl, l.0 ∙ q.1))
      | inr q ↦ let r = pred f y ys m l.1 (has_tail y m ys q.1 h) in (r.0, (has_there x r.0 (y ∷ ys) r.1.0, r.1.1))
    ]

linked_all : (f g : ℕ → ℕ) (p m : ℕ) → (m ≡ 0 → ⊥) → g p ≡ f m → ((k : ℕ) → (k ≡ p → ⊥) → (k ≡ m → ⊥) → g k ≡ f k) →
    (xs : List ℕ) → Based xs → Apart xs → Linked f xs → Adjacent xs p m → Linked g (without xs m)
linked_all f g p m ne gp other [] b a l adj = absurd b
linked_all f g p m ne gp other (x ∷ xs) b a l adj =
    elim (eqb_tells x m) [ inl q ↦ absurd (ne (sym q.1 ∙ b)) | inr q ↦ rw q.0 (linked_without f g p m ne gp other x xs a l adj) ]

free_below : (ps : List Member) (xs : List ℕ) (h : ℕ) (fs : List ℕ) → 0 < length ps → length ps ≤ 4096 → Spare ps xs h fs → h < 4096
free_below ps xs h [] p le s = omega (arith, s.head)
free_below ps xs h (y ∷ ys) p le s = omega (arith, s.head, s.under.0)

mark_without : (t u : ℕ → ℕ) (m : ℕ) (xs : List ℕ) → Apart xs → ((k : ℕ) → has xs k ≡ true → (k ≡ m → ⊥) → u k ≡ t k) → mark u (without xs m) ≡ tags_after_remove (mark t xs) m
mark_without t u m [] a f = refl
mark_without t u m (x ∷ xs) a f =
    elim (eqb_tells x m) [
      | inl p ↦
          let n : has xs m ≡ false = rw p.1 at a.0 in
          rw p.0 (mark_same t u xs (λ k h. f k (has_there x k xs h) (apart_from k m xs n h)))
      | inr p ↦
          let e = f x (has_here x x xs refl) p.1 in
          let r = mark_without t u m xs a.1 (λ k h. f k (has_there x k xs h)) in
          rw (p.0, e, r)
    ]

-- what links back to a member other than the base: the member before it
pub before_it : (f g : ℕ → ℕ) (xs : List ℕ) (m : ℕ) → Based xs → Linked f xs → Backed f g xs → has xs m ≡ true → (m ≡ 0 → ⊥) → (has xs (g m) ≡ true) × (f (g m) ≡ m)
before_it f g [] m b l back h ne = absurd b
before_it f g (x ∷ xs) m b l back h ne =
    let r = pred f x xs m l (has_tail x m xs (λ e. ne (sym e ∙ b)) h) in
    let e : g m ≡ r.0 = ap g (sym r.1.1) ∙ back r.0 r.1.0 in
    (ap (has (x ∷ xs)) e ∙ r.1.0, ap f e ∙ r.1.1)

pub refused_no_member : (ps : List Member) (h m : ℕ) → Sound ps h → false ≡ used_of ps m → remove_refusal (order ps) m ≡ Some NoMember
refused_no_member ps h m k e = let n : has (order ps) m ≡ false = sym (e ∙ used_is ps (order ps) k.holds.strung m) in rw n

module _ (ps : List Member) (h m : ℕ) (r : Ready ps h m) where
  str : Strung ps (order ps)
  str = r.sound.holds.strung

  pub has_m : has (order ps) m ≡ true
  has_m = sym (r.stands ∙ used_is ps (order ps) str m)

  back : (has (order ps) (previous_of ps m) ≡ true) × (next_of ps (previous_of ps m) ≡ m)
  back = before_it (next_of ps) (previous_of ps) (order ps) m str.based str.linked str.backed has_m r.inner

  adj : Adjacent (order ps) (previous_of ps m) m
  adj = adjacent_from (next_of ps) (order ps) (previous_of ps m) m str.linked back.0 back.1

  pub m_below : m < length ps
  m_below = used_below ps m r.stands

  pub p_below : previous_of ps m < length ps
  p_below = under_has (length ps) (order ps) (previous_of ps m) str.under back.0

  pub two : previous_of ps m ≡ m → ⊥
  two = adjacent_apart (order ps) (previous_of ps m) m r.inner str.apart adj

  pub x_below : next_of ps m < length ps
  x_below = next_below ps (order ps) m str has_m

  pub x_not_m : next_of ps m ≡ m → ⊥
  x_not_m e =
      two (same_next (next_of ps) (previous_of ps) (order ps) (previous_of ps m) m str.backed back.0 has_m (back.1 ∙ sym e))

  pub h_below : h < 4096
  h_below = free_below ps (order ps) h (chain ps h) r.sound.some r.sound.few r.sound.spare

  pub no_refusal : remove_refusal (order ps) m ≡ None
  no_refusal = let y = has_m in elim (eqb_tells m 0) [ inl q ↦ absurd (r.inner q.1) | inr q ↦ rw (y, q.0) ]

  module _ (qs : List Member) (u : Unlinked ps qs (previous_of ps m) m h) where
    out : has (without (order ps) m) m ≡ false
    out = let e = has_with (order ps) m m str.apart in grind (arith, nat_tests)

    away : (k : ℕ) → has (without (order ps) m) k ≡ true → k ≡ m → ⊥
    away k hk = apart_from k m (without (order ps) m) out hk

    inside : (k : ℕ) → has (without (order ps) m) k ≡ true → has (order ps) k ≡ true
    inside k hk =
        let e = has_with (order ps) m k str.apart in
        elim (eqb_tells m k) [
          | inl q ↦ absurd (away k hk (sym q.1))
          | inr q ↦ let e' = rw q.0 at e in sym e' ∙ hk
        ]

    pub strung_after : Strung qs (without (order ps) m)
    strung_after = record {
      based = based_without (order ps) m r.inner str.based;
      apart = apart_without (order ps) m str.apart;
      under = rw u.size (under_without (length ps) (order ps) m str.under);
      linked = linked_all (next_of ps) (next_of qs) (previous_of ps m) m r.inner u.here u.others (order ps) str.based str.apart str.linked adj;
      backed = λ x hx.
          let hx' = inside x hx in
          let xm = away x hx in
          elim (cases_eq x (previous_of ps m)) [
            | inl e ↦
                let f : next_of qs x ≡ next_of ps m = ap (next_of qs) e ∙ u.here in
                ap (previous_of qs) f ∙ u.back ∙ sym e
            | inr xp ↦
                let f = u.others x xp xm in
                ap (previous_of qs) f ∙
                u.backs (next_of ps x) (λ q. xm (same_next (next_of ps) (previous_of ps) (order ps) x m str.backed hx' has_m q))
                (λ q. xp (sym (str.backed x hx') ∙ ap (previous_of ps) q)) ∙
                str.backed x hx'
          ];
      marked = λ k hk.
          u.marks k ∙ ap (λ (b : Bool). cond (eqb m k) false b) (used_is ps (order ps) str k) ∙ sym (has_with (order ps) m k str.apart);
    }

    ranging_after : Ranging (tag_of qs) (without (order ps) m)
    ranging_after = let g = r.sound.holds.ranging in record {
      base = u.tags 0 (λ e. r.inner (sym e)) ∙ g.base;
      rising = rising_same (tag_of ps) (tag_of qs) (without (order ps) m) (λ k hk. u.tags k (away k hk)) (rising_without (tag_of ps) (order ps) m g.rising);
      below = λ k hk. omega (arith, u.tags k (away k hk), g.below k (inside k hk));
    }

    spare_after : Spare qs (without (order ps) m) m (m ∷ chain ps h)
    spare_after =
        let s = r.sound.spare in
        let fs = chain ps h in
        let new : has fs m ≡ false = elim (cases_Bool (has fs m)) [
          | inl y ↦ (let o = free_out ps (order ps) h fs m s y in let c : true ≡ false = sym has_m ∙ o in absurd (grind arith))
          | inr n ↦ n
        ] in
        record {
          head = refl;
          apart = (new, s.apart);
          under = (omega (arith, m_below, u.size), subst (λ (c : ℕ). Under c fs) (sym u.size) s.under);
          linked = (
            u.freed ∙ s.head,
            linked_same (next_of ps) (next_of qs) fs (λ k hk. u.others k
                (λ q. let o = free_out ps (order ps) h fs k s hk in let c : true ≡ false = sym back.0 ∙ ap (has (order ps)) (sym q) ∙ o in grind arith)
                (apart_from k m fs new hk)) s.linked,
          );
          others = λ k hk.
              let lt : k < length ps = omega (arith, u.size) in
              let o = s.others k lt in
              let e = has_with (order ps) m k str.apart in
              elim (eqb_tells m k) [
                | inl q ↦ let e' = rw q.0 at e in rw q.0 (ap not (sym e'))
                | inr q ↦ let e' = rw q.0 at e in rw q.0 (o ∙ ap not (sym e'))
              ];
        }

    cleared_after : Bare qs (without (order ps) m)
    cleared_after k hk =
        let e = has_with (order ps) m k str.apart in
        elim (eqb_tells m k) [
          | inl q ↦ (ap (tag_of qs) (sym q.1) ∙ u.untagged, ap (previous_of qs) (sym q.1) ∙ u.unbacked)
          | inr q ↦
              let e' = rw q.0 at e in
              let hk' : has (order ps) k ≡ false = sym e' ∙ hk in
              let km : k ≡ m → ⊥ = λ z. q.1 (sym z) in
              let kx : k ≡ next_of ps m → ⊥ = λ z. apart_from (next_of ps m) k (order ps) hk' (next_in ps (order ps) m str has_m) (sym z) in
              let b = r.sound.cleared k hk' in
              (u.tags k km ∙ b.0, u.backs k kx km ∙ b.1)
        ]

    pub order_after : order qs ≡ without (order ps) m
    order_after = order_is qs (without (order ps) m) strung_after

    pub tagged_after : tagged qs ≡ tags_after_remove (tagged ps) m
    tagged_after =
        ap (mark (tag_of qs)) order_after ∙
        mark_without (tag_of ps) (tag_of qs) m (order ps) str.apart (λ k hk ne. u.tags k ne)

    pub chain_after : chain qs m ≡ m ∷ chain ps h
    chain_after =
        chain_is qs (without (order ps) m) m (m ∷ chain ps h) (based_has (without (order ps) m) strung_after.based) (omega (arith, u.size, r.sound.some)) spare_after

    pub sound_after : Sound qs m
    sound_after =
        sound_from qs (without (order ps) m) m (m ∷ chain ps h) (omega (arith, u.size, r.sound.some)) (omega (arith, u.size, r.sound.few)) strung_after ranging_after cleared_after spare_after
