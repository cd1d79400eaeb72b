-- Two lists side by side: in step, they are the two sides of one list of twins.
use Rattle.std.proofs.Common.{◌≡◌, ℕ, suc, Bool, true, false, cond, eqb, ◌⊎◌, List, [], ◌∷◌, length, is_some, Some, None, Option, sym, refl, ap, ◌∙◌, subst, inl, inr, arith}
use Rattle.std.proofs.lemmas.Bool.Decides.{eqb_tells}
use Rattle.std.proofs.lemmas.Bool.{cases_Bool}
use Rattle.std.specs.Bool.{beq}
use Rattle.order_list.specs.declared.alike.Twin.{Twin}
use Rattle.order_list.specs.Order.{has, Apart, Based, earlier, behind, FirstIs, NextIs, insert_after, without, insert_refusal, remove_refusal}
use Rattle.order_list.specs.Laws.{none_earlier}
use Rattle.order_list.specs.Alike.{any, agrees, base, twin, named, forget, Same, Together, made, cleared, inserted, not_inserted, removed, not_removed, Paired, Indistinct}
use Rattle.order_list.proofs.Lists.{has_here, has_there, has_tail, apart_from, apart_insert, based_insert, none_earlier_left, none_behind, apart_without, based_without}

abbrev lefts : List Twin → List ℕ
lefts [] = []
lefts (t ∷ ts) = t.left ∷ lefts ts

abbrev rights : List Twin → List ℕ
rights [] = []
rights (t ∷ ts) = t.right ∷ rights ts

twin_tells : (t : Twin) (a b : ℕ) → ((twin t a b ≡ true) × (t.left ≡ a) × (t.right ≡ b)) ⊎ ((twin t a b ≡ false) × (t.left ≡ a → t.right ≡ b → ⊥))
twin_tells t a b =
    elim (eqb_tells t.left a) [
      | inl p ↦ elim (eqb_tells t.right b) [
        | inl q ↦ inl (rw p.0 q.0, p.1, q.1)
        | inr q ↦ inr (rw p.0 q.0, λ _. q.1)
      ]
      | inr p ↦ inr (rw p.0 refl, λ e _. p.1 e)
    ]

named_left : (zs : List Twin) (a b : ℕ) → named zs a b ≡ true → has (lefts zs) a ≡ true
named_left [] a b h = h
named_left (z ∷ zs) a b h =
    elim (twin_tells z a b) [
      | inl p ↦ has_here z.left a (lefts zs) p.1
      | inr p ↦ let h' = rw p.0 at h in has_there z.left a (lefts zs) (named_left zs a b h')
    ]

named_right : (zs : List Twin) (a b : ℕ) → named zs a b ≡ true → has (rights zs) b ≡ true
named_right [] a b h = h
named_right (z ∷ zs) a b h =
    elim (twin_tells z a b) [
      | inl p ↦ has_here z.right b (rights zs) p.2
      | inr p ↦ let h' = rw p.0 at h in has_there z.right b (rights zs) (named_right zs a b h')
    ]

-- one member is at the head on both sides, or behind it on both
record Later (z : Twin) (zs : List Twin) (a b : ℕ) : Type 0 where
  left : z.left ≡ a → ⊥
  right : z.right ≡ b → ⊥
  later : named zs a b ≡ true

split : (z : Twin) (zs : List Twin) (a b : ℕ) → Apart (lefts (z ∷ zs)) → Apart (rights (z ∷ zs)) → named (z ∷ zs) a b ≡ true →
    ((z.left ≡ a) × (z.right ≡ b)) ⊎ Later z zs a b
split z zs a b l r h =
    elim (twin_tells z a b) [
      | inl p ↦ inl (p.1, p.2)
      | inr p ↦ let h' : named zs a b ≡ true = rw p.0 at h in inr (record {
        left = λ e. apart_from a z.left (lefts zs) l.0 (named_left zs a b h') (sym e);
        right = λ e. apart_from b z.right (rights zs) r.0 (named_right zs a b h') (sym e);
        later = h';
      })
    ]

gone : (x a : ℕ) (xs : List ℕ) → has xs x ≡ false → x ≡ a → has xs a ≡ false
gone x a xs h e = ap (has xs) (sym e) ∙ h

earlier_alike : (zs : List Twin) (a a' b b' : ℕ) → Apart (lefts zs) → Apart (rights zs) → named zs a a' ≡ true → named zs b b' ≡ true →
    earlier (lefts zs) a b ≡ earlier (rights zs) a' b'
earlier_alike [] a a' b b' l r ha hb = refl
earlier_alike (z ∷ zs) a a' b b' l r ha hb =
    elim (split z zs a a' l r ha) [
      | inl p ↦ elim (eqb_tells z.left a) [
        | inl s ↦ elim (eqb_tells z.right a') [
          | inl t ↦ rw (s.0, t.0) (elim (split z zs b b' l r hb) [
            | inl q ↦ gone z.left b (lefts zs) l.0 q.0 ∙ sym (gone z.right b' (rights zs) r.0 q.1)
            | inr q ↦ named_left zs b b' q.later ∙ sym (named_right zs b b' q.later)
          ])
          | inr t ↦ absurd (t.1 p.1)
        ]
        | inr s ↦ absurd (s.1 p.0)
      ]
      | inr p ↦ elim (eqb_tells z.left a) [
        | inl s ↦ absurd (p.left s.1)
        | inr s ↦ elim (eqb_tells z.right a') [
          | inl t ↦ absurd (p.right t.1)
          | inr t ↦ rw (s.0, t.0) (elim (split z zs b b' l r hb) [
            | inl q ↦
                none_earlier (lefts zs) a b (gone z.left b (lefts zs) l.0 q.0) ∙
                sym (none_earlier (rights zs) a' b' (gone z.right b' (rights zs) r.0 q.1))
            | inr q ↦ earlier_alike zs a a' b b' l.1 r.1 p.later q.later
          ])
        ]
      ]
    ]

-- what stands behind a member, on both sides
abbrev after : List Twin → ℕ → List Twin
after [] a = []
after (z ∷ zs) a = cond (eqb z.left a) zs (after zs a)

after_left : (zs : List Twin) (a : ℕ) → behind (lefts zs) a ≡ lefts (after zs a)
after_left [] a = refl
after_left (z ∷ zs) a = elim (eqb_tells z.left a) [ inl p ↦ rw p.0 | inr p ↦ rw p.0 (after_left zs a) ]

after_right : (zs : List Twin) (a a' : ℕ) → Apart (lefts zs) → Apart (rights zs) → named zs a a' ≡ true → behind (rights zs) a' ≡ rights (after zs a)
after_right [] a a' l r h = refl
after_right (z ∷ zs) a a' l r h =
    elim (split z zs a a' l r h) [
      | inl p ↦ elim (eqb_tells z.left a) [
        | inl s ↦ elim (eqb_tells z.right a') [ inl t ↦ rw (s.0, t.0) | inr t ↦ absurd (t.1 p.1) ]
        | inr s ↦ absurd (s.1 p.0)
      ]
      | inr p ↦ elim (eqb_tells z.left a) [
        | inl s ↦ absurd (p.left s.1)
        | inr s ↦ elim (eqb_tells z.right a') [
          | inl t ↦ absurd (p.right t.1)
          | inr t ↦ rw (s.0, t.0) (after_right zs a a' l.1 r.1 p.later)
        ]
      ]
    ]

named_later : (z : Twin) (zs : List Twin) (k n : ℕ) → named zs k n ≡ true → named (z ∷ zs) k n ≡ true
named_later z zs k n h = elim (twin_tells z k n) [ inl p ↦ rw p.0 | inr p ↦ rw p.0 h ]

named_here : (z : Twin) (zs : List Twin) → named (z ∷ zs) z.left z.right ≡ true
named_here z zs = elim (twin_tells z z.left z.right) [ inl p ↦ rw p.0 | inr p ↦ absurd (p.1 refl refl) ]

after_named : (zs : List Twin) (a k n : ℕ) → named (after zs a) k n ≡ true → named zs k n ≡ true
after_named [] a k n h = h
after_named (z ∷ zs) a k n h =
    elim (eqb_tells z.left a) [
      | inl p ↦ let h' = rw p.0 at h in named_later z zs k n h'
      | inr p ↦ let h' = rw p.0 at h in named_later z zs k n (after_named zs a k n h')
    ]

first_paired : (ns ws : List Twin) (r r' : Option ℕ) → ((k n : ℕ) → named ws k n ≡ true → named ns k n ≡ true) → FirstIs (lefts ws) r → FirstIs (rights ws) r' → Paired ns r r'
first_paired ns [] (Some n) r' f p q = absurd p
first_paired ns [] None (Some n) f p q = absurd q
first_paired ns [] None None f p q = tt
first_paired ns (w ∷ ws) None r' f p q = absurd p
first_paired ns (w ∷ ws) (Some n) None f p q = absurd q
first_paired ns (w ∷ ws) (Some n) (Some k) f p q = rw (p, q) (f w.left w.right (named_here w ws))

-- a twin put directly behind the member m
abbrev put : List Twin → ℕ → Twin → List Twin
put [] m t = []
put (z ∷ zs) m t = cond (eqb z.left m) (z ∷ t ∷ zs) (z ∷ put zs m t)

put_left : (zs : List Twin) (m : ℕ) (t : Twin) → insert_after (lefts zs) m t.left ≡ lefts (put zs m t)
put_left [] m t = refl
put_left (z ∷ zs) m t =
    elim (eqb_tells z.left m) [ inl p ↦ rw p.0 | inr p ↦ rw p.0 (ap (λ (xs : List ℕ). z.left ∷ xs) (put_left zs m t)) ]

put_right : (zs : List Twin) (m n : ℕ) (t : Twin) → Apart (lefts zs) → Apart (rights zs) → named zs m n ≡ true → insert_after (rights zs) n t.right ≡ rights (put zs m t)
put_right [] m n t l r h = refl
put_right (z ∷ zs) m n t l r h =
    elim (split z zs m n l r h) [
      | inl p ↦ elim (eqb_tells z.left m) [
        | inl s ↦ elim (eqb_tells z.right n) [ inl q ↦ rw (s.0, q.0) | inr q ↦ absurd (q.1 p.1) ]
        | inr s ↦ absurd (s.1 p.0)
      ]
      | inr p ↦ elim (eqb_tells z.left m) [
        | inl s ↦ absurd (p.left s.1)
        | inr s ↦ elim (eqb_tells z.right n) [
          | inl q ↦ absurd (p.right q.1)
          | inr q ↦ rw (s.0, q.0) (ap (λ (xs : List ℕ). z.right ∷ xs) (put_right zs m n t l.1 r.1 p.later))
        ]
      ]
    ]

swap : (b c : Bool) (x : Bool) → cond b true (cond c true x) ≡ cond c true (cond b true x)
swap true true x = refl
swap true false x = refl
swap false true x = refl
swap false false x = refl

put_named : (zs : List Twin) (m : ℕ) (t : Twin) (k n : ℕ) → has (lefts zs) m ≡ true → named (t ∷ zs) k n ≡ named (put zs m t) k n
put_named [] m t k n h = let z : false ≡ true = h in absurd (grind arith)
put_named (z ∷ zs) m t k n h =
    elim (eqb_tells z.left m) [
      | inl p ↦ rw p.0 (swap (twin t k n) (twin z k n) (named zs k n))
      | inr p ↦
          let r = put_named zs m t k n (has_tail z.left m (lefts zs) p.1 h) in
          rw p.0 (swap (twin t k n) (twin z k n) (named zs k n) ∙ ap (λ (x : Bool). cond (twin z k n) true x) r)
    ]

-- the member m taken out
abbrev cut : List Twin → ℕ → List Twin
cut [] m = []
cut (z ∷ zs) m = cond (eqb z.left m) zs (z ∷ cut zs m)

cut_left : (zs : List Twin) (m : ℕ) → without (lefts zs) m ≡ lefts (cut zs m)
cut_left [] m = refl
cut_left (z ∷ zs) m =
    elim (eqb_tells z.left m) [ inl p ↦ rw p.0 | inr p ↦ rw p.0 (ap (λ (xs : List ℕ). z.left ∷ xs) (cut_left zs m)) ]

cut_right : (zs : List Twin) (m n : ℕ) → Apart (lefts zs) → Apart (rights zs) → named zs m n ≡ true → without (rights zs) n ≡ rights (cut zs m)
cut_right [] m n l r h = refl
cut_right (z ∷ zs) m n l r h =
    elim (split z zs m n l r h) [
      | inl p ↦ elim (eqb_tells z.left m) [
        | inl s ↦ elim (eqb_tells z.right n) [ inl q ↦ rw (s.0, q.0) | inr q ↦ absurd (q.1 p.1) ]
        | inr s ↦ absurd (s.1 p.0)
      ]
      | inr p ↦ elim (eqb_tells z.left m) [
        | inl s ↦ absurd (p.left s.1)
        | inr s ↦ elim (eqb_tells z.right n) [
          | inl q ↦ absurd (p.right q.1)
          | inr q ↦ rw (s.0, q.0) (ap (λ (xs : List ℕ). z.right ∷ xs) (cut_right zs m n l.1 r.1 p.later))
        ]
      ]
    ]

not_named : (zs : List Twin) (k n : ℕ) → has (lefts zs) k ≡ false → named zs k n ≡ false
not_named zs k n h = elim (cases_Bool (named zs k n)) [
  | inl e ↦ let z : true ≡ false = sym (named_left zs k n e) ∙ h in absurd (grind arith)
  | inr e ↦ e
]

cut_named : (zs : List Twin) (m k n : ℕ) → Apart (lefts zs) → cond (eqb m k) false (named zs k n) ≡ named (cut zs m) k n
cut_named [] m k n l = elim (eqb_tells m k) [ inl p ↦ rw p.0 | inr p ↦ rw p.0 ]
cut_named (z ∷ zs) m k n l =
    elim (eqb_tells z.left m) [
      | inl p ↦ rw p.0 (elim (eqb_tells m k) [
        | inl q ↦ rw q.0 (sym (not_named zs k n (gone z.left k (lefts zs) l.0 (p.1 ∙ q.1))))
        | inr q ↦ rw q.0 (elim (twin_tells z k n) [
          | inl s ↦ absurd (q.1 (sym p.1 ∙ s.1))
          | inr s ↦ rw s.0
        ])
      ])
      | inr p ↦
          let r = cut_named zs m k n l.1 in
          rw p.0 (elim (eqb_tells m k) [
            | inl q ↦
                let r' : false ≡ named (cut zs m) k n = rw q.0 at r in
                rw q.0 (elim (twin_tells z k n) [
                  | inl s ↦ absurd (p.1 (s.1 ∙ sym q.1))
                  | inr s ↦ rw s.0 r'
                ])
            | inr q ↦
                let r' : named zs k n ≡ named (cut zs m) k n = rw q.0 at r in
                rw q.0 (ap (λ (x : Bool). cond (twin z k n) true x) r')
          ])
    ]

forget_named : (ns : List Twin) (m k n : ℕ) → named (forget ns m) k n ≡ cond (eqb m k) false (named ns k n)
forget_named [] m k n = elim (eqb_tells m k) [ inl p ↦ rw p.0 | inr p ↦ rw p.0 ]
forget_named (t ∷ ts) m k n =
    let r = forget_named ts m k n in
    elim (eqb_tells t.left m) [
      | inl p ↦ rw p.0 (elim (eqb_tells m k) [
        | inl q ↦ let r' = rw q.0 at r in rw q.0 r'
        | inr q ↦
            let r' = rw q.0 at r in
            rw q.0 (elim (twin_tells t k n) [
              | inl s ↦ absurd (q.1 (sym p.1 ∙ s.1))
              | inr s ↦ rw s.0 r'
            ])
      ])
      | inr p ↦ rw p.0 (elim (eqb_tells m k) [
        | inl q ↦
            let r' = rw q.0 at r in
            rw q.0 (elim (twin_tells t k n) [
              | inl s ↦ absurd (p.1 (s.1 ∙ sym q.1))
              | inr s ↦ rw s.0 r'
            ])
        | inr q ↦ let r' = rw q.0 at r in rw q.0 (ap (λ (x : Bool). cond (twin t k n) true x) r')
      ])
    ]

-- in step: xs and ys are the two sides of one list of twins, and the renaming names its twins
pub record Sides (ns : List Twin) (xs ys : List ℕ) : Type 0 where
  pub twins : List Twin
  pub left : xs ≡ lefts twins
  pub right : ys ≡ rights twins
  pub apart_left : Apart (lefts twins)
  pub apart_right : Apart (rights twins)
  pub based_left : Based (lefts twins)
  pub based_right : Based (rights twins)
  pub same : (k n : ℕ) → named ns k n ≡ named twins k n

begun : Sides (base ∷ []) (0 ∷ []) (0 ∷ [])
begun = record {
  twins = base ∷ [];
  left = refl;
  right = refl;
  apart_left = (refl, tt);
  apart_right = (refl, tt);
  based_left = refl;
  based_right = refl;
  same = λ k n. refl;
}

moved : {ns : List Twin} {xs ys xs' ys' : List ℕ} → Sides ns xs ys → xs' ≡ xs → ys' ≡ ys → Sides ns xs' ys'
moved s p q = record {
  twins = s.twins;
  left = p ∙ s.left;
  right = q ∙ s.right;
  apart_left = s.apart_left;
  apart_right = s.apart_right;
  based_left = s.based_left;
  based_right = s.based_right;
  same = s.same;
}

sides_insert : (ns : List Twin) (xs ys xs' ys' : List ℕ) (m n : ℕ) (t : Twin) → Sides ns xs ys → named ns m n ≡ true → has xs t.left ≡ false → has ys t.right ≡ false →
    xs' ≡ insert_after xs m t.left → ys' ≡ insert_after ys n t.right → Sides (t ∷ ns) xs' ys'
sides_insert ns xs ys xs' ys' m n t s h nl nr p q =
    let zs = s.twins in
    let h' : named zs m n ≡ true = sym (s.same m n) ∙ h in
    let hm = named_left zs m n h' in
    let hn = named_right zs m n h' in
    let nl' : has (lefts zs) t.left ≡ false = ap (λ (ws : List ℕ). has ws t.left) (sym s.left) ∙ nl in
    let nr' : has (rights zs) t.right ≡ false = ap (λ (ws : List ℕ). has ws t.right) (sym s.right) ∙ nr in
    let el = put_left zs m t in
    let er = put_right zs m n t s.apart_left s.apart_right h' in
    record {
      twins = put zs m t;
      left = p ∙ ap (λ (ws : List ℕ). insert_after ws m t.left) s.left ∙ el;
      right = q ∙ ap (λ (ws : List ℕ). insert_after ws n t.right) s.right ∙ er;
      apart_left = subst Apart el (apart_insert (lefts zs) m t.left hm nl' s.apart_left);
      apart_right = subst Apart er (apart_insert (rights zs) n t.right hn nr' s.apart_right);
      based_left = subst Based el (based_insert (lefts zs) m t.left s.based_left);
      based_right = subst Based er (based_insert (rights zs) n t.right s.based_right);
      same = λ k l. ap (λ (x : Bool). cond (twin t k l) true x) (s.same k l) ∙ put_named zs m t k l hm;
    }

sides_remove : (ns : List Twin) (xs ys xs' ys' : List ℕ) (m n : ℕ) → Sides ns xs ys → named ns m n ≡ true → (m ≡ 0 → ⊥) → (n ≡ 0 → ⊥) →
    xs' ≡ without xs m → ys' ≡ without ys n → Sides (forget ns m) xs' ys'
sides_remove ns xs ys xs' ys' m n s h nl nr p q =
    let zs = s.twins in
    let h' : named zs m n ≡ true = sym (s.same m n) ∙ h in
    let el = cut_left zs m in
    let er = cut_right zs m n s.apart_left s.apart_right h' in
    record {
      twins = cut zs m;
      left = p ∙ ap (λ (ws : List ℕ). without ws m) s.left ∙ el;
      right = q ∙ ap (λ (ws : List ℕ). without ws n) s.right ∙ er;
      apart_left = subst Apart el (apart_without (lefts zs) m s.apart_left);
      apart_right = subst Apart er (apart_without (rights zs) n s.apart_right);
      based_left = subst Based el (based_without (lefts zs) m nl s.based_left);
      based_right = subst Based er (based_without (rights zs) n nr s.based_right);
      same = λ k l. forget_named ns m k l ∙ ap (λ (x : Bool). cond (eqb m k) false x) (s.same k l) ∙ cut_named zs m k l s.apart_left;
    }

-- what is removed is not the base
inner : (xs : List ℕ) (m : ℕ) → remove_refusal xs m ≡ None → m ≡ 0 → ⊥
inner xs m e z =
    elim (cases_Bool (has xs m)) [
      | inl h ↦ elim (eqb_tells m 0) [
        | inl q ↦ let y = rw (h, q.0) at e in let w : ◌≡◌ {A = ℕ} 0 1 = cc in omega arith
        | inr q ↦ q.1 z
      ]
      | inr h ↦ let y = rw h at e in let w : ◌≡◌ {A = ℕ} 0 1 = cc in omega arith
    ]

pub in_step : {c d : ℕ} {ns : List Twin} {xs ys : List ℕ} → Together c d ns xs ys → Sides ns xs ys
in_step made = begun
in_step (cleared ns xs ys t) = begun
in_step (inserted ns xs ys xs' ys' m n t g h p q) = sides_insert ns xs ys xs' ys' m n t (in_step g) h p.1 q.1 p.3 q.3
in_step (not_inserted ns xs ys xs' ys' m n e f g p q) = moved (in_step g) p.1 q.1
in_step (removed ns xs ys xs' ys' m n g h p q) = sides_remove ns xs ys xs' ys' m n (in_step g) h (inner xs m p.0) (inner ys n q.0) p.1 q.1
in_step (not_removed ns xs ys xs' ys' m n e f g p q) = moved (in_step g) p.1 q.1

sides_length : (zs : List Twin) → length (lefts zs) ≡ length (rights zs)
sides_length [] = refl
sides_length (z ∷ zs) = ap suc (sides_length zs)

base_alike : (zs : List Twin) (a b : ℕ) → Apart (lefts zs) → Apart (rights zs) → Based (lefts zs) → Based (rights zs) → named zs a b ≡ true → eqb a 0 ≡ eqb b 0
base_alike [] a b l r p q h = absurd p
base_alike (z ∷ zs) a b l r p q h =
    elim (split z zs a b l r h) [
      | inl e ↦ let x : a ≡ 0 = sym e.0 ∙ p in let y : b ≡ 0 = sym e.1 ∙ q in rw (x, y) refl
      | inr e ↦
          let x : a ≡ 0 → ⊥ = λ w. e.left (p ∙ sym w) in
          let y : b ≡ 0 → ⊥ = λ w. e.right (q ∙ sym w) in
          elim (eqb_tells a 0) [
            | inl u ↦ absurd (x u.1)
            | inr u ↦ elim (eqb_tells b 0) [ inl v ↦ absurd (y v.1) | inr v ↦ u.0 ∙ sym v.0 ]
          ]
    ]

beq_true : (a b : Bool) → a ≡ b → beq a b ≡ true
beq_true true true e = refl
beq_true true false e = sym e
beq_true false true e = e
beq_true false false e = refl

any_sides : (ws : List Twin) → any (lefts ws) ≡ any (rights ws)
any_sides [] = refl
any_sides (w ∷ ws) = refl

first_any : (ws : List ℕ) (r : Option ℕ) → FirstIs ws r → is_some r ≡ any ws
first_any [] (Some n) h = absurd h
first_any [] None h = refl
first_any (w ∷ ws) (Some n) h = refl
first_any (w ∷ ws) None h = absurd h

-- the answers of two lists, put together
pub agree_then : (xs ys : List ℕ) (x y : Twin) (p q u v : Bool) (r r' : Option ℕ) → p ≡ earlier xs x.left y.left → q ≡ earlier ys x.right y.right →
    NextIs xs x.left r → NextIs ys x.right r' → u ≡ is_some r → v ≡ is_some r' → beq p q ≡ true → beq u v ≡ agrees xs ys x y
agree_then xs ys x y p q u v r r' ep eq n n' eu ev t =
    let f = eu ∙ first_any (behind xs x.left) r n in
    let g = ev ∙ first_any (behind ys x.right) r' n' in
    let t' = rw (ep, eq) at t in
    rw (f, g, t') refl

module _ (c d : ℕ) (ns : List Twin) (xs ys : List ℕ) (s : Sides ns xs ys) where
  in_twins : (a b : ℕ) → named ns a b ≡ true → named s.twins a b ≡ true
  in_twins a b h = sym (s.same a b) ∙ h

  has_alike : (a b : ℕ) → Same ns xs ys a b → has xs a ≡ has ys b
  has_alike a b (inl h) =
      ap (λ (ws : List ℕ). has ws a) s.left ∙ named_left s.twins a b (in_twins a b h) ∙ sym (named_right s.twins a b (in_twins a b h)) ∙
      ap (λ (ws : List ℕ). has ws b) (sym s.right)
  has_alike a b (inr h) = h.0 ∙ sym h.1

  before_alike : (a a' b b' : ℕ) → Same ns xs ys a a' → Same ns xs ys b b' → earlier xs a b ≡ earlier ys a' b'
  before_alike a a' b b' (inr p) q = none_earlier_left xs a b p.0 ∙ sym (none_earlier_left ys a' b' p.1)
  before_alike a a' b b' (inl p) (inr q) = none_earlier xs a b q.0 ∙ sym (none_earlier ys a' b' q.1)
  before_alike a a' b b' (inl p) (inl q) =
      ap (λ (ws : List ℕ). earlier ws a b) s.left ∙
      earlier_alike s.twins a a' b b' s.apart_left s.apart_right (in_twins a a' p) (in_twins b b' q) ∙
      ap (λ (ws : List ℕ). earlier ws a' b') (sym s.right)

  next_alike : (a a' : ℕ) (r r' : Option ℕ) → Same ns xs ys a a' → NextIs xs a r → NextIs ys a' r' → Paired ns r r'
  next_alike a a' r r' (inl h) p q =
      let zs = s.twins in
      let h' = in_twins a a' h in
      let el : behind xs a ≡ lefts (after zs a) = ap (λ (ws : List ℕ). behind ws a) s.left ∙ after_left zs a in
      let er : behind ys a' ≡ rights (after zs a) = ap (λ (ws : List ℕ). behind ws a') s.right ∙ after_right zs a a' s.apart_left s.apart_right h' in
      let F : List ℕ → Type 0 = λ ws. FirstIs ws r in
      let G : List ℕ → Type 0 = λ ws. FirstIs ws r' in
      first_paired ns (after zs a) r r' (λ k n w. s.same k n ∙ after_named zs a k n w) (subst F el p) (subst G er q)
  next_alike a a' r r' (inr h) p q =
      let F : List ℕ → Type 0 = λ ws. FirstIs ws r in
      let G : List ℕ → Type 0 = λ ws. FirstIs ws r' in
      first_paired ns [] r r' (λ k n w. let z : false ≡ true = w in absurd (grind arith)) (subst F (none_behind xs a h.0) p) (subst G (none_behind ys a' h.1) q)

  insert_alike : (a a' : ℕ) → Same ns xs ys a a' → c ≡ d → insert_refusal c xs a ≡ insert_refusal d ys a'
  insert_alike a a' h e =
      let l : length xs ≡ length ys = ap length s.left ∙ sides_length s.twins ∙ ap length (sym s.right) in
      let m = has_alike a a' h in
      rw (m, l, e) refl

  remove_alike : (a a' : ℕ) → Same ns xs ys a a' → remove_refusal xs a ≡ remove_refusal ys a'
  remove_alike a a' (inr h) = rw (h.0, h.1) refl
  remove_alike a a' (inl h) =
      let m = has_alike a a' (inl h) in
      let z = base_alike s.twins a a' s.apart_left s.apart_right s.based_left s.based_right (in_twins a a' h) in
      rw (m, z) refl

  pub indistinct : Indistinct c d ns xs ys
  indistinct = record { before = before_alike; next = next_alike; insertion = insert_alike; removal = remove_alike }

  any_alike : (a a' : ℕ) → Same ns xs ys a a' → any (behind xs a) ≡ any (behind ys a')
  any_alike a a' (inl h) =
      let zs = s.twins in
      ap (λ (ws : List ℕ). any (behind ws a)) s.left ∙ ap any (after_left zs a) ∙ any_sides (after zs a) ∙
      ap any (sym (after_right zs a a' s.apart_left s.apart_right (in_twins a a' h))) ∙ ap (λ (ws : List ℕ). any (behind ws a')) (sym s.right)
  any_alike a a' (inr h) = ap any (none_behind xs a h.0) ∙ ap any (sym (none_behind ys a' h.1))

  pub agreed : (x y : Twin) → Same ns xs ys x.left x.right → Same ns xs ys y.left y.right → agrees xs ys x y ≡ true
  agreed x y hx hy =
      let p = beq_true _ _ (before_alike x.left x.right y.left y.right hx hy) in
      let q = beq_true _ _ (any_alike x.left x.right hx) in
      ap (λ (b : Bool). cond b (beq (any (behind xs x.left)) (any (behind ys x.right))) false) p ∙ q

-- an answer that is whether they agree is yes, where they were given the same calls
pub agreed_then : (c d : ℕ) (ns : List Twin) (xs ys : List ℕ) (x y : Twin) (r : Bool) → Together c d ns xs ys → Same ns xs ys x.left x.right → Same ns xs ys y.left y.right →
    r ≡ agrees xs ys x y → r ≡ true
agreed_then c d ns xs ys x y r h hx hy e = e ∙ agreed 0 0 ns xs ys (in_step h) x y hx hy

pub together_alike : (c d : ℕ) (ns : List Twin) (xs ys : List ℕ) → Together c d ns xs ys → Indistinct c d ns xs ys
together_alike c d ns xs ys h = indistinct c d ns xs ys (in_step h)
