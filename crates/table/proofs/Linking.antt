-- Rings for all sources: none with a reader, and a reader put in.
use Rattle.std.proofs.Common.{◌≡◌, ℕ, ◌+◌, ◌<◌, true, false, cond, eqb, ◌⊎◌, List, [], ◌∷◌, length, get_or, set, sym, refl, ap, ◌∙◌, subst, inl, inr, arith, length-set, get_or-set_other, get_or-set_same}
use Rattle.std.proofs.lemmas.Bool.Decides.{eqb_tells}
use Rattle.std.proofs.lemmas.Bool.{cases_Bool, ne_eqb, eq-eqb}
use Rattle.order_list.specs.Order.{has}
use Rattle.order_list.proofs.Lists.{has_here, apart_from, under_has}
use Rattle.table.specs.declared.readers.Links.{Links}
use Rattle.table.specs.declared.readers.Readers.{Readers}
use Rattle.table.specs.Rings.{next_of, previous_of, Chained, Linked, Rings, NoReader, Unlinked, joined, Joins}
use Rattle.table.proofs.Chains.{has_or, chained_same, chained_put, next_in}

-- each head linked to itself
pub rings_none : (r : Readers) → ((k : ℕ) → k < 2304 → next_of r k ≡ k) → ((k : ℕ) → k < 2304 → previous_of r k ≡ k) → Rings r (λ _. [])
rings_none r nx pv = record {
  linked = record {
    ring = λ s l. (nx (1024 + s) (omega arith), pv (1024 + s) (omega arith));
    apart = λ s l. tt;
    under = λ s l. tt;
    once = λ s q k ls lq hs hq. let z : false ≡ true = hs in cc;
  };
}

module _ (n p : ℕ → ℕ) (f : ℕ → List ℕ) (L : Linked n p f) where
  head_out : (s : ℕ) → s < 1280 → has (f s) (1024 + s) ≡ false
  head_out s l = elim (cases_Bool (has (f s) (1024 + s))) [
    | inl e ↦ absurd (let b = under_has 1024 (f s) (1024 + s) (L.under s l) e in omega arith)
    | inr e ↦ e
  ]

  next_node : (s k : ℕ) → s < 1280 → has ((1024 + s) ∷ f s) k ≡ true → has ((1024 + s) ∷ f s) (n k) ≡ true
  next_node s k l h = next_in n p (1024 + s) k (f s) (1024 + s) h (L.ring s l)

  node_below : (s k : ℕ) → s < 1280 → has ((1024 + s) ∷ f s) k ≡ true → k < 2304
  node_below s k l h = elim (has_or (1024 + s) k (f s) h) [
    | inl a ↦ omega arith
    | inr a ↦ let b = under_has 1024 (f s) k (L.under s l) a in omega arith
  ]

  first_node : (s : ℕ) → s < 1280 → has ((1024 + s) ∷ f s) (n (1024 + s)) ≡ true
  first_node s l = next_node s (1024 + s) l (has_here (1024 + s) (1024 + s) (f s) refl)

  -- rings of different sources have no number in common
  foreign : (s q j k : ℕ) → s < 1280 → q < 1280 → (q ≡ s → ⊥) → has ((1024 + s) ∷ f s) j ≡ true → has ((1024 + q) ∷ f q) k ≡ true → k ≡ j → ⊥
  foreign s q j k ls lq ne hj hk e =
      elim (has_or (1024 + s) j (f s) hj) [
        | inl a ↦ elim (has_or (1024 + q) k (f q) hk) [
          | inl b ↦ ne (omega arith)
          | inr b ↦ let l = under_has 1024 (f q) k (L.under q lq) b in absurd (omega arith)
        ]
        | inr a ↦ let l = under_has 1024 (f s) j (L.under s ls) a in elim (has_or (1024 + q) k (f q) hk) [
          | inl b ↦ absurd (omega arith)
          | inr b ↦ ne (L.once q s j lq ls (subst (λ (z : ℕ). has (f q) z ≡ true) e b) a)
        ]
      ]

has_joined : (f : ℕ → List ℕ) (s r q k : ℕ) → has (joined f s r q) k ≡ true → ((s ≡ q) × (r ≡ k)) ⊎ (has (f q) k ≡ true)
has_joined f s r q k h = elim (eqb_tells s q) [
  | inl e ↦ let h' : has (r ∷ f q) k ≡ true = rw e.0 at h in elim (has_or r k (f q) h') [ inl a ↦ inl (e.1, a) | inr a ↦ inr a ]
  | inr e ↦ let h' : has (f q) k ≡ true = rw e.0 at h in inr h'
]

-- the links of a reader put in
linked_joined : (n p n' p' : ℕ → ℕ) (f : ℕ → List ℕ) (s r : ℕ) → Linked n p f → s < 1280 → r < 1024 → NoReader f r →
    n' (1024 + s) ≡ r → n' r ≡ n (1024 + s) → ((k : ℕ) → (k ≡ 1024 + s → ⊥) → (k ≡ r → ⊥) → n' k ≡ n k) →
    p' r ≡ 1024 + s → p' (n (1024 + s)) ≡ r → ((k : ℕ) → (k ≡ n (1024 + s) → ⊥) → (k ≡ r → ⊥) → p' k ≡ p k) →
    Linked n' p' (joined f s r)
linked_joined n p n' p' f s r L ls lr out na nr nk pr pn pk =
    let fresh : (q k : ℕ) → q < 1280 → has ((1024 + q) ∷ f q) k ≡ true → k ≡ r → ⊥ =
    λ q k lq h e. elim (has_or (1024 + q) k (f q) h) [
      | inl a ↦ absurd (omega arith)
      | inr a ↦ apart_from k r (f q) (out q lq) a e
    ] in
    let h-out = head_out n p f L s ls in
    record {
      ring = λ q lq. elim (eqb_tells s q) [
        | inl e ↦ rw e.0 (subst (λ (z : ℕ). Chained n' p' (1024 + z) (r ∷ f z) (1024 + z)) e.1
            (chained_put n p n' p' (1024 + s) r (f s) (1024 + s) na nr nk pr pn pk (L.apart s ls) h-out h-out (out s ls) (λ z. absurd (omega arith)) (L.ring s ls)))
        | inr e ↦ rw e.0 (chained_same n p n' p' (1024 + q) (f q) (1024 + q)
            (λ k h. nk k (λ z. absurd (foreign n p f L s q (1024 + s) k ls lq (λ w. e.1 (sym w)) (has_here (1024 + s) (1024 + s) (f s) refl) h z)) (fresh q k lq h))
            (λ k h. pk k (foreign n p f L s q (n (1024 + s)) k ls lq (λ w. e.1 (sym w)) (first_node n p f L s ls) h) (fresh q k lq h))
            (L.ring q lq))
      ];
      apart = λ q lq. elim (eqb_tells s q) [ inl e ↦ rw e.0 (out q lq, L.apart q lq) | inr e ↦ rw e.0 (L.apart q lq) ];
      under = λ q lq. elim (eqb_tells s q) [ inl e ↦ rw e.0 (lr, L.under q lq) | inr e ↦ rw e.0 (L.under q lq) ];
      once = λ q t k lq lt hq ht. elim (has_joined f s r q k hq) [
        | inl a ↦ elim (has_joined f s r t k ht) [
          | inl b ↦ sym a.0 ∙ b.0
          | inr b ↦ absurd (apart_from k r (f t) (out t lt) b (sym a.1))
        ]
        | inr a ↦ elim (has_joined f s r t k ht) [
          | inl b ↦ absurd (apart_from k r (f q) (out q lq) a (sym b.1))
          | inr b ↦ L.once q t k lq lt a b
        ]
      ];
    }

-- ── writes ──

abbrev no_links : Links
no_links = record { next = 0; previous = 0 }

abbrev next : Links → ℕ
next l = l.next

abbrev previous : Links → ℕ
previous l = l.previous

-- what a write of links leaves of a field f
at_set : (f : Links → ℕ) (xs : List Links) (i : ℕ) (v : Links) (k : ℕ) → i < length xs → f (get_or (set xs i v) k no_links) ≡ cond (eqb i k) (f v) (f (get_or xs k no_links))
at_set f xs i v k h = elim (eqb_tells i k) [
  | inl e ↦ rw e.0 (rw (sym e.1) (ap f (get_or-set_same xs i v no_links h)))
  | inr ne ↦ rw ne.0 (ap f (get_or-set_other xs i k v no_links (λ e. ne.1 (sym e))))
]

-- likewise where it leaves the field
at_set_same : (f : Links → ℕ) (xs : List Links) (i : ℕ) (v : Links) (k : ℕ) → i < length xs → f v ≡ f (get_or xs i no_links) → f (get_or (set xs i v) k no_links) ≡ f (get_or xs k no_links)
at_set_same f xs i v k h same = elim (eqb_tells i k) [
  | inl e ↦ rw (sym e.1) (ap f (get_or-set_same xs i v no_links h) ∙ same)
  | inr ne ↦ ap f (get_or-set_other xs i k v no_links (λ e. ne.1 (sym e)))
]

-- the three writes of a link: r is put in between the head h and its first x
module _ (xs : List Links) (h x r : ℕ) where
  abbrev one : List Links
  one = set xs r (record { next = x; previous = h })

  abbrev two : List Links
  two = set one h (record { next = r; previous = (get_or one h no_links).previous })

  abbrev pub three : List Links
  three = set two x (record { next = (get_or two x no_links).next; previous = r })

  module _ (lh : h < length xs) (lx : x < length xs) (lr : r < length xs) where
    next_three : (k : ℕ) → (get_or three k no_links).next ≡ cond (eqb h k) r (cond (eqb r k) x (get_or xs k no_links).next)
    next_three k =
        let l₁ : h < length one = simp length-set lh in
        let l₂ : x < length two = simp length-set lx in
        at_set_same next two x _ k l₂ refl ∙ at_set next one h _ k l₁ ∙ ap (λ (y : ℕ). cond (eqb h k) r y) (at_set next xs r _ k lr)

    previous_three : (k : ℕ) → (get_or three k no_links).previous ≡ cond (eqb x k) r (cond (eqb r k) h (get_or xs k no_links).previous)
    previous_three k =
        let l₁ : h < length one = simp length-set lh in
        let l₂ : x < length two = simp length-set lx in
        at_set previous two x _ k l₂ ∙ ap (λ (y : ℕ). cond (eqb x k) r y) (at_set_same previous one h _ k l₁ refl ∙ at_set previous xs r _ k lr)

first_in : (r : Readers) (f : ℕ → List ℕ) (s : ℕ) → Rings r f → s < 1280 → next_of r (1024 + s) < 2304
first_in r f s R l = let L = R.linked in node_below (next_of r) (previous_of r) f L s (next_of r (1024 + s)) l (first_node (next_of r) (previous_of r) f L s l)

pub first_below : (r : Readers) (s k : ℕ) → Unlinked r k → s < 1280 → next_of r (1024 + s) < 2304
first_below r s k u l = first_in r u.readers s u.rings l

pub joins : (a b : Readers) (s r : ℕ) → s < 1280 → r < 1024 → b.nodes ≡ three a.nodes (1024 + s) (next_of a (1024 + s)) r → Joins a b s r
joins a b s r ls lr e = record {
  puts = λ f R out.
      let L = R.linked in
      let h = 1024 + s in
      let x = next_of a h in
      let ll = a.long in
      let lx = first_in a f s R ls in
      let xr : x ≡ r → ⊥ = λ e. elim (has_or h x (f s) (first_node (next_of a) (previous_of a) f L s ls)) [
        | inl z ↦ absurd (omega arith)
        | inr z ↦ apart_from x r (f s) (out s ls) z e
      ] in
      let hr : h ≡ r → ⊥ = λ e. absurd (omega arith) in
      let nx : (k : ℕ) → next_of b k ≡ cond (eqb h k) r (cond (eqb r k) x (next_of a k)) =
      λ k. ap (λ (l : List Links). (get_or l k no_links).next) e ∙ next_three a.nodes h x r (omega arith) (omega arith) (omega arith) k in
      let pv : (k : ℕ) → previous_of b k ≡ cond (eqb x k) r (cond (eqb r k) h (previous_of a k)) =
      λ k. ap (λ (l : List Links). (get_or l k no_links).previous) e ∙ previous_three a.nodes h x r (omega arith) (omega arith) (omega arith) k in
      record {
        linked = linked_joined (next_of a) (previous_of a) (next_of b) (previous_of b) f s r L ls lr out
            (nx h ∙ rw (eq-eqb h h refl))
            (nx r ∙ rw (ne_eqb h r hr, eq-eqb r r refl))
            (λ k kh kr. nx k ∙ rw (ne_eqb h k (λ e. kh (sym e)), ne_eqb r k (λ e. kr (sym e))))
            (pv r ∙ rw (ne_eqb x r xr, eq-eqb r r refl))
            (pv x ∙ rw (eq-eqb x x refl))
            (λ k kx kr. pv k ∙ rw (ne_eqb x k (λ e. kx (sym e)), ne_eqb r k (λ e. kr (sym e))));
      };
}
