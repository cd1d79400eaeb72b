-- Lists strung through member places, and the free places.
use Rattle.std.proofs.Common.{◌≡◌, ℕ, suc, ◌<◌, ◌≤◌, Bool, true, false, cond, not, eqb, ltb, ◌⊎◌, List, [], ◌∷◌, length, Option, Some, None, is_some, get_or, sym, refl, ap, ◌∙◌, subst, inl, inr, arith}
use Rattle.std.proofs.lemmas.List.{get_or_past}
use Rattle.std.proofs.lemmas.Bool.Decides.{eqb_tells}
use Rattle.std.proofs.lemmas.Bool.{cases_Bool, cases_eq, cases_lt, not-false, not-true, lt-ltb, le-ltb, eq-eqb, ne_eqb}
use Rattle.order_list.specs.declared.refusal.ListRefusal.TheVariants.{NoMember, Full}
use Rattle.order_list.specs.Order.{has, insert_after, insert_refusal}
use Rattle.std.specs.Option.{ok_or}
use Rattle.chained_list.specs.Links.{link_of}
use Rattle.chained_list.specs.Contents.{Vacant}
use Rattle.chained_list.specs.Chain.{StandsAs, walk, chain, order, Linked, Backed, Sound, Room, Strung, Spare, Ranging, Spliced, Retagged, blank, used_of, next_of, previous_of, tag_of}
use Rattle.chained_list.specs.declared.member.Member.{Member}
use Rattle.order_list.proofs.Lists.{has_here, has_there, has_none, has_tail, apart_from, has_insert, apart_insert, under_insert, under_has, fits, filled, based_has, based_insert}
use Rattle.chained_list.proofs.Strings.{linked_insert, linked_same, walk_is}

-- a list strung through the places is the order that they give
pub order_is : (ps : List Member) (xs : List ℕ) → Strung ps xs → order ps ≡ xs
order_is ps [] s = absurd s.based
order_is ps (x ∷ xs) s =
    let z : x ≡ 0 = s.based in
    let le : length (x ∷ xs) ≤ length ps = fits (length ps) (x ∷ xs) s.apart s.under in
    let no0 : has xs 0 ≡ false = rw z at s.apart.0 in
    let w = walk_is (length ps) (next_of ps) x xs no0 (omega arith) s.linked in
    ap (walk (length ps) (next_of ps)) (sym z) ∙ w

-- a place stands exactly where it is a member
pub used_is : (ps : List Member) (xs : List ℕ) → Strung ps xs → (k : ℕ) → used_of ps k ≡ has xs k
used_is ps xs s k =
    elim (cases_lt k (length ps)) [
      | inl lt ↦ s.marked k lt
      | inr le ↦
          ap (λ (p : Member). p.used) (get_or_past ps k blank le) ∙
          elim (cases_Bool (has xs k)) [
            | inl e ↦ absurd (omega (arith, under_has (length ps) xs k s.under e))
            | inr e ↦ sym e
          ]
    ]

pub used_below : (ps : List Member) (m : ℕ) → true ≡ used_of ps m → m < length ps
used_below ps m e =
    elim (cases_lt m (length ps)) [
      | inl lt ↦ lt
      | inr le ↦ let z : true ≡ false = e ∙ ap (λ (p : Member). p.used) (get_or_past ps m blank le) in grind arith
    ]

-- what is told of a place that stands, and of one that does not
pub stood : (ps : List Member) (m : ℕ) (o : Option Member) (p : Member) → o ≡ Some p → StandsAs ps m o → (true ≡ used_of ps m) × (p ≡ get_or ps m blank)
stood ps m o p e s = let t = subst (StandsAs ps m) e s in (sym t.0, t.1)

pub not_stood : (ps : List Member) (m : ℕ) (o : Option Member) → false ≡ is_some o → StandsAs ps m o → false ≡ used_of ps m
not_stood ps m None e s = sym s
not_stood ps m (Some p) e s = let z : false ≡ true = e in absurd (grind arith)

-- what a member links to is a member, or none
pub next_has : (f : ℕ → ℕ) (xs : List ℕ) (m : ℕ) → Linked f xs → has xs m ≡ true → (f m ≡ 0) ⊎ (has xs (f m) ≡ true)
next_has f [] m l h = let z : false ≡ true = h in absurd (grind arith)
next_has f (x ∷ []) m l h =
    elim (eqb_tells x m) [
      | inl e ↦ inl (ap f (sym e.1) ∙ l.0)
      | inr ne ↦ let z : false ≡ true = has_tail x m [] ne.1 h in absurd (grind arith)
    ]
next_has f (x ∷ y ∷ ys) m l h =
    elim (eqb_tells x m) [
      | inl e ↦ inr (has_there x (f m) (y ∷ ys) (has_here y (f m) ys (sym (ap f (sym e.1) ∙ l.0))))
      | inr ne ↦ elim (next_has f (y ∷ ys) m l.1 (has_tail x m (y ∷ ys) ne.1 h)) [
        | inl z ↦ inl z
        | inr q ↦ inr (has_there x (f m) (y ∷ ys) q)
      ]
    ]

-- a place that a member links to is in range: 0 is one too
pub next_below : (ps : List Member) (xs : List ℕ) (m : ℕ) → Strung ps xs → has xs m ≡ true → next_of ps m < length ps
next_below ps xs m s h =
    elim (next_has (next_of ps) xs m s.linked h) [
      | inl z ↦ omega (arith, under_has (length ps) xs 0 s.under (based_has xs s.based))
      | inr q ↦ under_has (length ps) xs (next_of ps m) s.under q
    ]

-- two members that link to one are one
pub same_next : (f g : ℕ → ℕ) (xs : List ℕ) (a b : ℕ) → Backed f g xs → has xs a ≡ true → has xs b ≡ true → f a ≡ f b → a ≡ b
same_next f g xs a b back ha hb e = sym (back a ha) ∙ ap g e ∙ back b hb

-- what a member links to is a member: 0 is one too
pub next_in : (ps : List Member) (xs : List ℕ) (m : ℕ) → Strung ps xs → has xs m ≡ true → has xs (next_of ps m) ≡ true
next_in ps xs m s h =
    elim (next_has (next_of ps) xs m s.linked h) [
      | inl z ↦ ap (has xs) z ∙ based_has xs s.based
      | inr q ↦ q
    ]

backed_insert : (ps qs : List Member) (xs : List ℕ) (m n t : ℕ) → has xs m ≡ true → has xs n ≡ false → Spliced ps qs m n t → Strung ps xs →
    Backed (next_of qs) (previous_of qs) (insert_after xs m n)
backed_insert ps qs xs m n t hm hn p s x hx =
    elim (cases_eq x n) [
      | inl e ↦ ap (previous_of qs) (ap (next_of qs) e ∙ p.there) ∙ p.forth ∙ sym e
      | inr xn ↦ elim (cases_eq x m) [
        | inl e ↦ ap (previous_of qs) (ap (next_of qs) e ∙ p.here) ∙ p.back ∙ sym e
        | inr xm ↦
            let e = p.others x xm xn in
            let i = has_insert xs m n x hm in
            let h : has xs x ≡ true = elim (eqb_tells n x) [ inl q ↦ absurd (xn (sym q.1)) | inr q ↦ let i' = rw q.0 at i in sym i' ∙ hx ] in
            ap (previous_of qs) e ∙
            p.backs (next_of ps x) (λ q. xm (same_next (next_of ps) (previous_of ps) xs x m s.backed h hm q)) (apart_from (next_of ps x) n xs hn (next_in ps xs x s h)) ∙
            s.backed x h
      ]
    ]

pub strung_splice : (ps qs : List Member) (xs : List ℕ) (m n t : ℕ) → has xs m ≡ true → has xs n ≡ false → n < length ps → Spliced ps qs m n t → Strung ps xs → Strung qs (insert_after xs m n)
strung_splice ps qs xs m n t hm hn lt p s = record {
  based = based_insert xs m n s.based;
  apart = apart_insert xs m n hm hn s.apart;
  under = rw p.size (under_insert (length ps) xs m n lt s.under);
  linked = linked_insert (next_of ps) (next_of qs) m n p.here p.there p.others xs hn s.apart s.linked;
  backed = backed_insert ps qs xs m n t hm hn p s;
  marked = λ k h. p.marks k ∙ ap (λ (b : Bool). cond (eqb n k) true b) (used_is ps xs s k) ∙ sym (has_insert xs m n k hm);
}

-- only tags differ
pub strung_retagged : (ps qs : List Member) (xs : List ℕ) → Retagged ps qs → Strung ps xs → Strung qs xs
strung_retagged ps qs xs t s = record {
  based = s.based;
  apart = s.apart;
  under = rw t.size s.under;
  linked = linked_same (next_of ps) (next_of qs) xs (λ k _. t.links k) s.linked;
  backed = λ x h. t.backs (next_of qs x) ∙ ap (previous_of ps) (t.links x) ∙ s.backed x h;
  marked = λ k h. let h' : k < length ps = omega (arith, t.size) in t.marks k ∙ s.marked k h';
}

pub spare_retagged : (ps qs : List Member) (xs : List ℕ) (h : ℕ) (fs : List ℕ) → Retagged ps qs → Spare ps xs h fs → Spare qs xs h fs
spare_retagged ps qs xs h fs t s = record {
  head = s.head;
  apart = s.apart;
  under = rw t.size s.under;
  linked = linked_same (next_of ps) (next_of qs) fs (λ k _. t.links k) s.linked;
  others = λ k l. s.others k (omega (arith, t.size));
}

-- what is free is no member
pub free_out : (ps : List Member) (xs : List ℕ) (h : ℕ) (fs : List ℕ) (k : ℕ) → Spare ps xs h fs → has fs k ≡ true → has xs k ≡ false
free_out ps xs h fs k s q = not-true (has xs k) (sym (s.others k (under_has (length ps) fs k s.under q)) ∙ q)

pub first_free : (ps : List Member) (xs : List ℕ) (h : ℕ) (fs : List ℕ) → Spare ps xs h fs → (h ≡ 0 → ⊥) → has fs h ≡ true
first_free ps xs h [] s nz = absurd (nz s.head)
first_free ps xs h (y ∷ ys) s nz = has_here y h ys (sym s.head)

-- where none is free, all are members
pub none_free : (ps : List Member) (xs : List ℕ) (h : ℕ) (fs : List ℕ) → Spare ps xs h fs → has xs 0 ≡ true → 0 < length ps → h ≡ 0 → (k : ℕ) → k < length ps → has xs k ≡ true
none_free ps xs h [] s z p e k lt = not-false (has xs k) (sym (s.others k lt))
none_free ps xs h (y ∷ ys) s z p e k lt =
    let q : has (y ∷ ys) 0 ≡ true = has_here y 0 ys (sym s.head ∙ e) in
    let o = free_out ps xs h (y ∷ ys) 0 s q in
    let c : true ≡ false = sym z ∙ o in absurd (grind arith)

abbrev pub behind_first : List ℕ → List ℕ
behind_first [] = []
behind_first (x ∷ xs) = xs

-- the first free place
pub chain_first : (ps : List Member) (xs : List ℕ) (h : ℕ) (fs : List ℕ) → Spare ps xs h fs → (h ≡ 0 → ⊥) → fs ≡ h ∷ behind_first fs
chain_first ps xs h [] s nz = absurd (nz s.head)
chain_first ps xs h (y ∷ ys) s nz = let e : h ≡ y = s.head in rw e refl

-- the first free place taken
pub spare_splice : (ps qs : List Member) (xs : List ℕ) (m n t : ℕ) (fs : List ℕ) → has xs m ≡ true → (n ≡ 0 → ⊥) → Spliced ps qs m n t → Spare ps xs n fs →
    Spare qs (insert_after xs m n) (next_of ps n) (behind_first fs)
spare_splice ps qs xs m n t [] hm nz p s = absurd (nz s.head)
spare_splice ps qs xs m n t (y ∷ ys) hm nz p s =
    let e : n ≡ y = s.head in
    let out : has ys n ≡ false = rw (sym e) at s.apart.0 in
    record {
      head = ap (next_of ps) e ∙ s.linked.0;
      apart = s.apart.1;
      under = rw p.size s.under.1;
      linked = linked_same (next_of ps) (next_of qs) ys (λ k h. p.others k
          (λ q. let o = free_out ps xs n (y ∷ ys) k s (has_there y k ys h) in let c : true ≡ false = sym hm ∙ ap (has xs) (sym q) ∙ o in grind arith)
          (apart_from k n ys out h)) s.linked.1;
      others = λ k l.
          let lt : k < length ps = omega (arith, p.size) in
          let o = s.others k lt in
          let i = has_insert xs m n k hm in
          elim (eqb_tells n k) [
            | inl q ↦ let i' = rw q.0 at i in let out' : has ys k ≡ false = rw q.1 at out in out' ∙ ap not (sym i')
            | inr q ↦ let i' = rw q.0 at i in let f : eqb y k ≡ false = rw e at q.0 in let o' = rw f at o in o' ∙ ap not (sym i')
          ];
    }

-- free places have the tag 0 and no link back
abbrev pub Bare : List Member → List ℕ → Type 0
Bare ps xs = (k : ℕ) → has xs k ≡ false → (tag_of ps k ≡ 0) × (previous_of ps k ≡ 0)

pub cleared_splice : (ps qs : List Member) (xs : List ℕ) (m n t : ℕ) → has xs m ≡ true → Strung ps xs → Spliced ps qs m n t → Bare ps xs → Bare qs (insert_after xs m n)
cleared_splice ps qs xs m n t hm s p c k h =
    let i = has_insert xs m n k hm in
    elim (eqb_tells n k) [
      | inl q ↦ let i' = rw q.0 at i in let z : true ≡ false = sym i' ∙ h in absurd (grind arith)
      | inr q ↦
          let i' = rw q.0 at i in
          let out : has xs k ≡ false = sym i' ∙ h in
          let kn : k ≡ n → ⊥ = λ e. q.1 (sym e) in
          let kx : k ≡ next_of ps m → ⊥ = λ e. apart_from (next_of ps m) k xs out (next_in ps xs m s hm) (sym e) in
          (p.tags k kn ∙ (c k out).0, p.backs k kx kn ∙ (c k out).1)
    ]

pub cleared_retagged : (ps qs : List Member) (xs : List ℕ) → Strung ps xs → Retagged ps qs → Bare ps xs → Bare qs xs
cleared_retagged ps qs xs s t c k h = (t.others k (used_is ps xs s k ∙ h) ∙ (c k h).0, t.backs k ∙ (c k h).1)

-- places chained from h on are the chain
pub chain_is : (ps : List Member) (xs : List ℕ) (h : ℕ) (fs : List ℕ) → has xs 0 ≡ true → 0 < length ps → Spare ps xs h fs → chain ps h ≡ fs
chain_is ps xs h [] z p s = let e : h ≡ 0 = s.head in rw (eq-eqb h 0 e)
chain_is ps xs h (y ∷ ys) z p s =
    let e : h ≡ y = s.head in
    let o : has (y ∷ ys) 0 ≡ false = s.others 0 p ∙ ap not z in
    let n = has_none y 0 ys o in
    let le : length (y ∷ ys) ≤ length ps = fits (length ps) (y ∷ ys) s.apart s.under in
    let w = walk_is (length ps) (next_of ps) y ys n.1 (omega arith) s.linked in
    rw (ne_eqb h 0 (λ q. n.0 (sym e ∙ q)), e) w

pub sound_from : (ps : List Member) (xs : List ℕ) (h : ℕ) (fs : List ℕ) → 0 < length ps → length ps ≤ 4096 → Strung ps xs → Ranging (tag_of ps) xs →
    Bare ps xs → Spare ps xs h fs → Sound ps h
sound_from ps xs h fs some few s r c f =
    let e = order_is ps xs s in
    let g = chain_is ps xs h fs (based_has xs s.based) some f in
    record { some = some; few = few; holds = record { strung = rw e s; ranging = rw e r }; cleared = rw e c; spare = rw (e, g) f }

-- the refusals of an insertion
pub refused_no_member : (ps : List Member) (h m : ℕ) → Sound ps h → false ≡ used_of ps m → insert_refusal (length ps) (order ps) m ≡ Some NoMember
refused_no_member ps h m s e =
    let n : has (order ps) m ≡ false = sym (e ∙ used_is ps (order ps) s.holds.strung m) in rw n

pub refused_full : (ps : List Member) (h m : ℕ) → Sound ps h → true ≡ used_of ps m → h ≡ 0 → insert_refusal (length ps) (order ps) m ≡ Some Full
refused_full ps h m s e z =
    let y : has (order ps) m ≡ true = sym (e ∙ used_is ps (order ps) s.holds.strung m) in
    let f : ltb (length (order ps)) (length ps) ≡ false =
    le-ltb (length (order ps)) (length ps) (filled (length ps) (order ps)
    (none_free ps (order ps) h (chain ps h) s.spare (based_has (order ps) s.holds.strung.based) s.some z)) in
    rw (y, f)

-- m stands and the place h is free
module _ (ps : List Member) (h m : ℕ) (r : Room ps h m) where
  str : Strung ps (order ps)
  str = r.sound.holds.strung

  pub has_m : has (order ps) m ≡ true
  has_m = sym (r.stands ∙ used_is ps (order ps) str m)

  is_free : has (chain ps h) h ≡ true
  is_free = first_free ps (order ps) h (chain ps h) r.sound.spare r.some

  pub has_h : has (order ps) h ≡ false
  has_h = free_out ps (order ps) h (chain ps h) h r.sound.spare is_free

  pub h_below : h < length ps
  h_below = under_has (length ps) (chain ps h) h r.sound.spare.under is_free

  pub m_below : m < length ps
  m_below = used_below ps m r.stands

  pub m_not_h : m ≡ h → ⊥
  m_not_h = apart_from m h (order ps) has_h has_m

  pub x_below : next_of ps m < length ps
  x_below = next_below ps (order ps) m str has_m

  pub x_not_h : next_of ps m ≡ h → ⊥
  x_not_h e =
      elim (next_has (next_of ps) (order ps) m str.linked has_m) [
        | inl z ↦ r.some (sym e ∙ z)
        | inr q ↦ apart_from (next_of ps m) h (order ps) has_h q e
      ]

  pub not_full : insert_refusal (length ps) (order ps) m ≡ None
  not_full =
      let lt : suc (length (order ps)) ≤ length ps = fits (length ps) (h ∷ order ps) (has_h, str.apart) (h_below, str.under) in
      let f : ltb (length (order ps)) (length ps) ≡ true = lt-ltb (length (order ps)) (length ps) lt in
      rw (has_m, f)

-- the answer of a vacancy where m stands
pub vacant : (ps : List Member) (free : Option ℕ) (m : ℕ) → Sound ps (link_of free) → (free ≡ Some 0 → ⊥) → true ≡ used_of ps m → Vacant ps (link_of free) m (ok_or free Full)
vacant ps None m k i u = refused_full ps 0 m k u refl
vacant ps (Some n) m k i u = (refl, record { sound = k; stands = u; some = λ z. i (ap Some z) })
