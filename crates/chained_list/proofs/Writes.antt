-- What writes to member places leave.
use Rattle.std.proofs.Common.{◌≡◌, ℕ, ◌<◌, Bool, true, false, cond, eqb, List, length, get_or, set, sym, refl, ap, ◌∙◌, inl, inr, arith, length-set, get_or-set_other, get_or-set_same}
use Rattle.std.proofs.lemmas.Bool.Decides.{eqb_tells}
use Rattle.std.proofs.lemmas.Bool.{ne_eqb, eq-eqb}
use Rattle.chained_list.specs.Chain.{Spliced, Unlinked, Retagged, blank, relink, reback, link_both, used_of, next_of, previous_of, tag_of}
use Rattle.chained_list.specs.declared.member.Member.{Member}

-- a part f of a place, after a write
pub part_at : {A : Type 0} (f : Member → A) (ps : List Member) (i : ℕ) (v : Member) → i < length ps → (k : ℕ) →
    f (get_or (set ps i v) k blank) ≡ cond (eqb i k) (f v) (f (get_or ps k blank))
part_at f ps i v h k =
    elim (eqb_tells i k) [
      | inl e ↦ rw e.0 (rw (sym e.1) (ap f (get_or-set_same ps i v blank h)))
      | inr ne ↦ rw ne.0 (ap f (get_or-set_other ps i k v blank (λ e. ne.1 (sym e))))
    ]

-- a part that the write leaves
pub part_same : {A : Type 0} (f : Member → A) (ps : List Member) (i : ℕ) (v : Member) → i < length ps → f v ≡ f (get_or ps i blank) → (k : ℕ) →
    f (get_or (set ps i v) k blank) ≡ f (get_or ps k blank)
part_same f ps i v h same k =
    elim (eqb_tells i k) [
      | inl e ↦ rw (sym e.1) (ap f (get_or-set_same ps i v blank h) ∙ same)
      | inr ne ↦ ap f (get_or-set_other ps i k v blank (λ e. ne.1 (sym e)))
    ]

abbrev pub retag : List Member → ℕ → ℕ → List Member
retag ps i v = set ps i (record { used = used_of ps i; next = next_of ps i; previous = previous_of ps i; tag = v })

-- two writes behind the first: a link, and a link back
module _ (qs : List Member) (i v j w : ℕ) (hi : i < length qs) (hj : j < length qs) where
  hj' : j < length (relink qs i v)
  hj' = simp length-set hj

  pub two_next : (k : ℕ) → next_of (reback (relink qs i v) j w) k ≡ cond (eqb i k) v (next_of qs k)
  two_next k = part_same (λ (p : Member). p.next) (relink qs i v) j _ hj' refl k ∙ part_at (λ (p : Member). p.next) qs i _ hi k

  pub two_previous : (k : ℕ) → previous_of (reback (relink qs i v) j w) k ≡ cond (eqb j k) w (previous_of qs k)
  two_previous k =
      part_at (λ (p : Member). p.previous) (relink qs i v) j _ hj' k ∙
      ap (λ (x : ℕ). cond (eqb j k) w x) (part_same (λ (p : Member). p.previous) qs i _ hi refl k)

  pub two_used : (k : ℕ) → used_of (reback (relink qs i v) j w) k ≡ used_of qs k
  two_used k = part_same (λ (p : Member). p.used) (relink qs i v) j _ hj' refl k ∙ part_same (λ (p : Member). p.used) qs i _ hi refl k

  pub two_tag : (k : ℕ) → tag_of (reback (relink qs i v) j w) k ≡ tag_of qs k
  two_tag k = part_same (λ (p : Member). p.tag) (relink qs i v) j _ hj' refl k ∙ part_same (λ (p : Member). p.tag) qs i _ hi refl k

  pub two_size : length (reback (relink qs i v) j w) ≡ length qs
  two_size = simp length-set

abbrev entered : List Member → ℕ → ℕ → List Member
entered ps n t = set ps n (record { used = true; next = 0; previous = 0; tag = t })

module _ (ps : List Member) (m n t : ℕ) (hm : m < length ps) (hn : n < length ps) (hx : next_of ps m < length ps) where
  nE : n < length (entered ps n t)
  nE = simp length-set hn

  xE : next_of ps m < length (entered ps n t)
  xE = simp length-set hx

  mL : m < length (link_both (entered ps n t) n (next_of ps m))
  mL = simp length-set hm

  nL : n < length (link_both (entered ps n t) n (next_of ps m))
  nL = simp length-set hn

  put_next : (k : ℕ) → next_of (link_both (link_both (entered ps n t) n (next_of ps m)) m n) k ≡ cond (eqb m k) n (cond (eqb n k) (next_of ps m) (next_of ps k))
  put_next k =
      two_next (link_both (entered ps n t) n (next_of ps m)) m n n m mL nL k ∙
      ap (λ (x : ℕ). cond (eqb m k) n x) (two_next (entered ps n t) n (next_of ps m) (next_of ps m) n nE xE k ∙
      elim (eqb_tells n k) [ inl e ↦ rw e.0 | inr e ↦ rw e.0 (part_at (λ (p : Member). p.next) ps n _ hn k ∙ rw e.0) ])

  put_previous : (k : ℕ) → previous_of (link_both (link_both (entered ps n t) n (next_of ps m)) m n) k ≡ cond (eqb n k) m (cond (eqb (next_of ps m) k) n (previous_of ps k))
  put_previous k =
      two_previous (link_both (entered ps n t) n (next_of ps m)) m n n m mL nL k ∙
      elim (eqb_tells n k) [
        | inl e ↦ rw e.0
        | inr e ↦ rw e.0 (two_previous (entered ps n t) n (next_of ps m) (next_of ps m) n nE xE k ∙
            ap (λ (x : ℕ). cond (eqb (next_of ps m) k) n x) (part_at (λ (p : Member). p.previous) ps n _ hn k ∙ rw e.0))
      ]

  put_tag : (k : ℕ) → tag_of (link_both (link_both (entered ps n t) n (next_of ps m)) m n) k ≡ cond (eqb n k) t (tag_of ps k)
  put_tag k =
      two_tag (link_both (entered ps n t) n (next_of ps m)) m n n m mL nL k ∙ two_tag (entered ps n t) n (next_of ps m) (next_of ps m) n nE xE k ∙
      part_at (λ (p : Member). p.tag) ps n _ hn k

  put_used : (k : ℕ) → used_of (link_both (link_both (entered ps n t) n (next_of ps m)) m n) k ≡ cond (eqb n k) true (used_of ps k)
  put_used k =
      two_used (link_both (entered ps n t) n (next_of ps m)) m n n m mL nL k ∙ two_used (entered ps n t) n (next_of ps m) (next_of ps m) n nE xE k ∙
      part_at (λ (p : Member). p.used) ps n _ hn k

  pub spliced : (qs rs : List Member) → (m ≡ n → ⊥) → (next_of ps m ≡ n → ⊥) → qs ≡ link_both (entered ps n t) n (next_of ps m) → rs ≡ link_both qs m n → Spliced ps rs m n t
  spliced qs rs mn xn eq er = rw (er, eq) (record {
    size = simp length-set;
    here = put_next m ∙ rw (eq-eqb m m refl);
    there = put_next n ∙ rw (ne_eqb m n mn, eq-eqb n n refl);
    others = λ k km kn. put_next k ∙ rw (ne_eqb m k (λ e. km (sym e)), ne_eqb n k (λ e. kn (sym e)));
    back = put_previous n ∙ rw (eq-eqb n n refl);
    forth = put_previous (next_of ps m) ∙ rw (ne_eqb n (next_of ps m) (λ e. xn (sym e)), eq-eqb (next_of ps m) (next_of ps m) refl);
    backs = λ k kx kn. put_previous k ∙ rw (ne_eqb n k (λ e. kn (sym e)), ne_eqb (next_of ps m) k (λ e. kx (sym e)));
    tag = put_tag n ∙ rw (eq-eqb n n refl);
    tags = λ k kn. put_tag k ∙ rw (ne_eqb n k (λ e. kn (sym e)));
    marks = put_used;
  })

abbrev left : List Member → ℕ → ℕ → List Member
left rs m h = set rs m (record { used = false; next = h; previous = 0; tag = 0 })

pub unlinked : (ps : List Member) (p m h : ℕ) → p < length ps → m < length ps → (p ≡ m → ⊥) → next_of ps m < length ps → (next_of ps m ≡ m → ⊥) →
    (qs : List Member) → qs ≡ link_both ps p (next_of ps m) → Unlinked ps (left qs m h) p m h
unlinked ps p m h hp hm pm hx xm qs e =
    let rs = link_both ps p (next_of ps m) in
    let sz = two_size ps p (next_of ps m) (next_of ps m) p hp hx in
    let hm' : m < length rs = omega arith in
    let nx : (k : ℕ) → next_of (left rs m h) k ≡ cond (eqb m k) h (cond (eqb p k) (next_of ps m) (next_of ps k)) =
    λ k. part_at (λ (q : Member). q.next) rs m _ hm' k ∙ ap (λ (x : ℕ). cond (eqb m k) h x) (two_next ps p (next_of ps m) (next_of ps m) p hp hx k) in
    let pv : (k : ℕ) → previous_of (left rs m h) k ≡ cond (eqb m k) 0 (cond (eqb (next_of ps m) k) p (previous_of ps k)) =
    λ k. part_at (λ (q : Member). q.previous) rs m _ hm' k ∙ ap (λ (x : ℕ). cond (eqb m k) 0 x) (two_previous ps p (next_of ps m) (next_of ps m) p hp hx k) in
    let done : Unlinked ps (left rs m h) p m h = record {
      size = simp length-set;
      here = nx p ∙ rw (ne_eqb m p (λ e. pm (sym e)), eq-eqb p p refl);
      freed = nx m ∙ rw (eq-eqb m m refl);
      others = λ k kp km. nx k ∙ rw (ne_eqb m k (λ e. km (sym e)), ne_eqb p k (λ e. kp (sym e)));
      back = pv (next_of ps m) ∙ rw (ne_eqb m (next_of ps m) (λ e. xm (sym e)), eq-eqb (next_of ps m) (next_of ps m) refl);
      backs = λ k kx km. pv k ∙ rw (ne_eqb m k (λ e. km (sym e)), ne_eqb (next_of ps m) k (λ e. kx (sym e)));
      unbacked = pv m ∙ rw (eq-eqb m m refl);
      untagged = part_at (λ (q : Member). q.tag) rs m _ hm' m ∙ rw (eq-eqb m m refl);
      tags = λ k km. part_at (λ (q : Member). q.tag) rs m _ hm' k ∙ rw (ne_eqb m k (λ e. km (sym e))) (two_tag ps p (next_of ps m) (next_of ps m) p hp hx k);
      marks = λ k. part_at (λ (q : Member). q.used) rs m _ hm' k ∙ ap (λ (x : Bool). cond (eqb m k) false x) (two_used ps p (next_of ps m) (next_of ps m) p hp hx k);
    } in
    rw e done

-- only the tag at the member i written
pub retagged_more : (ps qs : List Member) (i v : ℕ) → i < length qs → used_of ps i ≡ true → Retagged ps qs → Retagged ps (retag qs i v)
retagged_more ps qs i v h u r = record {
  size = simp length-set r.size;
  links = λ k. part_same (λ (p : Member). p.next) qs i _ h refl k ∙ r.links k;
  backs = λ k. part_same (λ (p : Member). p.previous) qs i _ h refl k ∙ r.backs k;
  marks = λ k. part_same (λ (p : Member). p.used) qs i _ h refl k ∙ r.marks k;
  others = λ k n.
      part_at (λ (p : Member). p.tag) qs i _ h k ∙
      rw (ne_eqb i k (λ e. let z : true ≡ false = sym u ∙ ap (used_of ps) e ∙ n in grind arith)) (r.others k n);
}

pub tag_at : (qs : List Member) (i v : ℕ) → i < length qs → (k : ℕ) → tag_of (retag qs i v) k ≡ cond (eqb i k) v (tag_of qs k)
tag_at qs i v h k = part_at (λ (p : Member). p.tag) qs i _ h k
