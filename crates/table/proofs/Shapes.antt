-- A trace in a table: what depends on its own places only.
use Rattle.std.proofs.lemmas.List.{map-append}
use Rattle.std.proofs.Common.{◌≡◌, ℕ, ◌*◌, true, ◌≢◌, List, [], ◌∷◌, ◌++◌, map, length, sym, refl, ap, ◌∙◌, inl, inr, arith, length-append}
use Rattle.program.specs.declared.value.Name.{Name}
use Rattle.program.specs.declared.value.Content.{Content}
use Rattle.program.specs.declared.value.Value.{Value}
use Rattle.trace.specs.Code.{Reader}
use Rattle.trace.specs.Trace.{Trace, write, new, read, places, size, end, stamps, Absent, Among}
use Rattle.trace.proofs.Places.{among_left, among_right, among_cases, not_among}
use Rattle.order_list.specs.Order.{has}
use Rattle.order_list.proofs.Lists.{has_here, has_there}
use Rattle.table.specs.declared.record.Record.{Record}
use Rattle.table.specs.declared.record.Entry.{Entry}
use Rattle.table.specs.declared.record.Entry.TheVariants.{Blank}
use Rattle.table.specs.declared.table.Table.{Table}
use Rattle.table.specs.Records.{Sort, free, a_new, a_read, sort, content_inside}
use Rattle.table.specs.Standing.{Places, at, store, Shape, Holds, Owned, stamp_in, numbers}
use Rattle.table.proofs.Lists.{in_left, in_right}

module _ (ρ ρ' : Places) where
  pub shape_same : (d : ℕ) (t : Trace) → ((q : ℕ) → Among q (places t) → sort (ρ' q).entry ≡ sort (ρ q).entry) → Shape ρ d t → Shape ρ' d t
  shape_same d (write x) same h = tt
  shape_same d (new n f vs inner rest) same h = (
    same n (inl refl) ∙ h.0,
    shape_same n inner (λ q k. same q (inr (among_left q (places inner) (places rest) k))) h.1,
    shape_same d rest (λ q k. same q (inr (among_right q (places inner) (places rest) k))) h.2,
  )
  shape_same d (read n s b x rest) same h = (same n (inl refl) ∙ h.0, shape_same d rest (λ q k. same q (inr k)) h.1)

-- contents stay where the places do
pub holds_same : (a b : Table) (t : Trace) → ((q : ℕ) → Among q (places t) → at b q ≡ at a q) → Holds (store a) t → Holds (store b) t
holds_same a b (write x) same h = tt
holds_same a b (new n f vs inner rest) same h = (
  ap (λ (r : Record). content_inside r.entry) (same n (inl refl)) ∙ h.0,
  holds_same a b inner (λ q k. same q (inr (among_left q (places inner) (places rest) k))) h.1,
  holds_same a b rest (λ q k. same q (inr (among_right q (places inner) (places rest) k))) h.2,
)
holds_same a b (read n s br x rest) same h = holds_same a b rest (λ q k. same q (inr k)) h

-- ── stamps ──

-- those of a NEW and of a read
pub numbers_new : (ρ : Places) (n f : ℕ) (vs : List Value) (inner rest : Trace) →
    numbers ρ (new n f vs inner rest) ≡ (ρ n).start ∷ (numbers ρ inner ++ ((ρ n).end ∷ numbers ρ rest))
numbers_new ρ n f vs inner rest = ap (λ (l : List ℕ). (ρ n).start ∷ l) (map-append (stamp_in ρ) (stamps inner) (end n ∷ stamps rest))

pub numbers_read : (ρ : Places) (n : ℕ) (s : Name) (b : Reader) (x : Content) (rest : Trace) →
    numbers ρ (read n s b x rest) ≡ (ρ n).start ∷ (numbers ρ rest ++ ((ρ n).end ∷ []))
numbers_read ρ n s b x rest = ap (λ (l : List ℕ). (ρ n).start ∷ l) (map-append (stamp_in ρ) (stamps rest) (end n ∷ []))

module _ (ρ ρ' : Places) where
  pub numbers_same : (t : Trace) → ((q : ℕ) → Among q (places t) → ρ' q ≡ ρ q) → numbers ρ' t ≡ numbers ρ t
  numbers_same (write x) same = refl
  numbers_same (new n f vs inner rest) same =
      let i = numbers_same inner (λ q k. same q (inr (among_left q (places inner) (places rest) k))) in
      let r = numbers_same rest (λ q k. same q (inr (among_right q (places inner) (places rest) k))) in
      let e = same n (inl refl) in
      numbers_new ρ' n f vs inner rest ∙ rw (i, r, e) (sym (numbers_new ρ n f vs inner rest))
  numbers_same (read n s b x rest) same =
      let r = numbers_same rest (λ q k. same q (inr k)) in
      let e = same n (inl refl) in
      numbers_read ρ' n s b x rest ∙ rw (r, e) (sym (numbers_read ρ n s b x rest))

pub numbers_length : (ρ : Places) (t : Trace) → length (numbers ρ t) ≡ 2 * size t
numbers_length ρ (write x) = refl
numbers_length ρ (new n f vs inner rest) =
    let e = ap length (numbers_new ρ n f vs inner rest) in
    let l = length-append (numbers ρ inner) ((ρ n).end ∷ numbers ρ rest) in
    omega (arith, e, l, numbers_length ρ inner, numbers_length ρ rest)
numbers_length ρ (read n s b x rest) =
    let e = ap length (numbers_read ρ n s b x rest) in
    let l = length-append (numbers ρ rest) ((ρ n).end ∷ []) in
    omega (arith, e, l, numbers_length ρ rest)

-- ── places that are not blank ──

pub blank_free : {e : Entry} {k : Sort} → sort e ≡ k → e ≡ Blank → k ≡ free
blank_free h z = sym h ∙ ap sort z

new_there : {f : ℕ} {vs : List Value} → a_new f vs ≡ free → ⊥
new_there e = let z : ◌≡◌ {A = ℕ} 0 1 = cc in omega arith

read_there : {s : Name} {b : Reader} {x : Content} {d : ℕ} → a_read s b x d ≡ free → ⊥
read_there e = let z : ◌≡◌ {A = ℕ} 0 1 = cc in omega arith

-- at a place of a trace something stands
pub marked : (ρ : Places) (d : ℕ) (t : Trace) (q : ℕ) → Shape ρ d t → Among q (places t) → (ρ q).entry ≢ Blank
marked ρ d (write x) q h k z = absurd k
marked ρ d (new n f vs inner rest) q h (inl e) z = new_there (blank_free h.0 (ap (λ (j : ℕ). (ρ j).entry) (sym e) ∙ z))
marked ρ d (new n f vs inner rest) q h (inr k) z = elim (among_cases q (places inner) (places rest) k) [ inl l ↦ marked ρ n inner q h.1 l z | inr l ↦ marked ρ d rest q h.2 l z ]
marked ρ d (read n s b x rest) q h (inl e) z = read_there (blank_free h.0 (ap (λ (j : ℕ). (ρ j).entry) (sym e) ∙ z))
marked ρ d (read n s b x rest) q h (inr k) z = marked ρ d rest q h.1 k z

-- it stays, where only blank places are filled
pub stays : (ρ ρ' : Places) (ps : List ℕ) → ((q : ℕ) → Among q ps → (ρ q).entry ≡ Blank) → ((q : ℕ) → Absent q ps → ρ' q ≡ ρ q) → (q : ℕ) → (ρ q).entry ≢ Blank → ρ' q ≡ ρ q
stays ρ ρ' ps fresh same q ne = same q (not_among q ps (λ m k e. ne (ap (λ (j : ℕ). (ρ j).entry) (sym e) ∙ fresh m k)))

-- ── owners ──

-- what is among the stamps of a record, of its inside and of what comes behind it
module _ (x y : ℕ) (is rs : List ℕ) where
  at_x : has (x ∷ (is ++ (y ∷ rs))) x ≡ true
  at_x = has_here x x (is ++ (y ∷ rs)) refl

  at_y : has (x ∷ (is ++ (y ∷ rs))) y ≡ true
  at_y = has_there x y (is ++ (y ∷ rs)) (in_right is (y ∷ rs) y (has_here y y rs refl))

  at_is : (k : ℕ) → has is k ≡ true → has (x ∷ (is ++ (y ∷ rs))) k ≡ true
  at_is k h = has_there x k (is ++ (y ∷ rs)) (in_left is (y ∷ rs) k h)

  at_rs : (k : ℕ) → has rs k ≡ true → has (x ∷ (is ++ (y ∷ rs))) k ≡ true
  at_rs k h = has_there x k (is ++ (y ∷ rs)) (in_right is (y ∷ rs) k (has_there y k rs h))

-- the owners of a trace's stamps stay
module _ (own own' : ℕ → ℕ) (ρ ρ' : Places) where
  pub owned_same : (t : Trace) → ((q : ℕ) → Among q (places t) → ρ' q ≡ ρ q) → ((k : ℕ) → has (numbers ρ t) k ≡ true → own' k ≡ own k) → Owned own ρ t → Owned own' ρ' t
  owned_same (write x) same agree h = tt
  owned_same (new n f vs inner rest) same agree h =
      let e = same n (inl refl) in
      let x = (ρ n).start in let y = (ρ n).end in let is = numbers ρ inner in let rs = numbers ρ rest in
      let go : (k : ℕ) → has (x ∷ (is ++ (y ∷ rs))) k ≡ true → own' k ≡ own k =
      λ k l. agree k (ap (λ (z : List ℕ). has z k) (numbers_new ρ n f vs inner rest) ∙ l) in (
        ap (λ (r : Record). own' r.start) e ∙ go x (at_x x y is rs) ∙ h.0,
        ap (λ (r : Record). own' r.end) e ∙ go y (at_y x y is rs) ∙ h.1,
        owned_same inner (λ q k. same q (inr (among_left q (places inner) (places rest) k))) (λ k l. go k (at_is x y is rs k l)) h.2,
        owned_same rest (λ q k. same q (inr (among_right q (places inner) (places rest) k))) (λ k l. go k (at_rs x y is rs k l)) h.3,
      )
  owned_same (read n s b v rest) same agree h =
      let e = same n (inl refl) in
      let x = (ρ n).start in let y = (ρ n).end in let is = numbers ρ rest in
      let go : (k : ℕ) → has (x ∷ (is ++ (y ∷ []))) k ≡ true → own' k ≡ own k =
      λ k l. agree k (ap (λ (z : List ℕ). has z k) (numbers_read ρ n s b v rest) ∙ l) in (
        ap (λ (r : Record). own' r.start) e ∙ go x (at_x x y is []) ∙ h.0,
        ap (λ (r : Record). own' r.end) e ∙ go y (at_y x y is []) ∙ h.1,
        owned_same rest (λ q k. same q (inr k)) (λ k l. go k (at_is x y is [] k l)) h.2,
      )
