-- Stamps put into a list behind a cursor: one, and one run of them after another.
use Rattle.std.proofs.Common.{◌≡◌, ℕ, ◌+◌, ◌<◌, true, false, cond, eqb, List, [], ◌∷◌, ◌++◌, length, Some, None, sym, refl, ap, ◌∙◌, subst, inl, inr, append_assoc, arith, length-append}
use Rattle.std.proofs.lemmas.Bool.Decides.{eqb_tells, nat_tests}
use Rattle.std.proofs.lemmas.Bool.{cases_Bool, lt-ltb, true≢false}
use Rattle.order_list.specs.Order.{has, Apart, insert_after, insert_refusal}
use Rattle.order_list.specs.declared.refusal.ListRefusal.{ListRefusal}
use Rattle.table.specs.Stamps.{Member, Moved}

-- ── what is among the parts of a list ──

pub has_append : (xs ys : List ℕ) (k : ℕ) → has (xs ++ ys) k ≡ cond (has xs k) true (has ys k)
has_append [] ys k = refl
has_append (x ∷ xs) ys k = let h = has_append xs ys k in elim (cases_Bool (eqb x k)) [ inl p ↦ rw p | inr p ↦ rw p h ]

pub in_left : (xs ys : List ℕ) (k : ℕ) → has xs k ≡ true → has (xs ++ ys) k ≡ true
in_left xs ys k h = has_append xs ys k ∙ rw h

pub in_right : (xs ys : List ℕ) (k : ℕ) → has ys k ≡ true → has (xs ++ ys) k ≡ true
in_right xs ys k h = has_append xs ys k ∙ elim (cases_Bool (has xs k)) [ inl p ↦ rw p | inr p ↦ rw p h ]

pub not_append : (xs ys : List ℕ) (k : ℕ) → has (xs ++ ys) k ≡ false → (has xs k ≡ false) × (has ys k ≡ false)
not_append xs ys k h = (
  elim (cases_Bool (has xs k)) [ inl p ↦ absurd (true≢false (sym (in_left xs ys k p) ∙ h)) | inr p ↦ p ],
  elim (cases_Bool (has ys k)) [ inl p ↦ absurd (true≢false (sym (in_right xs ys k p) ∙ h)) | inr p ↦ p ],
)

pub has_split : (pre post : List ℕ) (m : ℕ) → has (pre ++ (m ∷ post)) m ≡ true
has_split pre post m = in_right pre (m ∷ post) m (grind (arith, nat_tests))

pub apart_right : (xs ys : List ℕ) → Apart (xs ++ ys) → Apart ys
apart_right [] ys a = a
apart_right (x ∷ xs) ys a = apart_right xs ys a.1

pub apart_left : (xs ys : List ℕ) → Apart (xs ++ ys) → Apart xs
apart_left [] ys a = tt
apart_left (x ∷ xs) ys a = ((not_append xs ys x a.0).0, apart_left xs ys a.1)

pub not_both : (xs ys : List ℕ) (k : ℕ) → Apart (xs ++ ys) → has xs k ≡ true → has ys k ≡ false
not_both [] ys k a h = absurd (true≢false (sym h))
not_both (x ∷ xs) ys k a h = elim (eqb_tells x k) [
  | inl p ↦ subst (λ (j : ℕ). has ys j ≡ false) p.1 (not_append xs ys x a.0).1
  | inr p ↦ let e = p.0 in let h' : has xs k ≡ true = rw e at h in not_both xs ys k a.1 h'
]

-- ── one stamp ──

member_has : (xs : List ℕ) (m : ℕ) → Member xs m → has xs m ≡ true
member_has xs m k = ap (λ (l : List ℕ). has l m) k.split ∙ has_split k.pre k.post m

-- an insertion behind a member, where there is room, is not refused
pub not_refused : (c : ℕ) (xs : List ℕ) (m : ℕ) (e : ListRefusal) → Member xs m → length xs < c → insert_refusal c xs m ≡ Some e → ⊥
not_refused c xs m e k r h =
    let a = member_has xs m k in
    let b = lt-ltb (length xs) c r in
    let z : insert_refusal c xs m ≡ None = rw (a, b) in
    let w : ◌≡◌ {A = ℕ} 0 1 = cc in omega arith

-- it puts its member directly behind
insert_split : (pre post : List ℕ) (m n : ℕ) → Apart (pre ++ (m ∷ post)) → insert_after (pre ++ (m ∷ post)) m n ≡ pre ++ (m ∷ n ∷ post)
insert_split [] post m n a = elim (eqb_tells m m) [ inl p ↦ rw p.0 | inr p ↦ absurd (p.1 refl) ]
insert_split (x ∷ pre) post m n a =
    elim (eqb_tells x m) [
      | inl p ↦ let h = has_split pre post m in let k : has (pre ++ (m ∷ post)) m ≡ false = rw p.1 at a.0 in
          absurd (true≢false (sym h ∙ k))
      | inr p ↦ rw p.0 (ap (λ (l : List ℕ). x ∷ l) (insert_split pre post m n a.1))
    ]

pub moved_one : (xs ys : List ℕ) (m n : ℕ) → Apart xs → ys ≡ insert_after xs m n → Moved xs m (n ∷ []) ys n
moved_one xs ys m n a e = record {
  spliced = λ pre post h. e ∙ ap (λ (l : List ℕ). insert_after l m n) h ∙ insert_split pre post m n (subst Apart h a);
  front = m ∷ [];
  last = refl;
}

-- ── several ──

pub moved_none : (xs : List ℕ) (m : ℕ) → Moved xs m [] xs m
moved_none xs m = record { spliced = λ pre post h. h; front = []; last = refl }

regroup : (pre front post ns : List ℕ) (m m' : ℕ) → m ∷ ns ≡ front ++ (m' ∷ []) → pre ++ (m ∷ (ns ++ post)) ≡ (pre ++ front) ++ (m' ∷ post)
regroup pre front post ns m m' e =
    ap (λ (l : List ℕ). pre ++ (l ++ post)) e ∙ simp append_assoc

pub moved_on : {xs ys zs ns ks : List ℕ} {m m' m'' : ℕ} → Moved xs m ns ys m' → Moved ys m' ks zs m'' → Moved xs m (ns ++ ks) zs m''
moved_on {xs} {ys} {zs} {ns} {ks} {m} {m'} {m''} h k = record {
  spliced = λ pre post e.
      k.spliced (pre ++ h.front) post (h.spliced pre post e ∙ regroup pre h.front post ns m m' h.last)
      ∙ sym (regroup pre h.front (ks ++ post) ns m m' h.last) ∙ ap (λ (l : List ℕ). pre ++ (m ∷ l)) (sym (append_assoc ns ks post));
  front = h.front ++ k.front;
  last = ap (λ (l : List ℕ). l ++ ks) h.last ∙ append_assoc h.front (m' ∷ []) ks ∙ ap (λ (l : List ℕ). h.front ++ l) k.last ∙ sym (append_assoc h.front k.front (m'' ∷ []));
}

pub moved_member : {xs ys ns : List ℕ} {m m' : ℕ} → Member xs m → Moved xs m ns ys m' → Member ys m'
moved_member {xs} {ys} {ns} {m} {m'} k h = record {
  pre = k.pre ++ h.front;
  post = k.post;
  split = h.spliced k.pre k.post k.split ∙ regroup k.pre h.front k.post ns m m' h.last;
}

pub moved_length : {xs ys ns : List ℕ} {m m' : ℕ} → Member xs m → Moved xs m ns ys m' → length ys ≡ length xs + length ns
moved_length {xs} {ys} {ns} {m} {m'} k h =
    let e = ap length (h.spliced k.pre k.post k.split) ∙ length-append k.pre (m ∷ (ns ++ k.post)) in
    let f = ap length k.split ∙ length-append k.pre (m ∷ k.post) in
    let g = length-append ns k.post in
    omega (arith, e, f, g)

-- the same, where the stamps go by another name
pub moved_as : {xs ys ns ks : List ℕ} {m m' : ℕ} → ns ≡ ks → Moved xs m ns ys m' → Moved xs m ks ys m'
moved_as {xs} {ys} {ns} {ks} {m} {m'} e h = subst (λ (l : List ℕ). Moved xs m l ys m') e h

-- the stamps put in are different from one another
pub moved_apart : {xs ys ns : List ℕ} {m m' : ℕ} → Member xs m → Moved xs m ns ys m' → Apart ys → Apart ns
moved_apart {xs} {ys} {ns} {m} {m'} k h a =
    let b = subst Apart (h.spliced k.pre k.post k.split) a in
    apart_left ns k.post (apart_right k.pre (m ∷ (ns ++ k.post)) b).1
