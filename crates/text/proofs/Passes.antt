-- A pass over the lines, whatever its rules: what a turn leaves to find.
use Rattle.std.proofs.Common.{◌≡◌, ℕ, ◌+◌, Bool, true, false, cond, not, List, [], ◌∷◌, is_some, IfSome, MatchOption, Some, None, Ok, Err, Option, Bor, sym, refl, ap, ◌∙◌, subst}
use Rattle.std.specs.Option.{option_copied}
use Rattle.text.specs.declared.line.Line.{Line}
use Rattle.text.specs.declared.lines.Lines.{Lines}
use Rattle.text.specs.First.{first, none_left, or_else, answer}
use Rattle.text.specs.Lines.{Said}
use Rattle.text.specs.Told.{numbered, said}
use Rattle.text.specs.Reader.{left, passed, ahead, HandsOut}

-- where no fault is told, neither the first line nor those behind it have one
pub or_none : {F : Type 0} (o q : Option F) → or_else o q ≡ None → (o ≡ None) × (q ≡ None)
or_none None q e = (refl, e)
or_none (Some f) q e = cc

-- where a test that would tell a fault tells none it is passed
pub none_cond : {F : Type 0} (t : Bool) (o : Option F) (y : F) → cond t o (Some y) ≡ None → o ≡ None
none_cond true o y e = e
none_cond false o y e = cc

-- ---- a reader of lines that looks one line ahead: p is what it has looked at, if it has, and l is the reader behind

-- the lines that it has left
abbrev pub awaited : Option (Option Line) → Lines → List Said
awaited None l = left l
awaited (Some o) l = ahead o l

-- the number of the first of them
abbrev pub awaited_number : Option (Option Line) → Lines → ℕ
awaited_number None l = passed l + 1
awaited_number (Some o) l = passed l

-- a line that it has looked at was the last that was handed out
abbrev pub IsLatest : Option (Option Line) → Lines → Type 0
IsLatest p l = IfSome p (λ o. IfSome o (λ x. numbered x ≡ passed l))

-- its next line is the first of those that it has left
pub taken : (p : Option (Option Line)) (l : Lines) (x : Line) (m : Lines) → IsLatest p l → MatchOption p (HandsOut l (Some x) m) (λ o. (Some x ≡ o) × (m ≡ l)) → (awaited p l ≡ said x ∷ left m) × (awaited_number p l ≡ passed m) × (numbered x ≡ passed m)
taken None l x m h st = (st.0, sym st.2, st.1 ∙ sym st.2)
taken (Some None) l x m h st = let e = st.0 in cc
taken (Some (Some y)) l x m h st = (cc, cc, cc)

-- it has no next line where none is left
pub none_taken : (p : Option (Option Line)) (l m : Lines) → MatchOption p (HandsOut l None m) (λ o. (None ≡ o) × (m ≡ l)) → awaited p l ≡ []
none_taken None l m st = st.0
none_taken (Some None) l m st = refl
none_taken (Some (Some y)) l m st = let e = st.0 in cc

-- it looks at its next line, where it had not looked yet
pub looked : (p : Option (Option Line)) (l m : Lines) (q : Option (Option Line)) (o : Option Line) → p ≡ None → ((r : Option Line) × MatchOption p (HandsOut l r m) (λ o. (r ≡ o) × (m ≡ l)) × (q ≡ Some r)) → q ≡ Some o → HandsOut l o m
looked None l m q o n h e = let i : h.0 ≡ o = cc (h.2, e) in subst (λ (r : Option Line). HandsOut l r m) i h.1
looked (Some r) l m q o n h e = cc

-- a line that was looked at is the latest
pub latest_is : (l : Lines) (o : Option Line) (m : Lines) (q : Option (Option Line)) → HandsOut l o m → q ≡ Some o → IsLatest q m
latest_is l None m q h e = rw e tt
latest_is l (Some x) m q h e = rw e (h.1 ∙ sym h.2)

-- whether a line was the last, as `is_none` says of the next one
pub last_is : (l : Lines) (o : Option (Bor Line)) (m : Lines) (b : Bool) → HandsOut l (option_copied o) m → is_some o ≡ not b → b ≡ none_left (left l)
last_is l None m true h e = ap none_left (sym h.0)
last_is l None m false h e = cc
last_is l (Some x) m true h e = cc
last_is l (Some x) m false h e = ap none_left (sym h.0)

module _ {S F : Type 0} (after : S → Said → S) (rules : S → ℕ → Said → Bool → Option F) where
  -- what the lines that are left have, whether or not the next one was looked at
  looks : (s : S) (l : Lines) (o : Option Line) (m : Lines) → HandsOut l o m → first after rules s (passed m) (ahead o m) ≡ first after rules s (passed l + 1) (left l)
  looks s l None m h = ap (first after rules s (passed l + 1)) (sym h.0)
  looks s l (Some x) m h = ap (λ n. first after rules s n (said x ∷ left m)) h.2 ∙ ap (first after rules s (passed l + 1)) (sym h.0)

  module _ (s : S) (p : Option (Option Line)) (l : Lines) (x : Line) (m : Lines) (latest : IsLatest p l) (takes : MatchOption p (HandsOut l (Some x) m) (λ o. (Some x ≡ o) × (m ≡ l))) (last : Bool) (ends : last ≡ none_left (left m)) where
    -- the fault of the line that was taken, or else what the lines behind it have
    taken_first : first after rules s (awaited_number p l) (awaited p l) ≡ or_else (rules s (numbered x) (said x) last) (first after rules (after s (said x)) (passed m + 1) (left m))
    taken_first =
        let t = taken p l x m latest takes in
        let e : awaited_number p l ≡ numbered x = t.1 ∙ sym t.2 in
        ap (first after rules s (awaited_number p l)) t.0 ∙ ap (λ u. or_else (rules s (awaited_number p l) (said x) u) (first after rules (after s (said x)) (awaited_number p l + 1) (left m))) (sym ends) ∙ ap (λ n. or_else (rules s n (said x) last) (first after rules (after s (said x)) (awaited_number p l + 1) (left m))) e ∙ ap (λ n. or_else (rules s (numbered x) (said x) last) (first after rules (after s (said x)) (n + 1) (left m))) t.1

    -- a line with no fault is passed over
    pub pass_on : (s' : S) (q : Option (Option Line)) (o : Option Line) (v : Lines) → HandsOut m o v → q ≡ Some o → rules s (numbered x) (said x) last ≡ None → s' ≡ after s (said x) → first after rules s' (awaited_number q v) (awaited q v) ≡ first after rules s (awaited_number p l) (awaited p l)
    pass_on s' q o v h e f g =
        ap (λ u. first after rules s' (awaited_number u v) (awaited u v)) e ∙ looks s' m o v h ∙ ap (λ t. first after rules t (passed m + 1) (left m)) g ∙ sym (taken_first ∙ ap (λ u. or_else u (first after rules (after s (said x)) (passed m + 1) (left m))) f)

    -- the fault of the line is the first
    pub pass_stop : (y : F) → rules s (numbered x) (said x) last ≡ Some y → first after rules s (awaited_number p l) (awaited p l) ≡ Some y
    pass_stop y f = taken_first ∙ ap (λ u. or_else u (first after rules (after s (said x)) (passed m + 1) (left m))) f

  -- the next line's fault, or else what the lines behind it have
  pub turned : (s : S) (x : Line) (l m : Lines) → HandsOut l (Some x) m → first after rules s (passed l + 1) (left l) ≡ or_else (rules s (numbered x) (said x) (none_left (left m))) (first after rules (after s (said x)) (passed m + 1) (left m))
  turned s x l m h =
      ap (first after rules s (passed l + 1)) h.0 ∙ ap (λ n. or_else (rules s n (said x) (none_left (left m))) (first after rules (after s (said x)) (passed l + 1 + 1) (left m))) (sym h.1) ∙ ap (λ n. or_else (rules s (numbered x) (said x) (none_left (left m))) (first after rules (after s (said x)) (n + 1) (left m))) (sym h.2)

pub answer_ok : {T F : Type 0} (t u : T) (o : Option F) → Ok u ≡ answer t o → (o ≡ None) × (u ≡ t)
answer_ok t u None p = (refl, cc)
answer_ok t u (Some x) p = cc

pub answer_err : {T F : Type 0} (t : T) (y : F) (o : Option F) → Err y ≡ answer t o → o ≡ Some y
answer_err t y None p = cc
answer_err t y (Some x) p = let e : x ≡ y = cc in ap Some e
