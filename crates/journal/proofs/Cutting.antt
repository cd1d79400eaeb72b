-- A journal is cut at its bytes 10.
use Rattle.std.proofs.Common.{◌≡◌, ℕ, zero, suc, ◌+◌, ◌-◌, ◌<◌, Bool, true, false, cond, List, [], ◌∷◌, ◌++◌, length, take, drop, Some, None, Decides, codes, sym, ap, ◌∙◌, subst, ⊎_elim, arith, length-drop, rules}
use Rattle.std.proofs.lemmas.Slice.Eq.{bytes_eq-Decides}
use Rattle.std.proofs.lemmas.List.{append-nil, append_assoc, take_rest}
use Rattle.std.proofs.lemmas.Bool.Decides.{eqb_tells}
use Rattle.std.specs.Str.{bytes_eq}
use Rattle.text.specs.Lines.{line_end, lines_in}
use Rattle.text.proofs.Cuts.{cut_at, uncut}
use Rattle.journal.specs.Journal.{newline, ends_text, text_of, behind_text}
use Rattle.journal.specs.Cut.{Cut}

-- the bytes before the first byte 10, it, and those behind
split_at : (k j : ℕ) (bs : List ℕ) → line_end k bs ≡ Some j → (i : ℕ) → j ≡ k + i → bs ≡ take i bs ++ 10 ∷ drop (suc i) bs
split_at k j [] e i q = absurd (cc)
split_at k j (b ∷ bs) e zero q =
    ⊎_elim
    (λ h. ap (λ x. x ∷ bs) h.1)
    (λ h. absurd (let x : line_end k (b ∷ bs) ≡ line_end (k + 1) bs = ap (λ t. cond t (Some k) (line_end (k + 1) bs)) h.0 in
    let r = cut_at (k + 1) j bs (sym x ∙ e) in omega (arith, r.at)))
    (eqb_tells b 10)
split_at k j (b ∷ bs) e (suc i) q =
    ⊎_elim
    (λ h. absurd (let x : line_end k (b ∷ bs) ≡ Some k = ap (λ t. cond t (Some k) (line_end (k + 1) bs)) h.0 in let y : j ≡ k = cc in omega arith))
    (λ h. let x : line_end k (b ∷ bs) ≡ line_end (k + 1) bs = ap (λ t. cond t (Some k) (line_end (k + 1) bs)) h.0 in
    ap (λ xs. b ∷ xs) (split_at (k + 1) j bs (sym x ∙ e) i (omega arith)))
    (eqb_tells b 10)

cut_here : (j : ℕ) (bs : List ℕ) → line_end 0 bs ≡ Some j → Cut bs (take j bs) (drop (j + 1) bs)
cut_here j bs e =
    let r = cut_at 0 j bs e in
    let same : r.size ≡ j = omega (arith, r.at) in
    let next : suc j ≡ j + 1 = omega arith in
    record {
      ended = true;
      lines = r.cut ∙ ap (λ k. (true, take k bs) ∷ lines_in (drop (suc k) bs)) same ∙ ap (λ k. (true, take j bs) ∷ lines_in (drop k bs)) next;
      bytes = split_at 0 j bs e j (omega arith) ∙ ap (λ k. take j bs ++ 10 ∷ drop k bs) next;
      shorter = omega (arith, length-drop (j + 1) bs, r.inside, r.at);
    }

pub cut_all : (bs : List ℕ) → 0 < length bs → line_end 0 bs ≡ None → Cut bs bs []
cut_all [] l e = absurd (omega arith)
cut_all (b ∷ bs) l e = record { ended = false; lines = uncut 0 b bs e; bytes = sym (append-nil (b ∷ bs)); shorter = l }

pub cut_parts : (j : ℕ) (bs : List ℕ) → line_end 0 bs ≡ Some j → Cut bs (take j bs) (take (length bs - (j + 1)) (drop (j + 1) bs))
cut_parts j bs e = subst (Cut bs (take j bs)) (sym (take_rest bs (j + 1))) (cut_here j bs e)

-- whether a line is just a dot, as the code tests it
pub ends_line : (line dot : List ℕ) (r b : Bool) → dot ≡ codes "." → Decides r (line ≡ dot) → r ≡ b → ends_text line ≡ b
ends_line line dot r b e h q = sym (let t : r ≡ bytes_eq line dot = search (rules, bytes_eq-Decides) in t ∙ ap (bytes_eq line) e) ∙ q

-- how far a text has been cut off: what stands before the rest belongs to it
pub record Past (bs rest : List ℕ) : Type 0 where
  pub front : List ℕ
  pub whole : bs ≡ front ++ rest
  pub text : text_of (lines_in bs) ≡ front ++ text_of (lines_in rest)
  pub behind : behind_text (lines_in bs) ≡ behind_text (lines_in rest)

module _ (bs rest line after : List ℕ) (b : Past bs rest) (c : Cut rest line after) where
  pub past_line : ends_text line ≡ false → Past bs after
  past_line f =
      let nl = newline c.ended in
      record {
        front = b.front ++ (line ++ nl);
        whole = b.whole ∙ ap (λ xs. b.front ++ xs) (c.bytes ∙ sym (append_assoc line nl after)) ∙ sym (append_assoc b.front (line ++ nl) after);
        text = b.text ∙ ap (λ ls. b.front ++ text_of ls) c.lines ∙ ap (λ t. b.front ++ cond t [] (line ++ (nl ++ text_of (lines_in after)))) f ∙ ap (λ xs. b.front ++ xs) (sym (append_assoc line nl (text_of (lines_in after)))) ∙ sym (append_assoc b.front (line ++ nl) (text_of (lines_in after)));
        behind = b.behind ∙ ap behind_text c.lines ∙ ap (λ t. cond t (lines_in after) (behind_text (lines_in after))) f;
      }
