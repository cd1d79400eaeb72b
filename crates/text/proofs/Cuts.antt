-- How the reader cuts a text into its lines.
use Rattle.std.proofs.Common.{◌≡◌, ℕ, suc, ◌+◌, ◌<◌, Bool, true, false, cond, ◌&&◌, leb, List, [], ◌∷◌, map, length, get_or, take, drop, Some, None, Ok, Err, Option, Result, sym, refl, ap, ◌∙◌, ⊎_elim, arith, length-drop}
use Rattle.std.proofs.lemmas.Bool.Decides.{eqb_tells, nat_tests}
use Rattle.text.specs.declared.line.Word.{Word}
use Rattle.text.specs.declared.line.LineFault.{LineFault}
use Rattle.text.specs.declared.line.LineFault.TheVariants as f
use Rattle.text.specs.Lines.{Said, Told, line_end, right_length, line_of, Raw, lines_in, line_fault, fault_in, standing, lines_of, reading, worded, word_of, or_nil, text_fault}
use Rattle.text.specs.Numbers.{fields_stand, numbers_in}
use Rattle.text.specs.Reader.{Reads, Falls, left, passed, unread, HandsOut, TellsNext}
use Rattle.text.specs.Told.{said}
use Rattle.text.specs.declared.line.Line.{Line}
use Rattle.text.specs.declared.lines.Lines.{Lines}
use Rattle.std.specs.Result.{result_ok}
use Rattle.text.proofs.Passes.{or_none, none_cond}

pub record Cut (k j : ℕ) (bs : List ℕ) : Type 0 where
  pub size : ℕ
  pub at : j ≡ k + size
  pub inside : size < length bs
  pub cut : lines_in bs ≡ (true, take size bs) ∷ lines_in (drop (suc size) bs)

pub cut_at : (k j : ℕ) (bs : List ℕ) → line_end k bs ≡ Some j → Cut k j bs
cut_at k j [] e = cc
cut_at k j (b ∷ bs) e =
    ⊎_elim
    (λ h. let x : Some k ≡ Some j = rw h.0 at e in
    let y : k ≡ j = cc in
    record { size = 0; at = omega arith; inside = omega arith; cut = rw h.0 })
    (λ h. let r : Cut (k + 1) j bs = cut_at (k + 1) j bs (rw h.0 at e) in
    record { size = suc r.size; at = omega (arith, r.at); inside = omega (arith, r.inside); cut = rw (h.0, r.cut) })
    (eqb_tells b 10)

pub uncut : (k b : ℕ) (bs : List ℕ) → line_end k (b ∷ bs) ≡ None → lines_in (b ∷ bs) ≡ (false, b ∷ bs) ∷ []
uncut k b [] e = grind (arith, nat_tests)
uncut k b (c ∷ bs) e = grind (arith, nat_tests, uncut (k + 1) c bs)

-- a line that is cut off and told
pub reads : (n j : ℕ) (bs : List ℕ) (x : Told) → line_end 0 bs ≡ Some j → line_of n (take j bs) ≡ Ok x → Reads n bs x (drop (j + 1) bs)
reads n j bs x e t =
    let r = cut_at 0 j bs e in
    let same : j ≡ r.size = omega (arith, r.at) in
    let same' : j + 1 ≡ suc r.size = omega (arith, r.at) in
    record {
      line = take j bs;
      lines = r.cut ∙ ap (λ k. (true, take k bs) ∷ lines_in (drop (suc r.size) bs)) (sym same) ∙ ap (λ k. (true, take j bs) ∷ lines_in (drop k bs)) (sym same');
      stands = t;
      shorter = omega (arith, length-drop (j + 1) bs, r.inside);
    }

-- a line that is cut off and falls
pub falls : (n j : ℕ) (bs : List ℕ) (y : LineFault) → line_end 0 bs ≡ Some j → line_of n (take j bs) ≡ Err y → Falls n bs y
falls n j bs y e t =
    let r = cut_at 0 j bs e in
    let same : r.size ≡ j = omega (arith, r.at) in
    record {
      line = (true, take r.size bs);
      behind = lines_in (drop (suc r.size) bs);
      lines = r.cut;
      broken = λ last. ap (λ k. fault_in (line_of n (take k bs))) same ∙ ap fault_in t;
    }

-- a last line that no byte 10 ends
pub unended : (n : ℕ) (bs : List ℕ) → 0 < length bs → line_end 0 bs ≡ None → Falls n bs (f.Length n)
unended n [] l e = absurd (omega arith)
unended n (b ∷ bs) l e = record { line = (false, b ∷ bs); behind = []; lines = uncut 0 b bs e; broken = λ last. refl }

-- where the first line falls none is left
pub none_stands : (n : ℕ) (bs : List ℕ) (y : LineFault) → Falls n bs y → standing n (lines_in bs) ≡ []
none_stands n bs y r = rw (r.lines, r.broken false)

ok_cond : {T E : Type 0} (b : Bool) (x : Result T E) (e : E) (y : T) → cond b x (Err e) ≡ Ok y → x ≡ Ok y
ok_cond true x e y p = p
ok_cond false x e y p = cc

worded_said : (n : ℕ) (o : Option Word) (fs : List ℕ) (x : Told) → worded n o fs ≡ Ok x → x ≡ (n, (or_nil o, numbers_in fs))
worded_said n None fs x p = cc
worded_said n (Some k) fs x p =
    let q : Ok (n, (k, numbers_in fs)) ≡ Ok x = ok_cond (fields_stand _ fs) (Ok (n, (k, numbers_in fs))) (f.Field n) x p in
    cc

-- a line that stands is told as it reads
pub line_said : (n : ℕ) (l : List ℕ) (x : Told) → line_of n l ≡ Ok x → x ≡ (n, reading (true, l))
line_said n l x p =
    worded_said n (word_of (get_or l 0 0) (get_or l 1 0) (get_or l 2 0)) (drop 3 l) x (ok_cond (right_length (length l)) _ (f.Length n) x p)

-- the lines that are left begin with the one that was read
pub lines_left : (n m : ℕ) (bs : List ℕ) (x : Said) (behind : List ℕ) → Reads n bs (m, x) behind → (standing n (lines_in bs) ≡ x ∷ standing (n + 1) (lines_in behind)) × (m ≡ n)
lines_left n m bs x behind r =
    let e = line_said n r.line (m, x) r.stands in
    (rw (r.lines, r.stands) (ap (λ (y : Told). y.1 ∷ standing (n + 1) (lines_in behind)) (sym e)), ap (λ (y : Told). y.0) e)

-- where a line is told it is handed out
pub handed_out : (l : Lines) (r : Result Line LineFault) (m : Lines) → TellsNext l (Some r) m → HandsOut l (result_ok r) m
handed_out l (Ok x) m h =
    let e = lines_left (passed l + 1) _ (unread l) _ _ h.0 in
    (e.0 ∙ ap (λ n. said x ∷ standing (n + 1) (lines_in (unread m))) (sym h.1), e.1, h.1)
handed_out l (Err f) m h =
    let e = none_stands (passed l + 1) (unread l) f h.0 in
    (e, ap left h.1 ∙ e, ap passed h.1)

-- in a text without a fault of this layer all lines stand
pub all_standing : (n : ℕ) (ls : List Raw) → line_fault n ls ≡ None → standing n ls ≡ map reading ls
all_standing n [] e = refl
all_standing n ((true, l) ∷ ls) e =
    let h = or_none (fault_in (line_of n l)) (line_fault (n + 1) ls) e in
    rw (h.0, all_standing (n + 1) ls h.1)
all_standing n ((false, l) ∷ ls) e = cc

pub lines_standing : (bs : List ℕ) → text_fault bs ≡ None → standing 1 (lines_in bs) ≡ lines_of bs
lines_standing bs e = all_standing 1 (lines_in bs) (none_cond (leb 1 (length bs) && leb (length bs) 65536) (line_fault 1 (lines_in bs)) (f.Length 0) e)
