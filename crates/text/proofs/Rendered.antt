-- A text and its lines: a text that stands is the rendering of its lines, and lines that fit are those of their rendering.
use Rattle.std.proofs.Common.{◌≡◌, ℕ, zero, suc, ◌+◌, ◌-◌, ◌*◌, ◌/◌, ◌%◌, ◌<◌, Bool, true, false, cond, ◌&&◌, eqb, leb, List, [], ◌∷◌, ◌++◌, map, length, get_or, take, drop, ℤ, pos, is_some, Some, None, Ok, Err, Option, Result, unwrap_or, sym, refl, ap, ◌∙◌, ⊎_elim, append_assoc, arith, length-append, length-drop}
use Rattle.std.specs.List.{flat_map, AllByRecursion}
use Rattle.std.proofs.lemmas.Bool.{and_parts, cases_Bool, eqb-true, ne_eqb}
use Rattle.std.proofs.lemmas.Bool.Decides.{eqb_tells}
use Rattle.std.proofs.lemmas.List.{take-append-drop, take_at, drop_at, nil_from_length}
use Rattle.std.proofs.ByRecursion.{All-append}
use Rattle.text.specs.declared.line.Word.{Word}
use Rattle.text.specs.declared.line.Word.TheVariants as w
use Rattle.text.specs.declared.line.LineFault.{LineFault}
use Rattle.text.specs.declared.line.LineFault.TheVariants as f
use Rattle.text.specs.Field.{field_value}
use Rattle.text.specs.Numbers.{fields_stand, numbers, numbers_in}
use Rattle.text.specs.Lines.{spelled, word_of, Told, worded, right_length, line_of, Raw, longer, lines_in, fault_in, line_fault, text_fault, or_nil, Said, reading, lines_of}
use Rattle.text.specs.Rendering.{columns, fits, spelling, line_bytes, rendered, each_fits, fitting, all_fit}
use Rattle.text.proofs.Passes.{or_none, none_cond}
use Rattle.text.proofs.Columns.{columns_of, columns_back, length_columns, columns_over}

-- words

-- the first of some words that is spelled so
abbrev among : List Word → ℕ → ℕ → ℕ → Option Word
among [] a b c = None
among (k ∷ ks) a b c = cond (spelled a b c (get_or (spelling k) 0 0) (get_or (spelling k) 1 0) (get_or (spelling k) 2 0)) (Some k) (among ks a b c)

abbrev words : List Word
words = w.Inp ∷ w.Run ∷ w.Fun ∷ w.Lit ∷ w.Add ∷ w.Sub ∷ w.Mul ∷ w.Div ∷ w.Min ∷ w.Max ∷ w.New ∷ w.Put ∷ w.Nil ∷ w.Con ∷ w.Get ∷ w.Cas ∷ []

-- letters that are a word's: they spell it, and no line ends among them
record IsSpelledBy (k : Word) (a b c : ℕ) : Type 0 where
  back : word_of a b c ≡ Some k
  letters : a ∷ b ∷ c ∷ [] ≡ spelling k
  cut : (xs : List ℕ) → lines_in (spelling k ++ xs) ≡ longer a (longer b (longer c (lines_in xs)))

by_computing : (k : Word) → IsSpelledBy k (get_or (spelling k) 0 0) (get_or (spelling k) 1 0) (get_or (spelling k) 2 0)
by_computing w.Inp = record { back = refl; letters = refl; cut = λ xs. refl }
by_computing w.Run = record { back = refl; letters = refl; cut = λ xs. refl }
by_computing w.Fun = record { back = refl; letters = refl; cut = λ xs. refl }
by_computing w.Lit = record { back = refl; letters = refl; cut = λ xs. refl }
by_computing w.Add = record { back = refl; letters = refl; cut = λ xs. refl }
by_computing w.Sub = record { back = refl; letters = refl; cut = λ xs. refl }
by_computing w.Mul = record { back = refl; letters = refl; cut = λ xs. refl }
by_computing w.Div = record { back = refl; letters = refl; cut = λ xs. refl }
by_computing w.Min = record { back = refl; letters = refl; cut = λ xs. refl }
by_computing w.Max = record { back = refl; letters = refl; cut = λ xs. refl }
by_computing w.New = record { back = refl; letters = refl; cut = λ xs. refl }
by_computing w.Put = record { back = refl; letters = refl; cut = λ xs. refl }
by_computing w.Nil = record { back = refl; letters = refl; cut = λ xs. refl }
by_computing w.Con = record { back = refl; letters = refl; cut = λ xs. refl }
by_computing w.Get = record { back = refl; letters = refl; cut = λ xs. refl }
by_computing w.Cas = record { back = refl; letters = refl; cut = λ xs. refl }

pub word_back : (k : Word) → word_of (get_or (spelling k) 0 0) (get_or (spelling k) 1 0) (get_or (spelling k) 2 0) ≡ Some k
word_back k = (by_computing k).back

same_letters : (a b c x y z : ℕ) → spelled a b c x y z ≡ true → a ∷ b ∷ c ∷ [] ≡ x ∷ y ∷ z ∷ []
same_letters a b c x y z e =
    let p = and_parts (eqb a x) (eqb b y && eqb c z) e in
    let q = and_parts (eqb b y) (eqb c z) p.1 in
    λ i. eqb-true a x p.0 i ∷ eqb-true b y q.0 i ∷ eqb-true c z q.1 i ∷ []

among_spelled : (ks : List Word) (a b c : ℕ) (k : Word) → among ks a b c ≡ Some k → a ∷ b ∷ c ∷ [] ≡ spelling k
among_spelled [] a b c k e = cc
among_spelled (j ∷ ks) a b c k e =
    ⊎_elim
    (λ t. let r : Some j ≡ Some k = rw t at e in let s : j ≡ k = cc in same_letters a b c _ _ _ t ∙ (by_computing j).letters ∙ ap spelling s)
    (λ t. among_spelled ks a b c k (rw t at e))
    (cases_Bool (spelled a b c (get_or (spelling j) 0 0) (get_or (spelling j) 1 0) (get_or (spelling j) 2 0)))

pub word_spelled : (a b c : ℕ) (k : Word) → word_of a b c ≡ Some k → a ∷ b ∷ c ∷ [] ≡ spelling k
word_spelled a b c k e = among_spelled words a b c k e

-- fields

held : {A : Type 0} (o : Option A) (d : A) → is_some o ≡ true → o ≡ Some (unwrap_or o d)
held None d e = cc
held (Some x) d e = refl

fields_in : (m : ℕ) (fs : List ℕ) → length fs ≡ 6 * m → fields_stand m fs ≡ true → (flat_map columns (numbers m fs) ≡ fs) × (each_fits (numbers m fs) ≡ true)
fields_in zero fs l e = (sym (nil_from_length fs (omega arith)), refl)
fields_in (suc m) fs l e =
    let b = and_parts (is_some (field_value (take 6 fs))) (fields_stand m (drop 6 fs)) e in
    let c = columns_of (take 6 fs) (unwrap_or (field_value (take 6 fs)) (pos 0)) (held (field_value (take 6 fs)) (pos 0) b.0) in
    let r = fields_in m (drop 6 fs) (simp length-drop (omega arith)) b.1 in
    ((λ i. sym c.0 i ++ r.0 i) ∙ take-append-drop 6 fs, ap (λ t. t && each_fits (numbers m (drop 6 fs))) c.1 ∙ r.1)

fields_back : (zs : List ℤ) → each_fits zs ≡ true → (numbers_in (flat_map columns zs) ≡ zs) × AllByRecursion (λ b. 10 < b) (flat_map columns zs)
fields_back [] e = (refl, tt)
fields_back (z ∷ zs) e =
    let b = and_parts (fits z) (each_fits zs) e in
    let r = fields_back zs b.1 in
    let s = length_columns z b.0 in
    let fs : List ℕ = flat_map columns zs in
    let m : length (columns z ++ fs) / 6 ≡ suc (length fs / 6) = omega (arith, length-append (columns z) fs) in (
      ap (λ k. numbers k (columns z ++ fs)) m ∙ (λ i. unwrap_or (field_value (take_at (columns z) fs 6 s i)) (pos 0) ∷ numbers (length fs / 6) (drop_at (columns z) fs 6 s i)) ∙ (λ i. unwrap_or (columns_back z b.0 i) (pos 0) ∷ r.0 i),
      All-append (λ b. 10 < b) (columns z) fs (columns_over z b.0) r.1,
    )

-- lines

sound : (t : Bool) (r : Result Told LineFault) (y : LineFault) → fault_in (cond t r (Err y)) ≡ None → (t ≡ true) × (fault_in r ≡ None)
sound true r y e = (refl, e)
sound false r y e = cc

worded_in : (n a b c : ℕ) (o : Option Word) (fs : List ℕ) → word_of a b c ≡ o → length fs % 6 ≡ 0 → fault_in (worded n o fs) ≡ None
    → (line_bytes (or_nil o, numbers_in fs) ≡ a ∷ b ∷ c ∷ (fs ++ 10 ∷ [])) × (each_fits (numbers_in fs) ≡ true)
worded_in n a b c None fs q l e = cc
worded_in n a b c (Some k) fs q l e =
    let r = fields_in (length fs / 6) fs (omega arith) (sound (fields_stand (length fs / 6) fs) (Ok (n, (k, numbers_in fs))) (f.Field n) e).0 in
    (λ i. sym (word_spelled a b c k q) i ++ (r.0 i ++ 10 ∷ []), r.1)

line_in : (n : ℕ) (l : List ℕ) → fault_in (line_of n l) ≡ None → (line_bytes (reading (true, l)) ≡ l ++ 10 ∷ []) × (fitting (reading (true, l)) ≡ true)
line_in n [] e = cc
line_in n (a ∷ []) e = cc
line_in n (a ∷ b ∷ []) e = cc
line_in n (a ∷ b ∷ c ∷ fs) e =
    let m : ℕ = length (a ∷ b ∷ c ∷ fs) in
    let p = sound (right_length m) (worded n (word_of a b c) fs) (f.Length n) e in
    let q = and_parts (eqb ((m - 3) % 6) 0) (leb (m - 3) 54) (and_parts (leb 3 m) _ p.0).1 in
    worded_in n a b c (word_of a b c) fs refl (omega (arith, eqb-true ((m - 3) % 6) 0 q.0)) p.1

cut_line : (l bs : List ℕ) → AllByRecursion (λ b. 10 < b) l → lines_in (l ++ 10 ∷ bs) ≡ (true, l) ∷ lines_in bs
cut_line [] bs h = refl
cut_line (b ∷ l) bs h = let i = h.0 in rw (ne_eqb b 10 (λ q. omega arith)) (ap (longer b) (cut_line l bs h.1))

line_back : (k : Word) (zs : List ℤ) (bs : List ℕ) → each_fits zs ≡ true → lines_of (line_bytes (k, zs) ++ bs) ≡ (k, zs) ∷ lines_of bs
line_back k zs bs e =
    let r = fields_back zs e in
    let g : line_bytes (k, zs) ++ bs ≡ spelling k ++ (flat_map columns zs ++ 10 ∷ bs) = simp append_assoc in
    ap lines_of g ∙ ap (map reading) ((by_computing k).cut (flat_map columns zs ++ 10 ∷ bs))
    ∙ ap (λ ls. map reading (longer (get_or (spelling k) 0 0) (longer (get_or (spelling k) 1 0) (longer (get_or (spelling k) 2 0) ls)))) (cut_line (flat_map columns zs) bs r.1)
    ∙ (λ i. (or_nil (word_back k i), r.0 i) ∷ lines_of bs)

-- texts

-- a line as it stands in the text
abbrev raw_bytes : Raw → List ℕ
raw_bytes (true, l) = l ++ 10 ∷ []
raw_bytes (false, l) = l

longer_whole : (b : ℕ) (ls : List Raw) → flat_map raw_bytes (longer b ls) ≡ b ∷ flat_map raw_bytes ls
longer_whole b [] = refl
longer_whole b ((true, l) ∷ ls) = refl
longer_whole b ((false, l) ∷ ls) = refl

whole : (bs : List ℕ) → flat_map raw_bytes (lines_in bs) ≡ bs
whole [] = refl
whole (b ∷ bs) =
    ⊎_elim
    (λ h. rw h.0 (λ i. sym h.1 i ∷ whole bs i))
    (λ h. rw h.0 (longer_whole b (lines_in bs) ∙ ap (λ x. b ∷ x) (whole bs)))
    (eqb_tells b 10)

lines_rendered : (n : ℕ) (ls : List Raw) → line_fault n ls ≡ None → (rendered (map reading ls) ≡ flat_map raw_bytes ls) × (all_fit (map reading ls) ≡ true)
lines_rendered n [] e = (refl, refl)
lines_rendered n ((true, l) ∷ ls) e =
    let b = or_none (fault_in (line_of n l)) (line_fault (n + 1) ls) e in
    let p = line_in n l b.0 in
    let r = lines_rendered (n + 1) ls b.1 in
    ((λ i. p.0 i ++ r.0 i), ap (λ t. t && all_fit (map reading ls)) p.1 ∙ r.1)
lines_rendered n ((false, l) ∷ ls) e = cc

pub rendering_of : (bs : List ℕ) → text_fault bs ≡ None → (rendered (lines_of bs) ≡ bs) × (all_fit (lines_of bs) ≡ true)
rendering_of bs e =
    let r = lines_rendered 1 (lines_in bs) (none_cond (leb 1 (length bs) && leb (length bs) 65536) _ (f.Length 0) e) in
    (r.0 ∙ whole bs, r.1)

pub lines_back : (ls : List Said) → all_fit ls ≡ true → lines_of (rendered ls) ≡ ls
lines_back [] e = refl
lines_back ((k, zs) ∷ ls) e =
    let b = and_parts (each_fits zs) (all_fit ls) e in
    line_back k zs (rendered ls) b.0 ∙ ap (λ x. (k, zs) ∷ x) (lines_back ls b.1)

-- two lists of lines that fit are rendered alike only where they are the same
pub rendered_once : (ks ls : List Said) → all_fit ks ≡ true → all_fit ls ≡ true → rendered ks ≡ rendered ls → ks ≡ ls
rendered_once ks ls p q e = sym (lines_back ks p) ∙ ap lines_of e ∙ lines_back ls q
