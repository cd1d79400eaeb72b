-- The numbers of a line's fields, by place.
use Rattle.std.proofs.Common.{◌≡◌, ℕ, zero, suc, ◌+◌, ◌*◌, ◌/◌, ◌<◌, ◌≤◌, ◌&&◌, List, [], ◌∷◌, length, get_or, take, drop, ℤ, pos, is_some, is_ok, unwrap_or, Ok, Err, Result, sym, refl, ap, ◌∙◌, arith, length-append, length-drop, ◌++◌}
use Rattle.std.proofs.Math.Seq.{take-append_seam, drop-append_seam}
use Rattle.std.proofs.lemmas.List.{drop-drop}
use Rattle.std.proofs.lemmas.Iterator.{YieldsList}
use Rattle.std.proofs.lemmas.Iterator.Splits.{YieldsList-from_shown_while}
use Rattle.std.specs.List.{list_all}
use Rattle.std.specs.Slice.Iter.{chunks_exact_rest, chunks_exact_size, chunks_exact_steps}
use Rattle.std.specs.declared.slice.ChunksExact.{ChunksExact}
use Rattle.text.specs.Field.{field_value}
use Rattle.text.specs.Numbers.{fields_stand, numbers, numbers_in, kind_of, Names}
use Rattle.text.specs.declared.fields.Kind.{Kind}
use Rattle.text.specs.declared.fields.UnknownKind.{UnknownKind}

pub length_numbers : (k : ℕ) (bs : List ℕ) → length (numbers k bs) ≡ k
length_numbers zero bs = refl
length_numbers (suc k) bs = ap suc (length_numbers k (drop 6 bs))

pub count_is : (bs : List ℕ) → length bs / 6 ≡ length (numbers_in bs)
count_is bs = sym (length_numbers (length bs / 6) bs)

pub number_is : (k j : ℕ) (bs : List ℕ) → j < k → get_or (numbers k bs) j (pos 0) ≡ unwrap_or (field_value (take 6 (drop (6 * j) bs))) (pos 0)
number_is zero j bs l = absurd (omega arith)
number_is (suc k) zero bs l = refl
number_is (suc k) (suc j) bs l =
    let e : 6 + 6 * j ≡ 6 * suc j = omega arith in
    number_is k j (drop 6 bs) (omega arith) ∙ ap (λ xs. unwrap_or (field_value (take 6 xs)) (pos 0)) (drop-drop (6 * j) 6 bs ∙ ap (λ m. drop m bs) e)

pub numbers_more : (bs : List ℕ) → 6 ≤ length bs → numbers_in bs ≡ unwrap_or (field_value (take 6 bs)) (pos 0) ∷ numbers_in (drop 6 bs)
numbers_more bs l =
    let e : length bs / 6 ≡ suc (length (drop 6 bs) / 6) = omega (arith, length-drop 6 bs) in
    ap (λ k. numbers k bs) e

pub numbers_drop : (k : ℕ) (bs : List ℕ) → 6 * k ≤ length bs → numbers_in (drop (6 * k) bs) ≡ drop k (numbers_in bs)
numbers_drop zero bs l = refl
numbers_drop (suc k) bs l =
    let e : 6 + 6 * k ≡ 6 * suc k = omega arith in
    let h : 6 ≤ length bs = omega arith in
    let g : 6 * k ≤ length (drop 6 bs) = omega (arith, length-drop 6 bs) in
    ap numbers_in (sym (drop-drop (6 * k) 6 bs ∙ ap (λ m. drop m bs) e)) ∙ numbers_drop k (drop 6 bs) g ∙ sym (ap (drop (suc k)) (numbers_more bs h))

-- so many fields, as lists of their columns
abbrev pub sixes : ℕ → List ℕ → List (List ℕ)
sixes zero bs = []
sixes (suc k) bs = take 6 bs ∷ sixes k (drop 6 bs)

pub stand_is : (k : ℕ) (bs : List ℕ) → list_all (λ c. is_some (field_value c)) (sixes k bs) ≡ fields_stand k bs
stand_is zero bs = refl
stand_is (suc k) bs = ap (λ b. is_some (field_value (take 6 bs)) && b) (stand_is k (drop 6 bs))

sixes_none : (bs : List ℕ) → length bs < 6 → sixes (length bs / 6) bs ≡ []
sixes_none bs l = let e : length bs / 6 ≡ 0 = omega arith in ap (λ k. sixes k bs) e

sixes_more : (xs ys : List ℕ) → length xs ≡ 6 → sixes (length (xs ++ ys) / 6) (xs ++ ys) ≡ xs ∷ sixes (length ys / 6) ys
sixes_more xs ys l =
    let e : length (xs ++ ys) / 6 ≡ suc (length ys / 6) = omega (arith, length-append xs ys) in
    let front : take 6 (xs ++ ys) ≡ xs = ap (λ n. take n (xs ++ ys)) (sym l) ∙ take-append_seam xs ys in
    let behind : drop 6 (xs ++ ys) ≡ ys = ap (λ n. drop n (xs ++ ys)) (sym l) ∙ drop-append_seam xs ys in
    ap (λ k. sixes k (xs ++ ys)) e ∙ (λ i. front i ∷ sixes (length ys / 6) (behind i))

-- chunks of six columns are the fields
pub YieldsList-from_fields : (s : ChunksExact ℕ) → chunks_exact_size s ≡ 6 → YieldsList chunks_exact_steps (λ x. x.now) s (sixes (length (chunks_exact_rest s) / 6) (chunks_exact_rest s))
YieldsList-from_fields s e =
    YieldsList-from_shown_while chunks_exact_steps (λ x. x.now) (λ s. sixes (length (chunks_exact_rest s) / 6) (chunks_exact_rest s)) (λ s. chunks_exact_size s ≡ 6)
    (λ s t p h. ap length (sixes_none (chunks_exact_rest s) (omega arith)))
    (λ s x t p h. (h.0 ∙ p, ap (λ (bs : List ℕ). sixes (length bs / 6) bs) h.1.0 ∙ sixes_more x.now (chunks_exact_rest t) (h.1.1 ∙ p)))
    s e

-- whether a number names a kind
pub named_is : (z : ℤ) (r : Result Kind UnknownKind) → Names z r → is_ok r ≡ is_some (kind_of z)
named_is z (Ok k) e = ap is_some (sym e)
named_is z (Err u) e = ap is_some (sym e.0)
