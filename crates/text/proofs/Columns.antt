-- A field and its number: what is read is what is rendered, and the other way round.
use Rattle.std.proofs.Common.{◌≡◌, ℕ, zero, suc, ◌+◌, ◌-◌, ◌*◌, ◌/◌, ◌%◌, ◌^◌, ◌<◌, ◌≤◌, Bool, true, false, cond, eqb, List, [], ◌∷◌, ◌++◌, length, get_or, replicate, ℤ, pos, negsuc, Some, None, decimal, Option, sym, refl, ap, ◌∙◌, ⊎_elim, arith, length-append}
use native.Mathlib.Nat.{one-le-pow}
use lib.ListN.{length-replicate}
use lib.Signed.{mag}
use Rattle.std.specs.Int.{IsInRange}
use Rattle.std.specs.Fmt.{digit_glyph, digits_onto, digits, signed_decimal}
use Rattle.std.specs.List.{AllByRecursion}
use Rattle.std.proofs.lemmas.Bool.{eqb-true, leb-true, le-leb, eq-eqb, cond_both}
use Rattle.std.proofs.lemmas.Bool.Decides.{nat_tests, eqb_tells}
use Rattle.std.proofs.ByRecursion.{All-append, All-weaker}
use Rattle.std.proofs.lemmas.Str.Parse.{IsNumeralModel, numerals_by_fold, digits_value_short}
use Rattle.std.proofs.lemmas.Fmt.{decimal_digit, decimal-digits_value, digits_value-decimal, digits_decimal, first_decimal}
use Rattle.text.specs.Field.{is_digit, digits_on, natural_of, unspaced, as_positive, as_negative, signed_of, field_value}
use Rattle.text.specs.Rendering.{columns, fits}

some_cond : {A : Type 0} (t : Bool) (o : Option A) (x : A) → cond t o None ≡ Some x → (t ≡ true) × (o ≡ Some x)
some_cond true o x e = (refl, e)
some_cond false o x e = cc

-- the digits, and what they are worth

read_on : ℕ → List ℕ → ℕ
read_on n [] = n
read_on n (b ∷ bs) = read_on (n * 10 + (b - 48)) bs

own : IsNumeralModel (AllByRecursion (IsInRange 48 57)) (read_on 0)
unfolding read_on
own = numerals_by_fold (AllByRecursion (IsInRange 48 57)) (record { empty = tt; parts = λ c cs p. p; more = λ c cs i p. (i, p) }) read_on (record { empty = λ n. refl; more = λ n c cs i. refl })

is_digit_in : (b : ℕ) → is_digit b ≡ true → IsInRange 48 57 b
is_digit_in b e = grind (arith, nat_tests)

digits_read : (n : ℕ) (bs : List ℕ) (v : ℕ) → digits_on n bs ≡ Some v → AllByRecursion (IsInRange 48 57) bs × (read_on n bs ≡ v)
unfolding read_on
digits_read n [] v e = (tt, cc)
digits_read n (b ∷ bs) v e =
    let c = some_cond (is_digit b) (digits_on (n * 10 + (b - 48)) bs) v e in
    let r = digits_read (n * 10 + (b - 48)) bs v c.1 in
    ((is_digit_in b c.0, r.0), r.1)

digits_back : (n : ℕ) (bs : List ℕ) → AllByRecursion (IsInRange 48 57) bs → digits_on n bs ≡ Some (read_on n bs)
unfolding read_on
digits_back n [] h = refl
digits_back n (b ∷ bs) h = let i = h.0 in let e : is_digit b ≡ true = grind (arith, nat_tests) in rw e (digits_back (n * 10 + (b - 48)) bs h.1)

-- a natural number

plain_in : (ds : List ℕ) (n : ℕ) → digits_on 0 ds ≡ Some n → 0 < length ds → length ds ≤ 6 → (get_or ds 0 0 ≡ 48 → length ds ≡ 1) → decimal n ≡ ds
plain_in ds n e some short lead =
    let r = digits_read 0 ds n e in
    ap decimal (sym r.1) ∙ decimal-digits_value own ds r.0 some lead (omega (arith, digits_value_short own ds 6 r.0 short))

natural_in : (ds : List ℕ) (n : ℕ) → natural_of ds ≡ Some n → length ds ≤ 6 → decimal n ≡ ds
natural_in [] n e l = cc
natural_in (b ∷ []) n e l = plain_in (b ∷ []) n e (omega arith) l (λ _. refl)
natural_in (b ∷ d ∷ ds) n e l =
    ⊎_elim
    (λ h. let x : natural_of (b ∷ d ∷ ds) ≡ None = rw h.0 in cc)
    (λ h. plain_in (b ∷ d ∷ ds) n (rw h.0 at e) (omega arith) l (λ q. absurd (h.1 q)))
    (eqb_tells b 48)

no_zero : (ds : List ℕ) → 48 < get_or ds 0 0 → natural_of ds ≡ digits_on 0 ds
no_zero [] h = absurd (omega arith)
no_zero (b ∷ []) h = refl
no_zero (b ∷ d ∷ ds) h = grind (arith, nat_tests)

natural_back : (n : ℕ) → n < 2 ^ 64 → natural_of (decimal n) ≡ Some n
natural_back zero l = ap natural_of (decimal_digit 0 (omega arith))
natural_back (suc n) l = no_zero (decimal (suc n)) (first_decimal (suc n) (omega arith) l) ∙ digits_back 0 (decimal (suc n)) (digits_decimal own (suc n) l) ∙ ap Some (digits_value-decimal own (suc n) l)

-- with its sign

plus_in : (ds : List ℕ) (o : Option ℕ) (z : ℤ) → natural_of ds ≡ o → as_positive o ≡ Some z → length ds ≤ 6 → signed_decimal z ≡ ds
plus_in ds None z q e l = cc
plus_in ds (Some n) z q e l = let s : z ≡ pos n = cc in ap signed_decimal s ∙ natural_in ds n q l

minus_in : (ds : List ℕ) (o : Option ℕ) (z : ℤ) → natural_of ds ≡ o → as_negative o ≡ Some z → length ds ≤ 6 → signed_decimal z ≡ 45 ∷ ds
minus_in ds None z q e l = cc
minus_in ds (Some zero) z q e l = cc
minus_in ds (Some (suc n)) z q e l = let s : z ≡ negsuc n = cc in ap signed_decimal s ∙ ap (λ x. 45 ∷ x) (natural_in ds (suc n) q l)

signed_in : (bs : List ℕ) (z : ℤ) → signed_of bs ≡ Some z → length bs ≤ 6 → signed_decimal z ≡ bs
signed_in [] z e l = cc
signed_in (b ∷ bs) z e l =
    ⊎_elim
    (λ h. minus_in bs (natural_of bs) z refl (rw h.0 at e) (omega arith) ∙ ap (λ x. x ∷ bs) (sym h.1))
    (λ h. plus_in (b ∷ bs) (natural_of (b ∷ bs)) z refl (rw h.0 at e) l)
    (eqb_tells b 45)

no_minus : (ds : List ℕ) → AllByRecursion (IsInRange 48 57) ds → signed_of ds ≡ as_positive (natural_of ds)
no_minus [] h = refl
no_minus (b ∷ bs) h = let i = h.0 in grind (arith, nat_tests)

signed_back : (z : ℤ) → mag z < 10 ^ 6 → signed_of (signed_decimal z) ≡ Some z
signed_back (pos n) l = no_minus (decimal n) (digits_decimal own n (omega arith)) ∙ ap as_positive (natural_back n (omega arith))
signed_back (negsuc n) l = ap as_negative (natural_back (suc n) (omega arith))

-- its size, and its bytes

grows : (k n : ℕ) (acc : List ℕ) → length acc ≤ length (digits_onto k 10 false n acc)
grows zero n acc = omega arith
grows (suc k) n acc = cond_both (eqb (n / 10) 0) _ _ (λ x. length acc ≤ length x) (λ _. omega arith) (λ _. omega (arith, grows k (n / 10) (digit_glyph false (n % 10) ∷ acc)))

few_digits : (k j n : ℕ) (acc : List ℕ) → j < k → length (digits_onto k 10 false n acc) ≤ j + length acc → n < 10 ^ j
few_digits zero j n acc l = absurd (omega arith)
few_digits (suc k) zero n acc l = cond_both (eqb (n / 10) 0) _ _ (λ x. length x ≤ 0 + length acc → n < 1) (λ t h. absurd (omega arith)) (λ t h. absurd (omega (arith, grows k (n / 10) (digit_glyph false (n % 10) ∷ acc))))
few_digits (suc k) (suc j) n acc l = cond_both (eqb (n / 10) 0) _ _ (λ x. length x ≤ suc j + length acc → n < 10 ^ suc j) (λ t h. omega (arith, eqb-true (n / 10) 0 t, one-le-pow j 10 (omega arith))) (λ t h. omega (arith, few_digits k j (n / 10) (digit_glyph false (n % 10) ∷ acc) (omega arith) (omega arith)))

pub small_from_fits : (z : ℤ) → fits z ≡ true → mag z < 10 ^ 6
unfolding digits
small_from_fits (pos n) e = few_digits 64 6 n [] (omega arith) (omega (arith, leb-true _ 6 e))
small_from_fits (negsuc n) e = omega (arith, few_digits 64 6 (suc n) [] (omega arith) (omega (arith, leb-true _ 6 e)))

bytes_over : (z : ℤ) → mag z < 10 ^ 6 → AllByRecursion (λ b. 32 < b) (signed_decimal z)
bytes_over (pos n) l = All-weaker (IsInRange 48 57) (λ b. 32 < b) (λ b i. omega arith) (decimal n) (digits_decimal own n (omega arith))
bytes_over (negsuc n) l = (omega arith, All-weaker (IsInRange 48 57) (λ b. 32 < b) (λ b i. omega arith) (decimal (suc n)) (digits_decimal own (suc n) (omega arith)))

-- the spaces before it

spaces_in : (bs us : List ℕ) → unspaced bs ≡ us → (k : ℕ) × (bs ≡ replicate k 32 ++ us)
spaces_in [] us e = (0, e)
spaces_in (b ∷ bs) us e =
    ⊎_elim
    (λ h. let r = spaces_in bs us (rw h.0 at e) in (suc r.0, λ i. h.1 i ∷ r.1 i))
    (λ h. (0, rw h.0 at e))
    (eqb_tells b 32)

spaces_back : (k : ℕ) (us : List ℕ) → AllByRecursion (λ b. 32 < b) us → unspaced (replicate k 32 ++ us) ≡ us
spaces_back zero [] h = refl
spaces_back zero (b ∷ us) h = let i = h.0 in grind (arith, nat_tests)
spaces_back (suc k) us h = spaces_back k us h

pub columns_of : (bs : List ℕ) (z : ℤ) → field_value bs ≡ Some z → (bs ≡ columns z) × (fits z ≡ true)
columns_of bs z e =
    let c = some_cond (eqb (length bs) 6) (signed_of (unspaced bs)) z e in
    let six = eqb-true (length bs) 6 c.0 in
    let s = spaces_in bs (unspaced bs) refl in
    let l : length bs ≡ s.0 + length (unspaced bs) = ap length s.1 ∙ simp (length-append, length-replicate) in
    let g = signed_in (unspaced bs) z c.1 (omega arith) in
    let k : s.0 ≡ 6 - length (signed_decimal z) = omega (arith, ap length g) in
    (s.1 ∙ (λ i. replicate (k i) 32 ++ sym g i), le-leb (length (signed_decimal z)) 6 (omega (arith, ap length g)))

pub length_columns : (z : ℤ) → fits z ≡ true → length (columns z) ≡ 6
length_columns z e = simp (length-append, length-replicate) (omega (arith, leb-true (length (signed_decimal z)) 6 e))

pub columns_back : (z : ℤ) → fits z ≡ true → field_value (columns z) ≡ Some z
columns_back z e =
    let l = small_from_fits z e in
    rw (eq-eqb (length (columns z)) 6 (length_columns z e), spaces_back (6 - length (signed_decimal z)) (signed_decimal z) (bytes_over z l)) (signed_back z l)

over_spaces : (k : ℕ) → AllByRecursion (λ b. 10 < b) (replicate k 32)
over_spaces zero = tt
over_spaces (suc k) = (omega arith, over_spaces k)

-- no byte 10 stands in it
pub columns_over : (z : ℤ) → fits z ≡ true → AllByRecursion (λ b. 10 < b) (columns z)
columns_over z e = All-append (λ b. 10 < b) (replicate (6 - length (signed_decimal z)) 32) (signed_decimal z) (over_spaces (6 - length (signed_decimal z))) (All-weaker (λ b. 32 < b) (λ b. 10 < b) (λ b l. omega arith) (signed_decimal z) (bytes_over z (small_from_fits z e)))
