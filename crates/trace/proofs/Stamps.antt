-- Two stamps for each record, the starts in the order in which the records begin; and the ends that the lines tell.
use Rattle.std.proofs.lemmas.Simd.{map-map}
use mathlib.Core.Path.{◌≡◌, refl, sym, ◌∙◌, ap, ap₂}
use mathlib.Core.List.{List, [], ◌∷◌, ◌++◌, map, map-append, append-nil, append_assoc}
use mathlib.Core.Logic.{inl, inr}
use Prim.Native.Nat.{ℕ, suc, ◌+◌}
use native.Mathlib.Omega.{arith}
use lib.IntN.{ℤ, pos}
use lib.ListN.{length, length-append}
use borrow.Author.Tests.{eq-eqb, ne_eqb}
use Rattle.trace.specs.Trace.{Trace, write, new, read, size, places, Absent, Distinct, Stamp, start, end, stamps, Among}
use Rattle.trace.specs.Laws.{starts, TwoStampsEach, first_behind, end_told, LinesTellEnds}
use Rattle.trace.specs.Listing.{rename_trace, rank, lines}
use Rattle.trace.proofs.Renamed.{size_renamed}
use Rattle.trace.proofs.Places.{apart, absent_left, absent_right, distinct_left, distinct_right, cross, not_among}

starts-++ : (ss us : List Stamp) → starts (ss ++ us) ≡ starts ss ++ starts us
starts-++ [] us = refl
starts-++ (start n ∷ ss) us = ap (λ (ps : List ℕ). n ∷ ps) (starts-++ ss us)
starts-++ (end n ∷ ss) us = starts-++ ss us

starts_places : (t : Trace) → starts (stamps t) ≡ places t
starts_places (write x) = refl
starts_places (new n f vs inner rest) =
    ap (λ (ps : List ℕ). n ∷ ps) (starts-++ (stamps inner) (end n ∷ stamps rest) ∙ ap₂ (λ (ps qs : List ℕ). ps ++ qs) (starts_places inner) (starts_places rest))
starts_places (read n s b x rest) =
    ap (λ (ps : List ℕ). n ∷ ps) (starts-++ (stamps rest) (end n ∷ []) ∙ append-nil (starts (stamps rest)) ∙ starts_places rest)

stamps_count : (t : Trace) → length (stamps t) ≡ size t + size t
stamps_count (write x) = refl
stamps_count (new n f vs inner rest) =
    let l = length-append (stamps inner) (end n ∷ stamps rest) in
    omega (arith, l, stamps_count inner, stamps_count rest)
stamps_count (read n s b x rest) =
    let l = length-append (stamps rest) (end n ∷ []) in
    omega (arith, l, stamps_count rest)

pub two_stamps_each : TwoStampsEach
two_stamps_each t = (starts_places t, stamps_count t)

-- ── the ends that lines tell ──

module _ (n : ℕ) where
  -- a trace without n is passed
  behind_all : (t : Trace) (ss : List Stamp) → Absent n (places t) → first_behind (stamps t ++ ss) n ≡ size t + first_behind ss n
  behind_all (write x) ss h = omega arith
  behind_all (new m f vs inner rest) ss h =
      let a = behind_all inner (end m ∷ (stamps rest ++ ss)) (absent_left n (places inner) (places rest) h.1) in
      let b = behind_all rest ss (absent_right n (places inner) (places rest) h.1) in
      let c : first_behind (end m ∷ (stamps rest ++ ss)) n ≡ first_behind (stamps rest ++ ss) n = rw (ne_eqb n m h.0) refl in
      let d : first_behind ((stamps inner ++ (end m ∷ stamps rest)) ++ ss) n ≡ first_behind (stamps inner ++ (end m ∷ (stamps rest ++ ss))) n =
      ap (λ (us : List Stamp). first_behind us n) (append_assoc (stamps inner) (end m ∷ stamps rest) ss) in
      omega (arith, a, b, c, d)
  behind_all (read m s b x rest) ss h =
      let a = behind_all rest (end m ∷ ss) h.1 in
      let c : first_behind (end m ∷ ss) n ≡ first_behind ss n = rw (ne_eqb n m h.0) refl in
      let d : first_behind ((stamps rest ++ (end m ∷ [])) ++ ss) n ≡ first_behind (stamps rest ++ (end m ∷ ss)) n =
      ap (λ (us : List Stamp). first_behind us n) (append_assoc (stamps rest) (end m ∷ []) ss) in
      omega (arith, a, c, d)

  at_end : (ss : List Stamp) → first_behind (end n ∷ ss) n ≡ 0
  at_end ss = rw (eq-eqb n n refl) refl

-- the ends of the records from number r on
abbrev ends : ℕ → Trace → List ℕ
ends r (write x) = []
ends r (new n f vs inner rest) = (suc r + size inner) ∷ (ends (suc r) inner ++ ends (suc r + size inner) rest)
ends r (read n s b x rest) = (suc r + size rest) ∷ ends (suc r) rest

map_at : (f g : ℕ → ℕ) (ps : List ℕ) → ((p : ℕ) → Among p ps → f p ≡ g p) → map f ps ≡ map g ps
map_at f g [] h = refl
map_at f g (p ∷ ps) h = ap₂ (λ (x : ℕ) (xs : List ℕ). x ∷ xs) (h p (inl refl)) (map_at f g ps (λ q k. h q (inr k)))

ends_behind : (t : Trace) (r : ℕ) (ss : List Stamp) → Distinct (places t) → map (λ (n : ℕ). r + first_behind (stamps t ++ ss) n) (places t) ≡ ends r t
ends_behind (write x) r ss d = refl
ends_behind (new n f vs inner rest) r ss d =
    let later = end n ∷ (stamps rest ++ ss) in
    let split : (p : ℕ) → first_behind ((stamps inner ++ (end n ∷ stamps rest)) ++ ss) p ≡ first_behind (stamps inner ++ later) p =
    λ p. ap (λ (us : List Stamp). first_behind us p) (append_assoc (stamps inner) (end n ∷ stamps rest) ss) in
    let first : r + suc (first_behind ((stamps inner ++ (end n ∷ stamps rest)) ++ ss) n) ≡ suc r + size inner =
    omega (arith, split n, behind_all n inner later (absent_left n (places inner) (places rest) d.0), at_end n (stamps rest ++ ss)) in
    let in_inner : map (λ (p : ℕ). r + suc (first_behind ((stamps inner ++ (end n ∷ stamps rest)) ++ ss) p)) (places inner) ≡ ends (suc r) inner =
    map_at _ (λ (p : ℕ). suc r + first_behind (stamps inner ++ later) p) (places inner) (λ p k. omega (arith, split p))
    ∙ ends_behind inner (suc r) later (distinct_left (places inner) (places rest) d.1) in
    let in_rest : map (λ (p : ℕ). r + suc (first_behind ((stamps inner ++ (end n ∷ stamps rest)) ++ ss) p)) (places rest) ≡ ends (suc r + size inner) rest =
    map_at _ (λ (p : ℕ). suc r + size inner + first_behind (stamps rest ++ ss) p) (places rest)
    (λ p k. let a = behind_all p inner later (not_among p (places inner) (λ q l e. cross q p (places inner) (places rest) d.1 l k e)) in
    let c : first_behind later p ≡ first_behind (stamps rest ++ ss) p =
    rw (ne_eqb p n (apart n p (places rest) (absent_right n (places inner) (places rest) d.0) k)) refl in
    omega (arith, split p, a, c))
    ∙ ends_behind rest (suc r + size inner) ss (distinct_right (places inner) (places rest) d.1) in
    ap₂ (λ (x : ℕ) (xs : List ℕ). x ∷ xs) first
    (map-append (λ (p : ℕ). r + suc (first_behind ((stamps inner ++ (end n ∷ stamps rest)) ++ ss) p)) (places inner) (places rest)
    ∙ ap₂ (λ (xs ys : List ℕ). xs ++ ys) in_inner in_rest)
ends_behind (read n s b x rest) r ss d =
    let split : (p : ℕ) → first_behind ((stamps rest ++ (end n ∷ [])) ++ ss) p ≡ first_behind (stamps rest ++ (end n ∷ ss)) p =
    λ p. ap (λ (us : List Stamp). first_behind us p) (append_assoc (stamps rest) (end n ∷ []) ss) in
    let first : r + suc (first_behind ((stamps rest ++ (end n ∷ [])) ++ ss) n) ≡ suc r + size rest =
    omega (arith, split n, behind_all n rest (end n ∷ ss) d.0, at_end n ss) in
    let in_rest : map (λ (p : ℕ). r + suc (first_behind ((stamps rest ++ (end n ∷ [])) ++ ss) p)) (places rest) ≡ ends (suc r) rest =
    map_at _ (λ (p : ℕ). suc r + first_behind (stamps rest ++ (end n ∷ ss)) p) (places rest) (λ p k. omega (arith, split p))
    ∙ ends_behind rest (suc r) (end n ∷ ss) d.1 in
    ap₂ (λ (x : ℕ) (xs : List ℕ). x ∷ xs) first in_rest

lines_ends : (ρ : ℕ → ℕ) (t : Trace) (d r : ℕ) → map end_told (lines d r (rename_trace ρ t)) ≡ map pos (ends r t)
lines_ends ρ (write x) d r = refl
lines_ends ρ (new n f vs inner rest) d r =
    let e : suc r + size (rename_trace ρ inner) ≡ suc r + size inner = ap (λ (k : ℕ). suc r + k) (size_renamed ρ inner) in
    ap₂ (λ (x : ℤ) (xs : List ℤ). x ∷ xs) (ap pos e)
    (map-append end_told (lines r (suc r) (rename_trace ρ inner)) (lines d (suc r + size (rename_trace ρ inner)) (rename_trace ρ rest))
    ∙ ap₂ (λ (xs ys : List ℤ). xs ++ ys) (lines_ends ρ inner r (suc r))
    (ap (λ (k : ℕ). map end_told (lines d k (rename_trace ρ rest))) e ∙ lines_ends ρ rest d (suc r + size inner))
    ∙ sym (map-append pos (ends (suc r) inner) (ends (suc r + size inner) rest)))
lines_ends ρ (read n s b x rest) d r =
    ap₂ (λ (x : ℤ) (xs : List ℤ). x ∷ xs) (ap (λ (k : ℕ). pos (suc r + k)) (size_renamed ρ rest)) (lines_ends ρ rest d (suc r))

pub lines_tell_ends : LinesTellEnds
lines_tell_ends t d =
    lines_ends (rank t) t 0 0
    ∙ ap (map pos) (sym (ends_behind t 0 [] d)
    ∙ map_at _ (first_behind (stamps t)) (places t) (λ p k. let e = ap (λ (us : List Stamp). first_behind us p) (append-nil (stamps t)) in omega (arith, e)))
    ∙ map-map pos (first_behind (stamps t)) (places t)
