-- Lists of places: which are there, and that none occurs twice.
use mathlib.Core.Path.{refl, sym, ◌∙◌}
use mathlib.Core.List.{List, [], ◌∷◌, ◌++◌}
use mathlib.Core.Logic.{◌⊎◌, inl, inr, ◌≢◌}
use Prim.Native.Nat.{ℕ}
use Rattle.trace.specs.Trace.{Absent, Distinct, Among}

pub apart : (n m : ℕ) (ps : List ℕ) → Absent n ps → Among m ps → m ≢ n
apart n m [] h k e = k
apart n m (p ∷ ps) h (inl q) e = h.0 (sym e ∙ q)
apart n m (p ∷ ps) h (inr k) e = apart n m ps h.1 k e

pub absent_left : (n : ℕ) (ps qs : List ℕ) → Absent n (ps ++ qs) → Absent n ps
absent_left n [] qs h = tt
absent_left n (p ∷ ps) qs h = (h.0, absent_left n ps qs h.1)

pub absent_right : (n : ℕ) (ps qs : List ℕ) → Absent n (ps ++ qs) → Absent n qs
absent_right n [] qs h = h
absent_right n (p ∷ ps) qs h = absent_right n ps qs h.1

pub distinct_left : (ps qs : List ℕ) → Distinct (ps ++ qs) → Distinct ps
distinct_left [] qs h = tt
distinct_left (p ∷ ps) qs h = (absent_left p ps qs h.0, distinct_left ps qs h.1)

pub distinct_right : (ps qs : List ℕ) → Distinct (ps ++ qs) → Distinct qs
distinct_right [] qs h = h
distinct_right (p ∷ ps) qs h = distinct_right ps qs h.1

pub cross : (n m : ℕ) (ps qs : List ℕ) → Distinct (ps ++ qs) → Among n ps → Among m qs → n ≢ m
cross n m [] qs h k l e = k
cross n m (p ∷ ps) qs h (inl q) l e = apart p m qs (absent_right p ps qs h.0) l (sym e ∙ q)
cross n m (p ∷ ps) qs h (inr k) l e = cross n m ps qs h.1 k l e

pub among_left : (n : ℕ) (ps qs : List ℕ) → Among n ps → Among n (ps ++ qs)
among_left n [] qs h = absurd h
among_left n (p ∷ ps) qs (inl e) = inl e
among_left n (p ∷ ps) qs (inr h) = inr (among_left n ps qs h)

pub among_right : (n : ℕ) (ps qs : List ℕ) → Among n qs → Among n (ps ++ qs)
among_right n [] qs h = h
among_right n (p ∷ ps) qs h = inr (among_right n ps qs h)

pub absent_join : (n : ℕ) (ps qs : List ℕ) → Absent n ps → Absent n qs → Absent n (ps ++ qs)
absent_join n [] qs h k = k
absent_join n (p ∷ ps) qs h k = (h.0, absent_join n ps qs h.1 k)

pub not_among : (n : ℕ) (ps : List ℕ) → ((m : ℕ) → Among m ps → m ≢ n) → Absent n ps
not_among n [] h = tt
not_among n (p ∷ ps) h = ((λ e. h p (inl refl) (sym e)), not_among n ps (λ m k. h m (inr k)))

pub distinct_join : (ps qs : List ℕ) → Distinct ps → Distinct qs → ((n : ℕ) → Among n ps → Absent n qs) → Distinct (ps ++ qs)
distinct_join [] qs h k c = k
distinct_join (p ∷ ps) qs h k c = (absent_join p ps qs h.0 (c p (inl refl)), distinct_join ps qs h.1 k (λ n z. c n (inr z)))

pub among_cases : (n : ℕ) (ps qs : List ℕ) → Among n (ps ++ qs) → Among n ps ⊎ Among n qs
among_cases n [] qs h = inr h
among_cases n (p ∷ ps) qs (inl e) = inl (inl e)
among_cases n (p ∷ ps) qs (inr h) = elim (among_cases n ps qs h) [ inl k ↦ inl (inr k) | inr k ↦ inr k ]
