-- The turns under other places: E and M are those of the plain run's own trace.
use mathlib.Core.Path.{◌≡◌, refl, sym, ◌∙◌, ap, ap₂, subst}
use mathlib.Core.List.{List, [], ◌∷◌, ◌++◌, map, map-append}
use mathlib.Core.Option.{some-injective}
use Prim.Native.Nat.{ℕ}
use native.Mathlib.Omega.{arith}
use Rattle.program.specs.View.{View}
use Rattle.program.specs.declared.value.Name.{Name}
use Rattle.program.specs.declared.value.Name.TheVariants.{Input, Made}
use Rattle.program.specs.declared.value.Content.{Content}
use Rattle.program.specs.declared.value.Content.TheVariants.{Number, Empty, Cell}
use Rattle.trace.specs.Code.{enter, entered, arguments}
use Rattle.trace.specs.Trace.{Trace, write, new, read, places, Absent, Distinct, Fresh, Store}
use Rattle.trace.specs.Run.{Follows, initial}
use Rattle.trace.specs.Listing.{rename, rename_content, rename_trace, rank, canonical}
use Rattle.trace.specs.Turns.{Turns, at_write, past_new, kept, re_executed}
use Rattle.trace.specs.Laws.{CountsOfThePlainRun}
use Rattle.trace.proofs.Renamed.{Carried, follows_renamed, kept_carried, put_carried, after_carried, size_renamed, entered_renamed, arguments_renamed}
use Rattle.trace.proofs.Plain.{rank_one_one, initial_carried, is_plain, plain_run_stands}
use Rattle.trace.proofs.Counted.{turns_count_alike}

module _ (ρ : ℕ → ℕ) (one-one : (a b : ℕ) → ρ a ≡ ρ b → a ≡ b) where
  made_is : (m n : ℕ) → Made m ≡ Made n → m ≡ n
  made_is m n e = cc

  name_one : (a b : Name) → rename ρ a ≡ rename ρ b → a ≡ b
  name_one (Input k) (Input l) e = e
  name_one (Input k) (Made n) e = absurd (let z : ◌≡◌ {A = ℕ} 0 1 = cc in omega arith)
  name_one (Made m) (Input l) e = absurd (let z : ◌≡◌ {A = ℕ} 0 1 = cc in omega arith)
  name_one (Made m) (Made n) e = ap Made (one-one m n (made_is (ρ m) (ρ n) e))

  cell_is : (a b c d : Name) → Cell a b ≡ Cell c d → (a ≡ c) × (b ≡ d)
  cell_is a b c d e = (cc, cc)

  content_one : (x y : Content) → rename_content ρ x ≡ rename_content ρ y → x ≡ y
  content_one (Number a) (Number b) e = e
  content_one (Number a) Empty e = absurd (let z : ◌≡◌ {A = ℕ} 0 1 = cc in omega arith)
  content_one (Number a) (Cell h t) e = absurd (let z : ◌≡◌ {A = ℕ} 0 1 = cc in omega arith)
  content_one Empty (Number b) e = absurd (let z : ◌≡◌ {A = ℕ} 0 1 = cc in omega arith)
  content_one Empty Empty e = refl
  content_one Empty (Cell h t) e = absurd (let z : ◌≡◌ {A = ℕ} 0 1 = cc in omega arith)
  content_one (Cell a b) (Number c) e = absurd (let z : ◌≡◌ {A = ℕ} 0 1 = cc in omega arith)
  content_one (Cell a b) Empty e = absurd (let z : ◌≡◌ {A = ℕ} 0 1 = cc in omega arith)
  content_one (Cell a b) (Cell c d) e =
      let h = cell_is (rename ρ a) (rename ρ b) (rename ρ c) (rename ρ d) e in ap₂ (λ (p q : Name). Cell p q) (name_one a c h.0) (name_one b d h.1)

  places_renamed : (t : Trace) → places (rename_trace ρ t) ≡ map ρ (places t)
  places_renamed (write x) = refl
  places_renamed (new n f vs inner rest) = ap (λ (ps : List ℕ). ρ n ∷ ps) (ap₂ (λ (p q : List ℕ). p ++ q) (places_renamed inner) (places_renamed rest) ∙ sym (map-append ρ (places inner) (places rest)))
  places_renamed (read n s b x rest) = ap (λ (ps : List ℕ). ρ n ∷ ps) (places_renamed rest)

  absent_map : (n : ℕ) (ps : List ℕ) → Absent n ps → Absent (ρ n) (map ρ ps)
  absent_map n [] h = tt
  absent_map n (p ∷ ps) h = ((λ e. h.0 (one-one n p e)), absent_map n ps h.1)

  fresh_map : (old ps : List ℕ) → Fresh old ps → Fresh (map ρ old) (map ρ ps)
  fresh_map old [] h = tt
  fresh_map old (p ∷ ps) h = (absent_map p old h.0, fresh_map old ps h.1)

  distinct_map : (ps : List ℕ) → Distinct ps → Distinct (map ρ ps)
  distinct_map [] h = tt
  distinct_map (p ∷ ps) h = (absent_map p ps h.0, distinct_map ps h.1)

  turns_renamed : {P : View} {old : List ℕ} {σ τ : Store} {t u : Trace} {e m : ℕ} → Carried ρ σ τ → Turns P old σ t u e m → Turns P (map ρ old) τ (rename_trace ρ t) (rename_trace ρ u) e m
  turns_renamed h at_write = at_write
  turns_renamed h (past_new {n = n} {inner' = inner'} a b q r) = past_new (turns_renamed h a) (turns_renamed (put_carried ρ one-one n inner' (after_carried ρ one-one inner' h)) b) q r
  turns_renamed h (kept {s = s} p a) = kept (h.same s ∙ ap (rename_content ρ) p) (turns_renamed h a)
  turns_renamed {P} {old} h (re_executed {σ = σ} {s = s} {b = b} {x = x} {y = y} {rest' = rest'} d p run fresh i j) =
      re_executed (λ q. d (content_one (σ s) x (sym (h.same s) ∙ q))) (h.same s ∙ ap (rename_content ρ) p)
      (record {
        follows = subst (Follows P (rename_trace ρ rest')) (sym (ap₂ (enter P) (entered_renamed ρ b y) (arguments_renamed ρ b y))) (follows_renamed ρ P rest' (enter P (entered b y) (arguments b y)) run.follows);
        all_kept = kept_carried ρ one-one rest' h run.all_kept;
      })
      (subst (Fresh (map ρ old)) (sym (places_renamed rest')) (fresh_map old (places rest') fresh)) i (j ∙ sym (size_renamed ρ rest'))

pub counts_of_the_plain_run : CountsOfThePlainRun
counts_of_the_plain_run L P is js t u t₁ u₁ e m f n st fits w d p w₁ d₁ =
    let same : canonical t ≡ t₁ = some-injective (canonical t) t₁ (sym ((is_plain P is t L st).0 fits) ∙ p) in
    let one = rank_one_one (places t) in
    let v = rename_trace (rank t) u in
    let w₂ : Turns P (places (canonical t)) (initial js) (canonical t) v e m =
    subst (λ (ps : List ℕ). Turns P ps (initial js) (canonical t) v e m) (sym (places_renamed (rank t) one t)) (turns_renamed (rank t) one (initial_carried (rank t) js) w) in
    let w₃ : Turns P (places t₁) (initial js) t₁ v e m = subst (λ (z : Trace). Turns P (places z) (initial js) z v e m) same w₂ in
    turns_count_alike P is js t₁ u₁ v f e n m (plain_run_stands L P is t₁ p).0 w₁ d₁ w₃ (subst Distinct (sym (places_renamed (rank t) one u)) (distinct_map (rank t) one (places u) d))
