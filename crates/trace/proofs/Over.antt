-- 'Too large', exactly: the plain run makes more than L records where a run, whether or not it ends, begins more than L.
use Rattle.std.proofs.Math.Nat.{add-sub_of_le}
use Rattle.std.proofs.Common.{◌-◌}
use mathlib.Core.Path.{◌≡◌, refl, sym, ◌∙◌, ap, ap₂, subst, subst₂}
use mathlib.Core.List.{List, [], ◌∷◌, ◌++◌, map}
use mathlib.Core.Logic.{◌⊎◌, inl, inr}
use mathlib.Core.Option.{Option, some, none, none-ne-some}
use Prim.Native.Nat.{ℕ, zero, suc, ◌+◌, ◌≤◌, ◌<◌}
use native.Mathlib.Omega.{arith}
use Rattle.program.specs.View.{View}
use Rattle.trace.specs.Code.{Code, Reader, Next, writes, makes, reads, next, resume, enter, entered, arguments, main}
use Rattle.trace.specs.Trace.{Trace, write, new, read, written, size, places, Store, put, after, Absent, Distinct}
use Rattle.trace.specs.Run.{trace_of, trace_next, bind, initial, at_most, plain_run}
use Rattle.program.specs.declared.value.InputContent.{InputContent}
use Rattle.trace.specs.Listing.{rename, rename_value, rename_reader, rename_trace, rank_in}
use Rattle.trace.specs.Over.{Over, one_made, one_read, over_inside, over_behind, over_read, BeginsMore}
use Rattle.trace.specs.Laws.{TooLargeMeans}
use Rattle.program.specs.declared.value.Name.{Name}
use Rattle.program.specs.declared.value.Content.{Content}
use Rattle.program.specs.declared.value.Value.{Value}
use Rattle.trace.proofs.Renamed.{follows_renamed, kept_carried, after_carried, put_carried, Carried, size_renamed, rename_code, next_renamed, resume_renamed, entered_renamed, arguments_renamed}
use Rattle.trace.proofs.Plain.{bind_some, some_same, trace_next_at, numbered_renamed, Ranks, ranks-++, length_places, ranked, rank_one_one, main_renamed, initial_carried, right, one_plain, Plain, Numbered, found, at_most_fits, at_most_large, none_so_small}

-- what a run that makes a record first has found
record FoundMake (P : View) (below : Code → Store → ℕ → Option Trace) (f : ℕ) (vs : List Value) (k : Code) (σ : Store) (i : ℕ) (t : Trace) : Type 0 where
  u : Trace
  v : Trace
  inner_found : below (enter P f vs) σ (suc i) ≡ some u
  rest_found : below (resume k i) (put (after u σ) i (written u)) (suc i + size u) ≡ some v
  is : new i f vs u v ≡ t

find_make : (P : View) (below : Code → Store → ℕ → Option Trace) (f : ℕ) (vs : List Value) (k : Code) (σ : Store) (i : ℕ) (t : Trace) →
    trace_next P below (makes f vs k) σ i ≡ some t → FoundMake P below f vs k σ i t
find_make P below f vs k σ i t q =
    let a = bind_some (below (enter P f vs) σ (suc i)) _ q in
    let b = bind_some (below (resume k i) (put (after a.0 σ) i (written a.0)) (suc i + size a.0)) _ a.2 in
    record { u = a.0; v = b.0; inner_found = a.1; rest_found = b.1; is = some_same b.2 }

module _ (P : View) (ρ : ℕ → ℕ) (one-one : (a b : ℕ) → ρ a ≡ ρ b → a ≡ b) where
  over_trace : (d : ℕ) {c : Code} {σ : Store} {ps : List ℕ} {j : ℕ} → Over P c σ ps j → (τ : Store) (i : ℕ) (t : Trace) →
      Carried ρ σ τ → Ranks ρ i ps → trace_of P d (rename_code ρ c) τ i ≡ some t → j < size t
  over_trace zero o τ i t h r e = absurd (none-ne-some t e)
  over_trace (suc d) {c} (one_made {k = k} {f = f} {vs = vs} p) τ i t h r e =
      let F = find_make P (trace_of P d) f (map (rename_value ρ) vs) (rename_code ρ k) τ i t (sym (trace_next_at P (trace_of P d) τ i (next_renamed ρ P c p)) ∙ e) in
      subst (λ (z : Trace). 0 < size z) F.is (omega arith)
  over_trace (suc d) {c} (one_read {s = s} {b = b} p) τ i t h r e =
      let a = bind_some (trace_of P d _ τ (suc i)) _ (sym (trace_next_at P (trace_of P d) τ i (next_renamed ρ P c p)) ∙ e) in
      subst (λ (z : Trace). 0 < size z) (some_same a.2) (omega arith)
  over_trace (suc d) {c} (over_inside {k = k} {f = f} {vs = vs} {j = j} n p o) τ i t h r e =
      let F = find_make P (trace_of P d) f (map (rename_value ρ) vs) (rename_code ρ k) τ i t (sym (trace_next_at P (trace_of P d) τ i (next_renamed ρ P c p)) ∙ e) in
      let l = over_trace d o τ (suc i) F.u h r.1 F.inner_found in
      subst (λ (z : Trace). suc j < size z) F.is (omega arith)
  over_trace (suc d) {c} (over_behind {k = k} {f = f} {vs = vs} {ps = ps} {j = j} n inner p run o) τ i t h r e =
      let F = find_make P (trace_of P d) f (map (rename_value ρ) vs) (rename_code ρ k) τ i t (sym (trace_next_at P (trace_of P d) τ i (next_renamed ρ P c p)) ∙ e) in
      let R = ranks-++ ρ (suc i) (places inner) ps r.1 in
      let w = rename_trace ρ inner in
      let same = one_plain P (enter P f (map (rename_value ρ) vs)) τ (suc i) F.u w
      (right P d (enter P f (map (rename_value ρ) vs)) τ (suc i) F.u F.inner_found)
      (record {
        follows = follows_renamed ρ P inner (enter P f vs) run.follows;
        all_kept = kept_carried ρ one-one inner h run.all_kept;
        numbered = numbered_renamed ρ (suc i) inner R.0;
      }) in
      let e₁ = subst (λ (z : Trace). trace_of P d (resume (rename_code ρ k) i) (put (after z τ) i (written z)) (suc i + size z) ≡ some F.v) same F.rest_found in
      let e₂ = subst (λ (z : ℕ). trace_of P d (resume (rename_code ρ k) z) (put (after w τ) z (written w)) (suc i + size w) ≡ some F.v) (sym r.0) e₁ in
      let e₃ = subst (λ (z : Code). trace_of P d z (put (after w τ) (ρ n) (written w)) (suc i + size w) ≡ some F.v) (sym (resume_renamed ρ k n)) e₂ in
      let l = over_trace d o (put (after w τ) (ρ n) (written w)) (suc i + size w) F.v (put_carried ρ one-one n inner (after_carried ρ one-one inner h))
      (subst (λ (z : ℕ). Ranks ρ (suc i + z) ps) (length_places inner ∙ sym (size_renamed ρ inner)) R.1) e₃ in
      let s : size F.u ≡ size inner = ap size same ∙ size_renamed ρ inner in
      subst (λ (z : Trace). suc (size inner + j) < size z) F.is (omega (arith, s, l))
  over_trace (suc d) {c} {σ} (over_read {s = s} {b = b} {j = j} n p o) τ i t h r e =
      let x = τ (rename ρ s) in
      let a = bind_some (trace_of P d (enter P (entered (rename_reader ρ b) x) (arguments (rename_reader ρ b) x)) τ (suc i)) _ (sym (trace_next_at P (trace_of P d) τ i (next_renamed ρ P c p)) ∙ e) in
      let e₁ = subst (λ (y : Content). trace_of P d (enter P (entered (rename_reader ρ b) y) (arguments (rename_reader ρ b) y)) τ (suc i) ≡ some a.0) (h.same s) a.1 in
      let e₂ = subst (λ (z : Code). trace_of P d z τ (suc i) ≡ some a.0) (ap₂ (enter P) (entered_renamed ρ b (σ s)) (arguments_renamed ρ b (σ s))) e₁ in
      let l = over_trace d o τ (suc i) a.0 h r.1 e₂ in
      subst (λ (z : Trace). suc j < size z) (some_same a.2) (omega arith)

-- a run that has begun more than L records: too large
pub over_large : (P : View) (is : List InputContent) (ps : List ℕ) (k L : ℕ) → Over P (main P) (initial is) ps k → Distinct ps → L ≤ k → plain_run L P is ≡ none
over_large P is ps k L o d h = pick (trace_of P (suc L) (main P) (initial is) 0) refl
  where
    pick : (r : Option Trace) → trace_of P (suc L) (main P) (initial is) 0 ≡ r → bind r (at_most L) ≡ none
    pick none e = refl
    pick (some u) e =
        let l = over_trace P (rank_in ps) (rank_one_one ps) (suc L) o (initial is) 0 u (initial_carried (rank_in ps) is) (ranked ps d)
        (subst (λ (z : Code). trace_of P (suc L) z (initial is) 0 ≡ some u) (sym (main_renamed (rank_in ps) P)) e) in
        at_most_large L u (omega arith)

-- ── where the plain run is too large, more than L records begin ──

-- the places i, i + 1, .., so many of them
abbrev pub count_up : ℕ → ℕ → List ℕ
count_up i zero = []
count_up i (suc k) = i ∷ count_up (suc i) k

absent_up : (n i k : ℕ) → n < i → Absent n (count_up i k)
absent_up n i zero l = tt
absent_up n i (suc k) l = ((λ e. omega (arith, l, e)), absent_up n (suc i) k (omega (arith, l)))

pub distinct_up : (i k : ℕ) → Distinct (count_up i k)
distinct_up i zero = tt
distinct_up i (suc k) = (absent_up i (suc i) k (omega arith), distinct_up (suc i) k)

up-++ : (i j k : ℕ) → count_up i j ++ count_up (i + j) k ≡ count_up i (j + k)
up-++ i zero k = let e : i + 0 ≡ i = omega arith in let q : k ≡ 0 + k = omega arith in ap₂ count_up e q
up-++ i (suc j) k =
    let e : i + suc j ≡ suc i + j = omega arith in
    let q : suc (j + k) ≡ suc j + k = omega arith in
    ap (λ (ps : List ℕ). i ∷ ps) (ap (λ (z : ℕ). count_up (suc i) j ++ count_up z k) e ∙ up-++ (suc i) j k) ∙ ap (count_up i) q

places_up : (i : ℕ) (t : Trace) → Numbered i t → places t ≡ count_up i (size t)
places_up i (write x) h = refl
places_up i (new n f vs inner rest) h =
    ap₂ (λ (p : ℕ) (ps : List ℕ). p ∷ ps) h.0
    (ap₂ (λ (ps qs : List ℕ). ps ++ qs) (places_up (suc i) inner h.1) (places_up (suc i + size inner) rest h.2) ∙ up-++ (suc i) (size inner) (size rest))
places_up i (read n s b x rest) h = ap₂ (λ (p : ℕ) (ps : List ℕ). p ∷ ps) h.0 (places_up (suc i) rest h.1)

-- a run of at most k records, or more than k of which begin
pub record Ends (P : View) (c : Code) (σ : Store) (i k : ℕ) : Type 0 where
  pub trace : Trace
  pub plain : Plain P c σ i trace
  pub fits : size trace ≤ k

abbrev pub EndsOrOver : View → Code → Store → ℕ → ℕ → Type 0
EndsOrOver P c σ i k = Ends P c σ i k ⊎ Over P c σ (count_up i k) k

module _ (P : View) (d : ℕ) (below : (k : ℕ) → k < d → (c : Code) (σ : Store) (i : ℕ) → EndsOrOver P c σ i k) where
  try_behind : (c k' : Code) (f : ℕ) (vs : List Value) (σ : Store) (i k : ℕ) → k < d → next P c ≡ makes f vs k' →
      (A : Ends P (enter P f vs) σ (suc i) k) (j : ℕ) → size A.trace + j ≡ k →
      EndsOrOver P (resume k' i) (put (after A.trace σ) i (written A.trace)) (suc i + size A.trace) j → EndsOrOver P c σ i (suc k)
  try_behind c k' f vs σ i k l p A j e (inl B) = inl (record {
    trace = new i f vs A.trace B.trace;
    plain = record {
      follows = (k', p, A.plain.follows, B.plain.follows);
      all_kept = (A.plain.all_kept, B.plain.all_kept);
      numbered = (refl, A.plain.numbered, B.plain.numbered);
    };
    fits = omega (arith, e, B.fits);
  })
  try_behind c k' f vs σ i k l p A j e (inr o) =
      let t = A.trace in
      let w : Over P c σ (i ∷ (places t ++ count_up (suc i + size t) j)) (suc (size t + j)) =
      over_behind i t p (record { follows = A.plain.follows; all_kept = A.plain.all_kept }) o in
      let q : (places t ++ count_up (suc i + size t) j) ≡ count_up (suc i) k =
      ap (λ (ps : List ℕ). ps ++ count_up (suc i + size t) j) (places_up (suc i) t A.plain.numbered) ∙ up-++ (suc i) (size t) j ∙ ap (count_up (suc i)) e in
      inr (subst₂ (Over P c σ) (ap (λ (ps : List ℕ). i ∷ ps) q) (ap suc e) w)

  try_inside : (c k' : Code) (f : ℕ) (vs : List Value) (σ : Store) (i k : ℕ) → k < d → next P c ≡ makes f vs k' →
      EndsOrOver P (enter P f vs) σ (suc i) k → EndsOrOver P c σ i (suc k)
  try_inside c k' f vs σ i k l p (inr o) = inr (over_inside i p o)
  try_inside c k' f vs σ i k l p (inl A) =
      let j = k - size A.trace in
      try_behind c k' f vs σ i k l p A j (add-sub_of_le A.fits)
      (below j (omega (arith, l)) (resume k' i) (put (after A.trace σ) i (written A.trace)) (suc i + size A.trace))

  try_read : (c : Code) (s : Name) (b : Reader) (σ : Store) (i k : ℕ) → next P c ≡ reads s b →
      EndsOrOver P (enter P (entered b (σ s)) (arguments b (σ s))) σ (suc i) k → EndsOrOver P c σ i (suc k)
  try_read c s b σ i k p (inr o) = inr (over_read i p o)
  try_read c s b σ i k p (inl A) = inl (record {
    trace = read i s b (σ s) A.trace;
    plain = record { follows = (p, A.plain.follows); all_kept = (refl, A.plain.all_kept); numbered = (refl, A.plain.numbered) };
    fits = omega (arith, A.fits);
  })

  try_next : (k : ℕ) → k < suc d → (c : Code) (σ : Store) (i : ℕ) (x : Next) → next P c ≡ x → EndsOrOver P c σ i k
  try_next k l c σ i (writes y) p = inl (record { trace = write y; plain = record { follows = p; all_kept = tt; numbered = tt }; fits = omega arith })
  try_next zero l c σ i (makes f vs k') p = inr (one_made p)
  try_next (suc k) l c σ i (makes f vs k') p = try_inside c k' f vs σ i k (omega (arith, l)) p (below k (omega (arith, l)) (enter P f vs) σ (suc i))
  try_next zero l c σ i (reads s b) p = inr (one_read p)
  try_next (suc k) l c σ i (reads s b) p = try_read c s b σ i k p (below k (omega (arith, l)) (enter P (entered b (σ s)) (arguments b (σ s))) σ (suc i))

pub ends_or_over : (P : View) (d k : ℕ) → k < d → (c : Code) (σ : Store) (i : ℕ) → EndsOrOver P c σ i k
ends_or_over P zero k l c σ i = absurd (omega (arith, l))
ends_or_over P (suc d) k l c σ i = try_next P d (ends_or_over P d) k l c σ i (next P c) refl

begins_more : (L : ℕ) (P : View) (is : List InputContent) → plain_run L P is ≡ none → BeginsMore L P is
begins_more L P is e = elim (ends_or_over P (suc L) L (omega arith) (main P) (initial is) 0) [
  | inl A ↦ absurd (none-ne-some A.trace (sym e
      ∙ ap (λ (o : Option Trace). bind o (at_most L)) (found P A.trace L (main P) (initial is) 0 A.fits A.plain.follows A.plain.all_kept A.plain.numbered)
      ∙ at_most_fits L A.trace A.fits))
  | inr o ↦ record { begun_at = count_up 0 L; apart = distinct_up 0 L; over = o }
]

pub too_large_means : TooLargeMeans
too_large_means L P is = ((begins_more L P is, λ b. over_large P is b.begun_at L L b.over b.apart (omega arith)), none_so_small L P is)
