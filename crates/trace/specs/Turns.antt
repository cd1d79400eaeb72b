-- Settling by turns: as a relation, and as re-executing the earliest stale read again and again.
use Rattle.std.specs.Prelude.{◌≡◌, List, [], ◌∷◌, ◌++◌, ℕ, suc, ◌+◌, length}
use Rattle.program.specs.View.{View}
use Rattle.program.specs.declared.value.Name.{Name}
use Rattle.program.specs.declared.value.Content.{Content}
use Rattle.program.specs.declared.value.Value.{Value}
use Rattle.trace.specs.Code.{Reader, enter, entered, arguments}
use Rattle.trace.specs.Trace.{Trace, write, new, read, written, size, places, Fresh, Store, put, after}
use Rattle.trace.specs.Run.{Kept, Run}

-- `Turns P old σ t u e m`: from the store σ the records of the trace t have their turns in order, and u stands afterwards;
-- e reads are re-executed (E), and m records are made inside them (M), at none of the places `old`, where records stood
-- before the settle
--   at_write      there is nothing left to have a turn
--   past_new      a NEW stands: what is inside it has its turns, and then what is behind it
--   kept          the source of the read holds the content it took: it is kept, and what is inside it has its turns
--   re_executed   its source holds y, another content than the x it took: it is stale. The records inside it are dropped, it
--                 takes y and runs as in the plain run; the next turn falls to the first record behind it
pub data Turns (P : View) (old : List ℕ) : Store → Trace → Trace → ℕ → ℕ → Type 0 where
  at_write : {σ : Store} {x : Content} → Turns P old σ (write x) (write x) 0 0
  past_new : {σ : Store} {n f : ℕ} {vs : List Value} {inner inner' rest rest' : Trace} {e₁ e₂ m₁ m₂ e m : ℕ} →
      Turns P old σ inner inner' e₁ m₁ →
      Turns P old (put (after inner' σ) n (written inner')) rest rest' e₂ m₂ →
      e ≡ e₁ + e₂ → m ≡ m₁ + m₂ →
      Turns P old σ (new n f vs inner rest) (new n f vs inner' rest') e m
  kept : {σ : Store} {n : ℕ} {s : Name} {b : Reader} {x : Content} {rest rest' : Trace} {e m : ℕ} →
      σ s ≡ x →
      Turns P old σ rest rest' e m →
      Turns P old σ (read n s b x rest) (read n s b x rest') e m
  re_executed : {σ : Store} {n : ℕ} {s : Name} {b : Reader} {x y : Content} {rest rest' : Trace} {e m : ℕ} →
      ¬ (σ s ≡ x) → σ s ≡ y →
      Run P (enter P (entered b y) (arguments b y)) σ rest' → Fresh old (places rest') →
      e ≡ 1 → m ≡ size rest' →
      Turns P old σ (read n s b x rest) (read n s b y rest') e m

-- ── a settle read out: which reads were re-executed, and which records stand where they stood ──

-- a read that had its turn: its place, its source, the content it took before, and the content that the source holds now
pub record ReadTurn : Type 0 where
  pub place : ℕ
  pub source : Name
  pub took : Content
  pub holds : Content

module _ {P : View} {old : List ℕ} where
  -- the reads that were re-executed
  abbrev pub re_executed_reads : {σ : Store} {t u : Trace} {e m : ℕ} → Turns P old σ t u e m → List ReadTurn
  re_executed_reads at_write = []
  re_executed_reads (past_new a b q r) = re_executed_reads a ++ re_executed_reads b
  re_executed_reads (kept p a) = re_executed_reads a
  re_executed_reads (re_executed {n = n} {s = s} {x = x} {y = y} h p run fresh i j) = record { place = n; source = s; took = x; holds = y } ∷ []

  -- the reads that were kept; those inside a re-executed read are dropped and have no turn
  abbrev pub kept_reads : {σ : Store} {t u : Trace} {e m : ℕ} → Turns P old σ t u e m → List ReadTurn
  kept_reads at_write = []
  kept_reads (past_new a b q r) = kept_reads a ++ kept_reads b
  kept_reads (kept {σ = σ} {n = n} {s = s} {x = x} p a) = record { place = n; source = s; took = x; holds = σ s } ∷ kept_reads a
  kept_reads (re_executed h p run fresh i j) = []

  -- the places of the records made
  abbrev pub made_at : {σ : Store} {t u : Trace} {e m : ℕ} → Turns P old σ t u e m → List ℕ
  made_at at_write = []
  made_at (past_new a b q r) = made_at a ++ made_at b
  made_at (kept p a) = made_at a
  made_at (re_executed {rest' = rest'} h p run fresh i j) = places rest'

  -- the places of the records dropped: those inside the re-executed reads
  abbrev pub dropped_at : {σ : Store} {t u : Trace} {e m : ℕ} → Turns P old σ t u e m → List ℕ
  dropped_at at_write = []
  dropped_at (past_new a b q r) = dropped_at a ++ dropped_at b
  dropped_at (kept p a) = dropped_at a
  dropped_at (re_executed {rest = rest} h p run fresh i j) = places rest

  -- the places of the re-executed reads and of all records outside them
  abbrev pub standing : {σ : Store} {t u : Trace} {e m : ℕ} → Turns P old σ t u e m → List ℕ
  standing at_write = []
  standing (past_new {n = n} a b q r) = n ∷ (standing a ++ standing b)
  standing (kept {n = n} p a) = n ∷ standing a
  standing (re_executed {n = n} h p run fresh i j) = n ∷ []

-- some of a list, in its order
pub data InOrder : List ℕ → List ℕ → Type 0 where
  no_more : InOrder [] []
  take : {x : ℕ} {xs ys : List ℕ} → InOrder xs ys → InOrder (x ∷ xs) (x ∷ ys)
  skip : {y : ℕ} {xs ys : List ℕ} → InOrder xs ys → InOrder xs (y ∷ ys)

-- each of these reads was stale: its source holds another content than it took
abbrev pub AllStale : List ReadTurn → Type 0
AllStale [] = Unit {0}
AllStale (r ∷ rs) = ¬ (r.holds ≡ r.took) × AllStale rs

-- none of these was
abbrev pub NoneStale : List ReadTurn → Type 0
NoneStale [] = Unit {0}
NoneStale (r ∷ rs) = (r.holds ≡ r.took) × NoneStale rs

-- what a settle of t that leaves u has done
pub record ReadOut {P : View} {old : List ℕ} {σ : Store} {t u : Trace} {e m : ℕ} (w : Turns P old σ t u e m) : Type 0 where
  -- E counts the re-executed reads, and each of them was stale; every other read that had its turn was not
  pub e_counts : length (re_executed_reads w) ≡ e
  pub all_stale : AllStale (re_executed_reads w)
  pub none_stale : NoneStale (kept_reads w)
  -- M counts the records made, at places where none stood
  pub m_counts : length (made_at w) ≡ m
  pub where_none_stood : Fresh old (made_at w)
  -- all others, which are the re-executed reads and the records outside them, stand at their old places, in their old order
  pub all_before : size t ≡ length (standing w) + length (dropped_at w)
  pub all_after : size u ≡ length (standing w) + length (made_at w)
  pub stood : InOrder (standing w) (places t)
  pub stand : InOrder (standing w) (places u)

-- ── one re-execution at a time ──

-- `ReExecutes P old σ t u m`: the earliest stale read of t is re-executed, which leaves u; m records are made inside it
--   here      it is the first record
--   in_read   it is inside the first record, a read that is kept
--   in_new    it is inside the first record, a NEW
--   behind    it is behind the first record, a NEW inside which each read is kept
pub data ReExecutes (P : View) (old : List ℕ) : Store → Trace → Trace → ℕ → Type 0 where
  here : {σ : Store} {n : ℕ} {s : Name} {b : Reader} {x y : Content} {rest rest' : Trace} {m : ℕ} →
      ¬ (σ s ≡ x) → σ s ≡ y →
      Run P (enter P (entered b y) (arguments b y)) σ rest' → Fresh old (places rest') →
      m ≡ size rest' →
      ReExecutes P old σ (read n s b x rest) (read n s b y rest') m
  in_read : {σ : Store} {n : ℕ} {s : Name} {b : Reader} {x : Content} {rest rest' : Trace} {m : ℕ} →
      σ s ≡ x →
      ReExecutes P old σ rest rest' m →
      ReExecutes P old σ (read n s b x rest) (read n s b x rest') m
  in_new : {σ : Store} {n f : ℕ} {vs : List Value} {inner inner' rest : Trace} {m : ℕ} →
      ReExecutes P old σ inner inner' m →
      ReExecutes P old σ (new n f vs inner rest) (new n f vs inner' rest) m
  behind : {σ : Store} {n f : ℕ} {vs : List Value} {inner rest rest' : Trace} {m : ℕ} →
      Kept inner σ →
      ReExecutes P old (put (after inner σ) n (written inner)) rest rest' m →
      ReExecutes P old σ (new n f vs inner rest) (new n f vs inner rest') m

-- `ReExecutions P old σ t u e m`: e such re-executions, one after another, lead from t to u, with m records made
pub data ReExecutions (P : View) (old : List ℕ) (σ : Store) (t : Trace) : Trace → ℕ → ℕ → Type 0 where
  none_yet : ReExecutions P old σ t t 0 0
  and_then : {u u' : Trace} {e m k : ℕ} → ReExecutions P old σ t u e m → ReExecutes P old σ u u' k → ReExecutions P old σ t u' (suc e) (m + k)
