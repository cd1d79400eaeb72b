-- A run that has begun more than so many records, whether or not it ends.
use Rattle.std.specs.Prelude.{◌≡◌, List, [], ◌∷◌, ◌++◌, ℕ, suc, ◌+◌}
use Rattle.program.specs.View.{View}
use Rattle.program.specs.declared.value.Name.{Name}
use Rattle.program.specs.declared.value.Value.{Value}
use Rattle.trace.specs.Code.{Code, Reader, makes, reads, next, resume, enter, entered, arguments, main}
use Rattle.trace.specs.Trace.{Trace, written, size, places, Distinct, Store, put, after}
use Rattle.trace.specs.Run.{Run, initial}
use Rattle.program.specs.declared.value.InputContent.{InputContent}

-- `Over P c σ ps k`: the run of the code c from the store σ begins k records, at the places ps, and then one more
--   one_made, one_read   the first record is the one more
--   over_inside          it begins inside the first record, a NEW at n
--   over_behind          it begins behind the first record, a NEW at n inside which `inner` stands
--   over_read            it begins inside the first record, a read at n
pub data Over (P : View) : Code → Store → List ℕ → ℕ → Type 0 where
  one_made : {c k : Code} {σ : Store} {f : ℕ} {vs : List Value} → next P c ≡ makes f vs k → Over P c σ [] 0
  one_read : {c : Code} {σ : Store} {s : Name} {b : Reader} → next P c ≡ reads s b → Over P c σ [] 0
  over_inside : {c k : Code} {σ : Store} {f : ℕ} {vs : List Value} {ps : List ℕ} {j : ℕ} (n : ℕ) →
      next P c ≡ makes f vs k → Over P (enter P f vs) σ ps j → Over P c σ (n ∷ ps) (suc j)
  over_behind : {c k : Code} {σ : Store} {f : ℕ} {vs : List Value} {ps : List ℕ} {j : ℕ} (n : ℕ) (inner : Trace) →
      next P c ≡ makes f vs k → Run P (enter P f vs) σ inner →
      Over P (resume k n) (put (after inner σ) n (written inner)) ps j → Over P c σ (n ∷ (places inner ++ ps)) (suc (size inner + j))
  over_read : {c : Code} {σ : Store} {s : Name} {b : Reader} {ps : List ℕ} {j : ℕ} (n : ℕ) →
      next P c ≡ reads s b → Over P (enter P (entered b (σ s)) (arguments b (σ s))) σ ps j → Over P c σ (n ∷ ps) (suc j)

-- the run on the inputs begins more than L records, the first L of them at places of their own
pub record BeginsMore (L : ℕ) (P : View) (is : List InputContent) : Type 0 where
  pub begun_at : List ℕ
  pub apart : Distinct begun_at
  pub over : Over P (main P) (initial is) begun_at L
