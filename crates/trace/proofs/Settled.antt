-- What the turns leave is a run, and re-executing the earliest stale read over and over is settling by turns.
use mathlib.Core.Path.{◌≡◌, refl, sym, ap, ap₂, subst, subst₂}
use mathlib.Core.List.{List}
use Prim.Native.Nat.{ℕ, suc, ◌+◌, ◌≤◌, ◌<◌}
use native.Mathlib.Omega.{arith}
use Rattle.program.specs.View.{View}
use Rattle.program.specs.declared.value.Name.{Name}
use Rattle.program.specs.declared.value.Content.{Content}
use Rattle.program.specs.declared.value.Value.{Value}
use Rattle.trace.specs.Code.{Code, Reader, resume, enter, entered, arguments, main}
use Rattle.trace.specs.Trace.{Trace, write, new, read, written, count_reads, Store, put, after}
use Rattle.trace.specs.Run.{Follows, Kept}
use Rattle.trace.specs.Turns.{Turns, at_write, past_new, kept, re_executed, ReExecutes, here, in_read, in_new, behind, ReExecutions, none_yet, and_then}
use Rattle.trace.specs.Laws.{TurnsLeaveARun, ReExecutingIsSettling, ReExecutingEnds, UnchangedInputs}

module _ {P : View} {old : List ℕ} where
  -- what the turns leave is a run
  pub turns_kept : {σ : Store} {t u : Trace} {e m : ℕ} → Turns P old σ t u e m → Kept u σ
  turns_kept at_write = tt
  turns_kept (past_new a b q r) = (turns_kept a, turns_kept b)
  turns_kept (kept p a) = (p, turns_kept a)
  turns_kept (re_executed h p run fresh i j) = (p, run.all_kept)

  pub turns_follow : {σ : Store} {t u : Trace} {e m : ℕ} → Turns P old σ t u e m → (c : Code) → Follows P t c → Follows P u c
  turns_follow at_write c h = h
  turns_follow (past_new {n = n} {f = f} {vs = vs} a b q r) c h = (h.0, h.1, turns_follow a (enter P f vs) h.2, turns_follow b (resume h.0 n) h.3)
  turns_follow (kept {b = b} {x = x} p a) c h = (h.0, turns_follow a (enter P (entered b x) (arguments b x)) h.1)
  turns_follow (re_executed h p run fresh i j) c o = (o.0, run.follows)

  -- where nothing is stale, the turns change nothing
  pub kept_turns : {σ : Store} {t u : Trace} {e m : ℕ} → Turns P old σ t u e m → Kept t σ → (u ≡ t) × (e ≡ 0) × (m ≡ 0)
  kept_turns at_write h = (refl, refl, refl)
  kept_turns (past_new {σ = σ} {n = n} {f = f} {vs = vs} {rest = rest} a b q r) h =
      let i = kept_turns a h.0 in
      let j = kept_turns b (subst (λ (z : Trace). Kept rest (put (after z σ) n (written z))) (sym i.0) h.1) in
      (ap₂ (λ (y z : Trace). new n f vs y z) i.0 j.0, omega (arith, i, j), omega (arith, i, j))
  kept_turns (kept {n = n} {s = s} {b = b} {x = x} p a) h = let i = kept_turns a h.1 in (ap (λ (z : Trace). read n s b x z) i.0, i.1, i.2)
  kept_turns (re_executed h p run fresh i j) k = absurd (h k.0)

  pub turns_of_kept : (t : Trace) {σ : Store} → Kept t σ → Turns P old σ t t 0 0
  turns_of_kept (write x) h = at_write
  turns_of_kept (new n f vs inner rest) h = past_new (turns_of_kept inner h.0) (turns_of_kept rest h.1) refl refl
  turns_of_kept (read n s b x rest) h = kept h.0 (turns_of_kept rest h.1)

  -- one re-execution of the earliest stale read, and then the turns, are the turns
  pub re_execute_turns : {σ : Store} {t u v : Trace} {m e k : ℕ} → ReExecutes P old σ t u m → Turns P old σ u v e k → Turns P old σ t v (suc e) (m + k)
  re_execute_turns (here {σ = σ} {n = n} {s = s} {b = b} {x = x} {y = y} {rest = rest} {m = m} h p run fresh i) (kept {e = e} {m = k} p' w) =
      let j = kept_turns w run.all_kept in
      subst (λ (z : Trace). Turns P old σ (read n s b x rest) (read n s b y z) (suc e) (m + k)) (sym j.0)
      (re_executed h p run fresh (omega (arith, j)) (omega (arith, i, j)))
  re_execute_turns (here h p run fresh i) (re_executed h' p' run' fresh' i' j') = absurd (h' p)
  re_execute_turns (in_read p a) (kept p' w) = kept p (re_execute_turns a w)
  re_execute_turns (in_read p a) (re_executed h' p' run' fresh' i' j') = absurd (h' p)
  re_execute_turns (in_new a) (past_new w₁ w₂ q r) = past_new (re_execute_turns a w₁) w₂ (omega arith) (omega arith)
  re_execute_turns (behind {σ = σ} {n = n} {rest = rest} {rest' = rest'} {m = m} h a) (past_new {rest' = rest''} {e₂ = e₂} {m₂ = m₂} w₁ w₂ q r) =
      let j = kept_turns w₁ h in
      let ih = re_execute_turns a (subst (λ (z : Trace). Turns P old (put (after z σ) n (written z)) rest' rest'' e₂ m₂) j.0 w₂) in
      let back = subst (λ (z : Trace). Turns P old (put (after z σ) n (written z)) rest rest'' (suc e₂) (m + m₂)) (sym j.0) ih in
      past_new w₁ back (omega (arith, q, j)) (omega (arith, r, j))

  -- a re-execution leaves a trace of the code
  pub re_execute_follows : {σ : Store} {t u : Trace} {m : ℕ} → ReExecutes P old σ t u m → (c : Code) → Follows P t c → Follows P u c
  re_execute_follows (here h p run fresh i) c o = (o.0, run.follows)
  re_execute_follows (in_read {b = b} {x = x} p a) c o = (o.0, re_execute_follows a (enter P (entered b x) (arguments b x)) o.1)
  re_execute_follows (in_new {f = f} {vs = vs} a) c o = (o.0, o.1, re_execute_follows a (enter P f vs) o.2, o.3)
  re_execute_follows (behind {n = n} h a) c o = (o.0, o.1, o.2, re_execute_follows a (resume o.0 n) o.3)

  -- the loop: steps, and then the turns, are the turns (so portions add up)
  pub re_executions_turns : {σ : Store} {t u v : Trace} {e m e' m' e'' m'' : ℕ} → ReExecutions P old σ t u e m → Turns P old σ u v e' m' → e'' ≡ e + e' → m'' ≡ m + m' → Turns P old σ t v e'' m''
  re_executions_turns {σ} {t} {v = v} none_yet w p q = subst₂ (λ (e m : ℕ). Turns P old σ t v e m) (omega arith) (omega arith) w
  re_executions_turns (and_then a r) w p q = re_executions_turns a (re_execute_turns r w) (omega arith) (omega arith)

  -- when nothing is stale any more, the steps are the settle by turns
  pub re_executions_settle : {σ : Store} {t u : Trace} {e m : ℕ} → ReExecutions P old σ t u e m → Kept u σ → Turns P old σ t u e m
  re_executions_settle {u = u} a h = re_executions_turns a (turns_of_kept u h) (omega arith) (omega arith)

  -- ── the turns are re-executions ──

  -- those inside a NEW, those behind it, and those inside a read, as re-executions of the whole
  inside_new : {σ : Store} {n f : ℕ} {vs : List Value} {inner inner' rest : Trace} {e m : ℕ} →
      ReExecutions P old σ inner inner' e m → ReExecutions P old σ (new n f vs inner rest) (new n f vs inner' rest) e m
  inside_new none_yet = none_yet
  inside_new (and_then a r) = and_then (inside_new a) (in_new r)

  inside_read : {σ : Store} {n : ℕ} {s : Name} {b : Reader} {x : Content} {rest rest' : Trace} {e m : ℕ} → σ s ≡ x →
      ReExecutions P old σ rest rest' e m → ReExecutions P old σ (read n s b x rest) (read n s b x rest') e m
  inside_read p none_yet = none_yet
  inside_read p (and_then a r) = and_then (inside_read p a) (in_read p r)

  behind_new : {σ : Store} {n f : ℕ} {vs : List Value} {t inner rest rest' : Trace} {e₁ m₁ e m e₂ m₂ : ℕ} → Kept inner σ →
      ReExecutions P old σ t (new n f vs inner rest) e₁ m₁ →
      ReExecutions P old (put (after inner σ) n (written inner)) rest rest' e₂ m₂ → e ≡ e₁ + e₂ → m ≡ m₁ + m₂ →
      ReExecutions P old σ t (new n f vs inner rest') e m
  behind_new {σ} {n} {f} {vs} {t} {inner} {rest} h a none_yet p q =
      subst₂ (λ (e m : ℕ). ReExecutions P old σ t (new n f vs inner rest) e m) (omega (arith, p)) (omega (arith, q)) a
  behind_new {σ} {n} {f} {vs} {t} {inner} {rest} h a (and_then {u' = u'} {e = e} {m = m} {k = k} b r) p q =
      subst₂ (λ (e m : ℕ). ReExecutions P old σ t (new n f vs inner u') e m) (omega (arith, p)) (omega (arith, q))
      (and_then (behind_new h a b refl refl) (behind h r))

  pub turns_re_execute : {σ : Store} {t u : Trace} {e m : ℕ} → Turns P old σ t u e m → ReExecutions P old σ t u e m
  turns_re_execute at_write = none_yet
  turns_re_execute (past_new a b q r) = behind_new (turns_kept a) (inside_new (turns_re_execute a)) (turns_re_execute b) q r
  turns_re_execute (kept p a) = inside_read p (turns_re_execute a)
  turns_re_execute {σ} (re_executed {n = n} {s = s} {b = b} {x = x} {y = y} {rest = rest} {rest' = rest'} h p run fresh i j) =
      subst₂ (λ (e m : ℕ). ReExecutions P old σ (read n s b x rest) (read n s b y rest') e m) (omega (arith, i)) (omega (arith, j))
      (and_then none_yet (here h p run fresh refl))

  -- ── the re-executions end: each re-executed read stands behind the one before ──
  -- the reads from the re-executed one on, those inside it apart
  pub left : {σ : Store} {t u : Trace} {m : ℕ} → ReExecutes P old σ t u m → ℕ
  left (here h p run fresh i) = 1
  left (in_read p a) = left a
  left (in_new {rest = rest} a) = left a + count_reads rest
  left (behind h a) = left a

  left_most : {σ : Store} {t u : Trace} {m : ℕ} (a : ReExecutes P old σ t u m) → left a ≤ count_reads t
  unfolding left
  left_most (here h p run fresh i) = omega arith
  left_most (in_read p a) = let l = left_most a in omega arith
  left_most (in_new a) = let l = left_most a in omega arith
  left_most (behind h a) = let l = left_most a in omega arith

  pub left_some : {σ : Store} {t u : Trace} {m : ℕ} (a : ReExecutes P old σ t u m) → 0 < left a
  unfolding left
  left_some (here h p run fresh i) = omega arith
  left_some (in_read p a) = left_some a
  left_some (in_new a) = let l = left_some a in omega arith
  left_some (behind h a) = left_some a

  pub no_more_stale : {σ : Store} {t u : Trace} {m : ℕ} → ReExecutes P old σ t u m → Kept t σ → ⊥
  no_more_stale (here h p run fresh i) k = h k.0
  no_more_stale (in_read p a) k = no_more_stale a k.1
  no_more_stale (in_new a) k = no_more_stale a k.0
  no_more_stale (behind h a) k = no_more_stale a k.1

  pub left_falls : {σ : Store} {t u v : Trace} {m k : ℕ} (a : ReExecutes P old σ t u m) (b : ReExecutes P old σ u v k) → left b < left a
  unfolding left
  left_falls (here h p run fresh i) (here h' p' run' fresh' i') = absurd (h' p)
  left_falls (here h p run fresh i) (in_read p' b) = absurd (no_more_stale b run.all_kept)
  left_falls (in_read p a) (here h' p' run' fresh' i') = absurd (h' p)
  left_falls (in_read p a) (in_read p' b) = left_falls a b
  left_falls (in_new a) (in_new b) = let l = left_falls a b in omega arith
  left_falls (in_new a) (behind h b) = let l = left_some a in let r = left_most b in omega arith
  left_falls (behind h a) (in_new b) = absurd (no_more_stale b h)
  left_falls (behind h a) (behind h' b) = left_falls a b

  -- so there are no more re-executions than reads at first
  pub re_executions_bound : {σ : Store} {t u v : Trace} {e m k : ℕ} → ReExecutions P old σ t u e m → (b : ReExecutes P old σ u v k) → e + left b ≤ count_reads t
  re_executions_bound none_yet b = let l = left_most b in omega arith
  re_executions_bound (and_then a r) b = let l = re_executions_bound a r in let g = left_falls r b in omega arith

  re_executions_few : {σ : Store} {t u : Trace} {e m : ℕ} → ReExecutions P old σ t u e m → e ≤ count_reads t
  re_executions_few none_yet = omega arith
  re_executions_few (and_then a r) = let l = re_executions_bound a r in let g = left_some r in omega (arith, l, g)

pub turns_leave_a_run : TurnsLeaveARun
turns_leave_a_run P is js t u e m h w d = record { follows = turns_follow w (main P) h.follows; all_kept = turns_kept w; apart = d }

pub re_executing_is_settling : ReExecutingIsSettling
re_executing_is_settling P old σ t u e m = (λ h. re_executions_settle h.0 h.1, λ w. (turns_re_execute w, turns_kept w))

pub re_executing_ends : ReExecutingEnds
re_executing_ends P old σ t u e m a = re_executions_few a

pub unchanged_inputs : UnchangedInputs
unchanged_inputs P is t u e m h w = kept_turns w h.all_kept
