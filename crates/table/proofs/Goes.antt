-- The steps of the run, as its code meets them.
use Rattle.std.proofs.Common.{◌≡◌, ℕ, ◌<◌, true, ◌≢◌, List, is_err, Ok, Err, Result, Bor, sym, ap, ◌∙◌, subst, arith}
use Rattle.program.specs.declared.program.Program.{Program}
use Rattle.program.specs.View.{View, viewed}
use Rattle.program.specs.declared.value.Content.{Content}
use Rattle.program.specs.declared.value.Content.TheVariants.{Empty}
use Rattle.trace.specs.Code.{Code, next, makes, resume, enter}
use Rattle.trace.specs.Trace.{places}
use Rattle.order_list.specs.Order.{Apart}
use Rattle.code.specs.Args.{Args}
use Rattle.code.specs.Values.{listed}
use Rattle.code.specs.declared.running.Running.{Running}
use Rattle.code.specs.Shown.{shown}
use Rattle.table.specs.declared.record.Record.{Record}
use Rattle.table.specs.declared.record.Entry.{Entry}
use Rattle.table.specs.declared.record.Entry.TheVariants.{Blank, New}
use Rattle.table.specs.declared.record.TooLarge.{TooLarge}
use Rattle.table.specs.declared.table.run.Stamped.{Stamped}
use Rattle.table.specs.declared.table.run.Written.{Written}
use Rattle.table.specs.declared.table.Table.{Table}
use Rattle.table.specs.Stamps.{Member}
use Rattle.table.specs.Standing.{at}
use Rattle.table.specs.Ran.{Open, Ending, HasBegun, HasEnded, Ran, Exceeds, HasMade, ExceedsMaking, Makes, Ends}
use Rattle.table.proofs.Lists.{moved_member, moved_length}
use Rattle.table.proofs.Shapes.{numbers_length}
use Rattle.table.proofs.Runs.{off, ran_new, over_behind_new}

-- a run that ends with an error is too large
pub ends_over : {P : View} {c : Code} {a : Table} (d : ℕ) (b : Table) (xs ys : List ℕ) (cursor : ℕ) (r : Result Written TooLarge) → is_err r ≡ true → Exceeds P c a → Ends P c d a b xs ys cursor r
ends_over d b xs ys cursor (Ok r) e h = let z : ◌≡◌ {A = ℕ} 0 1 = cc in absurd (omega arith)
ends_over d b xs ys cursor (Err x) e h = h

pub makes_over : {P : View} {f : ℕ} {args : Args} {a : Table} (b : Table) (xs ys : List ℕ) (cursor : ℕ) (r : Result Stamped TooLarge) → is_err r ≡ true → ExceedsMaking P f args a → Makes P f args a b xs ys cursor r
makes_over b xs ys cursor (Ok r) e h = let z : ◌≡◌ {A = ℕ} 0 1 = cc in absurd (omega arith)
makes_over b xs ys cursor (Err x) e h = h

-- fewer records may be made than before
pub begun_falls : {a b : Table} {xs ys : List ℕ} {cursor n m : ℕ} {e : Entry} → HasBegun a b xs ys cursor e n m → b.room < a.room
begun_falls g = let h = g.room in omega arith

module _ {P : View} {c : Code} {d k k' : ℕ} {a a₁ b₁ : Table} {xs xs₁ ys₁ : List ℕ} {cursor n m m₁ : ℕ} {e : Entry} {x : Content} where
  -- what has begun may end when its inside has run
  pub may_end : Open a k xs cursor → HasBegun a a₁ xs xs₁ cursor e n m → e ≢ Blank → Ran P c d a₁ b₁ xs₁ ys₁ m x m₁ → k' ≡ k → Ending b₁ k' ys₁ m₁ n
  may_end o g there h same =
      let mem = moved_member o.member g.moved in
      let l₁ = moved_length o.member g.moved in
      let l₂ = moved_length mem h.moved in
      let l₃ = numbers_length (at b₁) h.trace in
      let s = o.stamps in let r₁ = g.room in let r₂ = h.room in
      record {
        ready = h.ready;
        member = moved_member mem h.moved;
        stamps = omega arith;
        below = g.below;
        there = λ z. there (sym (ap (λ (r : Record). r.entry) (h.others n (off g there (places h.trace) h.fresh) ∙ g.sets.here)) ∙ z);
      }

module _ {P : View} {c : Code} {d k k' : ℕ} {a a₁ b₁ b₂ : Table} {xs xs₁ ys₁ ys₂ : List ℕ} {cursor n m m₁ m₂ : ℕ} {e : Entry} {x : Content} where
  -- behind its end the run may go on
  pub may_go_on : Open a k xs cursor → HasBegun a a₁ xs xs₁ cursor e n m → Ran P c d a₁ b₁ xs₁ ys₁ m x m₁ → HasEnded b₁ b₂ ys₁ ys₂ m₁ n x m₂ → k' ≡ k → Open b₂ k' ys₂ m₂
  may_go_on o g h z same =
      let mem = moved_member o.member g.moved in
      let mem₁ = moved_member mem h.moved in
      let l₁ = moved_length o.member g.moved in
      let l₂ = moved_length mem h.moved in
      let l₃ = numbers_length (at b₁) h.trace in
      let l₄ = moved_length mem₁ z.moved in
      let s = o.stamps in let r₁ = g.room in let r₂ = h.room in let r₃ = z.room in
      record { ready = z.ready; member = moved_member mem₁ z.moved; stamps = omega arith }

module _ {P : View} {c : Code} {d : ℕ} {a a₁ b₁ b₂ : Table} {xs xs₁ ys₁ ys₂ : List ℕ} {cursor n m m₁ m₂ : ℕ} {e : Entry} {x : Content} where
  pub ended_falls : HasBegun a a₁ xs xs₁ cursor e n m → Ran P c d a₁ b₁ xs₁ ys₁ m x m₁ → HasEnded b₁ b₂ ys₁ ys₂ m₁ n x m₂ → b₂.room < a.room
  ended_falls g h z = let r₁ = g.room in let r₂ = h.room in let r₃ = z.room in omega arith

-- a NEW has been made when its function has run
module _ {P : View} {c : Code} {a a₁ b₁ b₂ : Table} {xs xs₁ ys₁ ys₂ : List ℕ} {cursor n m m₁ m₂ f : ℕ} {args : Args} {x : Content} where
  pub has_made : HasBegun a a₁ xs xs₁ cursor (New f args Empty) n m → c ≡ enter P f (listed args) → Ran P c n a₁ b₁ xs₁ ys₁ m x m₁ → HasEnded b₁ b₂ ys₁ ys₂ m₁ n x m₂ → HasMade P f args a b₂ xs ys₂ cursor n m₂
  has_made g e r z = record {
    table = a₁;
    members = xs₁;
    start = m;
    begun = g;
    inner_table = b₁;
    inner_members = ys₁;
    last = m₁;
    content = x;
    ran = subst (λ (k : Code). Ran P k n a₁ b₁ xs₁ ys₁ m x m₁) e r;
    ended = z;
  }

-- the run of what comes behind a NEW ends the run
module _ {P : View} {c₁ : Code} {a a₁ b₁ b₂ : Table} {xs xs₁ ys₁ ys₂ : List ℕ} {cursor n m m₁ m₂ f : ℕ} {args : Args} {x : Content} where
  pub ends_new : (c k c₂ : Code) (d : ℕ) (b : Table) (ys : List ℕ) → next P c ≡ makes f (listed args) k →
      HasBegun a a₁ xs xs₁ cursor (New f args Empty) n m →
      c₁ ≡ enter P f (listed args) → Ran P c₁ n a₁ b₁ xs₁ ys₁ m x m₁ →
      HasEnded b₁ b₂ ys₁ ys₂ m₁ n x m₂ →
      c₂ ≡ resume k n → Member xs cursor → Apart ys →
      (r : Result Written TooLarge) → Ends P c₂ d b₂ b ys₂ ys m₂ r → Ends P c d a b xs ys cursor r
  ends_new c k c₂ d b ys e g e₁ h z e₂ mem ay (Ok r) w = ran_new g h z w c k e e₁ e₂ mem ay
  ends_new c k c₂ d b ys e g e₁ h z e₂ mem ay (Err t) w = over_behind_new g h z c k c₂ e e₁ e₂ w

-- a run of the same program
module _ {p q : Bor Program} (e : q ≡ p) (k : Running) where
  pub ran_at : {d : ℕ} {a b : Table} {xs ys : List ℕ} {cursor : ℕ} {x : Content} {m : ℕ} → Ran (viewed q.now) (shown (viewed q.now) k) d a b xs ys cursor x m → Ran (viewed p.now) (shown (viewed p.now) k) d a b xs ys cursor x m
  ran_at {d} {a} {b} {xs} {ys} {cursor} {x} {m} h = subst (λ (p : Bor Program). Ran (viewed p.now) (shown (viewed p.now) k) d a b xs ys cursor x m) e h

  pub exceeds_at : {a : Table} → Exceeds (viewed q.now) (shown (viewed q.now) k) a → Exceeds (viewed p.now) (shown (viewed p.now) k) a
  exceeds_at {a} h = subst (λ (p : Bor Program). Exceeds (viewed p.now) (shown (viewed p.now) k) a) e h

  pub ends_at : (d : ℕ) (a b : Table) (xs ys : List ℕ) (cursor : ℕ) (r : Result Written TooLarge) → Ends (viewed q.now) (shown (viewed q.now) k) d a b xs ys cursor r → Ends (viewed p.now) (shown (viewed p.now) k) d a b xs ys cursor r
  ends_at d a b xs ys cursor r h = subst (λ (p : Bor Program). Ends (viewed p.now) (shown (viewed p.now) k) d a b xs ys cursor r) e h
