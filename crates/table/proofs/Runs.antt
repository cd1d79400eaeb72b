-- The ways a run goes, each put together from its parts.
use Rattle.std.proofs.Common.{◌≡◌, ℕ, suc, ◌+◌, true, false, ◌≢◌, List, [], ◌∷◌, ◌++◌, get_or, sym, refl, ap, ◌∙◌, subst, ap₂, inl, inr, append_assoc, arith}
use Rattle.std.proofs.lemmas.Bool.Decides.{eqb_tells}
use Rattle.program.specs.View.{View}
use Rattle.program.specs.declared.value.Name.{Name}
use Rattle.program.specs.declared.value.Name.TheVariants.{Input, Made}
use Rattle.program.specs.declared.value.InputContent.{InputContent}
use Rattle.program.specs.declared.value.InputContent.TheVariants as input
use Rattle.program.specs.declared.value.Content.{Content}
use Rattle.program.specs.declared.value.Content.TheVariants.{Empty}
use Rattle.program.specs.declared.value.Value.{Value}
use Rattle.trace.specs.Code.{Code, Reader, next, writes, makes, reads, resume, enter, entered, arguments}
use Rattle.trace.specs.Trace.{write, new, read, written, places, size, Store, put, after, Absent, Among}
use Rattle.trace.specs.Run.{Follows, Kept, Run, content_of_input}
use Rattle.trace.specs.Over.{Over, one_made, one_read, over_inside, over_behind, over_read}
use Rattle.trace.proofs.Places.{absent_left, absent_right, absent_join, distinct_join, among_cases, not_among}
use Rattle.order_list.specs.Order.{has, Apart}
use Rattle.order_list.proofs.Lists.{has_none}
use Rattle.code.specs.Args.{Args}
use Rattle.code.specs.declared.reader.Reader as declared
use Rattle.code.specs.Values.{listed}
use Rattle.code.specs.Readers.{reader_of}
use Rattle.table.specs.declared.record.Record.{Record}
use Rattle.table.specs.declared.record.Entry.{Entry}
use Rattle.table.specs.declared.record.Entry.TheVariants.{Blank, New, Read}
use Rattle.table.specs.declared.table.Table.{Table}
use Rattle.table.specs.Records.{sort, content_inside, wrote}
use Rattle.table.specs.Stamps.{Member, Moved}
use Rattle.table.specs.Standing.{at, owner, store, numbers}
use Rattle.table.specs.Ran.{Ready, Sets, HasBegun, HasEnded, Ran, Exceeds}
use Rattle.table.proofs.Lists.{moved_none, moved_on, moved_as, moved_apart, apart_right, not_both, not_append}
use Rattle.table.proofs.Shapes.{shape_same, holds_same, numbers_same, numbers_new, numbers_read, marked, stays, owned_same}
use Rattle.table.proofs.Steps.{same_trans}

-- ── stores ──

-- two stores that agree on every name
pub stores : {σ τ : Store} → ((k : ℕ) → σ (Input k) ≡ τ (Input k)) → ((n : ℕ) → σ (Made n) ≡ τ (Made n)) → σ ≡ τ
stores {σ} {τ} f g = λ i m. both m i
  where
    both : (m : Name) → σ m ≡ τ m
    both (Input k) = f k
    both (Made n) = g n

module _ {a b : Table} {n : ℕ} {r : Record} (s : Sets a b n r) where
  inputs_kept : (k : ℕ) → store b (Input k) ≡ store a (Input k)
  inputs_kept k = ap (λ (is : List InputContent). content_of_input (get_or is k input.Empty)) s.same.inputs

  -- what the modifiable of the record holds stays
  store_kept : content_inside r.entry ≡ content_inside (at a n).entry → store b ≡ store a
  store_kept e = stores inputs_kept (λ q. elim (eqb_tells q n) [
    | inl p ↦ subst (λ (m : ℕ). content_inside (at b m).entry ≡ content_inside (at a m).entry) (sym p.1) (ap (λ (k : Record). content_inside k.entry) s.here ∙ e)
    | inr p ↦ ap (λ (k : Record). content_inside k.entry) (s.others q p.1)
  ])

  -- it is written
  store_written : (x : Content) → content_inside r.entry ≡ x → store b ≡ put (store a) n x
  store_written x e = stores inputs_kept (λ q. elim (eqb_tells q n) [
    | inl p ↦ rw p.0 (ap (λ (m : ℕ). content_inside (at b m).entry) p.1 ∙ ap (λ (k : Record). content_inside k.entry) s.here ∙ e)
    | inr p ↦ rw p.0 (ap (λ (k : Record). content_inside k.entry) (s.others q p.1))
  ])

-- ── a record has begun at n ──

module _ {a b : Table} {xs ys : List ℕ} {cursor n m : ℕ} {e : Entry} (g : HasBegun a b xs ys cursor e n m) where
  begun_store : content_inside e ≡ Empty → store b ≡ store a
  begun_store h = store_kept g.sets (h ∙ ap content_inside (sym g.blank))

  module _ (there : e ≢ Blank) where
    -- what is blank now is elsewhere, and was blank
    away : (q : ℕ) → (at b q).entry ≡ Blank → q ≢ n
    away q h z = there (sym (ap (λ (r : Record). r.entry) g.sets.here) ∙ ap (λ (j : ℕ). (at b j).entry) (sym z) ∙ h)

    was_blank : (q : ℕ) → (at b q).entry ≡ Blank → (at a q).entry ≡ Blank
    was_blank q h = ap (λ (r : Record). r.entry) (sym (g.sets.others q (away q h))) ∙ h

    pub off : (ps : List ℕ) → ((q : ℕ) → Among q ps → (at b q).entry ≡ Blank) → Absent n ps
    off ps fresh = not_among n ps (λ q k. away q (fresh q k))

    fresh_too : (ps : List ℕ) → ((q : ℕ) → Among q ps → (at b q).entry ≡ Blank) → (q : ℕ) → Among q (n ∷ ps) → (at a q).entry ≡ Blank
    fresh_too ps fresh q k = elim k [ inl z ↦ ap (λ (j : ℕ). (at a j).entry) z ∙ g.blank | inr l ↦ was_blank q (fresh q l) ]

-- ── then the code inside it has run, and it has ended ──

module _ {P : View} {c : Code} {d : ℕ} {a a₁ b₁ b : Table} {xs xs₁ ys₁ ys : List ℕ} {cursor n m m₁ m₂ : ℕ} {e : Entry} {x : Content}
    (there : e ≢ Blank) (g : HasBegun a a₁ xs xs₁ cursor e n m) (r : Ran P c d a₁ b₁ xs₁ ys₁ m x m₁) (z : HasEnded b₁ b ys₁ ys m₁ n x m₂) where
  pub at_n : at b₁ n ≡ record { entry = e; start = m; end = m }
  at_n = r.others n (off g there (places r.trace) r.fresh) ∙ g.sets.here

  end_n : at b n ≡ record { entry = wrote e x; start = m; end = m₂ }
  end_n = z.sets.here ∙ ap (λ (k : Record). record { entry = wrote k.entry x; start = k.start; end = m₂ }) at_n

  inside : (q : ℕ) → Among q (places r.trace) → at b q ≡ at b₁ q
  inside q k = z.sets.others q (away g there q (r.fresh q k))

  full : (q : ℕ) → Among q (places r.trace) → (at b q).entry ≢ Blank
  full q k h = marked (at b₁) d r.trace q r.shape k (ap (λ (j : Record). j.entry) (sym (inside q k)) ∙ h)

  run_inside : content_inside e ≡ Empty → Run P c (store a) r.trace
  run_inside h = record { follows = r.run.follows; all_kept = subst (Kept r.trace) (begun_store g h) r.run.all_kept }

  stored_inside : content_inside e ≡ Empty → store b₁ ≡ after r.trace (store a)
  stored_inside h = r.stored ∙ ap (after r.trace) (begun_store g h)

  -- where nothing of it stands, all is as it was
  elsewhere : (q : ℕ) → q ≢ n → Absent q (places r.trace) → at b q ≡ at a q
  elsewhere q ne k = z.sets.others q ne ∙ r.others q k ∙ g.sets.others q ne

  stamps_of : Moved xs cursor (m ∷ (numbers (at b₁) r.trace ++ (m₂ ∷ []))) ys m₂
  stamps_of = moved_on (moved_on g.moved r.moved) z.moved

  numbers_inside : numbers (at b) r.trace ≡ numbers (at b₁) r.trace
  numbers_inside = numbers_same (at b₁) (at b) r.trace inside

-- ── the code writes ──

pub ran_write : {P : View} {c : Code} {d : ℕ} {a : Table} {xs : List ℕ} {cursor : ℕ} {x : Content} → next P c ≡ writes x → Ready a → Ran P c d a a xs xs cursor x cursor
ran_write {xs = xs} {cursor = cursor} {x = x} e ready = record {
  trace = write x;
  run = record { follows = e; all_kept = tt };
  wrote = refl;
  shape = tt;
  holds = tt;
  stored = refl;
  apart = tt;
  fresh = λ q k. absurd k;
  others = λ q k. refl;
  same = record { inputs = refl; noted = refl };
  room = omega arith;
  spares = omega arith;
  moved = moved_none xs cursor;
  owned = tt;
  owners = λ k h. refl;
  ready = ready;
}

-- ── the code reads ──

pub read_there : {s : Name} {b : declared.Reader} {x : Content} {d : ℕ} → Read s b x d ≢ Blank
read_there h = let q = ap sort h in let w : ◌≡◌ {A = ℕ} 0 1 = cc in omega arith

-- what is entered with equal contents
entering : (P : View) (br : declared.Reader) {x y : Content} → x ≡ y → enter P (entered (reader_of br) x) (arguments (reader_of br) x) ≡ enter P (entered (reader_of br) y) (arguments (reader_of br) y)
entering P br e = ap (λ (x : Content). enter P (entered (reader_of br) x) (arguments (reader_of br) x)) e

-- a → a₁: the read has begun at n, and took y; a₁ → b₁: the run of what it enters; b₁ → b: it has ended
module _ {P : View} {c c₁ : Code} {d : ℕ} {a a₁ b₁ b : Table} {xs xs₁ ys₁ ys : List ℕ} {cursor n m m₁ m₂ : ℕ} {s : Name} {br : declared.Reader} {x y : Content} where
  pub ran_read : next P c ≡ reads s (reader_of br) → y ≡ store a s →
      HasBegun a a₁ xs xs₁ cursor (Read s br y d) n m →
      c₁ ≡ enter P (entered (reader_of br) y) (arguments (reader_of br) y) →
      Ran P c₁ d a₁ b₁ xs₁ ys₁ m x m₁ →
      HasEnded b₁ b ys₁ ys m₁ n x m₂ → Member xs cursor → Apart ys →
      Ran P c d a b xs ys cursor x m₂
  ran_read e e₀ g e₁ r z mem ay =
      let u = r.trace in
      let ns = numbers (at b₁) u in
      let ended = end_n read_there g r z in
      let kept = inside read_there g r z in
      let numbers-are : numbers (at b) (read n s (reader_of br) y u) ≡ m ∷ (ns ++ (m₂ ∷ [])) =
      numbers_read (at b) n s (reader_of br) y u ∙ (let h = numbers_inside read_there g r z in rw (h, ended)) in
      let mv = stamps_of read_there g r z in
      let av : Apart (m ∷ (ns ++ (m₂ ∷ []))) = moved_apart mem mv ay in
      let m-off = not_append ns (m₂ ∷ []) m av.0 in
      record {
        trace = read n s (reader_of br) y u;
        run = (let i = run_inside read_there g r z refl in record { follows = (e, subst (Follows P u) e₁ i.follows); all_kept = (sym e₀, i.all_kept) });
        wrote = r.wrote;
        shape = (ap (λ (k : Record). sort k.entry) ended, shape_same (at b₁) (at b) d u (λ q k. ap (λ (j : Record). sort j.entry) (kept q k)) r.shape);
        holds = holds_same b₁ b u kept r.holds;
        stored = store_kept z.sets (ap (λ (k : Record). content_inside (wrote k.entry x)) (at_n read_there g r z) ∙ sym (ap (λ (k : Record). content_inside k.entry) (at_n read_there g r z))) ∙ stored_inside read_there g r z refl;
        apart = (off g read_there (places u) r.fresh, r.apart);
        fresh = fresh_too g read_there (places u) r.fresh;
        others = λ q k. elsewhere read_there g r z q k.0 k.1;
        same = same_trans (same_trans g.sets.same r.same) z.sets.same;
        room = (let h = r.room in let k = g.room in let l = z.room in omega arith);
        spares = (let h = r.spares in let k = g.spares in let l = z.spares in omega arith);
        moved = moved_as (sym numbers-are) mv;
        owned = (
          ap (λ (k : Record). owner b k.start) ended ∙ z.owns.others m (λ w. (has_none m₂ m [] m-off.1).0 (sym w)) ∙ r.owners m m-off.0 ∙ g.owns.here,
          ap (λ (k : Record). owner b k.end) ended ∙ z.owns.here,
          owned_same (owner b₁) (owner b) (at b₁) (at b) u kept (λ k h. z.owns.others k (λ w. (has_none m₂ k [] (not_both ns (m₂ ∷ []) k av.1 h)).0 (sym w))) r.owned,
        );
        owners = λ k h.
            let h₁ = has_none m k (ns ++ (m₂ ∷ [])) (ap (λ (l : List ℕ). has l k) (sym numbers-are) ∙ h) in
            let h₂ = not_append ns (m₂ ∷ []) k h₁.1 in
            z.owns.others k (λ w. (has_none m₂ k [] h₂.1).0 (sym w)) ∙ r.owners k h₂.0 ∙ g.owns.others k (λ w. h₁.0 (sym w));
        ready = z.ready;
      }

-- ── the code makes ──

pub new_there : {f : ℕ} {args : Args} {x : Content} → New f args x ≢ Blank
new_there h = let q = ap sort h in let w : ◌≡◌ {A = ℕ} 0 1 = cc in omega arith

-- a → a₁: the NEW has begun at n; a₁ → b₁: the run of its function; b₁ → b₂: it has ended
module _ {P : View} {c₁ : Code} {a a₁ b₁ b₂ : Table} {xs xs₁ ys₁ ys₂ : List ℕ} {cursor n m m₁ m₂ f : ℕ} {args : Args} {x : Content}
    (g : HasBegun a a₁ xs xs₁ cursor (New f args Empty) n m) (r : Ran P c₁ n a₁ b₁ xs₁ ys₁ m x m₁) (z : HasEnded b₁ b₂ ys₁ ys₂ m₁ n x m₂) where
  made_stored : store b₂ ≡ put (after r.trace (store a)) n (written r.trace)
  made_stored =
      store_written z.sets x (ap (λ (j : Record). content_inside (wrote j.entry x)) (at_n new_there g r z))
      ∙ ap₂ (λ (σ : Store) (y : Content). put σ n y) (stored_inside new_there g r z refl) (sym r.wrote)

  made_full : (at b₂ n).entry ≢ Blank
  made_full h = new_there (sym (ap (λ (j : Record). j.entry) (end_n new_there g r z)) ∙ h)

  -- what is blank now is off all of it
  off_made : (ps : List ℕ) → ((q : ℕ) → Among q ps → (at b₂ q).entry ≡ Blank) → Absent n ps
  off_made ps fresh = not_among n ps (λ q l w. made_full (ap (λ (j : ℕ). (at b₂ j).entry) (sym w) ∙ fresh q l))

  off_inside : (ps : List ℕ) → ((q : ℕ) → Among q ps → (at b₂ q).entry ≡ Blank) → (q : ℕ) → Among q (places r.trace) → Absent q ps
  off_inside ps fresh q l = not_among q ps (λ p h w. full new_there g r z q l (ap (λ (j : ℕ). (at b₂ j).entry) (sym w) ∙ fresh p h))

  fresh_all : (ps : List ℕ) → ((q : ℕ) → Among q ps → (at b₂ q).entry ≡ Blank) → (q : ℕ) → Among q (n ∷ (places r.trace ++ ps)) → (at a q).entry ≡ Blank
  fresh_all ps fresh q h = elim h [
    | inl w ↦ ap (λ (j : ℕ). (at a j).entry) w ∙ g.blank
    | inr l ↦ elim (among_cases q (places r.trace) ps l) [
      | inl o ↦ was_blank g new_there q (r.fresh q o)
      | inr o ↦
          let ne : q ≢ n = λ w. made_full (ap (λ (j : ℕ). (at b₂ j).entry) (sym w) ∙ fresh q o) in
          let ab : Absent q (places r.trace) = not_among q (places r.trace) (λ p i w. full new_there g r z p i (ap (λ (j : ℕ). (at b₂ j).entry) w ∙ fresh q o)) in
          ap (λ (j : Record). j.entry) (sym (elsewhere new_there g r z q ne ab)) ∙ fresh q o
    ]
  ]

  -- b₂ → b: the run of what comes behind it
  module _ {c₂ : Code} {d : ℕ} {b : Table} {ys : List ℕ} {y : Content} {m₃ : ℕ} (w : Ran P c₂ d b₂ b ys₂ ys m₂ y m₃) where
    still : (q : ℕ) → (at b₂ q).entry ≢ Blank → at b q ≡ at b₂ q
    still = stays (at b₂) (at b) (places w.trace) w.fresh w.others

    kept : (q : ℕ) → Among q (places r.trace) → at b q ≡ at b₁ q
    kept q l = still q (full new_there g r z q l) ∙ inside new_there g r z q l

    last_n : at b n ≡ record { entry = New f args x; start = m; end = m₂ }
    last_n = still n made_full ∙ end_n new_there g r z

    numbers_made : numbers (at b) (new n f (listed args) r.trace w.trace) ≡ m ∷ (numbers (at b₁) r.trace ++ (m₂ ∷ numbers (at b) w.trace))
    numbers_made = numbers_new (at b) n f (listed args) r.trace w.trace ∙ (let h = numbers_same (at b₁) (at b) r.trace kept in let l = last_n in rw (h, l))

    moved_made : Moved xs cursor (m ∷ (numbers (at b₁) r.trace ++ (m₂ ∷ numbers (at b) w.trace))) ys m₃
    moved_made = moved_as (ap (λ (l : List ℕ). m ∷ l) (append_assoc (numbers (at b₁) r.trace) (m₂ ∷ []) (numbers (at b) w.trace))) (moved_on (stamps_of new_there g r z) w.moved)

    pub ran_new : (c k : Code) → next P c ≡ makes f (listed args) k → c₁ ≡ enter P f (listed args) → c₂ ≡ resume k n → Member xs cursor → Apart ys → Ran P c d a b xs ys cursor y m₃
    ran_new c k e e₁ e₂ mem ay =
        let u = r.trace in
        let v = w.trace in
        let ns = numbers (at b₁) u in
        let ks = numbers (at b) v in
        let av : Apart (m ∷ (ns ++ (m₂ ∷ ks))) = moved_apart mem moved_made ay in
        let m-off = not_append ns (m₂ ∷ ks) m av.0 in
        let m-off₂ = has_none m₂ m ks m-off.1 in
        let in-ns : (j : ℕ) → has ns j ≡ true → (m₂ ≢ j) × (has ks j ≡ false) = λ j h. has_none m₂ j ks (not_both ns (m₂ ∷ ks) j av.1 h) in
        record {
          trace = new n f (listed args) u v;
          run = (let i = run_inside new_there g r z refl in record {
            follows = (k, e, subst (Follows P u) e₁ i.follows, subst (Follows P v) e₂ w.run.follows);
            all_kept = (i.all_kept, subst (Kept v) made_stored w.run.all_kept);
          });
          wrote = w.wrote;
          shape = (ap (λ (j : Record). sort j.entry) last_n, shape_same (at b₁) (at b) n u (λ q l. ap (λ (j : Record). sort j.entry) (kept q l)) r.shape, w.shape);
          holds = (ap (λ (j : Record). content_inside j.entry) last_n ∙ sym r.wrote, holds_same b₁ b u kept r.holds, w.holds);
          stored = w.stored ∙ ap (after v) made_stored;
          apart = (
            absent_join n (places u) (places v) (off g new_there (places u) r.fresh) (off_made (places v) w.fresh),
            distinct_join (places u) (places v) r.apart w.apart (off_inside (places v) w.fresh),
          );
          fresh = fresh_all (places v) w.fresh;
          others = λ q l. w.others q (absent_right q (places u) (places v) l.1) ∙ elsewhere new_there g r z q l.0 (absent_left q (places u) (places v) l.1);
          same = same_trans (same_trans (same_trans g.sets.same r.same) z.sets.same) w.same;
          room = (let h = r.room in let l = g.room in let i = z.room in let o = w.room in omega arith);
          spares = (let h = r.spares in let l = g.spares in let i = z.spares in let o = w.spares in omega arith);
          moved = moved_as (sym numbers_made) moved_made;
          owned = (
            ap (λ (j : Record). owner b j.start) last_n ∙ w.owners m m-off₂.1 ∙ z.owns.others m (λ o. m-off₂.0 (sym o)) ∙ r.owners m m-off.0 ∙ g.owns.here,
            ap (λ (j : Record). owner b j.end) last_n ∙ w.owners m₂ (apart_right ns (m₂ ∷ ks) av.1).0 ∙ z.owns.here,
            owned_same (owner b₁) (owner b) (at b₁) (at b) u kept (λ j h. w.owners j (in-ns j h).1 ∙ z.owns.others j (λ o. (in-ns j h).0 (sym o))) r.owned,
            w.owned,
          );
          owners = λ j h.
              let h₁ = has_none m j (ns ++ (m₂ ∷ ks)) (ap (λ (l : List ℕ). has l j) (sym numbers_made) ∙ h) in
              let h₂ = not_append ns (m₂ ∷ ks) j h₁.1 in
              let h₃ = has_none m₂ j ks h₂.1 in
              w.owners j h₃.1 ∙ z.owns.others j (λ o. h₃.0 (sym o)) ∙ r.owners j h₂.0 ∙ g.owns.others j (λ o. h₁.0 (sym o));
          ready = w.ready;
        }

  -- it begins too many records behind the NEW
  pub over_behind_new : (c k c₂ : Code) → next P c ≡ makes f (listed args) k → c₁ ≡ enter P f (listed args) → c₂ ≡ resume k n → Exceeds P c₂ b₂ → Exceeds P c a
  over_behind_new c k c₂ e e₁ e₂ h =
      let u = r.trace in
      let count : suc (size u + b₂.room) ≡ a.room = (let i = g.room in let j = r.room in let l = z.room in omega arith) in
      record {
        begun_at = n ∷ (places u ++ h.begun_at);
        over = subst (Over P c (store a) (n ∷ (places u ++ h.begun_at))) count
            (over_behind n u e (subst (λ (o : Code). Run P o (store a) u) e₁ (run_inside new_there g r z refl))
            (subst (λ (o : Code). Over P o (put (after u (store a)) n (written u)) h.begun_at b₂.room) e₂ (subst (λ (σ : Store). Over P c₂ σ h.begun_at b₂.room) made_stored h.over)));
        apart = (
          absent_join n (places u) h.begun_at (off g new_there (places u) r.fresh) (off_made h.begun_at h.fresh),
          distinct_join (places u) h.begun_at r.apart h.apart (off_inside h.begun_at h.fresh),
        );
        fresh = fresh_all h.begun_at h.fresh;
      }

-- ── too large ──

pub none_made : {P : View} {c k : Code} {a : Table} {f : ℕ} {vs : List Value} → next P c ≡ makes f vs k → a.room ≡ 0 → Exceeds P c a
none_made {P} {c} {a = a} e h = record { begun_at = []; over = subst (Over P c (store a) []) (sym h) (one_made e); apart = tt; fresh = λ q k. absurd k }

pub none_read : {P : View} {c : Code} {a : Table} {s : Name} {b : Reader} → next P c ≡ reads s b → a.room ≡ 0 → Exceeds P c a
none_read {P} {c} {a} e h = record { begun_at = []; over = subst (Over P c (store a) []) (sym h) (one_read e); apart = tt; fresh = λ q k. absurd k }

-- it begins too many inside its first record
module _ {P : View} {c c₁ k : Code} {a a₁ : Table} {xs xs₁ : List ℕ} {cursor n m f : ℕ} {args : Args} where
  pub over_inside_new : next P c ≡ makes f (listed args) k → HasBegun a a₁ xs xs₁ cursor (New f args Empty) n m → c₁ ≡ enter P f (listed args) →
      Exceeds P c₁ a₁ → Exceeds P c a
  over_inside_new e g e₁ h = record {
    begun_at = n ∷ h.begun_at;
    over = subst (Over P c (store a) (n ∷ h.begun_at)) g.room
        (over_inside n e (subst (λ (o : Code). Over P o (store a) h.begun_at a₁.room) e₁ (subst (λ (σ : Store). Over P c₁ σ h.begun_at a₁.room) (begun_store g refl) h.over)));
    apart = (off g new_there h.begun_at h.fresh, h.apart);
    fresh = fresh_too g new_there h.begun_at h.fresh;
  }

module _ {P : View} {c c₁ : Code} {d : ℕ} {a a₁ : Table} {xs xs₁ : List ℕ} {cursor n m : ℕ} {s : Name} {br : declared.Reader} {y : Content} where
  pub over_inside_read : next P c ≡ reads s (reader_of br) → y ≡ store a s → HasBegun a a₁ xs xs₁ cursor (Read s br y d) n m →
      c₁ ≡ enter P (entered (reader_of br) y) (arguments (reader_of br) y) → Exceeds P c₁ a₁ → Exceeds P c a
  over_inside_read e e₀ g e₁ h = record {
    begun_at = n ∷ h.begun_at;
    over = subst (Over P c (store a) (n ∷ h.begun_at)) g.room
        (over_read n e (subst (λ (o : Code). Over P o (store a) h.begun_at a₁.room) (e₁ ∙ entering P br e₀)
        (subst (λ (σ : Store). Over P c₁ σ h.begun_at a₁.room) (begun_store g refl) h.over)));
    apart = (off g read_there h.begun_at h.fresh, h.apart);
    fresh = fresh_too g read_there h.begun_at h.fresh;
  }
