-- One record begun or ended, from what the table's methods and the list say.
use Rattle.std.proofs.Common.{◌≡◌, ℕ, ◌<◌, ◌≤◌, ◌≢◌, List, [], ◌∷◌, length, get_or, sym, ap, ◌∙◌, subst, inl, inr, arith, get_or-set_other, get_or-set_same}
use Rattle.std.proofs.lemmas.Bool.{cases_eq}
use Rattle.program.specs.declared.value.Content.{Content}
use Rattle.table.specs.declared.record.Record.{Record}
use Rattle.table.specs.declared.record.Entry.{Entry}
use Rattle.table.specs.declared.record.Entry.TheVariants.{Blank}
use Rattle.table.specs.declared.table.Table.{Table}
use Rattle.table.specs.Records.{blank, source_of, wrote}
use Rattle.table.specs.Stamps.{Moved}
use Rattle.table.specs.Standing.{at, Free, Tied}
use Rattle.table.specs.Changes.{SameInputs, Took, Puts, Enters, Owns}
use Rattle.table.specs.Ran.{Ready, Open, Ending, Sets, OwnedBy, HasBegun, HasEnded}
use Rattle.table.proofs.Lists.{moved_member, moved_length}
use Rattle.table.proofs.Ties.{tied_same, tied_enter, source_wrote}

pub same_trans : {a b c : Table} → SameInputs a b → SameInputs b c → SameInputs a c
same_trans h k = record { inputs = k.inputs ∙ h.inputs; noted = k.noted ∙ h.noted }

record_is : {xs ys : List Record} → ys ≡ xs → (q : ℕ) → get_or ys q blank ≡ get_or xs q blank
record_is e q = ap (λ (rs : List Record). get_or rs q blank) e

number_is : {xs ys : List ℕ} → ys ≡ xs → (i : ℕ) → get_or ys i 0 ≡ get_or xs i 0
number_is e i = ap (λ (s : List ℕ). get_or s i 0) e

-- ── the free places ──

-- they stay free, where no more are on the stack than were, and none of them is written
free_less : {a b : Table} → Free a → b.spare ≡ a.spare → b.spares ≤ a.spares →
    ((i : ℕ) → i < b.spares → (at b (get_or a.spare i 0)).entry ≡ (at a (get_or a.spare i 0)).entry) → Free b
free_less {a} {b} y e less same =
    let to : (i : ℕ) → i < b.spares → i < a.spares = λ i k. omega arith in
    record {
      below = λ i k. subst (λ (q : ℕ). q < 1024) (sym (number_is e i)) (y.below i (to i k));
      blank = λ i k. ap (λ (q : ℕ). (at b q).entry) (number_is e i) ∙ same i k ∙ y.blank i (to i k);
      apart = λ i j l k z. y.apart i j l (to j k) (sym (number_is e i) ∙ z ∙ number_is e j);
    }

-- ── a place taken ──

module _ {a t : Table} {p : ℕ} (y : Ready a) (k : Took a t p) where
  last : t.spares < a.spares
  last = let e = k.spares in omega arith

  pub took_below : p < 1024
  took_below = subst (λ (q : ℕ). q < 1024) (sym k.which) (y.free.below t.spares last)

  pub took_blank : (at a p).entry ≡ Blank
  took_blank = ap (λ (q : ℕ). (at a q).entry) k.which ∙ y.free.blank t.spares last

  took_at : (q : ℕ) → at t q ≡ at a q
  took_at q = record_is k.records q

  took_tied : Tied t
  took_tied = tied_same y.tied k.readers (λ q. ap (λ (r : Record). source_of r.entry) (took_at q))

  -- the places that are still free are others
  still_others : (i : ℕ) → i < t.spares → get_or a.spare i 0 ≢ p
  still_others i l e = y.free.apart i t.spares l last (e ∙ k.which)

-- ── a place written ──

put_sets : {a b : Table} {p : ℕ} {r : Record} → p < 1024 → Puts a b p r → Sets a b p r
put_sets {a} {b} {p} {r} below h =
    let l = a.long in
    let w : p < length a.records = omega arith in
    record {
      here = record_is h.records p ∙ get_or-set_same a.records p r blank w;
      others = λ q ne. record_is h.records q ∙ get_or-set_other a.records p q r blank ne;
      same = h.same;
    }

owned_by : {a b : Table} {k p : ℕ} → k < 4096 → Owns a b k p → OwnedBy a b k p
owned_by {a} {b} {k} {p} w h = let l = a.broad in record {
  here = number_is h.owners k ∙ get_or-set_same a.owners k p 0 (omega arith);
  others = λ j ne. number_is h.owners j ∙ get_or-set_other a.owners k j p 0 ne;
}

-- the table a₀ was one whose owners are those of a
owned_from : {a₀ a b : Table} {k p : ℕ} → a.owners ≡ a₀.owners → OwnedBy a b k p → OwnedBy a₀ b k p
owned_from e h = record { here = h.here; others = λ j ne. h.others j ne ∙ number_is e j }

sets_owns : {a b c : Table} {n k p : ℕ} {r : Record} → Sets a b n r → Owns b c k p → Sets a c n r
sets_owns s h = record {
  here = record_is h.records _ ∙ s.here;
  others = λ q ne. record_is h.records q ∙ s.others q ne;
  same = same_trans s.same h.same;
}

ready_owns : {a b : Table} {k p : ℕ} → Ready a → Owns a b k p → Ready b
ready_owns {a} {b} y h = record {
  free = (let e = h.spares in free_less y.free h.spare (omega arith) (λ i l. ap (λ (r : Record). r.entry) (record_is h.records _)));
  tied = tied_same y.tied h.readers (λ q. ap (λ (r : Record). source_of r.entry) (record_is h.records q));
}

-- ── a record begins ──

pub begun : {a t b b' : Table} {c : ℕ} {xs ys : List ℕ} {cursor p m : ℕ} (e : Entry) → Open a c xs cursor → Took a t p →
    Moved xs cursor (m ∷ []) ys m → m < 4096 →
    Puts t b p (record { entry = e; start = m; end = m }) → Enters t b p (record { entry = e; start = m; end = m }) → Owns b b' m p →
    HasBegun a b' xs ys cursor e p m
begun {a} {t} {b} {b'} {c} {xs} {ys} {cursor} {p} {m} e o k mv lt h n w =
    let y = o.ready in
    let below = took_below y k in
    let s = put_sets below h in
    let s₀ : Sets a b p (record { entry = e; start = m; end = m }) = record {
      here = s.here;
      others = λ q ne. s.others q ne ∙ took_at y k q;
      same = same_trans k.same s.same;
    } in
    let ready-b : Ready b = record {
      free = (let e₁ = h.spares in let e₂ = k.spares in free_less y.free (h.spare ∙ k.spare) (omega arith)
          (λ i l. ap (λ (r : Record). r.entry) (s₀.others _ (still_others y k i (omega arith)))));
      tied = tied_enter (took_tied y k) n (ap (λ (r : Record). r.entry) (took_at y k p) ∙ took_blank y k) s.here s.others;
    } in
    record {
      blank = took_blank y k;
      below = below;
      sets = sets_owns s₀ w;
      owns = owned_from (h.owners ∙ k.owners) (owned_by lt w);
      room = (let f₁ = w.room in let f₂ = h.room in let f₃ = k.room in omega arith);
      spares = (let f₁ = w.spares in let f₂ = h.spares in let f₃ = k.spares in omega arith);
      ready = ready_owns ready-b w;
      moved = mv;
    }

-- behind its start a run may begin
pub begun_open : {a b : Table} {c c' : ℕ} {xs ys : List ℕ} {cursor n m : ℕ} {e : Entry} → Open a c xs cursor → HasBegun a b xs ys cursor e n m → c' ≡ c → Open b c' ys m
begun_open o g e =
    let l = moved_length o.member g.moved in
    let r = o.stamps in let f = g.room in
    record { ready = g.ready; member = moved_member o.member g.moved; stamps = omega arith }

-- ── a record ends ──

pub ended : {a b b' : Table} {c : ℕ} {xs ys : List ℕ} {cursor p m : ℕ} {x : Content} {r : Record} {e : Entry} → Ending a c xs cursor p → r ≡ at a p → e ≡ wrote r.entry x →
    Moved xs cursor (m ∷ []) ys m → m < 4096 →
    Puts a b p (record { entry = e; start = r.start; end = m }) → b.readers ≡ a.readers → Owns b b' m p →
    HasEnded a b' xs ys cursor p x m
ended {a} {b} {b'} {c} {xs} {ys} {cursor} {p} {m} {x} {r} {e} o is re mv lt h n w =
    let y = o.ready in
    let s = put_sets o.below h in
    let s₀ : Sets a b p (record { entry = wrote (at a p).entry x; start = (at a p).start; end = m }) =
    subst (λ (q : Record). Sets a b p (record { entry = wrote q.entry x; start = q.start; end = m })) is
    (subst (λ (z : Entry). Sets a b p (record { entry = z; start = r.start; end = m })) re s) in
    let ready-b : Ready b = record {
      free = (let e₁ = h.spares in free_less y.free h.spare (omega arith)
          (λ i l. ap (λ (q : Record). q.entry) (s.others _ (λ z. o.there (ap (λ (q : ℕ). (at a q).entry) (sym z) ∙ y.free.blank i (omega arith))))));
      tied = tied_put y s₀;
    } in
    record {
      sets = sets_owns s₀ w;
      owns = owned_from h.owners (owned_by lt w);
      room = w.room ∙ h.room;
      spares = w.spares ∙ h.spares;
      ready = ready_owns ready-b w;
      moved = mv;
    }
  where
    tied_put : Ready a → Sets a b p (record { entry = wrote (at a p).entry x; start = (at a p).start; end = m }) → Tied b
    tied_put y s = tied_same y.tied n (λ q. elim (cases_eq q p) [
      | inl z ↦ subst (λ (j : ℕ). source_of (at b j).entry ≡ source_of (at a j).entry) (sym z)
          (ap (λ (k : Record). source_of k.entry) s.here ∙ source_wrote (at a p).entry x)
      | inr z ↦ ap (λ (k : Record). source_of k.entry) (s.others q z)
    ])
