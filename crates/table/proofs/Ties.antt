-- The readers of each source while records begin and end.
use Rattle.std.proofs.Common.{◌≡◌, ℕ, ◌<◌, false, eqb, ◌≢◌, sym, refl, ap, ◌∙◌, subst, inl, inr, arith}
use Rattle.std.proofs.lemmas.Bool.Decides.{eqb_tells}
use Rattle.std.proofs.lemmas.Bool.{ne_eqb, eq-eqb}
use Rattle.program.specs.declared.value.Content.{Content}
use Rattle.order_list.specs.Order.{has}
use Rattle.table.specs.declared.readers.Readers.{Readers}
use Rattle.table.specs.declared.record.Record.{Record}
use Rattle.table.specs.declared.record.Entry.{Entry}
use Rattle.table.specs.declared.record.Entry.TheVariants.{Blank, New, Read, Dropped}
use Rattle.table.specs.declared.table.Table.{Table}
use Rattle.table.specs.Records.{source_of, wrote}
use Rattle.table.specs.Rings.{Rings, NoReader, Unlinked, joined}
use Rattle.table.specs.Standing.{at, Tied}
use Rattle.table.specs.Changes.{Enters}

-- a blank place is a reader of no source
no_reader : {t : Table} (T : Tied t) (p : ℕ) → (at t p).entry ≡ Blank → NoReader T.readers p
no_reader T p e s l = T.exact s l p ∙ ap (λ (x : Entry). eqb (source_of x) s) e ∙ ne_eqb 1280 s (λ z. absurd (omega arith))

pub unlinked : {t : Table} → Tied t → (p : ℕ) → (at t p).entry ≡ Blank → Unlinked t.readers p
unlinked T p e = record { readers = T.readers; rings = T.rings; none = no_reader T p e }

-- the rings stay, and every record reads what it read
pub tied_same : {a b : Table} → Tied a → b.readers ≡ a.readers → ((k : ℕ) → source_of (at b k).entry ≡ source_of (at a k).entry) → Tied b
tied_same T e same = record {
  readers = T.readers;
  rings = subst (λ (r : Readers). Rings r T.readers) (sym e) T.rings;
  exact = λ s l k. T.exact s l k ∙ ap (λ (n : ℕ). eqb n s) (sym (same k));
}

pub source_wrote : (e : Entry) (x : Content) → source_of (wrote e x) ≡ source_of e
source_wrote Blank x = refl
source_wrote (New f args c) x = refl
source_wrote (Read s b c d) x = refl
source_wrote (Dropped c) x = refl

-- a record begins at a blank place
pub tied_enter : {a b : Table} {p : ℕ} {r : Record} → Tied a → Enters a b p r → (at a p).entry ≡ Blank → at b p ≡ r → ((q : ℕ) → q ≢ p → at b q ≡ at a q) → Tied b
tied_enter {a} {b} {p} {r} T n e here others =
    let f = T.readers in
    let s₀ = source_of r.entry in
    record {
      readers = joined f s₀ p;
      rings = n.joins f T.rings (no_reader T p e);
      exact = λ s l k. elim (eqb_tells p k) [
        | inl z ↦ subst (λ (j : ℕ). has (joined f s₀ p s) j ≡ eqb (source_of (at b j).entry) s) z.1
            (at_p s l ∙ ap (λ (x : Record). eqb (source_of x.entry) s) (sym here))
        | inr z ↦ elsewhere s k z.0 ∙ T.exact s l k ∙ ap (λ (x : Record). eqb (source_of x.entry) s) (sym (others k (λ w. z.1 (sym w))))
      ];
    }
  where
    at_p : (s : ℕ) → s < 1280 → has (joined T.readers (source_of r.entry) p s) p ≡ eqb (source_of r.entry) s
    at_p s l = elim (eqb_tells (source_of r.entry) s) [
      | inl z ↦ rw z.0 (let w = eq-eqb p p refl in rw w)
      | inr z ↦ rw z.0 (no_reader T p e s l)
    ]

    elsewhere : (s k : ℕ) → eqb p k ≡ false → has (joined T.readers (source_of r.entry) p s) k ≡ has (T.readers s) k
    elsewhere s k z = elim (eqb_tells (source_of r.entry) s) [ inl w ↦ rw w.0 (rw z) | inr w ↦ rw w.0 ]
