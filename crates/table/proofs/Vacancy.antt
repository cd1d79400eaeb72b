-- A table in which nothing stands.
use Rattle.std.proofs.Common.{◌≡◌, ℕ, ◌+◌, ◌*◌, ◌<◌, ◌≤◌, eqb, List, [], ◌∷◌, get_or, sym, refl, ap, ◌∙◌, subst, arith}
use Rattle.std.proofs.lemmas.Bool.{ne_eqb}
use Rattle.table.specs.declared.record.Entry.{Entry}
use Rattle.table.specs.declared.record.Entry.TheVariants.{Blank}
use Rattle.table.specs.declared.table.Table.{Table}
use Rattle.table.specs.Records.{source_of}
use Rattle.table.specs.Rings.{Rings}
use Rattle.table.specs.Standing.{at, Free, Tied, Standing}
use Rattle.table.specs.Anew.{nothing, Vacant}

-- all places are blank, the first 2L are on the stack, and no source has a reader
pub record BlankTable (L : ℕ) (t : Table) : Type 0 where
  pub blank : (q : ℕ) → (at t q).entry ≡ Blank
  pub spares : t.spares ≡ 2 * L
  pub spare : (i : ℕ) → i < 1024 → get_or t.spare i 0 ≡ i
  pub rings : Rings t.readers (λ _. [])

module _ {L : ℕ} {t : Table} (few : L ≤ 512) (b : BlankTable L t) where
  below_all : (i : ℕ) → i < t.spares → i < 1024
  below_all i l = let e = b.spares in omega arith

  all_free : Free t
  all_free = record {
    below = λ i l. subst (λ (q : ℕ). q < 1024) (sym (b.spare i (below_all i l))) (below_all i l);
    blank = λ i l. b.blank (get_or t.spare i 0);
    apart = λ i j l k e. let z : i ≡ j = sym (b.spare i (below_all i (omega arith))) ∙ e ∙ b.spare j (below_all j k) in absurd (omega arith);
  }

  none_tied : Tied t
  none_tied = record {
    readers = λ _. [];
    rings = b.rings;
    exact = λ s l k. sym (ap (λ (e : Entry). eqb (source_of e) s) (b.blank k) ∙ ne_eqb 1280 s (λ z. absurd (omega arith)));
  }

  pub vacant : Vacant L t
  vacant c wide = record {
    shape = tt;
    holds = tt;
    apart = tt;
    only = λ q k. b.blank q;
    listed = refl;
    owned = tt;
    free = all_free;
    counted = (let e = b.spares in omega arith);
    tied = none_tied;
    wide = wide;
  }

-- the table with a list of the base alone
pub standing_in : {L c : ℕ} {t : Table} {xs : List ℕ} → xs ≡ 0 ∷ [] → 4 * L + 1 ≤ c → Vacant L t → Standing L c t xs nothing
standing_in {L} {c} {t} e wide v = subst (λ (l : List ℕ). Standing L c t l nothing) (sym e) (v c wide)
