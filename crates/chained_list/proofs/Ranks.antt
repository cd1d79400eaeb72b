-- Ranks, and an insertion into the renumbering list.
use Rattle.std.proofs.Common.{◌≡◌, ℕ, zero, suc, ◌+◌, ◌<◌, ◌≤◌, true, false, List, [], ◌∷◌, length, get_or, Ok, sym, refl, ap, ◌∙◌, inl, inr, add-one, arith}
use Rattle.std.proofs.lemmas.List.{get_or_past}
use Rattle.std.proofs.lemmas.Bool.Decides.{eqb_tells}
use Rattle.std.proofs.lemmas.Bool.{cases_eq, cases_lt, eq-eqb, ne_eqb}
use Rattle.order_list.specs.Order.{has, Apart, Based, insert_after, Inserted}
use Rattle.chained_list.specs.Chain.{first, chain, order, Linked, Over, Rising, Sound, Room, Strung, Spare, Ranging, Spliced, Retagged, Ranked, next_of, tag_of, mark, tagged}
use Rattle.chained_list.specs.Tags.{ranked_from, put_behind, ranks_after_insert}
use Rattle.chained_list.specs.declared.member.Member.{Member}
use Rattle.order_list.proofs.Lists.{has_here, has_there, has_tail, apart_from, under_has, fits, based_has}
use Rattle.chained_list.proofs.Marks.{mark_insert}
use Rattle.chained_list.proofs.Writes.{retag, retagged_more, tag_at, part_same}
use Rattle.chained_list.proofs.Chains.{chain_is, chain_first, cleared_splice, cleared_retagged, order_is, used_is, strung_splice, strung_retagged, spare_splice, spare_retagged, behind_first, sound_from, not_full, has_m, has_h, h_below}

-- by index
pub has_at : (xs : List ℕ) (i : ℕ) → i < length xs → has xs (get_or xs i 0) ≡ true
has_at [] i h = absurd (omega arith)
has_at (x ∷ xs) zero h = has_here x x xs refl
has_at (x ∷ xs) (suc i) h = has_there x (get_or xs i 0) xs (has_at xs i (omega arith))

pub apart_at : (xs : List ℕ) (i j : ℕ) → Apart xs → i < j → j < length xs → get_or xs i 0 ≡ get_or xs j 0 → ⊥
apart_at [] i j a lt h e = omega arith
apart_at (x ∷ xs) i zero a lt h e = omega arith
apart_at (x ∷ xs) zero (suc j) a lt h e = apart_from (get_or xs j 0) x xs a.0 (has_at xs j (omega arith)) (sym e)
apart_at (x ∷ xs) (suc i) (suc j) a lt h e = apart_at xs i j a.1 (omega arith) (omega arith) e

pub first_at : (xs : List ℕ) → first xs ≡ get_or xs 0 0
first_at [] = refl
first_at (x ∷ xs) = refl

pub linked_at : (f : ℕ → ℕ) (xs : List ℕ) (i : ℕ) → Linked f xs → i < length xs → f (get_or xs i 0) ≡ get_or xs (suc i) 0
linked_at f [] i l h = absurd (omega arith)
linked_at f (x ∷ xs) zero l h = l.0 ∙ first_at xs
linked_at f (x ∷ xs) (suc i) l h = linked_at f xs i l.1 (omega arith)

some : (xs : List ℕ) → Based xs → 0 < length xs
some [] b = absurd b
some (x ∷ xs) b = omega arith

pub based_at : (xs : List ℕ) → Based xs → get_or xs 0 0 ≡ 0
based_at [] b = absurd b
based_at (x ∷ xs) b = b

-- only the base is 0, so what links to 0 is last
pub last_at : (xs : List ℕ) (i : ℕ) → Based xs → Apart xs → i < length xs → get_or xs (suc i) 0 ≡ 0 → suc i ≡ length xs
last_at xs i b a h e =
    elim (cases_lt (suc i) (length xs)) [
      | inl lt ↦ absurd (apart_at xs 0 (suc i) a (omega arith) lt (based_at xs b ∙ sym e))
      | inr le ↦ omega arith
    ]

pub ranked_more : (qs : List Member) (xs : List ℕ) (i r : ℕ) → i < length qs → i ≡ get_or xs r 0 → r < length xs → Apart xs →
    Ranked qs xs r → Ranked (retag qs i r) xs (suc r)
ranked_more qs xs i r h e lt a rk j hj =
    let w = tag_at qs i r h (get_or xs j 0) in
    elim (cases_eq j r) [
      | inl s ↦ w ∙ rw (eq-eqb i (get_or xs j 0) (e ∙ ap (λ (x : ℕ). get_or xs x 0) (sym s))) (sym s)
      | inr ne ↦
          let lj : j < r = omega arith in
          w ∙ rw (ne_eqb i (get_or xs j 0) (λ q. apart_at xs j r a lj lt (sym q ∙ e))) (rk j lj)
    ]

-- a turn of the renumbering loop
pub within : (ps qs : List Member) (xs : List ℕ) (r i : ℕ) → Strung ps xs → Retagged ps qs → r < length xs → i ≡ get_or xs r 0 → i < length qs
within ps qs xs r i s t h e = omega (arith, under_has (length ps) xs (get_or xs r 0) s.under (has_at xs r h), t.size)

pub onward : (ps qs : List Member) (xs : List ℕ) (r i : ℕ) → Strung ps xs → Retagged ps qs → r < length xs → i ≡ get_or xs r 0 → next_of qs i ≡ get_or xs (suc r) 0
onward ps qs xs r i s t h e = t.links i ∙ ap (next_of ps) e ∙ linked_at (next_of ps) xs r s.linked h

pub record Turned (ps qs : List Member) (xs : List ℕ) (r i : ℕ) : Type 0 where
  pub same : Retagged ps (retag qs i r)
  pub next : next_of (retag qs i r) i ≡ get_or xs (r + 1) 0
  pub ranks : Ranked (retag qs i r) xs (r + 1)

pub turned : (ps qs : List Member) (xs : List ℕ) (r i : ℕ) → Strung ps xs → Retagged ps qs → r < length xs → i ≡ get_or xs r 0 → Ranked qs xs r → Turned ps qs xs r i
turned ps qs xs r i s t h e rk =
    let lt = within ps qs xs r i s t h e in
    record {
      same = retagged_more ps qs i r lt (used_is ps xs s i ∙ ap (has xs) e ∙ has_at xs r h) t;
      next = rw add-one (part_same (λ (p : Member). p.next) qs i _ lt refl i ∙ onward ps qs xs r i s t h e);
      ranks = rw add-one (ranked_more qs xs i r lt e h s.apart rk);
    }

-- a link to a member is no link to none
pub goes_on : (xs : List ℕ) (i : ℕ) → (get_or xs (i + 1) 0 ≡ 0 → ⊥) → i < length xs → i + 1 < length xs
goes_on xs i ne h = elim (cases_lt (i + 1) (length xs)) [ inl lt ↦ lt | inr le ↦ absurd (ne (get_or_past xs (i + 1) 0 le)) ]

pub stops : (xs : List ℕ) (i : ℕ) → Based xs → Apart xs → i < length xs → get_or xs (i + 1) 0 ≡ 0 → i + 1 ≡ length xs
stops xs i b a h e = let e' : get_or xs (suc i) 0 ≡ 0 = rw add-one at e in omega (arith, last_at xs i b a h e')

-- ranks rise
over_ranked : (t : ℕ → ℕ) (b : ℕ) (xs : List ℕ) (d : ℕ) → b < d → ((j : ℕ) → j < length xs → t (get_or xs j 0) ≡ d + j) → Over t b xs
over_ranked t b [] d lt h = tt
over_ranked t b (x ∷ xs) d lt h =
    let e0 : t x ≡ d + 0 = h 0 (omega arith) in
    (omega arith, over_ranked t b xs (suc d) (omega arith) (λ j hj. let e : t (get_or xs j 0) ≡ d + suc j = h (suc j) (omega arith) in omega arith))

pub rising_ranked : (t : ℕ → ℕ) (xs : List ℕ) (d : ℕ) → ((j : ℕ) → j < length xs → t (get_or xs j 0) ≡ d + j) → Rising t xs
rising_ranked t [] d h = tt
rising_ranked t (x ∷ xs) d h =
    let e0 : t x ≡ d + 0 = h 0 (omega arith) in
    let more : (j : ℕ) → j < length xs → t (get_or xs j 0) ≡ suc d + j = λ j hj. let e : t (get_or xs j 0) ≡ d + suc j = h (suc j) (omega arith) in omega arith in
    (over_ranked t (t x) xs (suc d) (omega arith) more, rising_ranked t xs (suc d) more)

-- where a member stands
index_of : (xs : List ℕ) (k : ℕ) → has xs k ≡ true → (i : ℕ) × ((i < length xs) × (get_or xs i 0 ≡ k))
index_of [] k h = let z : false ≡ true = h in absurd (grind arith)
index_of (x ∷ xs) k h =
    elim (eqb_tells x k) [
      | inl e ↦ (0, (omega arith, e.1))
      | inr ne ↦ let r = index_of xs k (has_tail x k xs ne.1 h) in (suc r.0, (omega (arith, r.1.0), r.1.1))
    ]

ranging_ranked : (qs : List Member) (xs : List ℕ) → Strung qs xs → length qs ≤ 4096 → Ranked qs xs (length xs) → Ranging (tag_of qs) xs
ranging_ranked qs xs s few rk =
    let le = fits (length qs) xs s.apart s.under in
    record {
      base = (let z = based_at xs s.based in ap (tag_of qs) (sym z) ∙ rk 0 (some xs s.based));
      rising = rising_ranked (tag_of qs) xs 0 (λ j h. let e = rk j h in omega arith);
      below = λ k hk. let r = index_of xs k hk in omega (arith, ap (tag_of qs) r.1.1, rk r.0 r.1.0, r.1.0);
    }

-- the members with the ranks d, d + 1, d + 2 ..
mark_ranked : (t u : ℕ → ℕ) (xs : List ℕ) (d : ℕ) → ((j : ℕ) → j < length xs → t (get_or xs j 0) ≡ d + j) → mark t xs ≡ ranked_from d (mark u xs)
mark_ranked t u [] d h = refl
mark_ranked t u (x ∷ xs) d h =
    let e0 : t x ≡ d + 0 = h 0 (omega arith) in
    let e : t x ≡ d = omega arith in
    let r = mark_ranked t u xs (suc d) (λ j hj. let q : t (get_or xs j 0) ≡ d + suc j = h (suc j) (omega arith) in omega arith) in
    rw (e, r)

module _ (ps : List Member) (n m : ℕ) (g : Room ps n m) (qs : List Member) (sp : Spliced ps qs m n 0) where
  strung_after : Strung qs (insert_after (order ps) m n)
  strung_after = strung_splice ps qs (order ps) m n 0 (has_m ps n m g) (has_h ps n m g) (h_below ps n m g) sp g.sound.holds.strung

  same_order : order qs ≡ insert_after (order ps) m n
  same_order = order_is qs (insert_after (order ps) m n) strung_after

  -- what the renumbering asks
  pub strung_order : Strung qs (order qs)
  strung_order = rw same_order strung_after

  module _ (rs : List Member) (t : Retagged qs rs) (rk : Ranked rs (order qs) (length (order qs))) where
    strung_last : Strung rs (insert_after (order ps) m n)
    strung_last = strung_retagged qs rs (insert_after (order ps) m n) t strung_after

    last_order : order rs ≡ insert_after (order ps) m n
    last_order = order_is rs (insert_after (order ps) m n) strung_last

    rk' : Ranked rs (insert_after (order ps) m n) (length (insert_after (order ps) m n))
    rk' = rw same_order at rk

    spare_last : Spare rs (insert_after (order ps) m n) (next_of ps n) (behind_first (chain ps n))
    spare_last =
        spare_retagged qs rs (insert_after (order ps) m n) (next_of ps n) (behind_first (chain ps n)) t
        (spare_splice ps qs (order ps) m n 0 (chain ps n) (has_m ps n m g) g.some sp g.sound.spare)

    pub chain_after : chain ps n ≡ n ∷ chain rs (next_of ps n)
    chain_after =
        let e = chain_is rs (insert_after (order ps) m n) (next_of ps n) (behind_first (chain ps n)) (based_has (insert_after (order ps) m n) strung_last.based)
        (omega (arith, t.size, sp.size, g.sound.some)) spare_last in
        chain_first ps (order ps) n (chain ps n) g.sound.spare g.some ∙ ap (λ (ys : List ℕ). n ∷ ys) (sym e)

    pub sound_after : Sound rs (next_of ps n)
    sound_after =
        sound_from rs (insert_after (order ps) m n) (next_of ps n) (behind_first (chain ps n))
        (omega (arith, t.size, sp.size, g.sound.some)) (omega (arith, t.size, sp.size, g.sound.few)) strung_last
        (ranging_ranked rs (insert_after (order ps) m n) strung_last (omega (arith, t.size, sp.size, g.sound.few)) rk')
        (cleared_retagged qs rs (insert_after (order ps) m n) strung_after t
        (cleared_splice ps qs (order ps) m n 0 (has_m ps n m g) g.sound.holds.strung sp g.sound.cleared))
        spare_last

    pub inserted_after : Inserted (length ps) (order ps) m (Ok n) (order rs)
    inserted_after = (not_full ps n m g, has_h ps n m g, h_below ps n m g, last_order)

    pub ranked_after : tagged rs ≡ ranks_after_insert (tagged ps) m n
    ranked_after =
        let xs = insert_after (order ps) m n in
        let one : tagged rs ≡ mark (tag_of rs) xs = ap (mark (tag_of rs)) last_order in
        let two : mark (tag_of rs) xs ≡ ranked_from 0 (mark (tag_of qs) xs) = mark_ranked (tag_of rs) (tag_of qs) xs 0 (λ j h. let e = rk' j h in omega arith) in
        let out = has_h ps n m g in
        let three : mark (tag_of qs) xs ≡ put_behind (tagged ps) m n 0 =
        mark_insert (tag_of ps) (tag_of qs) m n 0 (order ps) sp.tag (λ k hk. sp.tags k (apart_from k n (order ps) out hk)) in
        one ∙ two ∙ ap (ranked_from 0) three
