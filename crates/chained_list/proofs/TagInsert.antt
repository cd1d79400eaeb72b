-- An insertion into the tag-range list.
use Rattle.std.proofs.Common.{◌≡◌, ℕ, ◌+◌, ◌-◌, ◌*◌, ◌/◌, ◌^◌, ◌<◌, ◌≤◌, Bool, true, false, cond, ltb, ◌⊎◌, List, [], ◌∷◌, length, Ok, sym, refl, ap, ◌∙◌, inl, inr, arith}
use Rattle.std.proofs.lemmas.Bool.Decides.{eqb_tells}
use Rattle.std.proofs.lemmas.Bool.{cases_eq, lt-ltb, le-ltb}
use Rattle.order_list.specs.Order.{has, insert_after, Inserted}
use Rattle.chained_list.specs.Tags.{among, start, loose_level, spread_tag, Tagged, tags_of, retag, tag_at, behind_tag, spread, put_behind, halfway, tags_after_insert}
use Rattle.chained_list.specs.Chain.{order, chain, Over, Rising, Strung, Spare, Ranging, Holds, Sound, Room, Spliced, next_of, tag_of, mark, tags, tagged}
use Rattle.chained_list.specs.Spreading.{LooseBlock, SpreadOut, RoomMade}
use Rattle.chained_list.specs.declared.member.Member.{Member}
use Rattle.order_list.proofs.Lists.{has_here, has_there, has_none, has_tail, apart_from, has_insert, based_has}
use Rattle.chained_list.proofs.Looks.{over_at}
use Rattle.chained_list.proofs.Remove.{rising_same}
use Rattle.chained_list.proofs.Marks.{mark_insert, tags_mark}
use Rattle.chained_list.proofs.Chains.{chain_is, chain_first, cleared_splice, cleared_retagged, order_is, strung_retagged, spare_retagged, strung_splice, spare_splice, behind_first, sound_from, not_full, has_m, has_h, h_below}
use Rattle.chained_list.proofs.Neighbours.{in_tags, next_member, next_higher, between, tag_at_tagged, behind_last, behind_next}
use Rattle.chained_list.proofs.Spread.{start_le, start_end, climbs, keeps_below, keeps_zero, room, spread_high}

-- pointwise
pub over_all : (t : ℕ → ℕ) (b : ℕ) (xs : List ℕ) → ((k : ℕ) → has xs k ≡ true → b < t k) → Over t b xs
over_all t b [] f = tt
over_all t b (x ∷ xs) f = (f x (has_here x x xs refl), over_all t b xs (λ k h. f k (has_there x k xs h)))

rising_by : (t u : ℕ → ℕ) (xs : List ℕ) → ((a b : ℕ) → has xs a ≡ true → has xs b ≡ true → t a < t b → u a < u b) → Rising t xs → Rising u xs
rising_by t u [] f r = tt
rising_by t u (x ∷ xs) f r = (
  over_all u (u x) xs (λ k h. f x k (has_here x x xs refl) (has_there x k xs h) (over_at t (t x) xs k r.0 h)),
  rising_by t u xs (λ a b ha hb. f a b (has_there x a xs ha) (has_there x b xs hb)) r.1,
)

mark_retag : (t u g : ℕ → ℕ) (xs : List ℕ) → ((k : ℕ) → has xs k ≡ true → u k ≡ g (t k)) → mark u xs ≡ retag g (mark t xs)
mark_retag t u g [] f = refl
mark_retag t u g (x ∷ xs) f =
    let e = f x (has_here x x xs refl) in
    let r = mark_retag t u g xs (λ k h. f k (has_there x k xs h)) in
    rw (e, r)

-- the room made by a spread
module _ (ps qs : List Member) (m f s w n : ℕ) (h : Holds ps (order ps)) (hm : has (order ps) m ≡ true) (b : LooseBlock ps m f s w n) (sp : SpreadOut ps qs s w) where
  wide : 2 * among s (s + w) (tags ps) ≤ w
  wide = omega (arith, b.ready.wide, b.ready.count)

  m_low : s ≤ tag_of ps m
  m_low = omega (arith, b.begins, start_le (loose_level (tags ps) (tag_of ps m)) (tag_of ps m))

  m_high : tag_of ps m < s + w
  m_high = omega (arith, b.begins, b.width, start_end (loose_level (tags ps) (tag_of ps m)) (tag_of ps m))

  strung : Strung qs (order ps)
  strung = strung_retagged ps qs (order ps) sp.same h.strung

  same_order : order qs ≡ order ps
  same_order = order_is qs (order ps) strung

  ranging : Ranging (tag_of qs) (order ps)
  ranging = record {
    base = sp.after 0 (based_has (order ps) h.strung.based) ∙ ap (spread_tag s w (tags ps)) h.ranging.base ∙ keeps_zero s w (tags ps);
    rising = rising_by (tag_of ps) (tag_of qs) (order ps) (λ a c ha hc lt.
        omega (arith, sp.after a ha, sp.after c hc, climbs s w (tags ps) wide (tag_of ps a) (tag_of ps c) (in_tags ps h a ha) (in_tags ps h c hc) lt)) h.ranging.rising;
    below = λ k hk. omega (arith, sp.after k hk, keeps_below s w (tags ps) wide (tag_of ps k) 4294967296 (in_tags ps h k hk) b.ready.top (h.ranging.below k hk));
  }

  holds_after : Holds qs (order qs)
  holds_after = rw same_order (record { strung = strung; ranging = ranging })

  hm' : has (order qs) m ≡ true
  hm' = ap (λ (xs : List ℕ). has xs m) same_order ∙ hm

  room_after : 2 ≤ behind_tag (tagged qs) m - tag_of qs m
  room_after =
      let e = sp.after m hm in
      let l = sp.same.links m in
      elim (cases_eq (next_of ps m) 0) [
        | inl z ↦
            let r = room s w (tags ps) wide (tag_of ps m) 4294967296 (in_tags ps h m hm) m_low m_high (h.ranging.below m hm) (inr b.ready.top) in
            omega (arith, behind_last qs holds_after m hm' (l ∙ z), spread_high s w (tags ps) 4294967296 b.ready.top)
        | inr nz ↦
            let x = next_member ps h m hm nz in
            let r = room s w (tags ps) wide (tag_of ps m) (tag_of ps (next_of ps m)) (in_tags ps h m hm) m_low m_high (next_higher ps h m hm nz) (inl (in_tags ps h (next_of ps m) x)) in
            omega (arith, behind_next qs holds_after m hm' (λ z. nz (sym l ∙ z)), ap (tag_of qs) l, sp.after (next_of ps m) x)
      ]

  tags_after : tagged qs ≡ spread (tagged ps) (tag_at (tagged ps) m)
  tags_after =
      let ea = tag_at_tagged ps h m hm in
      let et = tags_mark (tag_of ps) (order ps) in
      let one : tagged qs ≡ mark (tag_of qs) (order ps) = ap (mark (tag_of qs)) same_order in
      let two : mark (tag_of qs) (order ps) ≡ retag (spread_tag s w (tags ps)) (tagged ps) = mark_retag (tag_of ps) (tag_of qs) (spread_tag s w (tags ps)) (order ps) sp.after in
      let fun : ℕ → List ℕ → List Tagged = λ a ts. retag (spread_tag (start (loose_level ts a) a) (2 ^ loose_level ts a) ts) (tagged ps) in
      let three : retag (spread_tag s w (tags ps)) (tagged ps) ≡ fun (tag_of ps m) (tags ps) =
      ap (λ (x : ℕ). retag (spread_tag x w (tags ps)) (tagged ps)) b.begins ∙
      ap (λ (x : ℕ). retag (spread_tag (start (loose_level (tags ps) (tag_of ps m)) (tag_of ps m)) x (tags ps)) (tagged ps)) b.width in
      let four : fun (tag_of ps m) (tags ps) ≡ fun (tag_at (tagged ps) m) (tags_of (tagged ps)) =
      ap (λ (x : ℕ). fun x (tags ps)) (sym ea) ∙ ap (fun (tag_at (tagged ps) m)) (sym et) in
      one ∙ two ∙ three ∙ four

  pub spread_made : behind_tag (tagged ps) m - tag_of ps m < 2 → RoomMade ps qs m
  spread_made lt = record {
    same = sp.same;
    kept = same_order;
    holds = holds_after;
    room = room_after;
    after = (let c : ltb (behind_tag (tagged ps) m - tag_at (tagged ps) m) 2 ≡ true = lt-ltb (behind_tag (tagged ps) m - tag_at (tagged ps) m) 2 (omega (arith, tag_at_tagged ps h m hm)) in rw c tags_after);
  }

pub enough : (ps : List Member) (m : ℕ) → Holds ps (order ps) → has (order ps) m ≡ true → 2 ≤ behind_tag (tagged ps) m - tag_of ps m → RoomMade ps ps m
enough ps m h hm le = record {
  same = record { size = refl; links = λ _. refl; backs = λ _. refl; marks = λ _. refl; others = λ _ _. refl };
  kept = refl;
  holds = h;
  room = le;
  after = (let c : ltb (behind_tag (tagged ps) m - tag_at (tagged ps) m) 2 ≡ false = le-ltb (behind_tag (tagged ps) m - tag_at (tagged ps) m) 2 (omega (arith, tag_at_tagged ps h m hm)) in rw c refl);
}

-- the tag is behind m's, or there is none
pub behind_over : (ps : List Member) (m : ℕ) → Holds ps (order ps) → has (order ps) m ≡ true → (tag_of ps m < behind_tag (tagged ps) m) × (behind_tag (tagged ps) m ≤ 4294967296)
behind_over ps m h hm =
    elim (cases_eq (next_of ps m) 0) [
      | inl z ↦ let e = behind_last ps h m hm z in (omega (arith, e, h.ranging.below m hm), omega (arith, e))
      | inr nz ↦
          let e = behind_next ps h m hm nz in
          (omega (arith, e, next_higher ps h m hm nz), omega (arith, e, h.ranging.below (next_of ps m) (next_member ps h m hm nz)))
    ]

-- a tag put between
rising_insert : (t u : ℕ → ℕ) (m n v : ℕ) → u n ≡ v → t m < v → (xs : List ℕ) → has xs m ≡ true → has xs n ≡ false → ((k : ℕ) → has xs k ≡ true → u k ≡ t k) →
    ((k : ℕ) → has xs k ≡ true → (t k ≤ t m) ⊎ (v < t k)) → Rising t xs → Rising u (insert_after xs m n)
rising_insert t u m n v un mv [] hm hn same f r = tt
rising_insert t u m n v un mv (x ∷ xs) hm hn same f r =
    let more : (k : ℕ) → has xs k ≡ true → u k ≡ t k = λ k h. same k (has_there x k xs h) in
    let here = same x (has_here x x xs refl) in
    elim (eqb_tells x m) [
      | inl p ↦
          let e : t x ≡ t m = ap t p.1 in
          rw p.0 (
            (omega arith, over_all u (u x) xs (λ k h. omega (arith, over_at t (t x) xs k r.0 h, more k h))),
            (
              over_all u (u n) xs (λ k h. elim (f k (has_there x k xs h)) [
                | inl le ↦ absurd (omega (arith, over_at t (t x) xs k r.0 h))
                | inr lt ↦ omega (arith, more k h)
              ]),
              rising_same t u xs more r.1,
            ),
          )
      | inr p ↦
          let hm' = has_tail x m xs p.1 hm in
          let hn' = (has_none x n xs hn).1 in
          rw p.0 (
            over_all u (u x) (insert_after xs m n) (λ k h.
                elim (cases_eq k n) [
                  | inl e ↦ omega (arith, ap u e, over_at t (t x) xs m r.0 hm')
                  | inr ne ↦
                      let i = has_insert xs m n k hm' in
                      let hk : has xs k ≡ true = elim (eqb_tells n k) [ inl q ↦ absurd (ne (sym q.1)) | inr q ↦ let i' = rw q.0 at i in sym i' ∙ h ] in
                      omega (arith, over_at t (t x) xs k r.0 hk, more k hk)
                ]),
            rising_insert t u m n v un mv xs hm' hn' more (λ k h. f k (has_there x k xs h)) r.1,
          )
    ]

halfway_cond : (b : Bool) (x y : List Tagged) (m n : ℕ) → halfway (cond b x y) m n ≡ cond b (halfway x m n) (halfway y m n)
halfway_cond true x y m n = refl
halfway_cond false x y m n = refl

-- room made keeps the list in order
module _ (ps qs : List Member) (h m : ℕ) (k : Sound ps h) (rm : RoomMade ps qs m) where
  pub same_chain : chain qs h ≡ chain ps h
  same_chain =
      chain_is qs (order ps) h (chain ps h) (based_has (order ps) k.holds.strung.based) (omega (arith, rm.same.size, k.some))
      (spare_retagged ps qs (order ps) h (chain ps h) rm.same k.spare)

  pub sound_made : Sound qs h
  sound_made = record {
    some = omega (arith, rm.same.size, k.some);
    few = omega (arith, rm.same.size, k.few);
    holds = rm.holds;
    cleared = rw rm.kept (cleared_retagged ps qs (order ps) k.holds.strung rm.same k.cleared);
    spare = rw (rm.kept, same_chain) (spare_retagged ps qs (order ps) h (chain ps h) rm.same k.spare);
  }

module _ (ps qs : List Member) (n m : ℕ) (g : Room ps n m) (rm : RoomMade ps qs m) where
  made : Sound qs n
  made = sound_made ps qs n m g.sound rm

  pub has_m' : has (order qs) m ≡ true
  has_m' = ap (λ (xs : List ℕ). has xs m) rm.kept ∙ has_m ps n m g

  pub room_made : Room qs n m
  room_made = record { sound = made; stands = g.stands ∙ sym (rm.same.marks m); some = g.some }

  -- the tag halfway
  v_over : tag_of qs m < tag_of qs m + (behind_tag (tagged qs) m - tag_of qs m) / 2
  v_over = omega (arith, rm.room)

  v_under : tag_of qs m + (behind_tag (tagged qs) m - tag_of qs m) / 2 < behind_tag (tagged qs) m
  v_under = omega (arith, rm.room)

  pub v_small : tag_of qs m + (behind_tag (tagged qs) m - tag_of qs m) / 2 < 4294967296
  v_small = omega (arith, v_under, (behind_over qs m rm.holds has_m').1)

  module _ (rs : List Member) (sp : Spliced qs rs m n (tag_of qs m + (behind_tag (tagged qs) m - tag_of qs m) / 2)) where
    has_n' : has (order qs) n ≡ false
    has_n' = has_h qs n m room_made

    same_tags : (k : ℕ) → has (order qs) k ≡ true → tag_of rs k ≡ tag_of qs k
    same_tags k hk = sp.tags k (apart_from k n (order qs) has_n' hk)

    strung_after : Strung rs (insert_after (order qs) m n)
    strung_after = strung_splice qs rs (order qs) m n _ has_m' has_n' (h_below qs n m room_made) sp rm.holds.strung

    clear_of : (k : ℕ) → has (order qs) k ≡ true → (tag_of qs k ≤ tag_of qs m) ⊎ (tag_of qs m + (behind_tag (tagged qs) m - tag_of qs m) / 2 < tag_of qs k)
    clear_of k hk =
        elim (between qs rm.holds m (tag_of qs k) has_m' (in_tags qs rm.holds k hk)) [
          | inl le ↦ inl le
          | inr q ↦ inr (omega (arith, q.1, behind_next qs rm.holds m has_m' q.0, v_under))
        ]

    ranging_after : Ranging (tag_of rs) (insert_after (order qs) m n)
    ranging_after = record {
      base = same_tags 0 (based_has (order qs) rm.holds.strung.based) ∙ rm.holds.ranging.base;
      rising = rising_insert (tag_of qs) (tag_of rs) m n _ sp.tag v_over (order qs) has_m' has_n' same_tags clear_of rm.holds.ranging.rising;
      below = λ k hk. elim (cases_eq k n) [
        | inl e ↦ omega (arith, ap (tag_of rs) e, sp.tag, v_small)
        | inr ne ↦
            let i = has_insert (order qs) m n k has_m' in
            let hk' : has (order qs) k ≡ true = elim (eqb_tells n k) [ inl q ↦ absurd (ne (sym q.1)) | inr q ↦ let i' = rw q.0 at i in sym i' ∙ hk ] in
            omega (arith, same_tags k hk', rm.holds.ranging.below k hk')
      ];
    }

    spare_after : Spare rs (insert_after (order qs) m n) (next_of qs n) (behind_first (chain qs n))
    spare_after = spare_splice qs rs (order qs) m n _ (chain qs n) has_m' g.some sp made.spare

    pub chain_after : chain ps n ≡ n ∷ chain rs (next_of qs n)
    chain_after =
        let e = chain_is rs (insert_after (order qs) m n) (next_of qs n) (behind_first (chain qs n)) (based_has (insert_after (order qs) m n) strung_after.based)
        (omega (arith, sp.size, made.some)) spare_after in
        sym (same_chain ps qs n m g.sound rm) ∙ chain_first qs (order qs) n (chain qs n) made.spare g.some ∙ ap (λ (ys : List ℕ). n ∷ ys) (sym e)

    pub sound_after : Sound rs (next_of qs n)
    sound_after =
        sound_from rs (insert_after (order qs) m n) (next_of qs n) (behind_first (chain qs n))
        (omega (arith, sp.size, made.some)) (omega (arith, sp.size, made.few)) strung_after ranging_after
        (cleared_splice qs rs (order qs) m n _ has_m' rm.holds.strung sp made.cleared)
        spare_after

    order_after : order rs ≡ insert_after (order qs) m n
    order_after = order_is rs (insert_after (order qs) m n) strung_after

    pub inserted_after : Inserted (length ps) (order ps) m (Ok n) (order rs)
    inserted_after = (not_full ps n m g, has_h ps n m g, h_below ps n m g, order_after ∙ ap (λ (xs : List ℕ). insert_after xs m n) rm.kept)

    pub tagged_after : tagged rs ≡ tags_after_insert (tagged ps) m n
    unfolding tags_after_insert
    tagged_after =
        let one : tagged rs ≡ mark (tag_of rs) (insert_after (order qs) m n) = ap (mark (tag_of rs)) order_after in
        let ea = tag_at_tagged qs rm.holds m has_m' in
        let two : mark (tag_of rs) (insert_after (order qs) m n) ≡ put_behind (tagged qs) m n (tag_of qs m + (behind_tag (tagged qs) m - tag_of qs m) / 2) =
        mark_insert (tag_of qs) (tag_of rs) m n _ (order qs) sp.tag same_tags in
        let three : put_behind (tagged qs) m n (tag_of qs m + (behind_tag (tagged qs) m - tag_of qs m) / 2) ≡ halfway (tagged qs) m n =
        ap (λ (x : ℕ). put_behind (tagged qs) m n (x + (behind_tag (tagged qs) m - x) / 2)) (sym ea) in
        let four : halfway (tagged qs) m n ≡ halfway (cond (ltb (behind_tag (tagged ps) m - tag_at (tagged ps) m) 2) (spread (tagged ps) (tag_at (tagged ps) m)) (tagged ps)) m n =
        ap (λ (x : List Tagged). halfway x m n) rm.after in
        one ∙ two ∙ three ∙ four ∙ halfway_cond (ltb (behind_tag (tagged ps) m - tag_at (tagged ps) m) 2) (spread (tagged ps) (tag_at (tagged ps) m)) (tagged ps) m n
