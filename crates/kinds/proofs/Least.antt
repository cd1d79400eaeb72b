-- The first line that breaks a rule, and the first rule that it breaks, are the least.
use Rattle.std.proofs.Common.{◌≡◌, ℕ, zero, suc, ◌+◌, ◌<◌, ◌≤◌, Bool, true, false, cond, ◌⊎◌, List, [], ◌∷◌, ◌++◌, length, Some, None, fold, Option, sym, refl, ap, ◌∙◌, subst, inl, inr, arith}
use Rattle.text.specs.First.{first, or_else, none_left}
use Rattle.kinds.specs.Laws.{Breaks}

abbrev pub judge : {F : Type 0} → Bool → Bool → Bool → F → F → F → Option F
judge a b c f g h = cond a (cond b (cond c None (Some h)) (Some g)) (Some f)

module _ {S X F : Type 0} (next : S → X → S) (rules : S → ℕ → X → Bool → Option F) (keeps : ℕ → S → X → Bool → Bool) (fault : ℕ → ℕ → F)
    (by : (s : S) (n : ℕ) (x : X) (b : Bool) → rules s n x b ≡ judge (keeps 0 s x b) (keeps 1 s x b) (keeps 2 s x b) (fault 0 n) (fault 1 n) (fault 2 n))
    (more : (r : ℕ) (s : S) (x : X) (b : Bool) → keeps (suc (suc (suc r))) s x b ≡ true) where
  pub record Told (s : S) (n : ℕ) (xs : List X) (f : F) : Type 0 where
    pub at : ℕ
    pub rule : ℕ
    pub is : f ≡ fault rule at
    pub small : rule < 3
    pub breaks : Breaks next keeps s n xs at rule
    pub least : (j q : ℕ) → Breaks next keeps s n xs j q → (at < j) ⊎ ((at ≡ j) × (rule ≤ q))

  differ : true ≡ false → ⊥
  differ p = cc

  -- a rule broken at once, or behind the first line
  split_at : {A : Type 0} (s : S) (n : ℕ) (x : X) (xs : List X) (j q : ℕ) (before : List X) (line : X) (behind : List X) → x ∷ xs ≡ before ++ line ∷ behind → j ≡ n + length before → keeps q (fold next s before) line (none_left behind) ≡ false → ((j ≡ n) × (keeps q s x (none_left xs) ≡ false) → A) → ((n < j) × Breaks next keeps (next s x) (n + 1) xs j q → A) → A
  split_at s n x xs j q [] line behind e m k f g =
      let p : x ≡ line = cc in
      let t : xs ≡ behind = cc in
      f (omega arith, ap (λ y. keeps q s y (none_left xs)) p ∙ ap (λ ys. keeps q s line (none_left ys)) t ∙ k)
  split_at s n x xs j q (y ∷ ys) line behind e m k f g =
      let p : x ≡ y = cc in
      let t : xs ≡ ys ++ line ∷ behind = cc in
      g (omega arith, record { before = ys; line = line; behind = behind; lines = t; number = omega arith; broken = ap (λ z. keeps q (fold next (next s z) ys) line (none_left behind)) p ∙ k })

  split : {A : Type 0} (s : S) (n : ℕ) (x : X) (xs : List X) (j q : ℕ) → Breaks next keeps s n (x ∷ xs) j q → ((j ≡ n) × (keeps q s x (none_left xs) ≡ false) → A) → ((n < j) × Breaks next keeps (next s x) (n + 1) xs j q → A) → A
  split s n x xs j q b f g = split_at s n x xs j q b.before b.line b.behind b.lines b.number b.broken f g

  -- what the first line says
  data Line (s : S) (n : ℕ) (x : X) (b : Bool) : Option F → Type 0 where
    fails : (r : ℕ) → r < 3 → keeps r s x b ≡ false → ((q : ℕ) → keeps q s x b ≡ false → r ≤ q) → Line s n x b (Some (fault r n))
    stands : ((q : ℕ) → keeps q s x b ≡ false → ⊥) → Line s n x b None

  low₁ : (s : S) (x : X) (b : Bool) → keeps 0 s x b ≡ true → (k : ℕ) → keeps k s x b ≡ false → 1 ≤ k
  low₁ s x b h zero e = absurd (differ (sym h ∙ e))
  low₁ s x b h (suc k) e = omega arith

  low₂ : (s : S) (x : X) (b : Bool) → keeps 0 s x b ≡ true → keeps 1 s x b ≡ true → (k : ℕ) → keeps k s x b ≡ false → 2 ≤ k
  low₂ s x b h g zero e = absurd (differ (sym h ∙ e))
  low₂ s x b h g (suc zero) e = absurd (differ (sym g ∙ e))
  low₂ s x b h g (suc (suc k)) e = omega arith

  no_rule : (s : S) (x : X) (b : Bool) → keeps 0 s x b ≡ true → keeps 1 s x b ≡ true → keeps 2 s x b ≡ true → (k : ℕ) → keeps k s x b ≡ false → ⊥
  no_rule s x b h g f zero e = differ (sym h ∙ e)
  no_rule s x b h g f (suc zero) e = differ (sym g ∙ e)
  no_rule s x b h g f (suc (suc zero)) e = differ (sym f ∙ e)
  no_rule s x b h g f (suc (suc (suc k))) e = differ (sym (more k s x b) ∙ e)

  judged : (s : S) (n : ℕ) (x : X) (b : Bool) (t₀ t₁ t₂ : Bool) → keeps 0 s x b ≡ t₀ → keeps 1 s x b ≡ t₁ → keeps 2 s x b ≡ t₂ → Line s n x b (judge t₀ t₁ t₂ (fault 0 n) (fault 1 n) (fault 2 n))
  judged s n x b false t₁ t₂ p q r = fails 0 (omega arith) p (λ k e. omega arith)
  judged s n x b true false t₂ p q r = fails 1 (omega arith) q (low₁ s x b p)
  judged s n x b true true false p q r = fails 2 (omega arith) r (low₂ s x b p q)
  judged s n x b true true true p q r = stands (no_rule s x b p q r)

  said : (s : S) (n : ℕ) (x : X) (b : Bool) → Line s n x b (rules s n x b)
  said s n x b = subst (Line s n x b) (sym (by s n x b)) (judged s n x b (keeps 0 s x b) (keeps 1 s x b) (keeps 2 s x b) refl refl refl)

  told_line : (s : S) (n : ℕ) (x : X) (xs : List X) (f : F) (o : Option F) → Line s n x (none_left xs) o → (first next rules (next s x) (n + 1) xs ≡ Some f → Told (next s x) (n + 1) xs f) → or_else o (first next rules (next s x) (n + 1) xs) ≡ Some f → Told s n (x ∷ xs) f
  told_line s n x xs f _ (fails r small broken low) on e =
      let i : f ≡ fault r n = cc in
      record {
        at = n;
        rule = r;
        is = i;
        small = small;
        breaks = record { before = []; line = x; behind = xs; lines = refl; number = omega arith; broken = broken };
        least = λ j q h. split s n x xs j q h (λ y. inr (sym y.0, low q y.1)) (λ y. inl y.0);
      }
  told_line s n x xs f _ (stands none) on e =
      let t = on e in
      let b = t.breaks in
      record {
        at = t.at;
        rule = t.rule;
        is = t.is;
        small = t.small;
        breaks = record { before = x ∷ b.before; line = b.line; behind = b.behind; lines = ap (λ ys. x ∷ ys) b.lines; number = omega (arith, b.number); broken = b.broken };
        least = λ j q h. split s n x xs j q h (λ y. absurd (none q y.1)) (λ y. t.least j q y.1);
      }

  pub told : (s : S) (n : ℕ) (xs : List X) (f : F) → first next rules s n xs ≡ Some f → Told s n xs f
  told s n [] f e = absurd (cc)
  told s n (x ∷ xs) f e = told_line s n x xs f (rules s n x (none_left xs)) (said s n x (none_left xs)) (told (next s x) (n + 1) xs f) e

  no_lines : {Y : Type 0} (a : List Y) (y : Y) (b : List Y) → [] ≡ a ++ y ∷ b → ⊥
  no_lines [] y b e = cc
  no_lines (c ∷ a) y b e = cc

  clean_line : (s : S) (n : ℕ) (x : X) (xs : List X) (o : Option F) → Line s n x (none_left xs) o → (first next rules (next s x) (n + 1) xs ≡ None → (j q : ℕ) → Breaks next keeps (next s x) (n + 1) xs j q → ⊥) → or_else o (first next rules (next s x) (n + 1) xs) ≡ None → (j q : ℕ) → Breaks next keeps s n (x ∷ xs) j q → ⊥
  clean_line s n x xs _ (fails r small broken low) on e j q h = absurd (cc)
  clean_line s n x xs _ (stands none) on e j q h = split s n x xs j q h (λ y. none q y.1) (λ y. on e j q y.1)

  pub clean : (s : S) (n : ℕ) (xs : List X) → first next rules s n xs ≡ None → (j q : ℕ) → Breaks next keeps s n xs j q → ⊥
  clean s n [] e j q h = no_lines h.before h.line h.behind h.lines
  clean s n (x ∷ xs) e j q h = clean_line s n x xs (rules s n x (none_left xs)) (said s n x (none_left xs)) (clean (next s x) (n + 1) xs) e j q h
