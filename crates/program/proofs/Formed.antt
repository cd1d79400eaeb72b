-- Lines without a fault are formed: in the right order, each with fields that can be read back.
use Rattle.std.proofs.Common.{◌≡◌, ℕ, ◌+◌, ◌≤◌, Bool, true, false, cond, ◌&&◌, eqb, ltb, leb, List, [], ◌∷◌, map, length, get_or, drop, ℤ, pos, negsuc, is_some, Some, None, Option, sym, refl, ap, ◌∙◌, subst, arith}
use Rattle.std.proofs.lemmas.Bool.{and_parts, eqb-true, leb-true}
use Rattle.text.specs.declared.fields.Kind.{Kind}
use Rattle.text.specs.declared.fields.Kind.TheVariants as k
use Rattle.text.specs.declared.line.Word.{Word}
use Rattle.text.specs.declared.line.Word.TheVariants as w
use Rattle.text.specs.First.{first}
use Rattle.text.specs.Lines.{Said}
use Rattle.text.specs.Numbers.{whole_of, kind_of}
use Rattle.text.proofs.Passes.{or_none}
use Rattle.shape.specs.declared.standing.Part.{Part}
use Rattle.shape.specs.declared.standing.Due.TheVariants as d
use Rattle.shape.specs.declared.standing.Standing.{Standing}
use Rattle.shape.specs.Parts.{part_of, fits, is_tail, placed, fewest, most, counted, result_kind, all_kinds, inputs_fit}
use Rattle.shape.specs.Shapes.{ranged, after, behind_part, shape_rules}
use Rattle.kinds.specs.declared.rules.Names.TheVariants as m
use Rattle.kinds.specs.Named.{all_there}
use Rattle.kinds.specs.Kinds.{Known, agrees, known_after, kind_rules, kinds_in, or_number}
use Rattle.program.specs.Programs.{kind_number}
use Rattle.program.specs.Formed.{Held, Whole, due_after, Formed}
use Rattle.program.proofs.Entries.{named_whole}

pub all_three : {F : Type 0} (a b c : Bool) (f g h : F) → cond a (cond b (cond c None (Some f)) (Some g)) (Some h) ≡ None → (a ≡ true) × (b ≡ true) × (c ≡ true)
all_three a b c f g h e = grind arith

all_two : {F : Type 0} (a b : Bool) (f g : F) → cond a (cond b None (Some f)) (Some g) ≡ None → a ≡ true
all_two a b f g e = grind arith

-- the fields of INP and of FUN
inputs_whole : (zs : List ℤ) → length zs ≡ 2 → inputs_fit (whole_of (get_or zs 0 (pos 0))) (whole_of (get_or zs 1 (pos 0))) ≡ true → Whole zs
inputs_whole [] l e = absurd (omega arith)
inputs_whole (a ∷ []) l e = absurd (omega arith)
inputs_whole (pos a ∷ pos b ∷ []) l e = refl
inputs_whole (pos a ∷ negsuc b ∷ []) l e = absurd (cc)
inputs_whole (negsuc a ∷ b ∷ []) l e = absurd (cc)
inputs_whole (a ∷ b ∷ c ∷ zs) l e = absurd (omega arith)

kind_back : (z : ℤ) → is_some (kind_of z) ≡ true → kind_number (or_number (kind_of z)) ≡ z
kind_back (negsuc n) e = absurd (cc)
kind_back (pos n) e = by_number n (eqb n 1) (eqb n 2) (eqb n 3) refl refl refl e
  where
    by_number : (n : ℕ) (a b c : Bool) → eqb n 1 ≡ a → eqb n 2 ≡ b → eqb n 3 ≡ c → is_some (cond a (Some k.Number) (cond b (Some k.ModNumber) (cond c (Some k.ModList) None))) ≡ true → kind_number (or_number (cond (eqb n 1) (Some k.Number) (cond (eqb n 2) (Some k.ModNumber) (cond (eqb n 3) (Some k.ModList) None)))) ≡ pos n
    by_number n true b c p q r e = let x = eqb-true n 1 p in rw p (ap pos (sym x))
    by_number n false true c p q r e = let x = eqb-true n 2 q in rw (p, q) (ap pos (sym x))
    by_number n false false true p q r e = let x = eqb-true n 3 r in rw (p, q, r) (ap pos (sym x))
    by_number n false false false p q r e = absurd (cc)

kinds_back : (zs : List ℤ) → all_kinds zs ≡ true → map kind_number (kinds_in zs) ≡ zs
kinds_back [] e = refl
kinds_back (z ∷ zs) e =
    let h = and_parts (is_some (kind_of z)) (all_kinds zs) e in
    ap (λ y. y ∷ map kind_number (kinds_in zs)) (kind_back z h.0) ∙ ap (λ ys. z ∷ ys) (kinds_back zs h.1)

result_some : (o : Option Kind) → result_kind o ≡ true → is_some o ≡ true
result_some o e = grind arith

head_back : (zs : List ℤ) → 1 ≤ length zs → (b : Bool) → (b && (result_kind (kind_of (get_or zs 0 (pos 0))) && all_kinds (drop 1 zs))) ≡ true → map kind_number (kinds_in zs) ≡ zs
head_back [] l b e = absurd (omega arith)
head_back (z ∷ zs) l b e =
    let h = and_parts b (result_kind (kind_of z) && all_kinds zs) e in
    let g = and_parts (result_kind (kind_of z)) (all_kinds zs) h.1 in
    ap (λ y. y ∷ map kind_number (kinds_in zs)) (kind_back z (result_some (kind_of z) g.0)) ∙ ap (λ ys. z ∷ ys) (kinds_back zs g.1)

-- how many fields
few : (k : Word) (n : ℕ) → counted k n ≡ true → (fewest k ≤ n) × (n ≤ most k)
few k n e = let h = and_parts (leb (fewest k) n) (leb n (most k)) e in (leb-true (fewest k) n h.0, leb-true n (most k) h.1)

named : (b : Bool) → cond b m.Function m.Register ≡ m.Value → ⊥
named b e = grind arith

either_named : (a b : Bool) → cond a m.Function (cond b m.Function m.Register) ≡ m.Value → ⊥
either_named a b e = grind arith

register : m.Register ≡ m.Value → ⊥
register e = grind arith

module _ (s : Standing) (rs fs : ℕ) where
  held : (k : Word) (zs : List ℤ) → counted k (length zs) ≡ true → ranged s (part_of k) zs ≡ true → all_there rs fs k 0 zs ≡ true → Held k zs
  held w.Inp zs c r t = let h = few w.Inp (length zs) c in let l : length zs ≡ 2 = omega arith in (l, inputs_whole zs l r)
  held w.Run zs c r t = named_whole rs fs w.Run 0 zs (λ i. register) t
  held w.Fun zs c r t = let h = few w.Fun (length zs) c in (h.0, head_back zs h.0 (ltb s.functions 64) r)
  held w.Lit zs c r t = let h = few w.Lit (length zs) c in omega arith
  held w.Add zs c r t = let h = few w.Add (length zs) c in (omega arith, named_whole rs fs w.Add 0 zs (λ i. register) t)
  held w.Sub zs c r t = let h = few w.Sub (length zs) c in (omega arith, named_whole rs fs w.Sub 0 zs (λ i. register) t)
  held w.Mul zs c r t = let h = few w.Mul (length zs) c in (omega arith, named_whole rs fs w.Mul 0 zs (λ i. register) t)
  held w.Div zs c r t = let h = few w.Div (length zs) c in (omega arith, named_whole rs fs w.Div 0 zs (λ i. register) t)
  held w.Min zs c r t = let h = few w.Min (length zs) c in (omega arith, named_whole rs fs w.Min 0 zs (λ i. register) t)
  held w.Max zs c r t = let h = few w.Max (length zs) c in (omega arith, named_whole rs fs w.Max 0 zs (λ i. register) t)
  held w.New zs c r t = let h = few w.New (length zs) c in (h.0, named_whole rs fs w.New 0 zs (λ i. named (eqb i 0)) t)
  held w.Put zs c r t = let h = few w.Put (length zs) c in (omega arith, named_whole rs fs w.Put 0 zs (λ i. register) t)
  held w.Nil zs c r t = let h = few w.Nil (length zs) c in omega arith
  held w.Con zs c r t = let h = few w.Con (length zs) c in (omega arith, named_whole rs fs w.Con 0 zs (λ i. register) t)
  held w.Get zs c r t = let h = few w.Get (length zs) c in (h.0, named_whole rs fs w.Get 0 zs (λ i. named (eqb i 1)) t)
  held w.Cas zs c r t = let h = few w.Cas (length zs) c in (h.0, named_whole rs fs w.Cas 0 zs (λ i. either_named (eqb i 1) (eqb i 2)) t)

-- positions
due_is : (s : Standing) (x : Part) (n : ℕ) → (behind_part s x n).due ≡ due_after x
due_is s x n = grind arith

tail_last : (b : Bool) (x : Part) → (b && is_tail x) ≡ true → due_after x ≡ d.Head
tail_last b x e = grind arith

module _ (hs : List (List ℤ)) where
  pub formed : (s : Standing) (g : Known) (n : ℕ) (x : Said) (xs : List Said) → first after shape_rules s n (x ∷ xs) ≡ None → first (known_after hs) (kind_rules hs) g n (x ∷ xs) ≡ None → Formed s.due (x ∷ xs)
  formed s (ks, r) n (k, zs) [] e f =
      let a = or_none (shape_rules s n (k, zs) true) None e in
      let b = or_none (kind_rules hs (ks, r) n (k, zs) true) None f in
      let q = all_three (placed s.due (part_of k) true) (counted k (length zs)) (ranged s (part_of k) zs) _ _ _ a.0 in
      let t = all_two (all_there (length ks) (length hs) k 0 zs) (agrees hs ks r k zs) _ _ b.0 in
      let u = and_parts (fits s.due (part_of k)) (is_tail (part_of k)) q.0 in
      (u.0, held s (length ks) (length hs) k zs q.1 q.2 t, tail_last (fits s.due (part_of k)) (part_of k) q.0)
  formed s (ks, r) n (k, zs) (y ∷ ys) e f =
      let a = or_none (shape_rules s n (k, zs) false) (first after shape_rules (after s (k, zs)) (n + 1) (y ∷ ys)) e in
      let b = or_none (kind_rules hs (ks, r) n (k, zs) false) (first (known_after hs) (kind_rules hs) (known_after hs (ks, r) (k, zs)) (n + 1) (y ∷ ys)) f in
      let q = all_three (placed s.due (part_of k) false) (counted k (length zs)) (ranged s (part_of k) zs) _ _ _ a.0 in
      let t = all_two (all_there (length ks) (length hs) k 0 zs) (agrees hs ks r k zs) _ _ b.0 in
      let u = and_parts (fits s.due (part_of k)) true q.0 in
      let v = formed (after s (k, zs)) (known_after hs (ks, r) (k, zs)) (n + 1) y ys a.1 b.1 in
      (u.0, held s (length ks) (length hs) k zs q.1 q.2 t, subst (λ due. Formed due (y ∷ ys)) (due_is s (part_of k) (length zs)) v)
