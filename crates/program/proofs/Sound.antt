-- A program that keeps the rules is sound.
use Rattle.std.proofs.Common.{◌≡◌, ℕ, zero, suc, ◌+◌, ◌<◌, ◌≤◌, Bool, true, cond, ◌&&◌, ltb, leb, ◌⊎◌, List, [], ◌∷◌, ◌++◌, map, length, get_or, drop, ℤ, pos, Some, None, vec_items, Option, sym, refl, ap, ◌∙◌, subst, arith}
use Rattle.std.proofs.lemmas.List.{length-map, length-append, get_or-map, drop-map}
use Rattle.std.proofs.lemmas.Bool.{and_parts, leb-true, ltb-true, lt-ltb}
use Rattle.std.specs.List.{flat_map}
use Rattle.text.specs.declared.fields.Kind.{Kind}
use Rattle.text.specs.declared.fields.Kind.TheVariants as k
use Rattle.text.specs.declared.line.Word.{Word}
use Rattle.text.specs.declared.line.Word.TheVariants as w
use Rattle.text.specs.First.{first, none_left}
use Rattle.text.specs.Lines.{Said}
use Rattle.text.specs.Numbers.{kind_of}
use Rattle.shape.specs.declared.fault.ShapeFault.TheVariants as g
use Rattle.shape.specs.declared.standing.Part.{Part}
use Rattle.shape.specs.declared.standing.Part.TheVariants as p
use Rattle.shape.specs.declared.standing.Due.TheVariants as d
use Rattle.shape.specs.declared.standing.Standing.{Standing}
use Rattle.shape.specs.Parts.{part_of, placed, counted, result_kind, all_kinds}
use Rattle.shape.specs.Shapes.{ranged, after, behind_part, shape_rules, shape_fault_of, start}
use Rattle.kinds.specs.declared.fault.KindFault.TheVariants as f
use Rattle.kinds.specs.Named.{all_there}
use Rattle.kinds.specs.Kinds.{head_line, heads_of, same_kind, kind_in, is_kind, starts, takes, accepts, entered, agrees, Known, or_number, kinds_in, known_after, kind_rules, unknown, kind_fault_of}
use Rattle.program.specs.declared.arith.Op.{Op}
use Rattle.program.specs.declared.arith.Op.TheVariants as o
use Rattle.program.specs.declared.program.Program.{Program}
use Rattle.program.specs.Programs.{op_word, kind_number, wholes, lines_fault}
use Rattle.program.specs.View.{CommandView, LIT, APPLY, NEW, TailView, PUT, NIL, CON, GET, CAS, FunctionView, View, viewed}
use Rattle.text.proofs.Passes.{or_none}
use Rattle.kinds.proofs.Over.{none_over}
use Rattle.program.specs.Sound.{Holds, Agree, no_function, function_at, Enters, GoesOn, CommandSound, made_kind, TailSound, BodySound, steps_in, input_kinds, Sound}
use Rattle.program.proofs.Kept.{kept}
use Rattle.program.proofs.Viewed.{command_said, tail_said, body_said, function_said, view_said, lines_same, kind_told, kind_back, kinds_back}

-- rules that tell no fault are kept
passed : {F : Type 0} (b : Bool) (a : Option F) (x : F) → cond b a (Some x) ≡ None → (b ≡ true) × (a ≡ None)
passed b a x e = grind arith

-- kinds
same_true : (o : Option Kind) (x : Kind) → same_kind o (Some x) ≡ true → o ≡ Some x
same_true o x e = grind arith

same_said : (o : Option Kind) (x : Kind) → same_kind o (kind_of (kind_number x)) ≡ true → o ≡ Some x
same_said o x e = same_true o x (subst (λ q. same_kind o q ≡ true) (kind_told x) e)

is_same : (x y : Kind) → same_kind (Some x) (Some y) ≡ true → x ≡ y
is_same x y e = grind arith

holds_by : (b : Bool) (y x : Kind) → cond b (Some y) None ≡ Some x → (b ≡ true) × (y ≡ x)
holds_by b y x e = grind arith

held_in : (ks : List Kind) (i : ℕ) (x : Kind) → kind_in ks (Some i) ≡ Some x → Holds ks i x
held_in ks i x e = let h = holds_by (ltb i (length ks)) (get_or ks i k.Number) x e in (ltb-true i (length ks) h.0, h.1)

holds : (ks : List Kind) (i : ℕ) (x : Kind) → same_kind (kind_in ks (Some i)) (Some x) ≡ true → Holds ks i x
holds ks i x e = held_in ks i x (same_true (kind_in ks (Some i)) x e)

-- arguments and parameters
agree : (ks : List Kind) (args : List ℕ) (ps : List Kind) → takes ks (wholes args) (map kind_number ps) ≡ true → Agree ks args ps
agree ks [] [] e = tt
agree ks [] (x ∷ ps) e = cc
agree ks (a ∷ args) [] e = cc
agree ks (a ∷ args) (x ∷ ps) e =
    let h = and_parts (same_kind (kind_in ks (Some a)) (kind_of (kind_number x))) (takes ks (wholes args) (map kind_number ps)) e in
    (held_in ks a x (same_said (kind_in ks (Some a)) x h.0), agree ks args ps h.1)

led : (lead ps : List Kind) → starts lead (map kind_number ps) ≡ true → ps ≡ lead ++ drop (length lead) ps
led [] ps e = refl
led (x ∷ lead) [] e = absurd (cc)
led (x ∷ lead) (y ∷ ps) e =
    let h = and_parts (same_kind (Some x) (kind_of (kind_number y))) (starts lead (map kind_number ps)) e in
    let q = same_said (Some x) y h.0 in
    let r : y ≡ x = cc in
    ap (λ z. z ∷ ps) r ∙ ap (λ zs. x ∷ zs) (led lead ps h.1)

-- commands and tails stand where they should, and are no heads
abbrev StandsAs : Part → Said → Type 0
StandsAs x (j, zs) = (part_of j ≡ x) × (head_line j zs ≡ [])

op_stands : (op : Op) (zs : List ℤ) → StandsAs p.Command (op_word op, zs)
op_stands o.Add zs = (refl, refl)
op_stands o.Sub zs = (refl, refl)
op_stands o.Mul zs = (refl, refl)
op_stands o.Div zs = (refl, refl)
op_stands o.Min zs = (refl, refl)
op_stands o.Max zs = (refl, refl)

command_stands : (c : CommandView) → StandsAs p.Command (command_said c)
command_stands (LIT z) = (refl, refl)
command_stands (APPLY op a b) = op_stands op (pos a ∷ pos b ∷ [])
command_stands (NEW f args) = (refl, refl)

tail_stands : (t : TailView) → StandsAs p.Tail (tail_said t)
tail_stands (PUT a) = (refl, refl)
tail_stands NIL = (refl, refl)
tail_stands (CON h l) = (refl, refl)
tail_stands (GET s f args) = (refl, refl)
tail_stands (CAS s f g args) = (refl, refl)

-- the heads of the functions
abbrev head_numbers : FunctionView → List ℤ
head_numbers f = kind_number f.result ∷ map kind_number f.params

heads_body : (cs : List CommandView) (t : TailView) (ls : List Said) → heads_of (body_said cs t ++ ls) ≡ heads_of ls
heads_body [] t ls = ap (λ hs. hs ++ heads_of ls) (tail_stands t).1
heads_body (c ∷ cs) t ls = ap (λ hs. hs ++ heads_of (body_said cs t ++ ls)) (command_stands c).1 ∙ heads_body cs t ls

heads_functions : (fs : List FunctionView) → heads_of (flat_map function_said fs) ≡ map head_numbers fs
heads_functions [] = refl
heads_functions (f ∷ fs) = ap (λ hs. head_numbers f ∷ hs) (heads_body f.commands f.tail (flat_map function_said fs) ∙ heads_functions fs)

-- what the rules of kinds give
module _ (v : View) where
  abbrev heads : List (List ℤ)
  heads = map head_numbers v.functions

  abbrev Keeps : Known → ℕ → List Said → Type 0
  Keeps g n ls = first (known_after heads) (kind_rules heads) g n ls ≡ None

  -- the rules go on with these lines
  abbrev On : List Said → Type 0
  On ls = (g : Known) × (n : ℕ) × Keeps g n ls

  line : (ks : List Kind) (r : Kind) (n : ℕ) (j : Word) (zs : List ℤ) (ls : List Said) → Keeps (ks, r) n ((j, zs) ∷ ls) → (all_there (length ks) (length heads) j 0 zs ≡ true) × (agrees heads ks r j zs ≡ true) × Keeps (known_after heads (ks, r) (j, zs)) (n + 1) ls
  line ks r n j zs ls e =
      let a = or_none (kind_rules heads (ks, r) n (j, zs) (none_left ls)) (first (known_after heads) (kind_rules heads) (known_after heads (ks, r) (j, zs)) (n + 1) ls) e in
      let b = passed (all_there (length ks) (length heads) j 0 zs) (cond (agrees heads ks r j zs) None (Some (f.Kinds n))) (f.Missing n) a.0 in
      (b.0, (passed (agrees heads ks r j zs) None (f.Kinds n) b.1).0, a.1)

  is_there : (f : ℕ) → ltb f (length heads) ≡ true → f < length v.functions
  is_there f e = omega (arith, ltb-true f (length heads) e, length-map v.functions head_numbers)

  head_is : (f : ℕ) → f < length v.functions → get_or heads f [] ≡ head_numbers (function_at v f)
  head_is f l = get_or-map head_numbers v.functions f no_function [] l

  accepted : (f : ℕ) (lead ks : List Kind) (args : List ℕ) → ltb f (length heads) ≡ true → accepts (get_or heads f []) lead ks (wholes args) ≡ true → Enters v lead ks f args
  accepted f lead ks args t e =
      let l = is_there f t in
      let ps = (function_at v f).params in
      let h = and_parts (starts lead (map kind_number ps)) (takes ks (wholes args) (drop (length lead) (map kind_number ps))) (subst (λ hs. accepts hs lead ks (wholes args) ≡ true) (head_is f l) e) in
      record {
        there = l;
        rest = drop (length lead) ps;
        takes = led lead ps h.0;
        agree = agree ks args (drop (length lead) ps) (subst (λ xs. takes ks (wholes args) xs ≡ true) (drop-map kind_number (length lead) ps) h.1);
      }

  goes_on : (f : ℕ) (r : Kind) (lead ks : List Kind) (args : List ℕ) → ltb f (length heads) ≡ true → entered (get_or heads f []) r lead ks (wholes args) ≡ true → GoesOn v r lead ks f args
  goes_on f r lead ks args t e =
      let h = and_parts (same_kind (Some r) (kind_of (get_or (get_or heads f []) 0 (pos 0)))) (accepts (get_or heads f []) lead ks (wholes args)) e in
      let x = (function_at v f).result in
      let q : Some r ≡ Some x = same_said (Some r) x (subst (λ hs. same_kind (Some r) (kind_of (get_or hs 0 (pos 0))) ≡ true) (head_is f (is_there f t)) h.0) in
      (accepted f lead ks args t h.1, cc)

  op_checked : (op : Op) (ks : List Kind) (r : Kind) (zs : List ℤ) → (agrees heads ks r (op_word op) zs ≡ (is_kind ks zs 0 k.Number && is_kind ks zs 1 k.Number)) × (known_after heads (ks, r) (op_word op, zs) ≡ (ks ++ k.Number ∷ [], r))
  op_checked o.Add ks r zs = (refl, refl)
  op_checked o.Sub ks r zs = (refl, refl)
  op_checked o.Mul ks r zs = (refl, refl)
  op_checked o.Div ks r zs = (refl, refl)
  op_checked o.Min ks r zs = (refl, refl)
  op_checked o.Max ks r zs = (refl, refl)

  command_sound : (ks : List Kind) (r : Kind) (c : CommandView) → all_there (length ks) (length heads) (command_said c).0 0 (command_said c).1 ≡ true → agrees heads ks r (command_said c).0 (command_said c).1 ≡ true → CommandSound v ks c
  command_sound ks r (LIT z) t e = tt
  command_sound ks r (APPLY op a b) t e =
      let zs = pos a ∷ pos b ∷ [] in
      let h = and_parts (is_kind ks zs 0 k.Number) (is_kind ks zs 1 k.Number) (sym (op_checked op ks r zs).0 ∙ e) in
      (holds ks a k.Number h.0, holds ks b k.Number h.1)
  command_sound ks r (NEW f args) t e = accepted f [] ks args (and_parts (ltb f (length heads)) (all_there (length ks) (length heads) w.New 1 (wholes args)) t).0 e

  known_made : (ks : List Kind) (r : Kind) (c : CommandView) → CommandSound v ks c → known_after heads (ks, r) (command_said c) ≡ (ks ++ made_kind v c ∷ [], r)
  known_made ks r (LIT z) s = refl
  known_made ks r (APPLY op a b) s = (op_checked op ks r (pos a ∷ pos b ∷ [])).1
  known_made ks r (NEW f args) s =
      let K : Kind → Known = λ x. (ks ++ x ∷ [], r) in
      ap (λ hs. K (or_number (kind_of (get_or hs 0 (pos 0))))) (head_is f s.there) ∙ ap K (kind_back (function_at v f).result)

  tail_sound : (ks : List Kind) (r : Kind) (t : TailView) → all_there (length ks) (length heads) (tail_said t).0 0 (tail_said t).1 ≡ true → agrees heads ks r (tail_said t).0 (tail_said t).1 ≡ true → TailSound v r ks t
  tail_sound ks r (PUT a) t e =
      let h = and_parts (is_kind ks (pos a ∷ []) 0 k.Number) (same_kind (Some r) (Some k.ModNumber)) e in
      (holds ks a k.Number h.0, is_same r k.ModNumber h.1)
  tail_sound ks r NIL t e = is_same r k.ModList e
  tail_sound ks r (CON x y) t e =
      let zs = pos x ∷ pos y ∷ [] in
      let h = and_parts (is_kind ks zs 0 k.ModNumber) (is_kind ks zs 1 k.ModList && same_kind (Some r) (Some k.ModList)) e in
      let g = and_parts (is_kind ks zs 1 k.ModList) (same_kind (Some r) (Some k.ModList)) h.1 in
      (holds ks x k.ModNumber h.0, holds ks y k.ModList g.0, is_same r k.ModList g.1)
  tail_sound ks r (GET s f args) t e =
      let n = length heads in
      let h = and_parts (is_kind ks (pos s ∷ []) 0 k.ModNumber) (entered (get_or heads f []) r (k.Number ∷ []) ks (wholes args)) e in
      let a = and_parts (ltb s (length ks)) (all_there (length ks) n w.Get 1 (pos f ∷ wholes args)) t in
      let b = and_parts (ltb f n) (all_there (length ks) n w.Get 2 (wholes args)) a.1 in
      (holds ks s k.ModNumber h.0, goes_on f r (k.Number ∷ []) ks args b.0 h.1)
  tail_sound ks r (CAS s f g args) t e =
      let n = length heads in
      let lead = k.ModNumber ∷ k.ModList ∷ [] in
      let h = and_parts (is_kind ks (pos s ∷ []) 0 k.ModList) (entered (get_or heads f []) r [] ks (wholes args) && entered (get_or heads g []) r lead ks (wholes args)) e in
      let i = and_parts (entered (get_or heads f []) r [] ks (wholes args)) (entered (get_or heads g []) r lead ks (wholes args)) h.1 in
      let a = and_parts (ltb s (length ks)) (all_there (length ks) n w.Cas 1 (pos f ∷ pos g ∷ wholes args)) t in
      let b = and_parts (ltb f n) (all_there (length ks) n w.Cas 2 (pos g ∷ wholes args)) a.1 in
      let d = and_parts (ltb g n) (all_there (length ks) n w.Cas 3 (wholes args)) b.1 in
      (holds ks s k.ModList h.0, goes_on f r [] ks args b.0 i.0, goes_on g r lead ks args d.0 i.1)

  body_sound : (r : Kind) (ks : List Kind) (n : ℕ) (cs : List CommandView) (t : TailView) (ls : List Said) → Keeps (ks, r) n (body_said cs t ++ ls) → BodySound v r ks cs t × On ls
  body_sound r ks n [] t ls e =
      let s = line ks r n (tail_said t).0 (tail_said t).1 ls e in
      (tail_sound ks r t s.0 s.1, (known_after heads (ks, r) (tail_said t), n + 1, s.2))
  body_sound r ks n (c ∷ cs) t ls e =
      let s = line ks r n (command_said c).0 (command_said c).1 (body_said cs t ++ ls) e in
      let m = command_sound ks r c s.0 s.1 in
      let q = body_sound r (ks ++ made_kind v c ∷ []) (n + 1) cs t ls (subst (λ g. Keeps g (n + 1) (body_said cs t ++ ls)) (known_made ks r c m) s.2) in
      ((m, q.0), q.1)

  abbrev Bodied : FunctionView → Type 0
  Bodied f = BodySound v f.result f.params f.commands f.tail

  function_body : (f : FunctionView) (ls : List Said) → On (function_said f ++ ls) → Bodied f × On ls
  function_body f ls ((ks, r), n, e) =
      let s = line ks r n w.Fun (head_numbers f) (body_said f.commands f.tail ++ ls) e in
      let q : Keeps (f.params, f.result) (n + 1) (body_said f.commands f.tail ++ ls) = subst (λ xs. Keeps (xs, f.result) (n + 1) (body_said f.commands f.tail ++ ls)) (kinds_back f.params) (subst (λ x. Keeps (kinds_in (map kind_number f.params), x) (n + 1) (body_said f.commands f.tail ++ ls)) (kind_back f.result) s.2) in
      body_sound f.result f.params (n + 1) f.commands f.tail ls q

  bodies : (fs : List FunctionView) → On (flat_map function_said fs) → (i : ℕ) → i < length fs → Bodied (get_or fs i no_function)
  bodies [] e i l = absurd (omega arith)
  bodies (f ∷ fs) e zero l = (function_body f (flat_map function_said fs) e).0
  bodies (f ∷ fs) e (suc i) l = bodies fs (function_body f (flat_map function_said fs) e).1 i (omega arith)

-- what the rules of shape give
abbrev Stands : Standing → ℕ → List Said → Type 0
Stands s n ls = first after shape_rules s n ls ≡ None

shape : (s : Standing) (n : ℕ) (j : Word) (zs : List ℤ) (ls : List Said) (x : Part) → part_of j ≡ x → Stands s n ((j, zs) ∷ ls) → (placed s.due x (none_left ls) ≡ true) × (counted j (length zs) ≡ true) × (ranged s x zs ≡ true) × Stands (behind_part s x (length zs)) (n + 1) ls
shape s n j zs ls x q e =
    let a = or_none (shape_rules s n (j, zs) (none_left ls)) (first after shape_rules (after s (j, zs)) (n + 1) ls) e in
    let b = passed (placed s.due (part_of j) (none_left ls)) (cond (counted j (length zs)) (cond (ranged s (part_of j) zs) None (Some (g.Range n))) (Some (g.Count n))) (g.Position n) a.0 in
    let c = passed (counted j (length zs)) (cond (ranged s (part_of j) zs) None (Some (g.Range n))) (g.Count n) b.1 in
    let d = passed (ranged s (part_of j) zs) None (g.Range n) c.1 in
    (subst (λ y. placed s.due y (none_left ls) ≡ true) q b.0, c.0, subst (λ y. ranged s y zs ≡ true) q d.0, subst (λ y. Stands (behind_part s y (length zs)) (n + 1) ls) q a.1)

-- the rules go on behind so many functions, and commands and tails
record Behind (functions steps : ℕ) (ls : List Said) : Type 0 where
  s : Standing
  n : ℕ
  of_functions : s.functions ≡ functions
  of_steps : s.steps ≡ steps
  stands : Stands s n ls

body_fits : (s : Standing) (n : ℕ) (cs : List CommandView) (t : TailView) (ls : List Said) → s.registers ≤ 16 → Stands s n (body_said cs t ++ ls) → (s.registers + length cs ≤ 16) × (s.steps + length cs < 512) × Behind s.functions (s.steps + (length cs + 1)) ls
body_fits s n [] t ls l e =
    let h = shape s n (tail_said t).0 (tail_said t).1 ls p.Tail (tail_stands t).0 e in
    let b = ltb-true s.steps 512 h.2 in
    (omega arith, omega arith, record { s = behind_part s p.Tail (length (tail_said t).1); n = n + 1; of_functions = refl; of_steps = omega arith; stands = h.3 })
body_fits s n (c ∷ cs) t ls l e =
    let h = shape s n (command_said c).0 (command_said c).1 (body_said cs t ++ ls) p.Command (command_stands c).0 e in
    let r = and_parts (ltb s.steps 512) (ltb s.registers 16) h.2 in
    let b = ltb-true s.registers 16 r.1 in
    let u = body_fits (behind_part s p.Command (length (command_said c).1)) (n + 1) cs t ls (omega arith) h.3 in
    let g = u.2 in
    (omega arith, omega arith, record { s = g.s; n = g.n; of_functions = g.of_functions; of_steps = omega arith; stands = g.stands })

writes_mod : (x : Kind) → result_kind (Some x) ≡ true → (x ≡ k.ModNumber) ⊎ (x ≡ k.ModList)
writes_mod x e = grind arith

-- a function's own limits
abbrev Fitting : FunctionView → Type 0
Fitting f = ((f.result ≡ k.ModNumber) ⊎ (f.result ≡ k.ModList)) × (length f.params ≤ 6) × (length f.params + length f.commands ≤ 16)

function_fits : (s : Standing) (n : ℕ) (f : FunctionView) (ls : List Said) → Stands s n (function_said f ++ ls) → (s.functions < 64) × (s.steps + length f.commands < 512) × Fitting f × Behind (s.functions + 1) (s.steps + (length f.commands + 1)) ls
function_fits s n f ls e =
    let zs = head_numbers f in
    let h = shape s n w.Fun zs (body_said f.commands f.tail ++ ls) p.Head refl e in
    let r = and_parts (ltb s.functions 64) (result_kind (kind_of (kind_number f.result)) && all_kinds (map kind_number f.params)) h.2 in
    let q = and_parts (result_kind (kind_of (kind_number f.result))) (all_kinds (map kind_number f.params)) r.1 in
    let c = leb-true (length zs) 7 (and_parts (leb 1 (length zs)) (leb (length zs) 7) h.1).1 in
    let m = length-map f.params kind_number in
    let s' = behind_part s p.Head (length zs) in
    let u = body_fits s' (n + 1) f.commands f.tail ls (omega arith) h.3 in
    (ltb-true s.functions 64 r.0, u.1, (writes_mod f.result (subst (λ o. result_kind o ≡ true) (kind_told f.result) q.0), omega arith, omega arith), u.2)

functions_fit : (s : Standing) (n : ℕ) (fs : List FunctionView) → s.functions ≤ 64 → s.steps ≤ 512 → Stands s n (flat_map function_said fs) → (s.functions + length fs ≤ 64) × (s.steps + steps_in fs ≤ 512) × ((i : ℕ) → i < length fs → Fitting (get_or fs i no_function))
functions_fit s n [] a b e = (omega arith, omega arith, λ i l. absurd (omega arith))
functions_fit s n (f ∷ fs) a b e =
    let h = function_fits s n f (flat_map function_said fs) e in
    let g = h.3 in
    let u = functions_fit g.s g.n fs (omega arith) (omega arith) g.stands in
    (omega arith, omega arith, each h.2 u.2)
  where
    each : Fitting f → ((i : ℕ) → i < length fs → Fitting (get_or fs i no_function)) → (i : ℕ) → i < length (f ∷ fs) → Fitting (get_or (f ∷ fs) i no_function)
    each h u zero l = h
    each h u (suc i) l = u i (omega arith)

-- the whole program
some_behind : (fs : List FunctionView) → placed d.Run p.Run (none_left (flat_map function_said fs)) ≡ true → 1 ≤ length fs
some_behind [] e = absurd (cc)
some_behind (f ∷ fs) e = omega arith

sound_view : (v : View) → lines_fault (view_said v) ≡ None → Sound v
sound_view v e =
    let ls = view_said v in
    let fs = flat_map function_said v.functions in
    let zs = pos v.numbers ∷ pos v.lists ∷ [] in
    let a = none_over (shape_fault_of ls) (kind_fault_of ls) e in
    let i = shape start 1 w.Inp zs ((w.Run, wholes v.run) ∷ fs) p.Inputs refl a.0 in
    let s₁ = behind_part start p.Inputs 2 in
    let r = shape s₁ (1 + 1) w.Run (wholes v.run) fs p.Run refl i.3 in
    let some = some_behind v.functions r.0 in
    let n = v.numbers + v.lists in
    let b = and_parts (leb v.numbers 256) (leb v.lists 256 && (leb 1 n && leb n 256)) i.2 in
    let c = and_parts (leb v.lists 256) (leb 1 n && leb n 256) b.1 in
    let m = and_parts (leb 1 n) (leb n 256) c.1 in
    let u = functions_fit (behind_part s₁ p.Run (length (wholes v.run))) (1 + 1 + 1) v.functions (omega arith) (omega arith) r.3 in
    let kept-kinds : Keeps v unknown 1 ls = subst (λ hs. first (known_after hs) (kind_rules hs) unknown 1 ls ≡ None) (heads_functions v.functions) a.1 in
    let j = line v [] k.Number 1 w.Inp zs ((w.Run, wholes v.run) ∷ fs) kept-kinds in
    let q = line v (input_kinds v) k.Number (1 + 1) w.Run (wholes v.run) fs j.2 in
    let t = lt-ltb 0 (length (heads v)) (omega (arith, length-map v.functions head_numbers)) in
    let given = accepted v 0 [] (input_kinds v) v.run t q.1 in
    let on : On v fs = ((input_kinds v, k.Number), 1 + 1 + 1, q.2) in
    record {
      some_inputs = leb-true 1 n m.0;
      inputs_fit = leb-true n 256 m.1;
      some_functions = some;
      functions_fit = omega arith;
      steps_fit = omega arith;
      each = λ h l. let w = u.2 h l in record { writes = w.0; params_fit = w.1; registers_fit = w.2; body = bodies v v.functions on h l };
      given = subst (Agree (input_kinds v) v.run) (sym given.takes) given.agree;
    }

pub sound : (p : Program) → Sound (viewed p)
sound p = sound_view (viewed p) (subst (λ ls. lines_fault ls ≡ None) (lines_same p) (kept p.numbers p.lists (vec_items p.run) (vec_items p.functions) p.keeps).0)

-- as many arguments as parameters
pub agree_length : (ks : List Kind) (args : List ℕ) (ps : List Kind) → Agree ks args ps → length args ≡ length ps
agree_length ks [] [] h = refl
agree_length ks [] (x ∷ ps) h = absurd h
agree_length ks (a ∷ args) [] h = absurd h
agree_length ks (a ∷ args) (x ∷ ps) h = ap suc (agree_length ks args ps h.1)

-- a function is entered with at most 6 values: NEW has at most 6 arguments, GET 5 and CAS 4
pub args_fit : (v : View) → Sound v → (lead ks : List Kind) (f : ℕ) (args : List ℕ) → Enters v lead ks f args → length lead + length args ≤ 6
args_fit v s lead ks f args h = omega (arith, (s.each f h.there).params_fit, ap length h.takes, length-append lead h.rest, agree_length ks args h.rest h.agree)
