-- What a checked program guarantees to whoever runs it: numbers of functions and counts of arguments are small.
use Rattle.std.proofs.Common.{◌≡◌, ℕ, zero, suc, ◌+◌, ◌<◌, ◌≤◌, List, [], ◌∷◌, ◌++◌, map, length, get_or, replicate, vec_items, sym, ap, ◌∙◌, subst, arith}
use Rattle.std.proofs.lemmas.List.{length-append, length-replicate, length-map, get_or-map}
use Rattle.text.specs.declared.fields.Kind.{Kind}
use Rattle.text.specs.declared.fields.Kind.TheVariants as k
use Rattle.program.specs.declared.function.Function.{Function}
use Rattle.program.specs.declared.program.Program.{Program}
use Rattle.program.specs.View.{CommandView, LIT, APPLY, NEW, TailView, PUT, NIL, CON, GET, CAS, View, viewed, function_viewed, command_viewed, tail_viewed}
use Rattle.program.specs.Sound.{Agree, no_function, function_at, input_kinds, Enters, CommandSound, made_kind, TailSound, BodySound, FunctionSound, Sound}
use Rattle.program.proofs.Sound.{sound, agree_length, args_fit}
use Rattle.code.specs.Told.{TailFits}

-- the inputs that are given
agree_below : (ks : List Kind) (args : List ℕ) (ps : List Kind) → Agree ks args ps → (i : ℕ) → i < length args → get_or args i 0 < length ks
agree_below ks [] [] h i l = absurd (omega arith)
agree_below ks [] (x ∷ ps) h i l = absurd h
agree_below ks (a ∷ args) [] h i l = absurd h
agree_below ks (a ∷ args) (x ∷ ps) h zero l = h.0.0
agree_below ks (a ∷ args) (x ∷ ps) h (suc i) l = agree_below ks args ps h.1 i (omega arith)

inputs_counted : (v : View) → length (input_kinds v) ≡ v.numbers + v.lists
inputs_counted v =
    let a = replicate v.numbers k.ModNumber in
    let b = replicate v.lists k.ModList in
    omega (arith, length-append a b, length-replicate v.numbers k.ModNumber, length-replicate v.lists k.ModList)

pub run_few : (p : Program) → length (vec_items p.run) ≤ 6
run_few p =
    let v = viewed p in
    let s = sound p in
    omega (arith, agree_length (input_kinds v) v.run (function_at v 0).params s.given, (s.each 0 s.some_functions).params_fit)

pub run_below : (p : Program) (i : ℕ) → i < length (vec_items p.run) → get_or (vec_items p.run) i 0 < 256
run_below p i l =
    let v = viewed p in
    let s = sound p in
    omega (arith, agree_below (input_kinds v) v.run (function_at v 0).params s.given i l, inputs_counted v, s.inputs_fit)

-- the commands and the tail of a sound body, each with the registers before it
command_at : (v : View) (r : Kind) (ks : List Kind) (cs : List CommandView) (t : TailView) → BodySound v r ks cs t → (i : ℕ) (d : CommandView) → i < length cs → (js : List Kind) × CommandSound v js (get_or cs i d)
command_at v r ks [] t h i d l = absurd (omega arith)
command_at v r ks (c ∷ cs) t h zero d l = (ks, h.0)
command_at v r ks (c ∷ cs) t h (suc i) d l = command_at v r (ks ++ made_kind v c ∷ []) cs t h.1 i d (omega arith)

tail_at : (v : View) (r : Kind) (ks : List Kind) (cs : List CommandView) (t : TailView) → BodySound v r ks cs t → (js : List Kind) × TailSound v r js t
tail_at v r ks [] t h = (ks, h)
tail_at v r ks (c ∷ cs) t h = tail_at v r (ks ++ made_kind v c ∷ []) cs t h.1

-- a function that is entered has a small number, and few arguments
enters_fit : (v : View) → Sound v → (lead ks : List Kind) (f : ℕ) (args : List ℕ) → Enters v lead ks f args → (f < 64) × (length args ≤ 6)
enters_fit v s lead ks f args h = (omega (arith, h.there, s.functions_fit), omega (arith, args_fit v s lead ks f args h))

-- the numbers of a command's function and its count of arguments are small
abbrev pub CommandFits : CommandView → Type 0
CommandFits (LIT z) = Unit {0}
CommandFits (APPLY op a b) = Unit {0}
CommandFits (NEW f args) = (f < 64) × (length args ≤ 6)

command_fits : (v : View) → Sound v → (ks : List Kind) (c : CommandView) → CommandSound v ks c → CommandFits c
command_fits v s ks (LIT z) h = tt
command_fits v s ks (APPLY op a b) h = tt
command_fits v s ks (NEW f args) h = enters_fit v s [] ks f args h

tail_fits : (v : View) → Sound v → (r : Kind) (ks : List Kind) (t : TailView) → TailSound v r ks t → TailFits t
tail_fits v s r ks (PUT a) h = tt
tail_fits v s r ks NIL h = tt
tail_fits v s r ks (CON x y) h = tt
tail_fits v s r ks (GET a f args) h = enters_fit v s (k.Number ∷ []) ks f args h.1.0
tail_fits v s r ks (CAS a f g args) h =
    let e = enters_fit v s [] ks f args h.1.0 in
    (e.0, (enters_fit v s (k.ModNumber ∷ k.ModList ∷ []) ks g args h.2.0).0, e.1)

-- function f of a program is g
pub record Stands (p : Program) (f : ℕ) (g : Function) : Type 0 where
  pub there : f < length (vec_items p.functions)
  pub is : function_at (viewed p) f ≡ function_viewed g

pub found : (p : Program) (f : ℕ) (fs : List Function) (g : Function) → fs ≡ vec_items p.functions → f < length fs → g ≡ get_or fs f g → Stands p f g
found p f fs g e l is =
    record {
      there = subst (λ (xs : List Function). f < length xs) e l;
      is = ap (λ (xs : List Function). get_or (map function_viewed xs) f no_function) (sym e) ∙ get_or-map function_viewed fs f g no_function l ∙ ap function_viewed (sym is);
    }

function_sound : (p : Program) (f : ℕ) (g : Function) → Stands p f g → FunctionSound (viewed p) (function_viewed g)
function_sound p f g s = subst (FunctionSound (viewed p)) s.is ((sound p).each f (omega (arith, s.there, length-map (vec_items p.functions) function_viewed)))

pub commands_few : (p : Program) (f : ℕ) (g : Function) → Stands p f g → length (vec_items g.commands) ≤ 16
commands_few p f g s = omega (arith, (function_sound p f g s).registers_fit, length-map (vec_items g.commands) command_viewed)

pub commands_fit : (p : Program) (f : ℕ) (g : Function) → Stands p f g → (i : ℕ) (d : CommandView) → i < length (vec_items g.commands) → CommandFits (get_or (function_viewed g).commands i d)
commands_fit p f g s i d l =
    let v = viewed p in
    let h = command_at v g.result (vec_items g.params) (function_viewed g).commands (tail_viewed g.tail) (function_sound p f g s).body i d (omega (arith, length-map (vec_items g.commands) command_viewed)) in
    command_fits v (sound p) h.0 (get_or (function_viewed g).commands i d) h.1

pub tails_fit : (p : Program) (f : ℕ) (g : Function) → Stands p f g → TailFits (tail_viewed g.tail)
tails_fit p f g s =
    let v = viewed p in
    let h = tail_at v g.result (vec_items g.params) (function_viewed g).commands (tail_viewed g.tail) (function_sound p f g s).body in
    tail_fits v (sound p) g.result h.0 (tail_viewed g.tail) h.1
