-- The lines of a program are those of its view, and tell the view.
use Rattle.std.proofs.Common.{◌≡◌, ℕ, List, [], ◌∷◌, ◌++◌, map, get_or, drop, ℤ, pos, Some, vec_items, sym, refl, ap, ◌∙◌}
use Rattle.std.specs.List.{flat_map}
use Rattle.text.specs.declared.fields.Kind.{Kind}
use Rattle.text.specs.declared.fields.Kind.TheVariants as k
use Rattle.text.specs.declared.line.Word.{Word}
use Rattle.text.specs.declared.line.Word.TheVariants as w
use Rattle.text.specs.Lines.{Said}
use Rattle.text.specs.Numbers.{kind_of}
use Rattle.kinds.specs.Kinds.{kinds_in, or_number}
use Rattle.program.specs.declared.arith.Op.TheVariants as o
use Rattle.program.specs.declared.function.Command.{Command}
use Rattle.program.specs.declared.function.Command.TheVariants as c
use Rattle.program.specs.declared.function.Tail.{Tail}
use Rattle.program.specs.declared.function.Tail.TheVariants as t
use Rattle.program.specs.declared.function.Function.{Function}
use Rattle.program.specs.declared.program.Program.{Program}
use Rattle.program.specs.Programs.{op_word, kind_number, wholes, command_line, tail_line, head_said, function_lines}
use Rattle.program.specs.Says.{program_lines}
use Rattle.program.specs.Formed.{entry_of, entries}
use Rattle.program.specs.View.{CommandView, LIT, APPLY, NEW, TailView, PUT, NIL, CON, GET, CAS, FunctionView, View, command_viewed, tail_viewed, function_viewed, viewed}

-- the lines of a view
abbrev pub command_said : CommandView → Said
command_said (LIT z) = (w.Lit, z ∷ [])
command_said (APPLY op a b) = (op_word op, pos a ∷ pos b ∷ [])
command_said (NEW f args) = (w.New, pos f ∷ wholes args)

abbrev pub tail_said : TailView → Said
tail_said (PUT a) = (w.Put, pos a ∷ [])
tail_said NIL = (w.Nil, [])
tail_said (CON h l) = (w.Con, pos h ∷ pos l ∷ [])
tail_said (GET s f args) = (w.Get, pos s ∷ pos f ∷ wholes args)
tail_said (CAS s f g args) = (w.Cas, pos s ∷ pos f ∷ pos g ∷ wholes args)

abbrev pub body_said : List CommandView → TailView → List Said
body_said cs t = map command_said cs ++ tail_said t ∷ []

abbrev pub function_said : FunctionView → List Said
function_said f = head_said f.result f.params ∷ body_said f.commands f.tail

abbrev pub view_said : View → List Said
view_said v = (w.Inp, pos v.numbers ∷ pos v.lists ∷ []) ∷ (w.Run, wholes v.run) ∷ flat_map function_said v.functions

command_same : (x : Command) → command_line x ≡ command_said (command_viewed x)
command_same (c.Lit z) = refl
command_same (c.Apply op a b) = refl
command_same (c.New f args) = refl

tail_same : (x : Tail) → tail_line x ≡ tail_said (tail_viewed x)
tail_same (t.Put a) = refl
tail_same t.Nil = refl
tail_same (t.Con h l) = refl
tail_same (t.Get s f args) = refl
tail_same (t.Cas s f g args) = refl

body_same : (xs : List Command) (x : Tail) → map command_line xs ++ tail_line x ∷ [] ≡ body_said (map command_viewed xs) (tail_viewed x)
body_same [] x = ap (λ y. y ∷ []) (tail_same x)
body_same (y ∷ ys) x = ap (λ z. z ∷ (map command_line ys ++ tail_line x ∷ [])) (command_same y) ∙ ap (λ zs. command_said (command_viewed y) ∷ zs) (body_same ys x)

functions_same : (fs : List Function) → flat_map function_lines fs ≡ flat_map function_said (map function_viewed fs)
functions_same [] = refl
functions_same (f ∷ fs) =
    let h = head_said f.result (vec_items f.params) in
    ap (λ ls. (h ∷ ls) ++ flat_map function_lines fs) (body_same (vec_items f.commands) f.tail) ∙ ap (λ ls. function_said (function_viewed f) ++ ls) (functions_same fs)

pub lines_same : (p : Program) → program_lines p ≡ view_said (viewed p)
lines_same p = ap (λ ls. (w.Inp, pos p.numbers ∷ pos p.lists ∷ []) ∷ (w.Run, wholes (vec_items p.run)) ∷ ls) (functions_same (vec_items p.functions))

-- what numbers in fields stand for
pub kind_told : (x : Kind) → kind_of (kind_number x) ≡ Some x
kind_told k.Number = refl
kind_told k.ModNumber = refl
kind_told k.ModList = refl

pub kind_back : (x : Kind) → or_number (kind_of (kind_number x)) ≡ x
kind_back x = ap or_number (kind_told x)

pub kinds_back : (xs : List Kind) → kinds_in (map kind_number xs) ≡ xs
kinds_back [] = refl
kinds_back (x ∷ xs) = ap (λ y. y ∷ kinds_in (map kind_number xs)) (kind_back x) ∙ ap (λ ys. x ∷ ys) (kinds_back xs)

entries_back : (ns : List ℕ) → entries (wholes ns) ≡ ns
entries_back [] = refl
entries_back (n ∷ ns) = ap (λ ms. n ∷ ms) (entries_back ns)

-- read from the last line on: the commands since the last head, their tail, and the functions
abbrev Behind : Type 0
Behind = List CommandView × TailView × List FunctionView

abbrev entry_at : List ℤ → ℕ → ℕ
entry_at zs j = entry_of (get_or zs j (pos 0))

abbrev before : Word → List ℤ → Behind → Behind
before w.Inp zs (cs, x, fs) = (cs, x, fs)
before w.Run zs (cs, x, fs) = (cs, x, fs)
before w.Fun zs (cs, x, fs) = ([], NIL, record { result = or_number (kind_of (get_or zs 0 (pos 0))); params = kinds_in (drop 1 zs); commands = cs; tail = x } ∷ fs)
before w.Lit zs (cs, x, fs) = (LIT (get_or zs 0 (pos 0)) ∷ cs, x, fs)
before w.Add zs (cs, x, fs) = (APPLY o.Add (entry_at zs 0) (entry_at zs 1) ∷ cs, x, fs)
before w.Sub zs (cs, x, fs) = (APPLY o.Sub (entry_at zs 0) (entry_at zs 1) ∷ cs, x, fs)
before w.Mul zs (cs, x, fs) = (APPLY o.Mul (entry_at zs 0) (entry_at zs 1) ∷ cs, x, fs)
before w.Div zs (cs, x, fs) = (APPLY o.Div (entry_at zs 0) (entry_at zs 1) ∷ cs, x, fs)
before w.Min zs (cs, x, fs) = (APPLY o.Min (entry_at zs 0) (entry_at zs 1) ∷ cs, x, fs)
before w.Max zs (cs, x, fs) = (APPLY o.Max (entry_at zs 0) (entry_at zs 1) ∷ cs, x, fs)
before w.New zs (cs, x, fs) = (NEW (entry_at zs 0) (entries (drop 1 zs)) ∷ cs, x, fs)
before w.Put zs (cs, x, fs) = ([], PUT (entry_at zs 0), fs)
before w.Nil zs (cs, x, fs) = ([], NIL, fs)
before w.Con zs (cs, x, fs) = ([], CON (entry_at zs 0) (entry_at zs 1), fs)
before w.Get zs (cs, x, fs) = ([], GET (entry_at zs 0) (entry_at zs 1) (entries (drop 2 zs)), fs)
before w.Cas zs (cs, x, fs) = ([], CAS (entry_at zs 0) (entry_at zs 1) (entry_at zs 2) (entries (drop 3 zs)), fs)

abbrev behind : List Said → Behind
behind [] = ([], NIL, [])
behind ((k, zs) ∷ ls) = before k zs (behind ls)

command_back : (x : CommandView) (cs : List CommandView) (t : TailView) (fs : List FunctionView) → before (command_said x).0 (command_said x).1 (cs, t, fs) ≡ (x ∷ cs, t, fs)
command_back (LIT z) cs t fs = refl
command_back (APPLY o.Add a b) cs t fs = refl
command_back (APPLY o.Sub a b) cs t fs = refl
command_back (APPLY o.Mul a b) cs t fs = refl
command_back (APPLY o.Div a b) cs t fs = refl
command_back (APPLY o.Min a b) cs t fs = refl
command_back (APPLY o.Max a b) cs t fs = refl
command_back (NEW f args) cs t fs = ap (λ ns. (NEW f ns ∷ cs, t, fs)) (entries_back args)

tail_back : (x : TailView) (cs : List CommandView) (t : TailView) (fs : List FunctionView) → before (tail_said x).0 (tail_said x).1 (cs, t, fs) ≡ ([], x, fs)
tail_back (PUT a) cs t fs = refl
tail_back NIL cs t fs = refl
tail_back (CON h l) cs t fs = refl
tail_back (GET s f args) cs t fs = ap (λ ns. ([], GET s f ns, fs)) (entries_back args)
tail_back (CAS s f g args) cs t fs = ap (λ ns. ([], CAS s f g ns, fs)) (entries_back args)

body_back : (cs : List CommandView) (x : TailView) (ls : List Said) → behind (body_said cs x ++ ls) ≡ (cs, x, (behind ls).2)
body_back [] x ls = tail_back x (behind ls).0 (behind ls).1 (behind ls).2
body_back (y ∷ cs) x ls = ap (before (command_said y).0 (command_said y).1) (body_back cs x ls) ∙ command_back y cs x (behind ls).2

functions_back : (fs : List FunctionView) → (behind (flat_map function_said fs)).2 ≡ fs
functions_back [] = refl
functions_back (f ∷ fs) =
    let F : Kind → List Kind → Behind → List FunctionView = λ r ps b. record { result = r; params = ps; commands = b.0; tail = b.1 } ∷ b.2 in
    let r = or_number (kind_of (kind_number f.result)) in
    let ps = kinds_in (map kind_number f.params) in
    let ls = flat_map function_said fs in
    ap (F r ps) (body_back f.commands f.tail ls) ∙ ap (λ x. F x ps (f.commands, f.tail, (behind ls).2)) (kind_back f.result) ∙ ap (λ xs. F f.result xs (f.commands, f.tail, (behind ls).2)) (kinds_back f.params) ∙ ap (λ gs. f ∷ gs) (functions_back fs)

-- the view that lines tell
abbrev view_told : List Said → View
view_told [] = record { numbers = 0; lists = 0; run = []; functions = [] }
view_told ((k, zs) ∷ []) = record { numbers = 0; lists = 0; run = []; functions = [] }
view_told ((k, zs) ∷ (j, ys) ∷ ls) = record { numbers = entry_at zs 0; lists = entry_at zs 1; run = entries ys; functions = (behind ls).2 }

view_back : (v : View) → view_told (view_said v) ≡ v
view_back v =
    let V : List ℕ → List FunctionView → View = λ ns fs. record { numbers = v.numbers; lists = v.lists; run = ns; functions = fs } in
    ap (λ ns. V ns (behind (flat_map function_said v.functions)).2) (entries_back v.run) ∙ ap (V v.run) (functions_back v.functions)

-- programs with the same lines have the same view
pub view_from_lines : (p q : Program) → program_lines p ≡ program_lines q → viewed p ≡ viewed q
view_from_lines p q e = sym (view_back (viewed p)) ∙ ap view_told (sym (lines_same p) ∙ e ∙ lines_same q) ∙ view_back (viewed q)
