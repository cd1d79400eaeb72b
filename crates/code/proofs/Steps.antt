-- One command after another: what the code does next is the same before a command that defines a register and behind it.
use Rattle.std.proofs.Common.{◌≡◌, ℕ, ◌+◌, ◌<◌, List, [], ◌∷◌, ◌++◌, map, length, get_or, drop, ℤ, vec_items, sym, ap, ◌∙◌, subst, arith}
use Rattle.std.proofs.lemmas.List.{drop_more, length-map, get_or-map}
use Rattle.program.specs.declared.arith.Op.{Op}
use Rattle.program.specs.declared.function.Command.{Command}
use Rattle.program.specs.declared.function.Function.{Function}
use Rattle.program.specs.declared.program.Program.{Program}
use Rattle.program.specs.declared.value.Value.{Value}
use Rattle.program.specs.declared.value.Value.TheVariants.{Number}
use Rattle.program.specs.Arith.{applied}
use Rattle.program.specs.View.{CommandView, LIT, APPLY, NEW, FunctionView, View, viewed, command_viewed, tail_viewed}
use Rattle.program.specs.Sound.{function_at}
use Rattle.trace.specs.Code.{Next, register, value_number, steps, next, makes}
use Rattle.code.specs.declared.running.Running.{Running}
use Rattle.code.specs.Shown.{held, shown, Defined}
use Rattle.code.specs.Told.{behind}
use Rattle.code.proofs.Sounds.{Stands, CommandFits, commands_fit}

-- what a function does next behind its first i commands, with these registers
abbrev goes : FunctionView → ℕ → List Value → Next
goes f i vs = steps (drop i f.commands) f.tail vs

defined_goes : (P : View) (a b : Running) (v : Value) → Defined a v b → next P (shown P b) ≡ goes (function_at P a.function) (a.at + 1) (held a ++ v ∷ [])
defined_goes P a b v d =
    ap (λ f. goes (function_at P f) b.at (held b)) d.function ∙ ap (λ i. goes (function_at P a.function) i (held b)) d.at ∙ ap (goes (function_at P a.function) (a.at + 1)) d.values

-- from a command to what it does
abbrev pub On : Program → Running → CommandView → Type 0
On p r x = next (viewed p) (shown (viewed p) r) ≡ steps (x ∷ drop (r.at + 1) (function_at (viewed p) r.function).commands) (function_at (viewed p) r.function).tail (held r)

pub lit_on : (p : Program) (a b : Running) (x : CommandView) (z : ℤ) → On p a x → x ≡ LIT z → Defined a (Number z) b → next (viewed p) (shown (viewed p) b) ≡ next (viewed p) (shown (viewed p) a)
lit_on p a b x z e q d = defined_goes (viewed p) a b (Number z) d ∙ sym (subst (On p a) q e)

pub apply_on : (p : Program) (a b : Running) (x : CommandView) (op : Op) (i j : ℕ) (v : Value) → On p a x → x ≡ APPLY op i j → v ≡ Number (applied op (value_number (register (held a) i)) (value_number (register (held a) j))) → Defined a v b → next (viewed p) (shown (viewed p) b) ≡ next (viewed p) (shown (viewed p) a)
apply_on p a b x op i j v e q h d = defined_goes (viewed p) a b v d ∙ ap (λ u. goes (function_at (viewed p) a.function) (a.at + 1) (held a ++ u ∷ [])) h ∙ sym (subst (On p a) q e)

pub new_on : (p : Program) (a : Running) (x : CommandView) (f : ℕ) (args : List ℕ) → On p a x → x ≡ NEW f args → next (viewed p) (shown (viewed p) a) ≡ makes f (map (register (held a)) args) (behind (viewed p) a)
new_on p a x f args e q = subst (On p a) q e

module _ (p : Program) (r : Running) (g : Function) (s : Stands p r.function g) where
  abbrev cs : List Command
  cs = vec_items g.commands

  module _ (x : Command) (l : r.at < length cs) (is : x ≡ get_or cs r.at x) where
    here : get_or (map command_viewed cs) r.at (command_viewed x) ≡ command_viewed x
    here = get_or-map command_viewed cs r.at x (command_viewed x) l ∙ ap command_viewed (sym is)

    -- the command at hand is the first of those that are left
    pub at_command : On p r (command_viewed x)
    at_command =
        let m = map command_viewed cs in
        ap (λ f. goes f r.at (held r)) s.is ∙ ap (λ xs. steps xs (tail_viewed g.tail) (held r)) (drop_more m r.at (command_viewed x) (omega (arith, length-map cs command_viewed))) ∙ ap (λ y. steps (y ∷ drop (r.at + 1) m) (tail_viewed g.tail) (held r)) here ∙ ap (λ f. steps (command_viewed x ∷ drop (r.at + 1) f.commands) f.tail (held r)) (sym s.is)

    pub fits_here : CommandFits (command_viewed x)
    fits_here = subst CommandFits here (commands_fit p r.function g s r.at (command_viewed x) l)
