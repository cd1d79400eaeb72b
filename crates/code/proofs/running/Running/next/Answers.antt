use Rattle.std.proofs.Common.{ℕ, ◌≡◌, ◌<◌, List, map, length, get_or, vec_items, sym, ap, ◌∙◌, subst, arith, w32, SFits, rules}
use Rattle.std.proofs.lemmas.Int.{to_z-of_z}
use Rattle.program.specs.View.{viewed, command_viewed}
use Rattle.program.specs.declared.function.Command.{Command}
use Rattle.program.specs.declared.value.Value.TheVariants.{Number}
use Rattle.trace.specs.Code.{register, makes}
use Rattle.code.specs.Shown.{held, Defined}
use Rattle.code.specs.Told.{behind}
use Rattle.code.proofs.Sounds.{Stands, CommandFits, found, commands_few, tails_fit}
use Rattle.code.proofs.Steps.{On, at_command, fits_here, lit_on, apply_on, new_on}
use Rattle.code.proofs.running.Running.next.Goals as goal
use Rattle.code.proofs.running.Running.next.Goals.{After-get-in-loop-command, In-Some-get}

-- the function that runs stands in the program
stands : (c : goal.After-get-in-loop-command) → Stands c.args.program.now c.loop-command.code.function c.in-Some.function.now
stands c =
    let p = c.args.program.now in
    let g = c.in-Some.function.now in
    let h = c.in-Some.ensures.lookup in
    subst (λ f. Stands p f g) (sym c.loop-command.invariant.1) (found p c.args.self.function c.deref.result.now g c.deref.ensures.value h.3.0 h.1)

-- a command is at hand
within : (c : goal.In-Some-get) → c.loop-command.code.at < length (vec_items c.in-Some.function.now.commands)
within c = subst (λ (xs : List Command). c.loop-command.code.at < length xs) c.deref-in-loop-command.ensures.value c.in-Some-get.ensures.lookup.3.0

is-there : (c : goal.In-Some-get) → c.in-Some-get.command.now ≡ get_or (vec_items c.in-Some.function.now.commands) c.loop-command.code.at c.in-Some-get.command.now
is-there c = subst (λ (xs : List Command). c.in-Some-get.command.now ≡ get_or xs c.loop-command.code.at c.in-Some-get.command.now) c.deref-in-loop-command.ensures.value c.in-Some-get.ensures.lookup.1

few : (c : goal.In-Some-get) → c.loop-command.code.at < 16
few c = omega (arith, within c, commands_few c.args.program.now c.loop-command.code.function c.in-Some.function.now (stands (goal.at.In-Some-get c).After-get-in-loop-command))

at-hand : (c : goal.In-Some-get) → On c.args.program.now c.loop-command.code (command_viewed c.in-Some-get.command.now)
at-hand c = at_command c.args.program.now c.loop-command.code c.in-Some.function.now (stands (goal.at.In-Some-get c).After-get-in-loop-command) c.in-Some-get.command.now (within c) (is-there c)

fits : (c : goal.In-Some-get) → CommandFits (command_viewed c.in-Some-get.command.now)
fits c = fits_here c.args.program.now c.loop-command.code c.in-Some.function.now (stands (goal.at.In-Some-get c).After-get-in-loop-command) c.in-Some-get.command.now (within c) (is-there c)

pub define-requires : goal.define-requires
define-requires c = few (goal.at.define-requires c).In-Some-get

pub loop-command-preserved-in-Lit : goal.loop-command-preserved-in-Lit
loop-command-preserved-in-Lit c =
    let r = c.loop-command.code in
    let s = c.define.new.self in
    let z = c.in-Lit.value in
    let d = c.define.ensures in
    let f : SFits w32 z = search rules in (
      lit_on c.args.program.now r s _ z (at-hand (goal.at.loop-command-preserved-in-Lit c).In-Some-get) (ap command_viewed c.in-Lit.is) (subst (λ n. Defined r (Number n) s) (to_z-of_z w32 z f) d) ∙ c.loop-command.invariant.0,
      d.function ∙ c.loop-command.invariant.1,
    )

pub define-requires-in-Apply : goal.define-requires-in-Apply
define-requires-in-Apply c = few (goal.at.define-requires-in-Apply c).In-Some-get

pub loop-command-preserved : goal.loop-command-preserved
loop-command-preserved c =
    let i = c.in-Apply in
    let d = c.define-in-Apply.ensures in (
      apply_on c.args.program.now c.loop-command.code c.define-in-Apply.new.self _ i.op i.left i.right c.apply-value.result (at-hand (goal.at.loop-command-preserved c).In-Some-get) (ap command_viewed i.is) c.apply-value.ensures d ∙ c.loop-command.invariant.0,
      d.function ∙ c.loop-command.invariant.1,
    )

pub make-requires : goal.make-requires
make-requires c =
    let at = (goal.at.make-requires c).In-Some-get in
    let e = subst CommandFits (ap command_viewed c.in-New.is) (fits at) in
    record { at = few at; function = e.0; named = omega (arith, e.1, ap length c.deref-in-New.ensures.value) }

pub returns-in-New : goal.returns-in-New
returns-in-New c =
    let p = c.args.program.now in
    let r = c.loop-command.code in
    let f = c.in-New.made in
    c.make.ensures (viewed p) ∙ ap (λ (is : List ℕ). makes f (map (register (held r)) is) (behind (viewed p) r)) c.deref-in-New.ensures.value ∙ sym (new_on p r _ f (vec_items c.in-New.args) (at-hand (goal.at.returns-in-New c).In-Some-get) (ap command_viewed c.in-New.is)) ∙ c.loop-command.invariant.0

pub finish-requires : goal.finish-requires
finish-requires c = tails_fit c.args.program.now c.loop-command.code.function c.in-Some.function.now (stands (goal.at.finish-requires c).After-get-in-loop-command)
