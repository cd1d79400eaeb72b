use mathlib.Core.Path.{◌≡◌, refl, sym, ◌∙◌, ap, subst}
use Rattle.trace.proofs.Plain.{some_same}
use mathlib.Core.List.{List}
use mathlib.Core.Option.{none-ne-some}
use Prim.Native.Nat.{ℕ}
use Rattle.program.specs.View.{View}
use Rattle.trace.specs.Trace.{Trace, places, Store}
use Rattle.trace.specs.Run.{initial}
use Rattle.trace.specs.Turns.{Turns, at_write, past_new, kept, re_executed}
use Rattle.history.specs.Calls.{done, Pass}
use Rattle.history.specs.Wrong.{AlwaysTooLarge, RepeatsItself, RunsAnew, InventsCounts, first_place}

pub always_too_large : AlwaysTooLarge
always_too_large b₀ b s₀ s q t p h =
    let n = h.new_sheets 0 in
    none-ne-some t (sym ((h.beside n.answer n.sheet n.beside).old_too_large.0 refl) ∙ p)

pub repeats_itself : RepeatsItself
repeats_itself b₀ b s₀ s a t p w h = let n = h.new_sheets 0 in w ((h.beside n.answer n.sheet n.beside).old_holds t p).listing

same_first : {P : View} {old : List ℕ} {σ : Store} {t u : Trace} {e m : ℕ} → Turns P old σ t u e m → first_place t ≡ first_place u
same_first at_write = refl
same_first (past_new a b q r) = refl
same_first (kept p a) = refl
same_first (re_executed h p run fresh i j) = refl

pub runs_anew : RunsAnew
runs_anew b₀ b s₀ s a t u v e p g k w h =
    let y = h.with_trace e (λ n. none-ne-some v (sym n ∙ p)) in
    let t' : y.old_trace ≡ t = some_same (sym y.stood ∙ g) in
    let u' : y.new_trace ≡ u = some_same (sym y.stands ∙ k) in
    w (ap first_place (sym t') ∙ same_first y.turns ∙ ap first_place u')

same_counts : {mark e m z mark' e' m' z' : ℕ} {q q' : Pass} → done mark e m z q ≡ done mark' e' m' z' q' → (e ≡ e') × (m ≡ m')
same_counts x = (cc, cc)

pub invents_counts : InventsCounts
invents_counts b₀ b s₀ s q mark e m z f n t u v k p g w d other h =
    let y = h.with_trace k (λ o. none-ne-some v (sym o ∙ p)) in
    let t' : t ≡ y.old_trace = sym (some_same (sym y.stood ∙ g)) in
    let c = y.counts u f n (subst (λ (x : Trace). Turns b.made_of.program (places x) (initial b.inputs) x u f n) t' w) d in
    let a = same_counts y.answers in
    other (a.0 ∙ sym c.0, a.1 ∙ sym c.1)
