-- A run stays a run when its places are given other names.
use mathlib.Core.Path.{◌≡◌, refl, sym, ◌∙◌, ap, ap₂, subst}
use mathlib.Core.Bool.{Bool, true, false, cond}
use mathlib.Core.List.{List, [], ◌∷◌, ◌++◌, map, map-append}
use Prim.Native.Nat.{ℕ, suc, ◌+◌}
use lib.Dec.{eqb}
use lib.ListN.{get_or-map}
use lib.IntN.{ℤ, pos}
use borrow.Author.Tests.{eqb-true, eqb-false}
use Rattle.program.specs.View.{CommandView, LIT, APPLY, NEW, TailView, PUT, NIL, CON, GET, CAS, View}
use Rattle.trace.specs.Code.{Code, Reader, get, cas, Next, writes, makes, reads, next, resume, enter, entered, arguments, value_number, value_name, register, finish, steps, content_number}
use Rattle.program.specs.Arith.{applied}
use Rattle.trace.specs.Trace.{Trace, write, new, read, written, size, Store, put, after}
use Rattle.trace.specs.Run.{Follows, Kept}
use Rattle.trace.specs.Listing.{rename, rename_value, rename_content, rename_reader, rename_trace}
use Rattle.program.specs.declared.value.Name.{Name}
use Rattle.program.specs.declared.value.Name.TheVariants.{Input, Made}
use Rattle.program.specs.declared.value.Content.{Content}
use Rattle.program.specs.declared.value.Content.TheVariants.{Number, Empty, Cell}
use Rattle.program.specs.declared.value.Value.{Value}
use Rattle.program.specs.declared.value.Value.TheVariants as val

module _ (ρ : ℕ → ℕ) where
  abbrev pub rename_code : Code → Code
  rename_code c = record { registers = map (rename_value ρ) c.registers; commands = c.commands; tail = c.tail }

  abbrev pub rename_next : Next → Next
  rename_next (writes x) = writes (rename_content ρ x)
  rename_next (makes f vs k) = makes f (map (rename_value ρ) vs) (rename_code k)
  rename_next (reads s b) = reads (rename ρ s) (rename_reader ρ b)

  at_renamed : (r : List Value) (i : ℕ) → register (map (rename_value ρ) r) i ≡ rename_value ρ (register r i)
  at_renamed r i = get_or-map (rename_value ρ) r i (val.Number (pos 0))

  all_renamed : (r : List Value) (is : List ℕ) → map (register (map (rename_value ρ) r)) is ≡ map (rename_value ρ) (map (register r) is)
  all_renamed r [] = refl
  all_renamed r (i ∷ is) = ap₂ (λ (v : Value) (vs : List Value). v ∷ vs) (at_renamed r i) (all_renamed r is)

  number_renamed : (v : Value) → value_number (rename_value ρ v) ≡ value_number v
  number_renamed (val.Number z) = refl
  number_renamed (val.Mod a) = refl

  name_renamed : (v : Value) → value_name (rename_value ρ v) ≡ rename ρ (value_name v)
  name_renamed (val.Number z) = refl
  name_renamed (val.Mod a) = refl

  number_at : (r : List Value) (i : ℕ) → value_number (register (map (rename_value ρ) r) i) ≡ value_number (register r i)
  number_at r i = ap value_number (at_renamed r i) ∙ number_renamed (register r i)

  name_at : (r : List Value) (i : ℕ) → value_name (register (map (rename_value ρ) r) i) ≡ rename ρ (value_name (register r i))
  name_at r i = ap value_name (at_renamed r i) ∙ name_renamed (register r i)

  finish_renamed : (t : TailView) (r : List Value) → finish t (map (rename_value ρ) r) ≡ rename_next (finish t r)
  finish_renamed (PUT a) r = ap (λ (z : ℤ). writes (Number z)) (number_at r a)
  finish_renamed NIL r = refl
  finish_renamed (CON h t) r = ap₂ (λ (a b : Name). writes (Cell a b)) (name_at r h) (name_at r t)
  finish_renamed (GET s f is) r = ap₂ (λ (a : Name) (vs : List Value). reads a (get f vs)) (name_at r s) (all_renamed r is)
  finish_renamed (CAS s f g is) r = ap₂ (λ (a : Name) (vs : List Value). reads a (cas f g vs)) (name_at r s) (all_renamed r is)

  steps_renamed : (cs : List CommandView) (t : TailView) (r : List Value) → steps cs t (map (rename_value ρ) r) ≡ rename_next (steps cs t r)
  steps_renamed [] t r = finish_renamed t r
  steps_renamed (LIT v ∷ cs) t r = ap (steps cs t) (sym (map-append (rename_value ρ) r (val.Number v ∷ []))) ∙ steps_renamed cs t (r ++ (val.Number v ∷ []))
  steps_renamed (APPLY o a b ∷ cs) t r =
      let z : ℤ = applied o (value_number (register r a)) (value_number (register r b)) in
      ap (λ (y : ℤ). steps cs t (map (rename_value ρ) r ++ (val.Number y ∷ []))) (ap₂ (applied o) (number_at r a) (number_at r b))
      ∙ ap (steps cs t) (sym (map-append (rename_value ρ) r (val.Number z ∷ []))) ∙ steps_renamed cs t (r ++ (val.Number z ∷ []))
  steps_renamed (NEW f is ∷ cs) t r =
      ap (λ (vs : List Value). makes f vs (record { registers = map (rename_value ρ) r; commands = cs; tail = t })) (all_renamed r is)

  pub next_renamed : (P : View) (c : Code) {x : Next} → next P c ≡ x → next P (rename_code c) ≡ rename_next x
  next_renamed P c e = steps_renamed c.commands c.tail c.registers ∙ ap rename_next e

  pub resume_renamed : (c : Code) (n : ℕ) → rename_code (resume c n) ≡ resume (rename_code c) (ρ n)
  resume_renamed c n = ap (λ (r : List Value). record { registers = r; commands = c.commands; tail = c.tail }) (map-append (rename_value ρ) c.registers (val.Mod (Made n) ∷ []))

  pub entered_renamed : (b : Reader) (x : Content) → entered (rename_reader ρ b) (rename_content ρ x) ≡ entered b x
  entered_renamed (get f vs) x = refl
  entered_renamed (cas f g vs) (Number z) = refl
  entered_renamed (cas f g vs) Empty = refl
  entered_renamed (cas f g vs) (Cell h t) = refl

  head_renamed : (x : Content) → content_number (rename_content ρ x) ≡ content_number x
  head_renamed (Number z) = refl
  head_renamed Empty = refl
  head_renamed (Cell h t) = refl

  pub arguments_renamed : (b : Reader) (x : Content) → arguments (rename_reader ρ b) (rename_content ρ x) ≡ map (rename_value ρ) (arguments b x)
  arguments_renamed (get f vs) x = ap (λ (z : ℤ). val.Number z ∷ map (rename_value ρ) vs) (head_renamed x)
  arguments_renamed (cas f g vs) (Number z) = refl
  arguments_renamed (cas f g vs) Empty = refl
  arguments_renamed (cas f g vs) (Cell h t) = refl

  pub written_renamed : (t : Trace) → written (rename_trace ρ t) ≡ rename_content ρ (written t)
  written_renamed (write x) = refl
  written_renamed (new n f vs inner rest) = written_renamed rest
  written_renamed (read n s b x rest) = written_renamed rest

  pub size_renamed : (t : Trace) → size (rename_trace ρ t) ≡ size t
  size_renamed (write x) = refl
  size_renamed (new n f vs inner rest) = ap₂ (λ a b. suc (a + b)) (size_renamed inner) (size_renamed rest)
  size_renamed (read n s b x rest) = ap suc (size_renamed rest)

  pub follows_renamed : (P : View) (t : Trace) (c : Code) → Follows P t c → Follows P (rename_trace ρ t) (rename_code c)
  follows_renamed P (write x) c h = next_renamed P c h
  follows_renamed P (new n f vs inner rest) c h = (
    rename_code h.0,
    next_renamed P c h.1,
    follows_renamed P inner (enter P f vs) h.2,
    subst (Follows P (rename_trace ρ rest)) (resume_renamed h.0 n) (follows_renamed P rest (resume h.0 n) h.3),
  )
  follows_renamed P (read n s b x rest) c h = (
    next_renamed P c h.0,
    subst (Follows P (rename_trace ρ rest)) (sym (ap₂ (enter P) (entered_renamed b x) (arguments_renamed b x)))
        (follows_renamed P rest (enter P (entered b x) (arguments b x)) h.1),
  )

  -- a store under the new names
  pub record Carried (σ τ : Store) : Type 0 where
    pub same : (a : Name) → τ (rename ρ a) ≡ rename_content ρ (σ a)

  module _ (one-one : (a b : ℕ) → ρ a ≡ ρ b → a ≡ b) where
    pub put_carried : {σ τ : Store} (n : ℕ) (t : Trace) → Carried σ τ → Carried (put σ n (written t)) (put τ (ρ n) (written (rename_trace ρ t)))
    put_carried {σ} {τ} n t h = record { same = at_name }
      where
        pick : (m : ℕ) (a b : Bool) → eqb m n ≡ a → eqb (ρ m) (ρ n) ≡ b → cond b (written (rename_trace ρ t)) (τ (Made (ρ m))) ≡ rename_content ρ (cond a (written t) (σ (Made m)))
        pick m true true p q = written_renamed t
        pick m true false p q = absurd (eqb-false (ρ m) (ρ n) q (ap ρ (eqb-true m n p)))
        pick m false true p q = absurd (eqb-false m n p (one-one m n (eqb-true (ρ m) (ρ n) q)))
        pick m false false p q = h.same (Made m)

        at_name : (a : Name) → put τ (ρ n) (written (rename_trace ρ t)) (rename ρ a) ≡ rename_content ρ (put σ n (written t) a)
        at_name (Input k) = h.same (Input k)
        at_name (Made m) = pick m (eqb m n) (eqb (ρ m) (ρ n)) refl refl

    pub after_carried : (t : Trace) {σ τ : Store} → Carried σ τ → Carried (after t σ) (after (rename_trace ρ t) τ)
    after_carried (write x) h = h
    after_carried (new n f vs inner rest) h = after_carried rest (put_carried n inner (after_carried inner h))
    after_carried (read n s b x rest) h = after_carried rest h

    pub kept_carried : (t : Trace) {σ τ : Store} → Carried σ τ → Kept t σ → Kept (rename_trace ρ t) τ
    kept_carried (write x) h k = tt
    kept_carried (new n f vs inner rest) h k =
        (kept_carried inner h k.0, kept_carried rest (put_carried n inner (after_carried inner h)) k.1)
    kept_carried (read n s b x rest) h k = (h.same s ∙ ap (rename_content ρ) k.0, kept_carried rest h k.1)
