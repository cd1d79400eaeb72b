-- A sheet just made.
use Rattle.std.proofs.Common.{◌≡◌, ℕ, ◌+◌, ◌-◌, ◌*◌, ◌≤◌, cond, ltb, List, [], ◌∷◌, ◌++◌, length, get_or, take, replicate, pos, sym, refl, ◌∙◌, subst, ap₂, inl, inr, arith, length-append, length-take}
use lib.ListN.{length-replicate, get_or-replicate}
use Rattle.std.proofs.lemmas.List.{same_lists, get_or_default, get_or_append_left, get_or-append_right, get_or-take}
use Rattle.std.proofs.lemmas.Bool.{cases_lt, lt-ltb, le-ltb}
use Rattle.program.specs.declared.program.Program.{Program}
use Rattle.program.specs.View.{viewed}
use Rattle.program.proofs.Sound.{sound}
use Rattle.program.specs.declared.value.InputContent.{InputContent}
use Rattle.program.specs.declared.value.InputContent.TheVariants.{Number, Empty}
use Rattle.history.specs.Calls.{unsettled}
use Rattle.history.specs.Book.{rests}
use Rattle.history.specs.Sheet.{fresh}
use Rattle.order_list.specs.declared.list.OrderList.{Ghosts}
use Rattle.table.specs.declared.limit.Limit.{Limit}
use Rattle.table.specs.declared.table.Table.{Table}
use Rattle.table.specs.Anew.{Vacant, Zeros}
use Rattle.table.proofs.Vacancy.{standing_in}
use Rattle.table.proofs.Zeroed.{all_alike}
use Rattle.sheet.specs.declared.sheet.State.TheVariants.{Unsettled}
use Rattle.sheet.specs.Shows.{count_of_inputs, RestEmpty, Shows}

-- ── the inputs ──

module _ (p : Program) (is : List InputContent) (long : length is ≡ 256) (zero : Zeros (viewed p) is) where
  abbrev zeros : List InputContent
  zeros = replicate p.numbers (Number (pos 0))

  abbrev empties : List InputContent
  empties = replicate p.lists Empty

  blank_at : (k : ℕ) → get_or (zeros ++ empties) k Empty ≡ cond (ltb k p.numbers) (Number (pos 0)) Empty
  blank_at k =
      let e = length-replicate p.numbers (Number (pos 0)) in
      elim (cases_lt k p.numbers) [
        | inl l ↦ let t = lt-ltb k p.numbers l in rw t (get_or_append_left zeros empties Empty k (omega arith) ∙ get_or-replicate p.numbers k (Number (pos 0)) Empty l)
        | inr l ↦ let t = le-ltb k p.numbers l in rw t (get_or-append_right zeros empties p.numbers k Empty e l ∙ all_alike p.lists (k - p.numbers) Empty)
      ]

  few : count_of_inputs p ≤ 256
  few = (sound p).inputs_fit

  inputs_blank : take (count_of_inputs p) is ≡ zeros ++ empties
  inputs_blank =
      let n = count_of_inputs p in
      let f = few in
      let a = length-take n is in
      let b = length-append zeros empties in
      let c = length-replicate p.numbers (Number (pos 0)) in
      let d = length-replicate p.lists Empty in
      same_lists (take n is) (zeros ++ empties) (omega arith) (λ k e h.
      get_or_default (take n is) k e Empty h ∙ get_or-take n is k Empty (omega arith) ∙ zero k ∙ sym (blank_at k) ∙ get_or_default (zeros ++ empties) k Empty e (omega arith))

  rest_zero : RestEmpty (count_of_inputs p) is
  rest_zero k l = zero k ∙ (let t = le-ltb k p.numbers (omega arith) in rw t)

-- ── the sheet ──

pub just_made : {X : Type 0} {g : Ghosts X} {p : Program} {n L : ℕ} {l : Limit} {t : Table} {x : X} → l.value ≡ L → Vacant l.value t → Zeros (viewed p) t.inputs → t.noted ≡ t.inputs →
    g.order x ≡ 0 ∷ [] → 4 * l.value + 1 ≤ g.size x →
    Shows g (record { program = p; number = n; limit = l; state = Unsettled; table = t; list = x }) (fresh (record { program = viewed p; number = n; limit = L }))
just_made {g = g} {p} {n} {L} {l} {t} {x} el v z en ox w =
    let r = rest_zero p t.inputs t.wide z in
    record {
      keeps = sym (ap₂ (λ (is : List InputContent) (k : ℕ). record { made_of = record { program = viewed p; number = n; limit = k }; state = rests unsettled; inputs = is; bookings = [] }) (inputs_blank p t.inputs t.wide z) el);
      holding = record { standing = standing_in ox w v };
      traced = refl;
      rest = r;
      noted_rest = subst (RestEmpty (count_of_inputs p)) (sym en) r;
    }
