-- A run of the whole program, and what it leaves.
use Rattle.std.proofs.Common.{◌≡◌, ℕ, suc, ◌-◌, ◌≤◌, List, [], ◌∷◌, ◌++◌, map, length, get_or, sym, refl, ap, ◌∙◌, subst, ap₂, append_assoc, append-nil, arith, length-append}
use Rattle.program.specs.View.{View, NIL}
use Rattle.program.specs.declared.value.Content.{Content}
use Rattle.program.specs.declared.value.Content.TheVariants.{Empty}
use Rattle.program.specs.declared.value.InputContent.{InputContent}
use Rattle.program.specs.declared.value.InputContent.TheVariants as input
use Rattle.program.specs.declared.value.Value.{Value}
use Rattle.trace.specs.Code.{Code, next, makes, resume, enter, register, count_from, main}
use Rattle.trace.specs.Trace.{size, Store}
use Rattle.trace.specs.Run.{Kept, content_of_input, initial, Stands}
use Rattle.trace.specs.Over.{Over, BeginsMore}
use Rattle.order_list.specs.Order.{Apart}
use Rattle.code.specs.Args.{Args, given}
use Rattle.code.specs.Values.{listed}
use Rattle.table.specs.declared.record.Record.{Record}
use Rattle.table.specs.declared.record.Entry.TheVariants.{New}
use Rattle.table.specs.declared.table.Table.{Table}
use Rattle.table.specs.Records.{content_inside}
use Rattle.table.specs.Stamps.{Member}
use Rattle.table.specs.Standing.{store, Standing}
use Rattle.table.specs.Changes.{SameInputs}
use Rattle.table.specs.Ran.{Open, HasBegun, HasEnded, Ran, Exceeds}
use Rattle.order_list.specs.declared.list.OrderList.{Ghosts}
use Rattle.table.specs.Anew.{nothing, Cleared, RanAnew, Exceeded}
use Rattle.table.proofs.Runs.{stores, ran_write, ran_new}
use Rattle.table.proofs.Steps.{same_trans}

-- ── the code of a whole run ──

at_length : (pre : List Value) (v : Value) (vs : List Value) → register (pre ++ (v ∷ vs)) (length pre) ≡ v
at_length [] v vs = refl
at_length (u ∷ pre) v vs = at_length pre v vs

-- its NEW is given the values of its registers
args_from : (pre : List Value) (ks : List ℕ) → map (register (pre ++ map given ks)) (count_from (length pre) ks) ≡ map given ks
args_from pre [] = refl
args_from pre (k ∷ ks) =
    let e = at_length pre (given k) (map given ks) in
    let l = length-append pre (given k ∷ []) in
    let n : length (pre ++ (given k ∷ [])) ≡ suc (length pre) = omega arith in
    let r : map (register (pre ++ (given k ∷ map given ks))) (count_from (suc (length pre)) ks) ≡ map given ks =
    ap₂ (λ (vs : List Value) (i : ℕ). map (register vs) (count_from i ks)) (sym (append_assoc pre (given k ∷ []) (map given ks))) (sym n) ∙ args_from (pre ++ (given k ∷ [])) ks in
    ap₂ (λ (v : Value) (vs : List Value). v ∷ vs) e r

-- behind it
abbrev pub behind : View → Code
behind P = record { registers = map given P.run; commands = []; tail = NIL }

pub main_makes : (P : View) (args : Args) → listed args ≡ map given P.run → next P (main P) ≡ makes 0 (listed args) (behind P)
main_makes P args e = ap (λ (vs : List Value). makes 0 vs (behind P)) (args_from [] P.run ∙ sym e)

-- a → a₁: its NEW has begun at n; a₁ → b₁: the run of function 0; b₁ → b: it has ended
pub ran_main : {P : View} {c₁ : Code} {a a₁ b₁ b : Table} {xs xs₁ ys₁ ys : List ℕ} {n m m₁ m₂ : ℕ} {args : Args} {x : Content} →
    listed args ≡ map given P.run → HasBegun a a₁ xs xs₁ 0 (New 0 args Empty) n m → c₁ ≡ enter P 0 (listed args) → Ran P c₁ n a₁ b₁ xs₁ ys₁ m x m₁ → HasEnded b₁ b ys₁ ys m₁ n x m₂ →
    Member xs 0 → Apart ys → Ran P (main P) 1024 a b xs ys 0 Empty m₂
ran_main {P} {n = n} {args = args} e g e₁ r z mem ay =
    ran_new g r z (ran_write {c = resume (behind P) n} refl z.ready) (main P) (behind P) (main_makes P args e) e₁ refl mem ay

-- ── in a table in which nothing stood ──

module _ {L c : ℕ} {a a₁ : Table} {xs : List ℕ} (st : Standing L c a₁ xs nothing) (room : a₁.room ≡ L) (same : SameInputs a a₁) where
  pub may_run : Open a₁ c xs 0
  may_run =
      let l = ap length st.listed in let n = st.counted in let w = st.wide in
      record {
        ready = record { free = st.free; tied = st.tied };
        member = record { pre = []; post = []; split = st.listed };
        stamps = omega arith;
      }

  store_initial : store a₁ ≡ initial a.inputs
  store_initial = stores (λ k. ap (λ (is : List InputContent). content_of_input (get_or is k input.Empty)) same.inputs) (λ n. ap content_inside (st.only n tt))

  module _ {P : View} {b : Table} {ys : List ℕ} {x : Content} {m : ℕ} (r : Ran P (main P) 1024 a₁ b xs ys 0 x m) where
    pub run_stands : Stands P a.inputs r.trace
    run_stands = record {
      follows = r.run.follows;
      all_kept = subst (Kept r.trace) store_initial r.run.all_kept;
      apart = r.apart;
    }

    pub run_standing : Standing L c b ys r.trace
    run_standing = record {
      shape = r.shape;
      holds = r.holds;
      apart = r.apart;
      only = λ q k. ap (λ (e : Record). e.entry) (r.others q k) ∙ st.only q tt;
      listed = r.moved.spliced [] [] st.listed ∙ ap (λ (l : List ℕ). 0 ∷ l) (append-nil _);
      owned = r.owned;
      free = r.ready.free;
      counted = (let s = r.spares in let n = st.counted in omega arith);
      tied = r.ready.tied;
      wide = st.wide;
    }

    pub run_counted : (n : ℕ) → n ≡ L → (n - b.room ≡ size r.trace) × (n - b.room ≤ L)
    run_counted n e = let h = r.room in (omega arith, omega arith)

  pub run_begins_more : {P : View} → Exceeds P (main P) a₁ → BeginsMore L P a.inputs
  run_begins_more {P} h = record {
    begun_at = h.begun_at;
    apart = h.apart;
    over = subst (λ (k : ℕ). Over P (main P) (initial a.inputs) h.begun_at k) room (subst (λ (σ : Store). Over P (main P) σ h.begun_at a₁.room) store_initial h.over);
  }

-- what a run anew leaves
pub ran_anew : {X : Type 0} {g : Ghosts X} {L n : ℕ} {P : View} {a a₁ b : Table} {x₁ x : X} {y : Content} {m : ℕ} →
    Cleared g L a a₁ x₁ → Ran P (main P) 1024 a₁ b (g.order x₁) (g.order x) 0 y m → g.size x ≡ g.size x₁ → n ≡ L → RanAnew g P L a b x (n - b.room)
ran_anew {g = g} {L} {n} {P} {a} {a₁} {b} {x₁} {x} c r same e =
    let st = c.holding.standing in
    let k = run_counted st c.room c.same r n e in
    record {
      trace = r.trace;
      stands = run_stands st c.room c.same r;
      counted = k.0;
      fits = k.1;
      room = omega (arith, c.room, r.room, e);
      holding = record { standing = subst (λ (s : ℕ). Standing L s b (g.order x) r.trace) (sym same) (run_standing st c.room c.same r) };
      same = same_trans c.same r.same;
    }

pub exceeded : {X : Type 0} {g : Ghosts X} {L : ℕ} {P : View} {a a₁ b d : Table} {x₁ x : X} →
    Cleared g L a a₁ x₁ → Exceeds P (main P) a₁ → SameInputs a₁ b → Cleared g L b d x → Exceeded g P L a d x
exceeded c h k e = record {
  begins_more = run_begins_more c.holding.standing c.room c.same h;
  room = e.room;
  holding = e.holding;
  same = same_trans (same_trans c.same k) e.same;
}
