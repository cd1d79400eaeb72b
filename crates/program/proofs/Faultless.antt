-- A text without a fault: its lines are formed and fit their columns.
use Rattle.std.proofs.Common.{◌≡◌, ℕ, Bool, true, false, cond, eqb, List, [], ◌∷◌, map, get_or, ℤ, pos, None, sym, refl, ap, ◌∙◌, subst}
use Rattle.std.specs.List.{flat_map}
use Rattle.text.specs.First.{none_left}
use Rattle.text.specs.Lines.{Said, Raw, lines_in, longer, reading, lines_of, text_fault, standing}
use Rattle.text.proofs.Cuts.{lines_standing}
use Rattle.shape.specs.declared.standing.Due.TheVariants as d
use Rattle.shape.specs.Shapes.{start, shape_fault, shape_fault_of}
use Rattle.kinds.specs.Kinds.{fault_of, kind_fault_of, over_shape, heads_of, unknown}
use Rattle.kinds.proofs.Over.{shaped, none_over}
use Rattle.program.specs.declared.function.Function.{Function}
use Rattle.program.specs.Programs.{lines_fault, function_lines, lines_with}
use Rattle.program.specs.Formed.{Formed, Gives, entry_of, entries}
use Rattle.program.proofs.Formed.{formed}
use Rattle.program.proofs.Lines.{opening, program_read}

some_longer : (b : ℕ) (ls : List Raw) → none_left (map reading (longer b ls)) ≡ false
some_longer b [] = refl
some_longer b ((e, l) ∷ ls) = refl

some_cut : (t : Bool) (b : ℕ) (bs : List ℕ) → none_left (map reading (cond t ((true, []) ∷ lines_in bs) (longer b (lines_in bs)))) ≡ false
some_cut true b bs = refl
some_cut false b bs = some_longer b (lines_in bs)

some_lines : (bs : List ℕ) → text_fault bs ≡ None → none_left (lines_of bs) ≡ false
some_lines [] e = absurd (cc)
some_lines (b ∷ bs) e = some_cut (eqb b 10) b bs

lines_formed : (ls : List Said) → none_left ls ≡ false → shape_fault_of ls ≡ None → kind_fault_of ls ≡ None → Formed d.Inputs ls
lines_formed [] n e f = absurd (cc)
lines_formed (x ∷ xs) n e f = formed (heads_of (x ∷ xs)) start unknown 1 x xs e f

pub record FaultlessLines (bs : List ℕ) : Type 0 where
  pub stand : text_fault bs ≡ None
  pub order : Formed d.Inputs (lines_of bs)
  pub rules : lines_fault (lines_of bs) ≡ None

pub faultless : (bs : List ℕ) → fault_of bs ≡ None → FaultlessLines bs
faultless bs e =
    let a = none_over (shape_fault bs) (kind_fault_of (lines_of bs)) e in
    let b = shaped bs a.0 in
    record {
      stand = b.0;
      order = lines_formed (lines_of bs) (some_lines bs b.0) b.1 a.1;
      rules = ap (λ o. over_shape o (kind_fault_of (lines_of bs))) b.1 ∙ a.1;
    }

module _ (bs : List ℕ) (ok : fault_of bs ≡ None) (l m n : List Said) (zs ys : List ℤ) (is : l ≡ standing 1 (lines_in bs)) (g : Gives l zs m) (h : Gives m ys n) where
  whole : l ≡ lines_of bs
  whole = is ∙ lines_standing bs (faultless bs ok).stand

  order : Formed d.Inputs l
  order = subst (Formed d.Inputs) (sym whole) (faultless bs ok).order

  -- behind INP and RUN come functions
  pub functions_due : Formed d.Head n
  functions_due = (opening l m n zs ys order g h).3

  -- the program that is read says what the text says
  pub text_read : (a b : ℕ) (run : List ℕ) (fs : List Function) → a ≡ entry_of (get_or zs 0 (pos 0)) → b ≡ entry_of (get_or zs 1 (pos 0)) → run ≡ entries ys → flat_map function_lines fs ≡ n → lines_with a b run fs ≡ lines_of bs
  text_read a b run fs p q r t = program_read l m n zs ys a b run fs order g h p q r t ∙ whole
