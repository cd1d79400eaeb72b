-- All the faults that a text has, rule by rule; and which of them is told.
use Rattle.std.specs.Prelude.{◌≡◌, ℕ, zero, suc, ◌+◌, ◌/◌, ◌<◌, ◌≤◌, Bool, true, false, ◌&&◌, ◌⊎◌, List, ◌∷◌, ◌++◌, length, drop, ℤ, is_some, Ok, Err, fold, Result, slice_index}
use Rattle.text.specs.First.{none_left}
use Rattle.text.specs.Numbers.{fields_stand}
use Rattle.text.specs.Lines.{word_of, right_length, Raw, lines_in, same, Said, lines_of}
use Rattle.shape.specs.declared.standing.Standing.{Standing}
use Rattle.shape.specs.Parts.{placed, part_of, counted}
use Rattle.shape.specs.Shapes.{ranged, after, start}
use Rattle.kinds.specs.declared.fault.KindFault.{KindFault}
use Rattle.kinds.specs.declared.fault.Refusal.{Refusal}
use Rattle.kinds.specs.declared.fault.Refusal.TheVariants.{Fault, Memory}
use Rattle.kinds.specs.Faults.{number_of, layer_of, line_at}
use Rattle.kinds.specs.Named.{all_there}
use Rattle.kinds.specs.Kinds.{Known, agrees, known_after, heads_of, unknown}

-- line i, of those that begin with line n, breaks rule r, where things stand as the lines before it leave them
pub record Breaks {S X : Type 0} (next : S → X → S) (keeps : ℕ → S → X → Bool → Bool) (s : S) (n : ℕ) (xs : List X) (i r : ℕ) : Type 0 where
  pub before : List X
  pub line : X
  pub behind : List X
  pub lines : xs ≡ before ++ line ∷ behind
  pub number : i ≡ n + length before
  pub broken : keeps r (fold next s before) line (none_left behind) ≡ false

-- layer 1: the length of a line, its word, its fields
abbrev pub ended_well : Raw → Bool
ended_well (e, l) = e && right_length (length l)

abbrev pub keeps_line : ℕ → Unit {0} → Raw → Bool → Bool
keeps_line zero s x last = ended_well x
keeps_line (suc zero) s (e, l) last = is_some (word_of (slice_index l 0) (slice_index l 1) (slice_index l 2))
keeps_line (suc (suc zero)) s (e, l) last = fields_stand (length (drop 3 l) / 6) (drop 3 l)
keeps_line (suc (suc (suc r))) s x last = true

-- layer 2: the position, the count of fields, ranges and limits
abbrev pub keeps_shape : ℕ → Standing → Said → Bool → Bool
keeps_shape zero s (k, zs) last = placed s.due (part_of k) last
keeps_shape (suc zero) s (k, zs) last = counted k (length zs)
keeps_shape (suc (suc zero)) s (k, zs) last = ranged s (part_of k) zs
keeps_shape (suc (suc (suc r))) s x last = true

-- layer 3: what is named is there, kinds and numbers of arguments agree
abbrev pub keeps_kinds : List (List ℤ) → ℕ → Known → Said → Bool → Bool
keeps_kinds hs zero (ks, r) (k, zs) last = all_there (length ks) (length hs) k 0 zs
keeps_kinds hs (suc zero) (ks, r) (k, zs) last = agrees hs ks r k zs
keeps_kinds hs (suc (suc q)) s x last = true

-- every fault of a text: its layer, line and number
pub data HasFault (bs : List ℕ) : ℕ → ℕ → ℕ → Type 0 where
  of_length : (length bs ≡ 0) ⊎ (65536 < length bs) → HasFault bs 1 0 1
  of_line : (i r : ℕ) → Breaks same keeps_line tt 1 (lines_in bs) i r → HasFault bs 1 i (1 + r)
  of_shape : (i r : ℕ) → Breaks after keeps_shape start 1 (lines_of bs) i r → HasFault bs 2 i (4 + r)
  of_kinds : (i r : ℕ) → Breaks (known_after (heads_of (lines_of bs))) (keeps_kinds (heads_of (lines_of bs))) unknown 1 (lines_of bs) i r → HasFault bs 3 i (7 + r)

-- the lowest layer, then the first line, then the lowest number
abbrev pub NotAfter : ℕ → ℕ → ℕ → ℕ → ℕ → ℕ → Type 0
NotAfter a i r b j q = (a < b) ⊎ ((a ≡ b) × ((i < j) ⊎ ((i ≡ j) × (r ≤ q))))

pub record Least (bs : List ℕ) (f : KindFault) : Type 0 where
  pub has : HasFault bs (layer_of f) (line_at f) (number_of f)
  pub least : (b j q : ℕ) → HasFault bs b j q → NotAfter (layer_of f) (line_at f) (number_of f) b j q

abbrev pub Faultless : List ℕ → Type 0
Faultless bs = (b j q : ℕ) → HasFault bs b j q → ⊥

-- what a check answers: accepted, the text has no fault; refused, the fault told is the least that it has
abbrev pub Judged : {T : Type 0} → List ℕ → Result T Refusal → Type 0
Judged bs (Ok t) = Faultless bs
Judged bs (Err Memory) = Unit {0}
Judged bs (Err (Fault f)) = Least bs f
