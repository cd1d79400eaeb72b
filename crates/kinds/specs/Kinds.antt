-- The rules of layer 3: what a line names is there, and kinds and numbers of arguments agree.
use Rattle.std.specs.Prelude.{ℕ, Bool, true, false, cond, ◌&&◌, List, [], ◌∷◌, ◌++◌, map, length, drop, replicate, ℤ, pos, Some, None, Option, nat_lt, slice_index_or}
use Rattle.std.specs.Option.{unwrap_or}
use Rattle.text.specs.declared.fields.Kind.{Kind}
use Rattle.text.specs.declared.fields.Kind.TheVariants as k
use Rattle.text.specs.declared.line.Word.{Word}
use Rattle.text.specs.declared.line.Word.TheVariants as w
use Rattle.text.specs.First.{first}
use Rattle.text.specs.Lines.{Said, lines_of}
use Rattle.text.specs.Numbers.{whole_of, kind_of}
use Rattle.shape.specs.declared.fault.ShapeFault.{ShapeFault}
use Rattle.shape.specs.Shapes.{shape_fault}
use Rattle.kinds.specs.declared.fault.KindFault.{KindFault}
use Rattle.kinds.specs.declared.fault.KindFault.TheVariants as e
use Rattle.kinds.specs.Named.{all_there}

-- the numbers of the FUN lines, in order
abbrev pub head_line : Word → List ℤ → List (List ℤ)
head_line w.Inp zs = []
head_line w.Run zs = []
head_line w.Fun zs = zs ∷ []
head_line w.Lit zs = []
head_line w.Add zs = []
head_line w.Sub zs = []
head_line w.Mul zs = []
head_line w.Div zs = []
head_line w.Min zs = []
head_line w.Max zs = []
head_line w.New zs = []
head_line w.Put zs = []
head_line w.Nil zs = []
head_line w.Con zs = []
head_line w.Get zs = []
head_line w.Cas zs = []

abbrev pub heads_of : List Said → List (List ℤ)
heads_of [] = []
heads_of ((k, zs) ∷ ls) = head_line k zs ++ heads_of ls

abbrev pub same_kind : Option Kind → Option Kind → Bool
same_kind None o = false
same_kind (Some k.Number) None = false
same_kind (Some k.Number) (Some k.Number) = true
same_kind (Some k.Number) (Some k.ModNumber) = false
same_kind (Some k.Number) (Some k.ModList) = false
same_kind (Some k.ModNumber) None = false
same_kind (Some k.ModNumber) (Some k.Number) = false
same_kind (Some k.ModNumber) (Some k.ModNumber) = true
same_kind (Some k.ModNumber) (Some k.ModList) = false
same_kind (Some k.ModList) None = false
same_kind (Some k.ModList) (Some k.Number) = false
same_kind (Some k.ModList) (Some k.ModNumber) = false
same_kind (Some k.ModList) (Some k.ModList) = true

-- the kind of the register that a field names
abbrev pub kind_in : List Kind → Option ℕ → Option Kind
kind_in ks None = None
kind_in ks (Some i) = cond (nat_lt i (length ks)) (Some (slice_index_or ks i k.Number)) None

abbrev pub head_in : List (List ℤ) → Option ℕ → List ℤ
head_in hs None = []
head_in hs (Some i) = slice_index_or hs i []

abbrev pub is_kind : List Kind → List ℤ → ℕ → Kind → Bool
is_kind ks zs j k = same_kind (kind_in ks (whole_of (slice_index_or zs j (pos 0)))) (Some k)

-- parameters that begin with these kinds
abbrev pub starts : List Kind → List ℤ → Bool
starts [] ps = true
starts (k ∷ ks) [] = false
starts (k ∷ ks) (p ∷ ps) = same_kind (Some k) (kind_of p) && starts ks ps

-- parameters that agree with the registers named as arguments, in number and kind
abbrev pub takes : List Kind → List ℤ → List ℤ → Bool
takes ks [] [] = true
takes ks [] (p ∷ ps) = false
takes ks (z ∷ zs) [] = false
takes ks (z ∷ zs) (p ∷ ps) = same_kind (kind_in ks (whole_of z)) (kind_of p) && takes ks zs ps

-- a function of this head is entered with values of the kinds `lead`, then the arguments
abbrev pub accepts : List ℤ → List Kind → List Kind → List ℤ → Bool
accepts h lead ks args = starts lead (drop 1 h) && takes ks args (drop (length lead) (drop 1 h))

-- entered by a tail, whose function has the result kind r
abbrev pub entered : List ℤ → Kind → List Kind → List Kind → List ℤ → Bool
entered h r lead ks args = same_kind (Some r) (kind_of (slice_index_or h 0 (pos 0))) && accepts h lead ks args

abbrev pub head_at : List (List ℤ) → List ℤ → ℕ → List ℤ
head_at hs zs j = head_in hs (whole_of (slice_index_or zs j (pos 0)))

abbrev pub agrees : List (List ℤ) → List Kind → Kind → Word → List ℤ → Bool
agrees hs ks r w.Inp zs = true
agrees hs ks r w.Run zs = accepts (head_in hs (Some 0)) [] ks zs
agrees hs ks r w.Fun zs = true
agrees hs ks r w.Lit zs = true
agrees hs ks r w.Add zs = is_kind ks zs 0 k.Number && is_kind ks zs 1 k.Number
agrees hs ks r w.Sub zs = is_kind ks zs 0 k.Number && is_kind ks zs 1 k.Number
agrees hs ks r w.Mul zs = is_kind ks zs 0 k.Number && is_kind ks zs 1 k.Number
agrees hs ks r w.Div zs = is_kind ks zs 0 k.Number && is_kind ks zs 1 k.Number
agrees hs ks r w.Min zs = is_kind ks zs 0 k.Number && is_kind ks zs 1 k.Number
agrees hs ks r w.Max zs = is_kind ks zs 0 k.Number && is_kind ks zs 1 k.Number
agrees hs ks r w.New zs = accepts (head_at hs zs 0) [] ks (drop 1 zs)
agrees hs ks r w.Put zs = is_kind ks zs 0 k.Number && same_kind (Some r) (Some k.ModNumber)
agrees hs ks r w.Nil zs = same_kind (Some r) (Some k.ModList)
agrees hs ks r w.Con zs = is_kind ks zs 0 k.ModNumber && (is_kind ks zs 1 k.ModList && same_kind (Some r) (Some k.ModList))
agrees hs ks r w.Get zs = is_kind ks zs 0 k.ModNumber && entered (head_at hs zs 1) r (k.Number ∷ []) ks (drop 2 zs)
agrees hs ks r w.Cas zs = is_kind ks zs 0 k.ModList && (entered (head_at hs zs 1) r [] ks (drop 3 zs) && entered (head_at hs zs 2) r (k.ModNumber ∷ k.ModList ∷ []) ks (drop 3 zs))

-- the kinds of the registers so far, or of the inputs behind INP, and the function's result kind
abbrev pub Known : Type 0
Known = List Kind × Kind

abbrev pub or_number : Option Kind → Kind
or_number o = unwrap_or o k.Number

abbrev pub kinds_in : List ℤ → List Kind
kinds_in zs = map (λ z. or_number (kind_of z)) zs

abbrev pub count_in : List ℤ → ℕ → ℕ
count_in zs j = unwrap_or (whole_of (slice_index_or zs j (pos 0))) 0

abbrev pub known_after : List (List ℤ) → Known → Said → Known
known_after hs (ks, r) (w.Inp, zs) = (replicate (count_in zs 0) k.ModNumber ++ replicate (count_in zs 1) k.ModList, r)
known_after hs (ks, r) (w.Run, zs) = (ks, r)
known_after hs (ks, r) (w.Fun, zs) = (kinds_in (drop 1 zs), or_number (kind_of (slice_index_or zs 0 (pos 0))))
known_after hs (ks, r) (w.Lit, zs) = (ks ++ k.Number ∷ [], r)
known_after hs (ks, r) (w.Add, zs) = (ks ++ k.Number ∷ [], r)
known_after hs (ks, r) (w.Sub, zs) = (ks ++ k.Number ∷ [], r)
known_after hs (ks, r) (w.Mul, zs) = (ks ++ k.Number ∷ [], r)
known_after hs (ks, r) (w.Div, zs) = (ks ++ k.Number ∷ [], r)
known_after hs (ks, r) (w.Min, zs) = (ks ++ k.Number ∷ [], r)
known_after hs (ks, r) (w.Max, zs) = (ks ++ k.Number ∷ [], r)
known_after hs (ks, r) (w.New, zs) = (ks ++ or_number (kind_of (slice_index_or (head_at hs zs 0) 0 (pos 0))) ∷ [], r)
known_after hs (ks, r) (w.Put, zs) = (ks, r)
known_after hs (ks, r) (w.Nil, zs) = (ks, r)
known_after hs (ks, r) (w.Con, zs) = (ks, r)
known_after hs (ks, r) (w.Get, zs) = (ks, r)
known_after hs (ks, r) (w.Cas, zs) = (ks, r)

abbrev pub kind_rules : List (List ℤ) → Known → ℕ → Said → Bool → Option KindFault
kind_rules hs (ks, r) n (k, zs) last = cond (all_there (length ks) (length hs) k 0 zs) (cond (agrees hs ks r k zs) None (Some (e.Kinds n))) (Some (e.Missing n))

abbrev pub unknown : Known
unknown = ([], k.Number)

abbrev pub kind_fault_of : List Said → Option KindFault
kind_fault_of ls = first (known_after (heads_of ls)) (kind_rules (heads_of ls)) unknown 1 ls

-- a fault of the layers below is told first, whole
abbrev pub over_shape : Option ShapeFault → Option KindFault → Option KindFault
over_shape (Some x) o = Some (e.Shape x)
over_shape None o = o

-- the fault that is told of a text
abbrev pub fault_of : List ℕ → Option KindFault
fault_of bs = over_shape (shape_fault bs) (kind_fault_of (lines_of bs))
