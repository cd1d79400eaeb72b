-- What a record says, in the words of the trace.
use Rattle.std.specs.Prelude.{◌≡◌, ℕ, ◌+◌, ◌<◌, cond, List, Some, None, Option, nat_lt}
use Rattle.program.specs.declared.value.Name.{Name}
use Rattle.program.specs.declared.value.Name.TheVariants.{Input, Made}
use Rattle.program.specs.declared.value.Content.{Content}
use Rattle.program.specs.declared.value.Content.TheVariants.{Empty}
use Rattle.program.specs.declared.value.Value.{Value}
use Rattle.trace.specs.Code.{Reader}
use Rattle.code.specs.Values.{listed}
use Rattle.code.specs.Readers.{reader_of}
use Rattle.table.specs.declared.record.Record.{Record}
use Rattle.table.specs.declared.record.Entry.{Entry}
use Rattle.table.specs.declared.record.Entry.TheVariants.{Blank, New, Read, Dropped}

-- what a free place holds
abbrev pub blank : Record
blank = record { entry = Blank; start = 0; end = 0 }

-- what an entry says besides the content of its modifiable
--   free              nothing
--   a_new f vs        a NEW: f with the arguments vs
--   a_read s b x d    a read of s by b, which took x, inside the NEW at the place d
--   gone              a record that was dropped
pub data Sort : Type 0 where
  free : Sort
  a_new : ℕ → List Value → Sort
  a_read : Name → Reader → Content → ℕ → Sort
  gone : Sort

abbrev pub sort : Entry → Sort
sort Blank = free
sort (New f args x) = a_new f (listed args)
sort (Read s b x d) = a_read s (reader_of b) x d
sort (Dropped x) = gone

-- what the modifiable of a record holds; a read has none
abbrev pub content_inside : Entry → Content
content_inside Blank = Empty
content_inside (New f args x) = x
content_inside (Read s b x d) = Empty
content_inside (Dropped x) = x

-- the entry when its record ends: the modifiable of a NEW is written
abbrev pub wrote : Entry → Content → Entry
wrote Blank y = Blank
wrote (New f args x) y = New f args y
wrote (Read s b x d) y = Read s b x d
wrote (Dropped x) y = Dropped x

-- the number of a source: that of the record at place n is n, below 1024, that of input k is 1024 + k, below 1280
abbrev pub number_of_source : Name → ℕ
number_of_source (Made n) = cond (nat_lt n 1024) n 1280
number_of_source (Input k) = cond (nat_lt k 256) (1024 + k) 1280

-- the number of the source that a record reads; 1280 where it reads none
abbrev pub source_of : Entry → ℕ
source_of Blank = 1280
source_of (New f args x) = 1280
source_of (Read s b x d) = number_of_source s
source_of (Dropped x) = 1280

-- the number n of a source, told as an Option: none where it is 1280
abbrev pub SourceIs : ℕ → Option ℕ → Type 0
SourceIs n (Some s) = (s ≡ n) × (s < 1280)
SourceIs n None = n ≡ 1280
