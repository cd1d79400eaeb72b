-- What the code's lines say.
use Rattle.std.specs.Prelude.{ℕ, Ok, Err, Result}
use Rattle.text.specs.declared.line.Word.TheVariants as w
use Rattle.text.specs.declared.line.Line.{Line}
use Rattle.text.specs.declared.line.Parts.{Parts}
use Rattle.text.specs.declared.line.Line.TheVariants as l
use Rattle.text.specs.declared.line.LineFault.{LineFault}
use Rattle.text.specs.Values.{values}
use Rattle.text.specs.Lines.{Said, Told}

abbrev pub told : Parts → Told
told p = (p.number, (p.word, values p.fields))

abbrev pub numbered : Line → ℕ
numbered (l.Inputs n fs) = n
numbered (l.Run n fs) = n
numbered (l.Function n fs) = n
numbered (l.Command n k fs) = n
numbered (l.Tail n k fs) = n

-- its word and the numbers in its fields
abbrev pub said : Line → Said
said (l.Inputs n fs) = (w.Inp, values fs)
said (l.Run n fs) = (w.Run, values fs)
said (l.Function n fs) = (w.Fun, values fs)
said (l.Command n k fs) = (k, values fs)
said (l.Tail n k fs) = (k, values fs)

abbrev pub told_line : Result Line LineFault → Result Told LineFault
told_line (Ok x) = Ok (numbered x, said x)
told_line (Err e) = Err e
