-- What a read enters, in the words of the meaning.
use Rattle.trace.specs.Code as trace
use Rattle.code.specs.declared.reader.Reader.{Reader}
use Rattle.code.specs.declared.reader.Reader.TheVariants.{Get, Cas}
use Rattle.code.specs.Values.{listed}

abbrev pub reader_of : Reader → trace.Reader
reader_of (Get f args) = trace.get f (listed args)
reader_of (Cas f g args) = trace.cas f g (listed args)
