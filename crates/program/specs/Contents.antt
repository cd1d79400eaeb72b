-- What inputs hold, as contents.
use Rattle.program.specs.declared.value.Name.TheVariants.{Input}
use Rattle.program.specs.declared.value.Content.{Content}
use Rattle.program.specs.declared.value.Content.TheVariants.{Number, Empty, Cell}
use Rattle.program.specs.declared.value.InputContent.{InputContent}
use Rattle.program.specs.declared.value.InputContent.TheVariants.{Number as number, Empty as empty, Cell as cell}

-- what an input holds, as a content
abbrev pub content_of_input : InputContent → Content
content_of_input (number z) = Number z
content_of_input empty = Empty
content_of_input (cell h t) = Cell (Input h) (Input t)
