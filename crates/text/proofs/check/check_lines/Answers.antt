use Rattle.text.proofs.Columns.{columns_of, columns_back}
use Rattle.text.proofs.Rendered.{word_back, word_spelled, rendering_of, lines_back, rendered_once}
use Rattle.text.proofs.check.check_lines.Goals as goal

pub returns : goal.returns
returns c = record { value = c.check_each.ensures; fields = columns_of; columns = columns_back; words = word_back; letters = word_spelled; texts = rendering_of; lines = lines_back; once = rendered_once }
