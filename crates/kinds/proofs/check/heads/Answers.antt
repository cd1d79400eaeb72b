use Rattle.std.proofs.Common.{◌++◌, ap, ◌∙◌}
use Rattle.text.specs.Reader.{left}
use Rattle.text.proofs.Cuts.{lines_standing}
use Rattle.kinds.specs.Kinds.{heads_of}
use Rattle.kinds.specs.Held.{heads_held}
use Rattle.kinds.proofs.check.heads.Goals as goal

pub loop-line-init : goal.loop-line-init
loop-line-init c = ap (λ hs. heads_held hs ++ heads_of (left c.into_iter-line-iterator.result)) c.new-heads.ensures.items ∙ ap heads_of (ap left c.into_iter-line-iterator.ensures.into_iter_gives ∙ c.of-line-items.ensures.left ∙ lines_standing c.args.text.now c.requires)
