use Rattle.std.proofs.Common.{◌/◌, ◌∙◌, List, ℕ, length, is_some, ap, rules}
use Rattle.std.proofs.lemmas.Iterator.Search.{all_from_yields_List}
use Rattle.text.specs.Field.{field_value}
use Rattle.text.specs.Numbers.{fields_stand}
use Rattle.text.proofs.Numbers.{stand_is, YieldsList-from_fields}
use Rattle.text.proofs.fields.all_stand.Goals as goal

pub returns : goal.returns
returns c =
    let chunks = c.chunks_exact.result in
    let r = all_from_yields_List (λ bs. is_some (field_value bs)) c.all.new.self _ c.all.result c.all.ensures.ran (YieldsList-from_fields chunks c.chunks_exact.ensures.size) (λ x b q k. search rules) in
    r ∙ stand_is (length chunks.rest.now / 6) chunks.rest.now ∙ ap (λ (bs : List ℕ). fields_stand (length bs / 6) bs) c.chunks_exact.ensures.rest
