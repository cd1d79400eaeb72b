use Rattle.std.proofs.Common.{◌≡◌, ◌<◌, ℕ, slice_index_or, rules, ap}
use Rattle.table.specs.declared.readers.Links.{Links}
use Rattle.table.proofs.Linking.{rings_none}
use Rattle.table.proofs.readers.Readers.new.Goals as goal
use Rattle.table.proofs.readers.Readers.new.Goals.{After-from_fn}

linked : (c : goal.After-from_fn) → (k : ℕ) → k < 2304 → slice_index_or c.from_fn.result k (record { next = 0; previous = 0 }) ≡ record { next = k; previous = k }
linked c k l = let h = (c.from_fn.ensures.items.at k (record { next = 0; previous = 0 }) l).2 in search rules

pub returns : goal.returns
returns c = let h = linked (goal.at.returns c).After-from_fn in rings_none _ (λ k l. ap (λ (n : Links). n.next) (h k l)) (λ k l. ap (λ (n : Links). n.previous) (h k l))
