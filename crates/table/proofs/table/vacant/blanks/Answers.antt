use Rattle.std.proofs.Common.{◌≡◌, ℕ, get_or, replicate, sym, ap, ap₂, ◌∙◌, subst}
use Rattle.table.specs.declared.record.Entry.{Entry}
use Rattle.table.specs.declared.record.Entry.TheVariants.{Blank}
use Rattle.table.specs.declared.record.Record.{Record}
use Rattle.table.specs.Records.{blank}
use Rattle.table.proofs.Zeroed.{all_alike}
use Rattle.table.proofs.table.vacant.blanks.Goals as goal

pub returns : goal.returns
returns c =
    let r = c.default.result in
    let e = c.default.ensures in
    let same : r ≡ blank = ap (λ (x : Entry). record { entry = x; start = r.start; end = r.end }) e.0 ∙ ap₂ (λ (s t : ℕ). record { entry = Blank; start = s; end = t }) e.1.0 e.1.1 in
    λ q. subst (λ (x : Record). get_or (replicate 1024 x) q blank ≡ blank) (sym same) (all_alike 1024 q blank)
