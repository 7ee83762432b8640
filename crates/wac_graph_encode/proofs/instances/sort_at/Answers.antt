use Rattle.std.proofs.Common.{sym, ap, ◌∙◌}
use Rattle.wac_graph_scopes.specs.Items.{sort_of}
use Rattle.wac_graph_encode.proofs.Readying.{kind_there}
use Rattle.wac_graph_encode.proofs.instances.sort_at.Goals as goal

pub returns : goal.returns
returns c =
    let x = kind_there _ c.in-Some.kind (sym c.in-Some.is ∙ c.kind_of.ensures.kind) in
    record { node = x.0; there = x.1; kind = ap sort_of x.2 ∙ (sym c.sort_of.ensures ∙ c.in-Some-sort_of.is) }
