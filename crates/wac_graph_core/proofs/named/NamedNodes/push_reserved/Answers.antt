use Rattle.std.proofs.Common.{ap, ◌∙◌}
use Rattle.std.specs.Prelude.{string_bytes}
use Rattle.wac_types_base.specs.Entries.{entries_of, put_entry}
use Rattle.wac_types_base.proofs.Looked.{inserted, put_entry-new}
use Rattle.wac_graph_core.specs.Named.{Named}
use Rattle.wac_graph_core.proofs.named.NamedNodes.push_reserved.Goals as goal

pub returns : goal.returns
returns c =
    let n = string_bytes c.args.name in
    ap entries_of c.in-Ok.ensures.entries ∙ inserted c.self.inside.map.entries c.args.name c.args.node ∙ ap (λ (v : Named). put_entry v.items n c.args.node) c.self.view_is
    ∙ put_entry-new c.args.self.now.items n c.args.node c.requires.new
