use Rattle.std.proofs.Common.{◌≡◌, Some, slice_get, sym, subst}
use Rattle.std.specs.List.{swap_remove}
use Rattle.wac_types_base.specs.Entries.{entries_of}
use Rattle.wac_graph_core.specs.Named.{Named}
use Rattle.wac_graph_core.proofs.NamedLists.{swapped}
use Rattle.wac_graph_core.proofs.named.NamedNodes.swap_remove.Goals as goal

pub returns : goal.returns
returns c = λ e there.
    let es = c.self.inside.map.entries in
    let left = c.swap_remove_index.new.self.entries in
    subst (λ (v : Named). entries_of left ≡ swap_remove v.items c.args.at e) c.self.view_is
    (swapped es left c.args.at c.swap_remove_index.result c.swap_remove_index.ensures.entry c.swap_remove_index.ensures.entries e (subst (λ (v : Named). slice_get v.items c.args.at ≡ Some e) (sym c.self.view_is) there))
