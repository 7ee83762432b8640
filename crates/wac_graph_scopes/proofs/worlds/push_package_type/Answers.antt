use Rattle.std.proofs.Common.{◌∷◌}
use Rattle.std.proofs.lemmas.Result.{IfOk-weaker}
use Rattle.wac_types_base.specs.declared.item.ItemKind.{ItemKind}
use Rattle.wac_types_fit.specs.Trees.{tree_in}
use Rattle.wac_graph_bytes.specs.Typing.{Known}
use Rattle.wac_graph_scopes.proofs.WritingLaws.{component_reads, type_given}
use Rattle.wac_graph_scopes.proofs.worlds.push_package_type.Goals as goal

pub returns : goal.returns
returns c stands w outer i h =
    let types = c.args.types.now in
    let t = tree_in types (ItemKind.Component c.args.id) in
    let reads = c.in_ok-declarations.ensures stands w (i.here ∷ outer) in
    IfOk-weaker c.add_type.result _ _ (λ k a. type_given w types outer i t c.add_type.new.self k a) (c.add_type.ensures.adds w types outer i (Known t) h (component_reads w outer i c.in_ok-declarations.declarations t reads))
