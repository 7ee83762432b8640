use Rattle.std.proofs.Common.{ℕ, List, [], ◌++◌, length, sym, subst, ◌∙◌}
use Rattle.std.proofs.lemmas.Result.{on_ok_weaker}
use Rattle.wac_types_base.specs.Entries.{names_of}
use Rattle.wac_graph_bytes.specs.Typing.{nothing_inside}
use Rattle.wac_graph_scopes.specs.declared.items.ItemScope.{ItemScope}
use Rattle.wac_graph_scopes.specs.Imports.{names_at}
use Rattle.wac_graph_scopes.specs.Items.{IsItemScope}
use Rattle.wac_graph_scopes.specs.Orders.{IsOrder}
use Rattle.wac_types_parts.specs.Parts.{imports_of}
use Rattle.wac_graph_scopes.proofs.ImportLaws.{all_named, ordered_names, others_new, world_begun}
use Rattle.wac_graph_scopes.proofs.OrderLaws.{distinct-left, distinct-right}
use Rattle.wac_graph_encode.proofs.root.write_outers.Goals as goal

pub returns : goal.returns
returns c is w outer =
    let types = c.args.all.types.now in
    let world = c.args.all.world in
    let ns = names_of (imports_of types world) in
    let sources = c.as_slice.result.now in
    let others = c.as_slice-2.result.now in
    let begun = c.in_ok-begin.ensures in
    let h = world_begun c.args.all c.begin.new.self (λ v d around. subst (λ (s : ItemScope). IsItemScope v d around nothing_inside s) (sym begun.scope) (is.scope v d around)) (begun.used ∙ is.used) begun.places begun.many w outer in
    let dn = c.in_ok-order.ensures.distinct in
    let given = ordered_names (imports_of types world) c.in_ok-order.order.sources.items c.in_ok-order.order.others.items c.in_ok-order.ensures.order in
    let half = subst (λ (l : List ℕ). IsOrder (length ns) l c.in_ok-order.order.others.items) (sym c.as_slice.ensures.value) given in
    let o : IsOrder (length ns) sources others = subst (λ (l : List ℕ). IsOrder (length ns) sources l) (sym c.as_slice-2.ensures.value) half in
    let one = [] ++ names_at ns sources in
    let a = c.in_ok-write_imports.ensures w outer [] [] dn (distinct-left sources others o.distinct) (λ k x n at y. y) h in
    on_ok_weaker c.write_imports-2.result (λ d. (one ++ names_at ns others, d, all_named ns sources others o))
    (c.write_imports-2.ensures w outer one [] dn (distinct-right sources others o.distinct) (others_new ns sources others o dn) a)
