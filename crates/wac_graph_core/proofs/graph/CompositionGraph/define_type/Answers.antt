use Rattle.std.proofs.Common.{◌≡◌, ℕ, List, ◌++◌, ◌∷◌, [], length, ap, sym, ◌∙◌, subst}
use Rattle.std.specs.Prelude.{string_bytes}
use Rattle.std.specs.FinMap as map
use Rattle.wac_types_base.specs.declared.item.ItemKind.{ItemKind}
use Rattle.wac_types_base.specs.Collection.{Stands}
use Rattle.wac_types_base.specs.Entries.{Name, names_of}
use Rattle.wac_types_base.specs.Graph.{Among}
use Rattle.wac_types_base.proofs.Lists.{value_none}
use Rattle.wac_graph_core.specs.Nodes.{defined_node}
use Rattle.wac_graph_core.specs.NodeMaps.{AreThose}
use Rattle.wac_graph_core.specs.Ties.{AddsDependencies}
use Rattle.wac_graph_core.specs.Graph.{Graph}
use Rattle.wac_graph_core.specs.Defining.{MayDefine, DefinesType, IsUsedBy, IsUserOf, ReachBelow}
use Rattle.wac_graph_core.specs.View.{graph}
use Rattle.wac_graph_core.proofs.Below.{ReachBelow-all}
use Rattle.wac_graph_core.proofs.DefineSteps.{define_step, defined_by, items_stand, those_stand}
use Rattle.wac_graph_core.specs.Edges.{has}
use Rattle.wac_graph_core.proofs.graph.CompositionGraph.define_type.Goals as goal

pub push_reserved-requires-clause-new : goal.push_reserved-requires-clause-new
push_reserved-requires-clause-new c =
    let es = c.self.inside.exports.items in
    let may = subst (λ g. MayDefine g c.args.name.now c.args.ty (string_bytes c.in_ok-own.own)) (sym c.self.view_is) c.in_ok-own.ensures.found in
    λ at. value_none es c.args.name.now may.unexported (subst (λ n. Among n (names_of es)) may.named (subst (λ (xs : List (Name × ℕ)). Among (string_bytes c.in_ok-own.own) (names_of xs)) c.in_ok-reserve.ensures.items at))

pub insert_definition-requires : goal.insert_definition-requires
insert_definition-requires c = λ k h. those_stand c.self.inside.nodes (IsUsedBy c.self.inside.types c.args.ty) c.in_ok-sources.sources.items c.in_ok-sources.ensures k (ap (λ l. has l k) (sym c.as_slice-used.ensures.value) ∙ h)

pub invariant_of-self-2 : goal.invariant_of-self-2
invariant_of-self-2 c =
    let k = c.in_ok-id.id in
    let used = c.in_ok-sources.ensures in
    let users = subst (λ (g : Graph). AreThose g.nodes (IsUserOf g.types c.args.ty) c.in_ok-targets.targets.items) (sym c.self.view_is) c.in_ok-targets.ensures in
    let adds : AddsDependencies c.self.inside.edges c.insert_definition.new.edges k c.in_ok-sources.sources.items c.in_ok-targets.targets.items =
    subst (λ l. AddsDependencies c.self.inside.edges c.insert_definition.new.edges k l c.in_ok-targets.targets.items) c.as_slice-used.ensures.value
    (subst (λ l. AddsDependencies c.self.inside.edges c.insert_definition.new.edges k c.as_slice-used.result.now l) c.as_slice-users.ensures.value c.in_ok-id.ensures.edges) in
    let node : c.defined-node.result ≡ defined_node c.args.ty c.args.name.now = c.defined-node.ensures ∙ ap (defined_node c.args.ty) (c.new-told.ensures ∙ c.in_ok-from_str.ensures.ok) in
    let nodes : c.insert_definition.new.nodes ≡ map.insert c.self.inside.nodes k (defined_node c.args.ty c.args.name.now) = c.in_ok-id.ensures.nodes ∙ ap (map.insert c.self.inside.nodes k) node in
    let exports : c.push_reserved.new.self.items ≡ c.self.inside.exports.items ++ (c.args.name.now, k) ∷ [] =
    c.push_reserved.ensures ∙ ap (λ xs. xs ++ (string_bytes c.in_ok-own.own, k) ∷ []) c.in_ok-reserve.ensures.items ∙ ap (λ m. c.self.inside.exports.items ++ (m, k) ∷ []) c.in_ok-own.ensures.found.named in
    let may = subst (λ g. MayDefine g c.args.name.now c.args.ty (string_bytes c.in_ok-own.own)) (sym c.self.view_is) c.in_ok-own.ensures.found in
    let made = defined_by (graph c.self.inside) k c.args.ty c.args.name.now c.in_ok-id.ensures.free c.in_ok-sources.sources.items c.in_ok-targets.targets.items used users adds.mid c.insert_definition.new.edges adds.first adds.second
    c.insert_definition.new.nodes c.push_reserved.new.self.items (string_bytes c.in_ok-own.own) nodes exports may (subst (λ (g : Graph). Stands g.types (ItemKind.Ty c.args.ty)) (sym c.self.view_is) c.requires) c.self.invariant.0 in
    (made, subst (ReachBelow c.self.inside.types c.insert_definition.new.nodes) (sym (c.len-self-inside.ensures ∙ ap length c.defined_types.ensures)) (ReachBelow-all c.self.inside.types c.see_acyclic.ensures c.insert_definition.new.nodes (items_stand _ made)))

pub returns-clause-defined : goal.returns-clause-defined
returns-clause-defined c =
    let k = c.in_ok-id.id in
    let used = c.in_ok-sources.ensures in
    let users = subst (λ (g : Graph). AreThose g.nodes (IsUserOf g.types c.args.ty) c.in_ok-targets.targets.items) (sym c.self.view_is) c.in_ok-targets.ensures in
    let adds : AddsDependencies c.self.inside.edges c.insert_definition.new.edges k c.in_ok-sources.sources.items c.in_ok-targets.targets.items =
    subst (λ l. AddsDependencies c.self.inside.edges c.insert_definition.new.edges k l c.in_ok-targets.targets.items) c.as_slice-used.ensures.value
    (subst (λ l. AddsDependencies c.self.inside.edges c.insert_definition.new.edges k c.as_slice-used.result.now l) c.as_slice-users.ensures.value c.in_ok-id.ensures.edges) in
    let node : c.defined-node.result ≡ defined_node c.args.ty c.args.name.now = c.defined-node.ensures ∙ ap (defined_node c.args.ty) (c.new-told.ensures ∙ c.in_ok-from_str.ensures.ok) in
    let nodes : c.insert_definition.new.nodes ≡ map.insert c.self.inside.nodes k (defined_node c.args.ty c.args.name.now) = c.in_ok-id.ensures.nodes ∙ ap (map.insert c.self.inside.nodes k) node in
    let exports : c.push_reserved.new.self.items ≡ c.self.inside.exports.items ++ (c.args.name.now, k) ∷ [] =
    c.push_reserved.ensures ∙ ap (λ xs. xs ++ (string_bytes c.in_ok-own.own, k) ∷ []) c.in_ok-reserve.ensures.items ∙ ap (λ m. c.self.inside.exports.items ++ (m, k) ∷ []) c.in_ok-own.ensures.found.named in
    let may = subst (λ g. MayDefine g c.args.name.now c.args.ty (string_bytes c.in_ok-own.own)) (sym c.self.view_is) c.in_ok-own.ensures.found in
    subst (λ g. DefinesType g (record (graph c.self.inside) { nodes = c.insert_definition.new.nodes; edges = c.insert_definition.new.edges; exports = c.push_reserved.new.self.items }) c.args.name.now c.args.ty k) c.self.view_is
    (define_step (graph c.self.inside) k c.args.ty c.args.name.now c.in_ok-id.ensures.free c.in_ok-sources.sources.items c.in_ok-targets.targets.items used users adds.mid c.insert_definition.new.edges adds.first adds.second
    c.insert_definition.new.nodes c.push_reserved.new.self.items (string_bytes c.in_ok-own.own) c.in_ok-id.ensures.above nodes exports may)
