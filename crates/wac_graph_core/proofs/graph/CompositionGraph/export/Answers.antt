use Rattle.std.proofs.Common.{◌≡◌, ℕ, List, Some, None, ap, sym, ◌∙◌, refl, subst, ◌++◌, ◌∷◌, []}
use Rattle.std.specs.Prelude.{string_bytes}
use Rattle.std.specs.FinMap as map
use Rattle.wac_types_base.specs.Entries.{Name, value_at, names_of}
use Rattle.wac_types_base.specs.Graph.{Among}
use Rattle.wac_types_base.proofs.Lists.{value_none}
use Rattle.wac_graph_core.specs.Graph.{Graph, ContainsNode}
use Rattle.wac_graph_core.specs.Exporting.{Exports}
use Rattle.wac_graph_core.specs.View.{graph}
use Rattle.wac_graph_core.proofs.Calls.{node_of, export_step, exported_by}
use Rattle.wac_graph_core.proofs.Below.{ReachBelow-same}
use Rattle.wac_graph_core.proofs.graph.CompositionGraph.export.Goals as goal

pub set_export-requires : goal.set_export-requires
set_export-requires c = subst (λ g. ContainsNode g c.args.node) (sym c.self.view_is) c.requires

pub push_reserved-requires-clause-new : goal.push_reserved-requires-clause-new
push_reserved-requires-clause-new c =
    let es = c.self.inside.exports.items in
    let none : value_at es c.args.name.now ≡ None = ap (λ (g : Graph). value_at g.exports c.args.name.now) c.self.view_is ∙ sym c.in_default.ensures in
    λ at. value_none es c.args.name.now none (subst (λ n. Among n (names_of es)) c.in_ok-own.ensures.ok (subst (λ (xs : List (Name × ℕ)). Among (string_bytes c.in_ok-own.own) (names_of xs)) c.in_ok-reserve.ensures.items at))

pub invariant_of-self-2 : goal.invariant_of-self-2
invariant_of-self-2 c =
    let n = node_of (graph c.self.inside) c.args.node (subst (λ g. ContainsNode g c.args.node) (sym c.self.view_is) c.requires) in (
      exported_by (graph c.self.inside) c.set_export.new.self c.push_reserved.new.self.items c.args.node n.0 c.args.name.now n.1
          (ap (λ (g : Graph). value_at g.exports c.args.name.now) c.self.view_is ∙ sym c.in_default.ensures)
          (c.set_export.ensures n.0 n.1 ∙ ap (λ m. map.insert c.self.inside.nodes c.args.node (record n.0 { export = Some m })) (c.new-last.ensures ∙ c.in_ok-from_str.ensures.ok))
          (c.push_reserved.ensures ∙ ap (λ xs. xs ++ (string_bytes c.in_ok-own.own, c.args.node) ∷ []) c.in_ok-reserve.ensures.items ∙ ap (λ m. c.self.inside.exports.items ++ (m, c.args.node) ∷ []) c.in_ok-own.ensures.ok)
          c.self.invariant.0,
      ReachBelow-same c.self.inside.types c.self.inside.nodes c.set_export.new.self c.self.inside.defined_below c.args.node n.0 (record n.0 { export = Some c.args.name.now }) n.1 refl refl
          (c.set_export.ensures n.0 n.1 ∙ ap (λ m. map.insert c.self.inside.nodes c.args.node (record n.0 { export = Some m })) (c.new-last.ensures ∙ c.in_ok-from_str.ensures.ok))
          c.self.invariant.1,
    )

pub returns-clause-exported : goal.returns-clause-exported
returns-clause-exported c =
    let n = node_of (graph c.self.inside) c.args.node (subst (λ g. ContainsNode g c.args.node) (sym c.self.view_is) c.requires) in
    subst (λ g. Exports g (record (graph c.self.inside) { nodes = c.set_export.new.self; exports = c.push_reserved.new.self.items }) c.args.node c.args.name.now) c.self.view_is
    (export_step (graph c.self.inside) c.set_export.new.self c.push_reserved.new.self.items c.args.node n.0 c.args.name.now n.1
    (ap (λ (g : Graph). value_at g.exports c.args.name.now) c.self.view_is ∙ sym c.in_default.ensures)
    (c.in_ok-valid.ensures.0 c.if-not-valid.false)
    (c.set_export.ensures n.0 n.1 ∙ ap (λ m. map.insert c.self.inside.nodes c.args.node (record n.0 { export = Some m })) (c.new-last.ensures ∙ c.in_ok-from_str.ensures.ok))
    (c.push_reserved.ensures ∙ ap (λ xs. xs ++ (string_bytes c.in_ok-own.own, c.args.node) ∷ []) c.in_ok-reserve.ensures.items ∙ ap (λ m. c.self.inside.exports.items ++ (m, c.args.node) ∷ []) c.in_ok-own.ensures.ok))
