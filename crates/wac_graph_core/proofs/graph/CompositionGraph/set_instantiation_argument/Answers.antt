use Rattle.std.proofs.Common.{ℕ, MatchOption, ap, sym, ◌∙◌, refl, subst, ◌∷◌, []}
use Rattle.std.specs.Prelude.{string_bytes}
use Rattle.std.proofs.lemmas.Result.{err_from_is_err_and}
use Rattle.wac_graph_core.specs.declared.edge.Follow.{Follow}
use Rattle.wac_graph_core.specs.Edges.{IsReached, argument_edge, HasArgument}
use Rattle.wac_graph_core.specs.Graph.{Graph, ContainsNode, IsArgument, IsStatedImport}
use Rattle.wac_graph_core.specs.Steps.{SetsArgument, NodeFits}
use Rattle.wac_graph_core.specs.Refusals.{NodeMismatches, IsOpen}
use Rattle.wac_graph_core.specs.View.{graph}
use Rattle.wac_graph_core.proofs.GraphSteps.{argument_by}
use Rattle.wac_graph_core.proofs.Calls.{set_step, not_reached}
use Rattle.wac_graph_core.proofs.graph.CompositionGraph.set_instantiation_argument.Goals as goal

pub returns-in_err-item-clause-refused : goal.returns-in_err-item-clause-refused
returns-in_err-item-clause-refused c =
    let p = err_from_is_err_and c.from_residual.result c.from_residual.ensures.1 in
    rw (p.1, p.2) (c.in_err-item.ensures.refused c.args.argument)

pub invariant_of-self-2 : goal.invariant_of-self-2
invariant_of-self-2 c =
    let g = graph c.self.inside in
    let none = subst (λ n. (b : ℕ) → HasArgument c.self.inside.edges c.args.instantiation n b → ⊥) c.in_ok-own.ensures.ok c.in_default.ensures.none in
    let fits : NodeFits g c.args.argument c.in_ok-item.item =
    subst (λ (g : Graph). NodeFits g c.args.argument c.in_ok-item.item) (sym c.self.view_is)
    (subst (λ o. MatchOption o (NodeFits c.args.self.now c.args.argument c.in_ok-item.item) (NodeMismatches c.args.self.now c.args.argument c.in_ok-item.item)) c.in_default-2.is c.in_ok-source.ensures) in
    let reached : IsReached Follow.Flow c.self.inside.edges (c.args.instantiation ∷ []) c.in_ok-seen.seen =
    c.in_ok-seen.ensures in (
      argument_by g c.add_argument.new.self c.args.argument c.args.instantiation c.args.name.now c.in_ok-item.item (argument_edge c.args.argument c.args.instantiation (string_bytes c.in_ok-own.own)) c.in_ok-seen.seen
          c.in_ok-add_argument.ensures.added
          (ap (argument_edge c.args.argument c.args.instantiation) c.in_ok-own.ensures.ok)
          (subst (λ g. ContainsNode g c.args.instantiation) (sym c.self.view_is) c.requires.instantiation)
          (subst (λ g. IsStatedImport g c.args.instantiation c.args.name.now c.in_ok-item.item) (sym c.self.view_is) c.in_ok-item.ensures.asked)
          fits none
          reached (sym c.has.ensures ∙ c.if-has.false) c.self.invariant.0,
      c.self.invariant.1,
    )

pub returns-in-Some-2-clause-refused : goal.returns-in-Some-2-clause-refused
returns-in-Some-2-clause-refused c =
    let none = subst (λ es. (b : ℕ) → HasArgument es c.args.instantiation c.args.name.now b → ⊥) (ap (λ (g : Graph). g.edges) c.self.view_is) (subst (λ n. (b : ℕ) → HasArgument c.self.inside.edges c.args.instantiation n b → ⊥) c.in_ok-own.ensures.ok c.in_default.ensures.none) in
    let differs : NodeMismatches c.args.self.now c.args.argument c.in_ok-item.item c.in-Some-2.source =
    subst (λ o. MatchOption o (NodeFits c.args.self.now c.args.argument c.in_ok-item.item) (NodeMismatches c.args.self.now c.args.argument c.in_ok-item.item)) c.in-Some-2.is c.in_ok-source.ensures in
    let free : IsOpen c.args.self.now c.args.instantiation c.args.name.now c.in_ok-item.item = record { is = c.in_ok-item.ensures.found; none = none } in (
      c.in_ok-own.ensures.ok,
      c.in_ok-item.item,
      free,
      differs,
    )

pub returns-then-has-clause-refused : goal.returns-then-has-clause-refused
returns-then-has-clause-refused c =
    let none = subst (λ es. (b : ℕ) → HasArgument es c.args.instantiation c.args.name.now b → ⊥) (ap (λ (g : Graph). g.edges) c.self.view_is) (subst (λ n. (b : ℕ) → HasArgument c.self.inside.edges c.args.instantiation n b → ⊥) c.in_ok-own.ensures.ok c.in_default.ensures.none) in
    let reached : IsReached Follow.Flow c.args.self.now.edges (c.args.instantiation ∷ []) c.in_ok-seen.seen =
    subst (λ es. IsReached Follow.Flow es (c.args.instantiation ∷ []) c.in_ok-seen.seen) (ap (λ (g : Graph). g.edges) c.self.view_is) c.in_ok-seen.ensures in
    let free : IsOpen c.args.self.now c.args.instantiation c.args.name.now c.in_ok-item.item = record { is = c.in_ok-item.ensures.found; none = none } in
    let fits : NodeFits c.args.self.now c.args.argument c.in_ok-item.item =
    subst (λ o. MatchOption o (NodeFits c.args.self.now c.args.argument c.in_ok-item.item) (NodeMismatches c.args.self.now c.args.argument c.in_ok-item.item)) c.in_default-2.is c.in_ok-source.ensures in
    (refl, c.in_ok-item.item, free, fits, reached.sound c.args.argument (sym c.has.ensures ∙ c.if-has.true))

pub returns-clause-set : goal.returns-clause-set
returns-clause-set c =
    let none = subst (λ n. (b : ℕ) → HasArgument c.self.inside.edges c.args.instantiation n b → ⊥) c.in_ok-own.ensures.ok c.in_default.ensures.none in
    let reached : IsReached Follow.Flow c.self.inside.edges (c.args.instantiation ∷ []) c.in_ok-seen.seen =
    c.in_ok-seen.ensures in
    let fits : NodeFits (graph c.self.inside) c.args.argument c.in_ok-item.item =
    subst (λ (g : Graph). NodeFits g c.args.argument c.in_ok-item.item) (sym c.self.view_is)
    (subst (λ o. MatchOption o (NodeFits c.args.self.now c.args.argument c.in_ok-item.item) (NodeMismatches c.args.self.now c.args.argument c.in_ok-item.item)) c.in_default-2.is c.in_ok-source.ensures) in
    subst (λ g. SetsArgument g (record (graph c.self.inside) { edges = c.add_argument.new.self }) c.args.instantiation c.args.name.now c.args.argument) c.self.view_is
    (set_step (graph c.self.inside) c.add_argument.new.self c.args.argument c.args.instantiation c.args.name.now c.in_ok-item.item (argument_edge c.args.argument c.args.instantiation (string_bytes c.in_ok-own.own))
    c.in_ok-add_argument.ensures.added
    (ap (argument_edge c.args.argument c.args.instantiation) c.in_ok-own.ensures.ok)
    (subst (λ g. IsArgument g c.args.instantiation c.args.name.now c.in_ok-item.item) (sym c.self.view_is) c.in_ok-item.ensures.found)
    none fits
    (not_reached (graph c.self.inside) c.self.inside.edges (c.args.instantiation ∷ []) c.in_ok-seen.seen c.args.argument reached
    (sym c.has.ensures ∙ c.if-has.false)))
