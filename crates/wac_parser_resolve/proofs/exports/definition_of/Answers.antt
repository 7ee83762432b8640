use Rattle.std.proofs.Common.{sym, subst, ◌∙◌}
use Rattle.wac_types_base.specs.Entries.{value_at}
use Rattle.wac_parser_resolve.specs.InExports.{IsDefinitionIn}
use Rattle.wac_parser_resolve.proofs.Exporting.{is_bound, lost_node, no_binding, no_definition, no_node}
use Rattle.wac_parser_resolve.proofs.exports.definition_of.Goals as goal

pub returns-in_err-node-clause-found : goal.returns-in_err-node-clause-found
returns-in_err-node-clause-found c ms s all scoped =
    subst (IsDefinitionIn c.args.graph.now ms (value_at s.root c.args.name.now)) (sym c.from_residual.ensures)
    (no_node c.args.graph.now ms s c.args.nodes.now c.args.name.now all (sym c.in_err-node.ensures))

pub returns-in_err-span-clause-found : goal.returns-in_err-span-clause-found
returns-in_err-span-clause-found c ms s all scoped =
    subst (IsDefinitionIn c.args.graph.now ms (value_at s.root c.args.name.now)) (sym c.from_residual-in_err-span.ensures)
    (no_binding c.args.graph.now ms s c.args.nodes.now c.args.name.now all c.args.names.now scoped (sym c.in_err-span.ensures))

pub returns-then-not-contains_node-clause-found : goal.returns-then-not-contains_node-clause-found
returns-then-not-contains_node-clause-found c ms s all scoped =
    lost_node c.args.graph.now ms s c.args.nodes.now c.args.name.now all c.in_ok-node.field-0.now (sym c.in_ok-node.ensures) (sym c.contains_node.ensures ∙ c.if-not-contains_node.true)

pub returns-then-is_definition-clause-found : goal.returns-then-is_definition-clause-found
returns-then-is_definition-clause-found c ms s all scoped =
    is_bound c.args.graph.now ms s c.args.nodes.now c.args.name.now all c.args.names.now scoped c.see_sound.ensures c.in_ok-node.field-0.now c.in_ok-span.field-0.now
    (sym c.in_ok-node.ensures) (sym c.in_ok-span.ensures) (c.is_definition.ensures.0 c.if-is_definition.true)

pub returns-else-is_definition-clause-found : goal.returns-else-is_definition-clause-found
returns-else-is_definition-clause-found c ms s all scoped =
    no_definition c.args.graph.now ms s c.args.nodes.now c.args.name.now all c.see_sound.ensures c.in_ok-node.field-0.now (sym c.in_ok-node.ensures)
    (λ d. absurd (cc (c.is_definition.ensures.1 d, c.if-is_definition.false)))
