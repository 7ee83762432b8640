use Rattle.std.proofs.Common.{sym}
use Rattle.wac_graph_core.specs.Steps.{IsExternName}
use Rattle.wac_graph_core.specs.Nodes.{IsResource}
use Rattle.wac_graph_core.proofs.Calls.{refuted}
use Rattle.wac_graph_core.proofs.graph.CompositionGraph.definable.Goals as goal

pub returns-then-is_resource-clause-refused : goal.returns-then-is_resource-clause-refused
returns-then-is_resource-clause-refused c =
    (c.in_default.ensures.none, c.is_resource.ensures.0 c.if-is_resource.true)

pub returns-then-not-valid-clause-refused : goal.returns-then-not-valid-clause-refused
returns-then-not-valid-clause-refused c = (
  c.in_ok-own.ensures.ok,
  (c.in_default.ensures.none, refuted c.is_resource.result (IsResource c.args.ty) c.is_resource.ensures c.if-is_resource.false),
  refuted c.in_ok-valid.valid (IsExternName c.args.name.now) c.in_ok-valid.ensures c.if-not-valid.true,
)

pub returns-in-Some-get_export-clause-refused : goal.returns-in-Some-get_export-clause-refused
returns-in-Some-get_export-clause-refused c = (
  c.in_ok-own.ensures.ok,
  (c.in_default.ensures.none, refuted c.is_resource.result (IsResource c.args.ty) c.is_resource.ensures c.if-is_resource.false),
  c.in_ok-valid.ensures.0 c.if-not-valid.false,
  c.in-Some-get_export.field-0,
  sym c.in-Some-get_export.ensures,
)

pub returns-in-None-clause-found : goal.returns-in-None-clause-found
returns-in-None-clause-found c =
    record {
      named = c.in_ok-own.ensures.ok;
      definable = (c.in_default.ensures.none, refuted c.is_resource.result (IsResource c.args.ty) c.is_resource.ensures c.if-is_resource.false);
      valid = c.in_ok-valid.ensures.0 c.if-not-valid.false;
      unexported = sym c.in-None.ensures;
    }
