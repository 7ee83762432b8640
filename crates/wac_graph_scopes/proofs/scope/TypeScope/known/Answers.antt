use Rattle.std.proofs.Common.{sym}
use Rattle.wac_types_base.specs.declared.item.ValueType.{ValueType}
use Rattle.wac_graph_scopes.proofs.PlaceLaws.{no_place, other_place, if_none_map}
use Rattle.wac_graph_scopes.proofs.scope.TypeScope.known.Goals as goal

pub returns-in-Some-clause-none : goal.returns-in-Some-clause-none
returns-in-Some-clause-none c types h =
    let ks = c.args.self.now.known in
    if_none_map c.known_as.result _ _ (λ differs. other_place types ks (ValueType.Defined c.args.id) c.in-Some.at (sym c.in-Some.ensures) differs h) c.known_as.ensures.none

pub returns-in-None-clause-none : goal.returns-in-None-clause-none
returns-in-None-clause-none c types h = no_place types c.args.self.now.known (ValueType.Defined c.args.id) (sym c.in-None.ensures) h
