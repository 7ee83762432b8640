use Rattle.std.proofs.Common.{refl}
use Rattle.wac_graph_scopes.specs.declared.scope.KnownTypes.{KnownTypes}
use Rattle.wac_graph_scopes.proofs.PlaceLaws.{scope_has_entry}
use Rattle.wac_graph_scopes.proofs.scope.TypeScope.add_entry.Goals as goal

pub returns-in_ok-insert-in-None-clause-notes : goal.returns-in_ok-insert-in-None-clause-notes
returns-in_ok-insert-in-None-clause-notes c types w outer i h e =
    let s = c.args.self.now in
    let ks : KnownTypes = record s.known { resources = c.insert.new.self } in
    scope_has_entry w types outer i s ks c.args.id c.args.index h e c.in_ok-insert-in-None.ensures.updates.0 refl refl
