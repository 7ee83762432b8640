use Rattle.std.proofs.Common.{refl, ◌∙◌}
use Rattle.wac_graph_scopes.specs.declared.scope.KnownTypes.{KnownTypes}
use Rattle.wac_graph_scopes.proofs.PlaceLaws.{places_remembered}
use Rattle.wac_graph_scopes.proofs.ScopeLaws.{scope_remembers}
use Rattle.wac_graph_scopes.proofs.scope.TypeScope.remember.Goals as goal

pub returns-clause-known : goal.returns-clause-known
returns-clause-known c w types outer i h e named =
    let s = c.args.self.now in
    let k = c.args.known in
    let ks : KnownTypes = record s.known { all = c.push.new.self; places = record s.known.places { by_id = c.insert.new.self } } in
    scope_remembers w types outer i s (record s { known = ks }) k h e refl refl c.in_ok-push.ensures.items
    (places_remembered types s.known ks k c.len-at.result (c.len-at.ensures ∙ s.known.all.ok.0) c.in_ok-insert.ensures.updates.0 c.in_ok-push.ensures.items refl refl named h.known.places) refl refl
