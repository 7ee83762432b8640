use Rattle.std.proofs.Common.{refl, false, sym, subst, ◌∙◌}
use Rattle.wac_types_base.specs.Graph.{Among}
use Rattle.wac_types_base.proofs.Lists.{last_among}
use Rattle.wac_types_base.specs.declared.item.ValueType.{ValueType}
use Rattle.wac_graph_scopes.specs.declared.scope.KnownType.{KnownType}
use Rattle.wac_graph_scopes.specs.declared.scope.KnownTypes.{KnownTypes}
use Rattle.wac_graph_scopes.proofs.PlaceLaws.{places_remembered}
use Rattle.wac_graph_scopes.proofs.ScopeLaws.{known_put}
use Rattle.wac_graph_scopes.proofs.scope.KnownTypes.put.Goals as goal

pub returns-clause-known : goal.returns-clause-known
returns-clause-known c w ss types h e =
    let s = c.args.self.now in
    let k : KnownType = record { ty = ValueType.Defined c.args.id; index = c.args.index; named = false } in
    let ks : KnownTypes = record s { all = c.push.new.self; places = record s.places { by_id = c.insert.new.self } } in
    known_put w types ss s ks k h (record { reads = e }) c.in_ok-push.ensures.items
    (places_remembered types s ks k c.len-at.result (c.len-at.ensures ∙ s.all.ok.0) c.in_ok-insert.ensures.updates.0 c.in_ok-push.ensures.items refl refl (λ n. absurd (cc n)) h.places) refl

pub returns-clause-own : goal.returns-clause-own
returns-clause-own c =
    let k : KnownType = record { ty = ValueType.Defined c.args.id; index = c.args.index; named = false } in
    (k, subst (Among k) (sym c.in_ok-push.ensures.items) (last_among _ k), refl)
