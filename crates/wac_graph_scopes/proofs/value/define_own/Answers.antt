use Rattle.std.proofs.lemmas.Result.{err_from_is_err_and}
use Rattle.wac_types_base.proofs.Slots.{stands_own}
use Rattle.wac_graph_scopes.proofs.HandleLaws.{own_written}
use Rattle.wac_types_fit.proofs.ItemKinds.{resource_is}
use Rattle.wac_graph_scopes.proofs.value.define_own.Goals as goal

pub resource_of-requires : goal.resource_of-requires
resource_of-requires c = stands_own c.args.types.now c.args.id c.requires

pub returns-clause-writes : goal.returns-clause-writes
returns-clause-writes c w outer i h =
    let types = c.args.types.now in
    let root = resource_is types c.see_acyclic.ensures c.args.id (stands_own types c.args.id c.requires) in
    own_written w types outer i c.see_acyclic.ensures c.args.id c.args.scope.now c.define.new.self c.in_ok-resource.resource c.in_ok-index.index root.0
    c.requires h (c.in_ok-resource.ensures.reads w outer i h) root.1 (λ j x hs e. c.in_ok-index.ensures.stands w types outer j x hs e)

pub returns-in_err-resource-clause-refused : goal.returns-in_err-resource-clause-refused
returns-in_err-resource-clause-refused c =
    let p = err_from_is_err_and c.from_residual.result c.from_residual.ensures.1 in
    let r = c.in_err-resource.ensures.refused in
    rw (p.1, p.2, r) c.in_err-resource.ensures.unnamed

pub returns-clause-entry : goal.returns-clause-entry
returns-clause-entry c w outer i h = c.in_ok-index.ensures.entry c.args.types.now w outer i h
