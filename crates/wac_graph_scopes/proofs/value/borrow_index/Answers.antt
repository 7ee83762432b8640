use Rattle.wac_types_base.proofs.Slots.{stands_borrow}
use Rattle.wac_graph_scopes.proofs.HandleLaws.{borrow_written}
use Rattle.wac_types_fit.proofs.ItemKinds.{resource_is}
use Rattle.wac_graph_scopes.proofs.RefusedLaws.{if_err_map, borrow_refused}
use Rattle.wac_graph_scopes.proofs.value.borrow_index.Goals as goal

pub resource_of-requires : goal.resource_of-requires
resource_of-requires c = stands_borrow c.args.types.now c.args.id c.requires

pub returns-in_ok-define-in-Ok-clause-writes : goal.returns-in_ok-define-in-Ok-clause-writes
returns-in_ok-define-in-Ok-clause-writes c w outer i h =
    let types = c.args.types.now in
    let root = resource_is types c.see_acyclic.ensures c.args.id (stands_borrow types c.args.id c.requires) in
    borrow_written w types outer i c.see_acyclic.ensures c.args.id c.args.scope.now c.define.new.self c.in-Ok.resource c.in_ok-define-in-Ok.field-0 root.0
    c.requires h (c.in-Ok.ensures.reads w outer i h) root.1 (λ j x hs e. c.in_ok-define-in-Ok.ensures.stands w types outer j x hs e)

pub returns-in-Err-clause-refused : goal.returns-in-Err-clause-refused
returns-in-Err-clause-refused c =
    if_err_map c.equal_handle.result (λ e h. borrow_refused c.args.types.now c.args.id c.args.scope.now c.equal_handle.new.scope e c.equal_handle.ensures.resources c.in-Err.ensures.unnamed h) c.equal_handle.ensures.none
