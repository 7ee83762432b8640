use Rattle.std.proofs.Common.{ap, ◌∙◌}
use Rattle.wac_types_fit.proofs.ValueTrees.{func_holds}
use Rattle.wac_graph_scopes.specs.Forms.{func_entry_of}
use Rattle.std.proofs.lemmas.Result.{err_from_is_err_and}
use Rattle.wac_types_base.specs.declared.item.ItemKind.{ItemKind}
use Rattle.wac_graph_scopes.proofs.RefusedLaws.{parts_refused, later_same}
use Rattle.wac_graph_scopes.proofs.ValueLaws.{func_written}
use Rattle.wac_graph_scopes.proofs.PlaceLaws.{KeepsKnown-trans, known_same_list}
use Rattle.wac_graph_scopes.proofs.value.push_func.Goals as goal

pub push_places-requires-clause-values : goal.push_places-requires-clause-values
push_places-requires-clause-values c = func_holds c.args.types.now c.args.id c.func_type-ty.result.now c.func_type-ty.ensures.entry c.func_type-ty.ensures.own

pub returns-clause-writes : goal.returns-clause-writes
returns-clause-writes c w outer i h =
    let types = c.args.types.now in
    func_written w types outer i c.see_acyclic.ensures c.args.id c.func_type-ty.result.now c.push_places.new.scope c.define.new.self c.in_ok-places.places.items c.in_ok-entry.entry c.in_ok-index.index
    c.func_type-ty.ensures.entry c.func_type-ty.ensures.own (c.in_ok-places.ensures.writes w outer i h) (c.in_ok-entry.ensures ∙ ap (func_entry_of c.func_type-ty.result.now) c.as_slice.ensures.value)
    (λ j x hs e. c.in_ok-index.ensures.stands w types outer j x hs e)

pub returns-clause-entry : goal.returns-clause-entry
returns-clause-entry c w outer i h = let a = c.in_ok-places.ensures.writes w outer i h in c.in_ok-index.ensures.entry c.args.types.now w outer a.after a.goes.stands

pub returns-in_err-places-clause-refused : goal.returns-in_err-places-clause-refused
returns-in_err-places-clause-refused c =
    let types = c.args.types.now in
    let p = err_from_is_err_and c.from_residual.result c.from_residual.ensures.1 in
    let s = c.args.scope.now in
    rw (p.1, p.2) (parts_refused types (ItemKind.Func c.args.id) s s c.push_places.new.scope c.in_err-places.field-0.0 (later_same types s) tt c.in_err-places.ensures.refused)

pub returns-clause-known : goal.returns-clause-known
returns-clause-known c =
    let mid = c.push_places.new.scope.known.all.items in
    let new = c.define.new.self.known.all.items in
    KeepsKnown-trans c.args.scope.now.known.all.items mid new c.in_ok-places.ensures.known (known_same_list mid new (ap (λ k. k.all.items) c.define.ensures.known))
