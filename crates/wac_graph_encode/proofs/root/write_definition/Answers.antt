use Rattle.std.proofs.Common.{[], ◌∷◌, sym, subst}
use Rattle.wac_types_base.specs.declared.item.ItemKind.{ItemKind}
use Rattle.wac_types_base.specs.Record.{Collection}
use Rattle.wac_types_base.specs.Collection.{IsAcyclic}
use Rattle.wac_graph_scopes.specs.Scopes.{AreKnown}
use Rattle.wac_graph_scopes.specs.Imports.{WritesOn, DescribesApart}
use Rattle.wac_graph_scopes.proofs.ImportLaws.{GoesOn-refl}
use Rattle.wac_graph_encode.proofs.RootedDefinitions.{copy_entry, own_entry, copy_defines, own_defines, if_ok_both}
use Rattle.wac_graph_encode.proofs.root.write_definition.Goals as goal

pub returns-in-Some : goal.returns-in-Some
returns-in-Some c to w i imported h knows =
    let g = c.args.graph.now in
    let a = c.args.all in
    let finite = subst IsAcyclic c.types.ensures c.see_acyclic.ensures in
    let x = c.args.definition.now in
    let n = x.name in
    let new = c.write_type.new.scope in
    let from = h.goes.writing.inside in
    let base : WritesOn w a.types.now [] a.world from c.args.scope.now imported [] = record { goes = h.goes; on = GoesOn-refl from } in
    let entry = copy_entry g c.see_sound.ensures finite a.types.now c.see_acyclic-2.ensures w a.world i imported x to c.in-Some.item c.in-Some.is in
    if_ok_both c.write_type.result (c.write_type.ensures.item n w [] from imported [] base) (c.write_type.ensures.own entry w [] from imported [] base)
    (λ d described own. copy_defines g c.see_sound.ensures finite a.types.now c.see_acyclic-2.ensures w a.world i imported x to c.in-Some.item c.in-Some.is c.args.scope.now new c.args.known.now h knows n d described own)

pub returns-in-None : goal.returns-in-None
returns-in-None c to w i imported h knows =
    let g = c.args.graph.now in
    let a = c.args.all in
    let finite = subst IsAcyclic c.types.ensures c.see_acyclic.ensures in
    let x = c.args.definition.now in
    let same = c.types-in-None.ensures in
    let inside = h.goes.writing.inside in
    let known = subst (λ (t : Collection). AreKnown w (inside.here ∷ []) t c.args.known.now) (sym same) knows in
    let own = own_entry g c.see_sound.ensures finite a.types.now c.see_acyclic-2.ensures w a.world i imported x to c.in-None.is in
    let scope = c.describe_apart.new.self in
    let after = c.describe_apart.new.other in
    if_ok_both c.describe_apart.result (c.describe_apart.ensures.describes a.world w a.types.now [] i imported [] h known) (c.describe_apart.ensures.own own w a.types.now [] inside h.goes.writing.stands known)
    (λ d described entry. own_defines g c.see_sound.ensures finite a.types.now c.see_acyclic-2.ensures w a.world i imported x to c.in-None.is scope after d
    (subst (λ (t : Collection). DescribesApart w a.types.now t [] a.world i (ItemKind.Ty x.ty) scope after imported [] d) same described) entry)
