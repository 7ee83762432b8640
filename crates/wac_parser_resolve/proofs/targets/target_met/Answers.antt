use Rattle.std.proofs.Common.{◌≡◌, [], Some, None, slice_get, refl, sym, subst}
use Rattle.wac_types_base.specs.declared.item.ItemKind.{ItemKind}
use Rattle.wac_types_base.specs.Record.{Collection}
use Rattle.wac_types_base.specs.Collection.{IsAcyclic, Stands}
use Rattle.wac_types_base.specs.Stated.{stated_of}
use Rattle.wac_types_base.specs.Implicit.{by_identifier, implicit_interfaces, shown}
use Rattle.wac_types_fit.specs.Targets.{target_import}
use Rattle.wac_types_fit.specs.TargetSteps.{AllStand, GivesStanding}
use Rattle.wac_types_fit.proofs.Items.{world_imports_inside, world_exports_inside}
use Rattle.wac_types_fit.proofs.Reports.{world_children, implicit_stand, target_standing}
use Rattle.wac_parser_tree.specs.Views.{view_package_path}
use Rattle.wac_parser_resolve.proofs.Meeting.{noted_instances, noted_statements}
use Rattle.wac_parser_resolve.proofs.TargetMet.{on_ok, meets}
use Rattle.wac_parser_declare.proofs.Exports.{component_exports}
use Rattle.wac_parser_resolve.proofs.MeetingSaid.{fault_refused}
use Rattle.wac_parser_resolve.proofs.MeetingUses.{gives_same, uses_named}
use Rattle.wac_parser_resolve.proofs.targets.target_met.Goals as goal

pub implicit_imported_interfaces-requires : goal.implicit_imported_interfaces-requires
implicit_imported_interfaces-requires c =
    world_children c.types-types.result.now c.world-wanted.ensures.acyclic c.args.world c.world-wanted.result.now c.world-wanted.ensures.entry c.world-wanted.ensures.own

pub met-requires-clause-given : goal.met-requires-clause-given
met-requires-clause-given c =
    let stands = subst (λ t. Stands t (ItemKind.Component c.args.world)) (sym c.types-types.ensures) c.requires.world in
    let children = world_children c.types-types.result.now c.world-wanted.ensures.acyclic c.args.world c.world-wanted.result.now c.world-wanted.ensures.entry c.world-wanted.ensures.own in
    subst (λ t. GivesStanding t (target_import (shown c.in-Ok.implicit.entries) c.world-wanted.result.now.imports)) c.types-types.ensures
    (target_standing c.types-types.result.now (shown c.in-Ok.implicit.entries) c.world-wanted.result.now.imports
    (implicit_stand c.types-types.result.now c.world-wanted.ensures.acyclic c.world-wanted.result.now children (shown c.in-Ok.implicit.entries) c.in-Ok.ensures.ok)
    (λ n j m. (world_imports_inside c.types-types.result.now c.world-wanted.ensures.acyclic c.args.world c.world-wanted.result.now stands c.world-wanted.ensures.entry c.world-wanted.ensures.own n j m).0))

pub met-requires-clause-exports : goal.met-requires-clause-exports
met-requires-clause-exports c =
    let stands = subst (λ t. Stands t (ItemKind.Component c.args.world)) (sym c.types-types.ensures) c.requires.world in
    subst (λ t. AllStand t c.world-wanted.result.now.exports) c.types-types.ensures
    (λ n j m. (world_exports_inside c.types-types.result.now c.world-wanted.ensures.acyclic c.args.world c.world-wanted.result.now stands c.world-wanted.ensures.entry c.world-wanted.ensures.own n j m).0)

pub returns-in-Ok-clause-ok : goal.returns-in-Ok-clause-ok
returns-in-Ok-clause-ok c =
    on_ok c.met.result
    (λ met noted. meets c.args.graph.now c.types-types.result.now c.args.world c.world-wanted.result.now (shown c.in-Ok.implicit.entries) c.types-types.ensures
    c.world-wanted.ensures.entry c.in-Ok.ensures.ok (noted_statements noted met.statements) (noted_instances noted met.instances) met.exports)
    c.met.ensures.ok

pub returns-in-Ok-clause-outcome : goal.returns-in-Ok-clause-outcome
returns-in-Ok-clause-outcome c ids names s asked says exported =
    let g = c.args.graph.now in
    let w = c.args.world in
    let x = c.world-wanted.result.now in
    let fs = shown c.in-Ok.implicit.entries in
    let a = subst IsAcyclic c.types-types.ensures c.world-wanted.ensures.acyclic in
    let at : slice_get g.types.worlds w.index ≡ Some x = subst (λ (t : Collection). slice_get t.worlds w.index ≡ Some x) c.types-types.ensures c.world-wanted.ensures.entry in
    let own : w.collection ≡ g.types.number = subst (λ (t : Collection). w.collection ≡ t.number) c.types-types.ensures c.world-wanted.ensures.own in
    let has = world_children g.types a w x at own in
    let listed : by_identifier g.types [] (implicit_interfaces g.types x) ≡ Some fs = subst (λ (t : Collection). by_identifier t [] (implicit_interfaces t x) ≡ Some fs) c.types-types.ensures c.in-Ok.ensures.ok in
    c.met.ensures.outcome ids names s (view_package_path c.args.path.now) (stated_of g.types (ItemKind.Component w))
    (record { path = refl; gives = gives_same g.types a w x at own has fs listed; named = uses_named g.types a w x at own has fs listed; exports = component_exports g.types a w x at own })
    asked says exported

pub returns-in-Err-clause-outcome : goal.returns-in-Err-clause-outcome
returns-in-Err-clause-outcome c ids names s asked says exported =
    let g = c.args.graph.now in
    let w = c.args.world in
    let x = c.world-wanted.result.now in
    let a = subst IsAcyclic c.types-types.ensures c.world-wanted.ensures.acyclic in
    let at : slice_get g.types.worlds w.index ≡ Some x = subst (λ (t : Collection). slice_get t.worlds w.index ≡ Some x) c.types-types.ensures c.world-wanted.ensures.entry in
    let own : w.collection ≡ g.types.number = subst (λ (t : Collection). w.collection ≡ t.number) c.types-types.ensures c.world-wanted.ensures.own in
    fault_refused g a w x at own (world_children g.types a w x at own) s (view_package_path c.args.path.now) c.in-Err.fault c.args.path.now c.implicit_fault.result refl
    (λ e. subst (λ (t : Collection). by_identifier t [] (implicit_interfaces t x) ≡ None) c.types-types.ensures (c.in-Err.ensures.err e)) c.implicit_fault.ensures
