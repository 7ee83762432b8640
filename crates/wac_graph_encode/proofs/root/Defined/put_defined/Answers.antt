use Rattle.std.proofs.Common.{Some, refl, sym, ap, ◌∙◌}
use Rattle.wac_types_base.specs.declared.item.«Type».{«Type» as TypeKind}
use Rattle.wac_types_base.specs.Collection.{Stands}
use Rattle.wac_types_base.specs.declared.item.ItemKind.{ItemKind}
use Rattle.wac_types_base.specs.declared.item.ValueType.{ValueType}
use Rattle.wac_types_fit.proofs.Unfolded.{same_tree, end_no_alias}
use Rattle.wac_graph_encode.proofs.EarlyExports.{defined_index}
use Rattle.wac_graph_encode.proofs.root.Defined.put_defined.Goals as goal

pub returns-clause-known : goal.returns-clause-known
returns-clause-known c w ss u knows reads is =
    let types = c.args.types.now in
    let a = c.see_acyclic.ensures in
    let r = c.resolve_value_type-end.ensures in
    let last = c.resolve_value_type-end.result in
    let own = ValueType.Defined c.args.id in
    let stands : Stands types (ItemKind.Value own) = c.if-not-has.ensures.0 refl in
    let type : Stands types (ItemKind.Ty (TypeKind.Value own)) = c.if-not-has-2.ensures.0 refl in
    let same = same_tree types a (ItemKind.Value last) (ItemKind.Value own) r.stands stands r.tree in
    let value = defined_index types a w ss c.args.id last c.args.index u r.stands type (end_no_alias types a r.resolved) same reads is in
    c.put.ensures.known w ss types (c.in_ok-put_end.ensures.known w ss types knows (value ∙ ap Some (sym same))) value
