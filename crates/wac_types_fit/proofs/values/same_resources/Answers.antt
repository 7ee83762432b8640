use Rattle.wac_types_base.specs.declared.item.ItemKind.{ItemKind}
use Rattle.wac_types_base.specs.declared.item.«Type».{«Type» as TypeKind}
use Rattle.wac_types_fit.proofs.Unfolded.{same_tree, root_no_alias}
use Rattle.wac_types_fit.proofs.ValueTrees.{same_through, roots_same, text_test}
use Rattle.wac_types_fit.proofs.values.same_resources.Goals as goal

pub returns : goal.returns
returns c =
    let at = c.args.at.now in
    let bt = c.args.bt.now in
    let x = c.resource-given.result.now in
    let y = c.resource-asked.result.now in
    let r = c.resolve_resource.result in
    let s = c.resolve_resource-2.result in
    same_through at bt (ItemKind.Ty (TypeKind.Resource r)) (ItemKind.Ty (TypeKind.Resource c.args.a)) (ItemKind.Ty (TypeKind.Resource s)) (ItemKind.Ty (TypeKind.Resource c.args.b)) c.is.result
    (same_tree at c.resource-given.ensures.acyclic (ItemKind.Ty (TypeKind.Resource r)) (ItemKind.Ty (TypeKind.Resource c.args.a)) c.resolve_resource.ensures.stands c.requires.given c.resolve_resource.ensures.tree)
    (same_tree bt c.resource-asked.ensures.acyclic (ItemKind.Ty (TypeKind.Resource s)) (ItemKind.Ty (TypeKind.Resource c.args.b)) c.resolve_resource-2.ensures.stands c.requires.asked c.resolve_resource-2.ensures.tree)
    (roots_same at bt c.resource-given.ensures.acyclic c.resource-asked.ensures.acyclic r s x y
    c.resource-given.ensures.entry c.resource-given.ensures.own (root_no_alias at c.resource-given.ensures.acyclic c.resolve_resource.ensures.root x c.resource-given.ensures.entry)
    c.resource-asked.ensures.entry c.resource-asked.ensures.own (root_no_alias bt c.resource-asked.ensures.acyclic c.resolve_resource-2.ensures.root y c.resource-asked.ensures.entry)
    c.is.result (text_test x.name y.name c.as_str.result.now c.is.result c.is.ensures c.as_str.ensures))
