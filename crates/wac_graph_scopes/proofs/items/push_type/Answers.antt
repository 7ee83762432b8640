use Rattle.std.proofs.Common.{sym, ap, subst, ◌∙◌}
use Rattle.wac_types_base.specs.declared.item.ItemKind.{ItemKind}
use Rattle.wac_types_base.specs.declared.item.«Type».{«Type» as TypeKind}
use Rattle.wac_types_base.specs.Collection.{Stands}
use Rattle.wac_types_base.specs.Tree.{Tree}
use Rattle.wac_types_base.proofs.Slots.{stands_typed_func, stands_typed_value}
use Rattle.wac_types_fit.specs.Trees.{tree_in}
use Rattle.wac_types_fit.proofs.Unfolded.{type_func, type_value}
use Rattle.std.specs.Prelude.{IfErr}
use Rattle.std.proofs.lemmas.Result.{IfOk-weaker}
use Rattle.wac_graph_scopes.specs.Items.{GivesItem}
use Rattle.wac_graph_scopes.specs.ItemRefusals.{RefusedType}
use Rattle.wac_graph_scopes.proofs.UsedLaws.{func_item, value_item}
use Rattle.wac_graph_scopes.proofs.WritingLaws.{resource_there, item_of_type}
use Rattle.wac_graph_scopes.proofs.RefusedLaws.{if_err_both}
use Rattle.wac_graph_scopes.proofs.items.push_type.Goals as goal

pub returns-in-Resource-clause-states : goal.returns-in-Resource-clause-states
returns-in-Resource-clause-states c w outer i h =
    let types = c.args.types.now in
    let id = c.in-Resource.id in
    let stands = subst (λ (t : TypeKind). Stands types (ItemKind.Ty t)) c.in-Resource.is c.requires in
    let same = ap (λ (t : TypeKind). tree_in types (ItemKind.Ty t)) (sym c.in-Resource.is) in
    IfOk-weaker c.resource_of.result _ _ (λ k e. subst (λ (t : Tree). GivesItem w types outer i t c.args.scope.now k) same (resource_there w types outer i c.see_acyclic.ensures id c.args.scope.now k stands h e))
    (c.resource_of.ensures.reads w outer i h.written)

pub returns-in-Func-clause-states : goal.returns-in-Func-clause-states
returns-in-Func-clause-states c w outer i h =
    let types = c.args.types.now in
    let id = c.in-Func.id in
    let stands = subst (λ (t : TypeKind). Stands types (ItemKind.Ty t)) c.in-Func.is c.requires in
    let item = func_item types c.see_acyclic.ensures id (stands_typed_func types id stands) ∙ sym (type_func types c.see_acyclic.ensures id stands) ∙ ap (λ (t : TypeKind). tree_in types (ItemKind.Ty t)) (sym c.in-Func.is) in
    IfOk-weaker c.push_func_type.result _ _ (λ k a. item_of_type w types outer i (tree_in types (ItemKind.Ty c.args.ty)) (tree_in types (ItemKind.Func id)) c.push_func_type.new.scope k item a) (c.push_func_type.ensures.states w outer i h)

pub returns-in-Value-clause-states : goal.returns-in-Value-clause-states
returns-in-Value-clause-states c w outer i h =
    let types = c.args.types.now in
    let v = c.in-Value.ty in
    let stands = subst (λ (t : TypeKind). Stands types (ItemKind.Ty t)) c.in-Value.is c.requires in
    let item = value_item types c.see_acyclic.ensures v (stands_typed_value types v stands) ∙ sym (type_value types c.see_acyclic.ensures v stands) ∙ ap (λ (t : TypeKind). tree_in types (ItemKind.Ty t)) (sym c.in-Value.is) in
    IfOk-weaker c.push_value_type.result _ _ (λ k a. item_of_type w types outer i (tree_in types (ItemKind.Ty c.args.ty)) (tree_in types (ItemKind.Value v)) c.push_value_type.new.scope k item a) (c.push_value_type.ensures.states w outer i h)

pub returns-in-Resource-clause-refused : goal.returns-in-Resource-clause-refused
returns-in-Resource-clause-refused c =
    let types = c.args.types.now in
    let both = if_err_both c.resource_of.result _ _ c.resource_of.ensures.refused c.resource_of.ensures.unnamed in
    subst (λ (t : TypeKind). IfErr c.resource_of.result (RefusedType types t c.args.scope.now c.args.scope.now)) (sym c.in-Resource.is) both

pub returns-in-Func-clause-refused : goal.returns-in-Func-clause-refused
returns-in-Func-clause-refused c =
    let types = c.args.types.now in
    let id = c.in-Func.id in
    let stands = subst (λ (t : TypeKind). Stands types (ItemKind.Ty t)) c.in-Func.is c.requires in
    subst (λ (t : TypeKind). IfErr c.push_func_type.result (RefusedType types t c.args.scope.now c.push_func_type.new.scope)) (sym c.in-Func.is) (c.push_func_type.ensures.refused (stands_typed_func types id stands))

pub returns-in-Value-clause-refused : goal.returns-in-Value-clause-refused
returns-in-Value-clause-refused c =
    let types = c.args.types.now in
    let v = c.in-Value.ty in
    let stands = subst (λ (t : TypeKind). Stands types (ItemKind.Ty t)) c.in-Value.is c.requires in
    subst (λ (t : TypeKind). IfErr c.push_value_type.result (RefusedType types t c.args.scope.now c.push_value_type.new.scope)) (sym c.in-Value.is) (c.push_value_type.ensures.refused (stands_typed_value types v stands))
