use Rattle.std.proofs.Common.{◌∷◌, sym, ap, subst, ◌∙◌}
use Rattle.std.proofs.lemmas.Result.{IfOk-weaker, on_ok_weaker}
use Rattle.wac_types_base.specs.declared.item.ItemKind.{ItemKind}
use Rattle.wac_types_base.specs.declared.item.«Type».{«Type» as TypeKind}
use Rattle.wac_types_fit.proofs.Unfolded.{type_value}
use Rattle.wac_graph_bytes.specs.Typing.{type_in}
use Rattle.wac_graph_scopes.proofs.ItemLaws.{noted}
use Rattle.wac_graph_scopes.proofs.UsedLaws.{resource_type}
use Rattle.wac_graph_scopes.specs.Items.{IsNotable}
use Rattle.wac_types_base.specs.Collection.{Stands}
use Rattle.wac_types_base.proofs.Slots.{stands_typed_value}
use Rattle.wac_graph_scopes.specs.Known.{type_tree}
use Rattle.wac_graph_scopes.specs.Stock.{Holds}
use Rattle.std.specs.Prelude.{OnOk}
use Rattle.wac_graph_scopes.proofs.items.ItemScope.note_type.Goals as goal

pub returns-in-Resource-clause-notes : goal.returns-in-Resource-clause-notes
returns-in-Resource-clause-notes c w outer i h n =
    let types = c.args.types.now in
    let m = subst (λ (t : TypeKind). IsNotable w types (i.here ∷ outer) (ItemKind.Ty t) c.args.index) c.in-Resource.is n in
    IfOk-weaker c.note_resource.result _ _ (λ u s. noted w types outer i c.args.self.now c.note_resource.new.scope h s)
    (c.note_resource.ensures.notes m.0 w outer i h.written (record { reads = m.1 ∙ resource_type types c.see_acyclic.ensures c.in-Resource.id m.0 }))

pub returns-in-Value-clause-notes : goal.returns-in-Value-clause-notes
returns-in-Value-clause-notes c w outer i h n =
    let types = c.args.types.now in
    let m = subst (λ (t : TypeKind). IsNotable w types (i.here ∷ outer) (ItemKind.Ty t) c.args.index) c.in-Value.is n in
    IfOk-weaker c.note_value.result _ _ (λ u s. noted w types outer i c.args.self.now c.note_value.new.scope h s)
    (c.note_value.ensures.notes w outer i h.written (m.1 ∙ ap type_in (type_value types c.see_acyclic.ensures c.in-Value.ty m.0)))

pub returns-in-Value-clause-held : goal.returns-in-Value-clause-held
returns-in-Value-clause-held c stands =
    let types = c.args.types.now in
    let v = c.in-Value.ty in
    let s = subst (λ (t : TypeKind). Stands types (ItemKind.Ty t)) c.in-Value.is stands in
    subst (λ (t : TypeKind). OnOk c.note_value.result (Holds types c.note_value.new.scope (ItemKind.Ty t))) (sym c.in-Value.is)
    (on_ok_weaker c.note_value.result (λ k. (k.0, k.1, k.2, ap (type_tree types) k.3)) (c.note_value.ensures.own (stands_typed_value types v s)))
