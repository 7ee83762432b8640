-- The stated types of a graph's items: that of a definition is a type, that of an instance is one of an instance.
use Rattle.std.proofs.lemmas.Option.{none-some, same_Some}
use Rattle.std.proofs.Common.{◌≡◌, true, Option, Some, None, refl, sym, ap, ◌∙◌}
use Rattle.wac_types_base.specs.declared.item.«Type».{«Type» as TypeKind}
use Rattle.wac_types_base.specs.declared.item.ItemKind.{ItemKind}
use Rattle.wac_types_base.specs.Record.{Collection}
use Rattle.wac_types_base.specs.Collection as s
use Rattle.wac_types_base.specs.Collection.{Shape, Entry, Stands, IsAcyclic, item_node, value_node, labelled, entry_at, func_entry, interface_entry, world_entry, module_entry}
use Rattle.wac_types_base.specs.Stated.{shape_of, kind_of, stated_of}
use Rattle.wac_types_base.specs.Tree.{tree}
use Rattle.wac_types_base.proofs.GraphLemmas.{value_of}
use Rattle.wac_types_base.proofs.Telling.{item_kind, kind_stated, stated_step}
use Rattle.wac_types_written.specs.Written.{is_type, written_definition}
use Rattle.wac_nesting.specs.Given.{IsDefinition}
use Rattle.wac_composition.specs.Classes.{is_instance_kind}
use Rattle.wac_graph_core.specs.Nodes.{IsResource as IsResourceType, IsDefinedType}
use Rattle.wac_graph_core.specs.Graph.{is_instance}
use Rattle.wac_parser_resolve.proofs.ProperStates.{typed_definition}

-- ---- of a collection

labelled_is : (f : Shape → Shape) (o : Option Entry) (e : Entry) → labelled f o ≡ Some e → (l : Shape) × (e.0 ≡ f l)
labelled_is f None e h = absurd (none-some _ h)
labelled_is f (Some d) e h = (d.0, ap (λ (x : Entry). x.0) (sym (same_Some _ _ h)))

module _ (c : Collection) where
  type_label : (t : TypeKind) (e : Entry) → (IsResourceType t → ⊥) → item_node c (ItemKind.Ty t) ≡ Some e → (l : Shape) × (e.0 ≡ s.type_of l)
  unfolding item_node
  type_label (TypeKind.Resource r) e none h = absurd (none (r, refl))
  type_label (TypeKind.Func f) e none h = labelled_is s.type_of (entry_at func_entry c.number c.func_types f.collection f.index) e h
  type_label (TypeKind.Value v) e none h = labelled_is s.type_of (value_node c v) e h
  type_label (TypeKind.Interface i) e none h = labelled_is s.type_of (entry_at interface_entry c.number c.interfaces i.collection i.index) e h
  type_label (TypeKind.World w) e none h = labelled_is s.type_of (entry_at world_entry c.number c.worlds w.collection w.index) e h
  type_label (TypeKind.Module m) e none h = labelled_is s.type_of (entry_at module_entry c.number c.modules m.collection m.index) e h

  kind_is_type : (t : TypeKind) → is_type (item_kind (ItemKind.Ty t)) ≡ true
  kind_is_type (TypeKind.Resource r) = refl
  kind_is_type (TypeKind.Func f) = refl
  kind_is_type (TypeKind.Value v) = refl
  kind_is_type (TypeKind.Interface i) = refl
  kind_is_type (TypeKind.World w) = refl
  kind_is_type (TypeKind.Module m) = refl

  module _ (acyclic : IsAcyclic c) where
    -- what can be defined is a type
    pub defined_type : (k : ItemKind) → Stands c k → IsDefinedType k → is_type (kind_of (stated_of c k)) ≡ true
    defined_type k h d = ap is_type (kind_stated c acyclic k h ∙ ap item_kind d.is) ∙ kind_is_type d.type

    -- and is written as one
    pub defined_form : (k : ItemKind) → Stands c k → IsDefinedType k → IsDefinition (tree (written_definition (stated_of c k)))
    defined_form k h d =
        let e = value_of _ h in
        let l = type_label d.type e.0 d.no_resource (ap (item_node c) (sym d.is) ∙ e.1) in
        typed_definition (stated_of c k) l.0 (ap shape_of (stated_step c acyclic k e.0 e.1) ∙ l.1)

    pub instance_kind : (k : ItemKind) → Stands c k → is_instance k ≡ true → is_instance_kind (kind_of (stated_of c k)) ≡ true
    instance_kind (ItemKind.Instance i) h e = ap is_instance_kind (kind_stated c acyclic (ItemKind.Instance i) h)
    instance_kind (ItemKind.Ty t) h e = absurd (cc e)
    instance_kind (ItemKind.Func f) h e = absurd (cc e)
    instance_kind (ItemKind.Component w) h e = absurd (cc e)
    instance_kind (ItemKind.Module m) h e = absurd (cc e)
    instance_kind (ItemKind.Value v) h e = absurd (cc e)
