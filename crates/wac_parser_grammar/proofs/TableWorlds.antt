-- The rules of interfaces and worlds accept only their plain forms.
use Rattle.std.proofs.Common.{inl, inr, true, false, [], ◌∷◌, ◌∙◌}
use Rattle.wac_parser_lexer.specs.declared.token.Token.TheVariants as k
use Rattle.wac_parser_lexer.specs.Items.{Input}
use Rattle.wac_parser_tree.specs.Trees as t
use Rattle.wac_parser_grammar.specs.Names as n
use Rattle.wac_parser_grammar.specs.ValueTypes as v
use Rattle.wac_parser_grammar.specs.Declarations as d
use Rattle.wac_parser_grammar.specs.Worlds as w
use Rattle.wac_parser_grammar.specs.Forms.{Row, Separated, Braces, Behind, Ident}
use Rattle.wac_parser_grammar.specs.FormsOfDeclarations.{UsePath, UseItem, Use, InterfaceExport, InterfaceItem, InterfaceDecl, InlineInterface, ExternType, NamedWorldItem, WorldItemPath, WorldImport, WorldExport, WorldRef, IncludeItem, With, WorldInclude, WorldItem, WorldDecl}
use Rattle.wac_parser_grammar.proofs.WorldLaws.{use_item_begins, world_include_item_begins}
use Rattle.wac_parser_grammar.proofs.TableDecls.{row_body_within, list_body_within, item_type_decl_within}
use Rattle.wac_parser_grammar.proofs.TableLaws.{Within, refuse_within, made, begin_within, begin_any_within, marked, optional_within, behind_token_within, moved}
use Rattle.wac_parser_grammar.proofs.TableTypes.{docs_within, ident_within, package_path_within, func_type_within, func_type_ref_within}

pub use_path_within : Within w.use_path UsePath
unfolding w.use_path
use_path_within =
    begin_within k.PackagePath _ _ UsePath (made n.package_path t.UsePath.package_path UsePath (record { within = package_path_within.within }))
    (begin_within k.Ident _ _ UsePath (made n.ident t.UsePath.ident UsePath (record { within = ident_within.within }))
    (refuse_within _ UsePath))

pub use_as_within : Within w.use_as (Behind k.AsKeyword Ident)
unfolding w.use_as
use_as_within = behind_token_within k.AsKeyword n.ident Ident ident_within

pub use_item_within : Within w.use_item UseItem
unfolding w.use_item
use_item_within = record { within = λ s x r h. rw (h.3.3.0, h.3.3.1) (h.1, ident_within.within s h.0 h.1 h.2, use_as_within.within h.1 h.3.0 h.3.1 h.3.2) }

pub use_items_within : Within w.use_items (λ xs. Braces (Separated UseItem xs))
unfolding w.use_items
use_items_within = list_body_within w.use_item UseItem use_item_within (k.Ident ∷ []) use_item_begins

pub use_types_within : Within w.use_types Use
unfolding w.use_types
use_types_within = record { within = λ s x r h. rw (h.3.3.3.3.3.3.0, h.3.3.3.3.3.3.1) (h.1, docs_within.within s h.0 h.1 h.2, (h.3.1, (h.3.0, h.3.2), (h.3.3.1, use_path_within.within h.3.1 h.3.3.0 h.3.3.1 h.3.3.2, (h.3.3.3.1, (h.3.3.3.0, h.3.3.3.2), (h.3.3.3.3.1, use_items_within.within h.3.3.3.1 h.3.3.3.3.0 h.3.3.3.3.1 h.3.3.3.3.2, (h.3.3.3.3.3.0, h.3.3.3.3.3.2)))))) }

pub interface_export_within : Within w.interface_export InterfaceExport
unfolding w.interface_export
interface_export_within = record { within = λ s x r h. rw (h.3.3.3.3.3.0, h.3.3.3.3.3.1) (h.1, docs_within.within s h.0 h.1 h.2, (h.3.1, ident_within.within h.1 h.3.0 h.3.1 h.3.2, (h.3.3.1, (h.3.3.0, h.3.3.2), (h.3.3.3.1, func_type_ref_within.within h.3.3.1 h.3.3.3.0 h.3.3.3.1 h.3.3.3.2, (h.3.3.3.3.0, h.3.3.3.3.2))))) }

pub interface_item_within : Within w.interface_item InterfaceItem
unfolding w.interface_item
interface_item_within =
    begin_within k.UseKeyword _ _ InterfaceItem (made w.use_types t.InterfaceItem.use_ InterfaceItem (record { within = use_types_within.within }))
    (begin_within k.Ident _ _ InterfaceItem (made w.interface_export t.InterfaceItem.export InterfaceItem (record { within = interface_export_within.within }))
    (begin_any_within d.item_type_decl_first _ _ InterfaceItem (made d.item_type_decl t.InterfaceItem.ty InterfaceItem (record { within = item_type_decl_within.within }))
    (refuse_within _ InterfaceItem)))

pub interface_items_within : Within w.interface_items (λ xs. Braces (Row InterfaceItem xs))
unfolding w.interface_items
interface_items_within = row_body_within w.interface_item InterfaceItem interface_item_within w.interface_item_first

pub interface_decl_within : Within w.interface_decl InterfaceDecl
unfolding w.interface_decl
interface_decl_within = record { within = λ s x r h. rw (h.3.3.3.3.0, h.3.3.3.3.1) (h.1, docs_within.within s h.0 h.1 h.2, (h.3.1, (h.3.0, h.3.2), (h.3.3.1, ident_within.within h.3.1 h.3.3.0 h.3.3.1 h.3.3.2, interface_items_within.within h.3.3.1 h.3.3.3.0 h.3.3.3.1 h.3.3.3.2))) }

pub inline_interface_within : Within w.inline_interface InlineInterface
unfolding w.inline_interface
inline_interface_within = record { within = λ s x r h. rw (h.3.3.0, h.3.3.1) (h.1, (h.0, h.2), interface_items_within.within h.1 h.3.0 h.3.1 h.3.2) }

pub extern_type_within : Within w.extern_type ExternType
unfolding w.extern_type
extern_type_within =
    begin_within k.Ident _ _ ExternType (made n.ident t.ExternType.ident ExternType (record { within = ident_within.within }))
    (begin_any_within v.func_first _ _ ExternType (made v.func_type t.ExternType.func ExternType (record { within = func_type_within.within }))
    (begin_within k.InterfaceKeyword _ _ ExternType (made w.inline_interface t.ExternType.interface ExternType (record { within = inline_interface_within.within }))
    (refuse_within _ ExternType)))

item_type_by : (id : t.Ident) (s m : Input) → Ident id s m → (x : t.NamedWorldItem) (r : Input) → (w.item_type id).Is x m r → NamedWorldItem x s r
unfolding w.item_type
item_type_by id s m named x r h = rw (h.3.3.0, h.3.3.1) (m, named, (h.1, (h.0, h.2), extern_type_within.within h.1 h.3.0 h.3.1 h.3.2))

pub named_world_item_within : Within w.named_world_item NamedWorldItem
unfolding w.named_world_item
named_world_item_within = record { within = λ s x r h. item_type_by h.0 s h.1 (ident_within.within s h.0 h.1 h.2) x r h.3 }

ident_path_within : Within w.ident_path WorldItemPath
unfolding w.ident_path
ident_path_within = record {
  within = λ s x r h. let id = ident_within.within s h.0 h.1 h.2 in
      elim h.3.3 [
        | inl a ↦ rw (a.1.3.0, a.1.3.1) (item_type_by h.0 s h.1 id a.1.0 a.1.1 (moved ((w.item_type h.0).Is a.1.0) h.3.1 h.1 a.1.1 h.3.2.1 a.1.2))
        | inr a ↦ rw (a.1.0, a.1.1 ∙ h.3.2.1) id
      ];
}

pub world_item_path_within : Within w.world_item_path WorldItemPath
unfolding w.world_item_path
world_item_path_within =
    begin_within k.PackagePath _ _ WorldItemPath (made n.package_path t.WorldItemPath.package_path WorldItemPath (record { within = package_path_within.within }))
    (begin_within k.Ident _ _ WorldItemPath ident_path_within (refuse_within _ WorldItemPath))

pub world_import_within : Within w.world_import WorldImport
unfolding w.world_import
world_import_within = record { within = λ s x r h. rw (h.3.3.3.3.0, h.3.3.3.3.1) (h.1, docs_within.within s h.0 h.1 h.2, (h.3.1, (h.3.0, h.3.2), (h.3.3.1, world_item_path_within.within h.3.1 h.3.3.0 h.3.3.1 h.3.3.2, (h.3.3.3.0, h.3.3.3.2)))) }

pub world_export_within : Within w.world_export WorldExport
unfolding w.world_export
world_export_within = record { within = λ s x r h. rw (h.3.3.3.3.0, h.3.3.3.3.1) (h.1, docs_within.within s h.0 h.1 h.2, (h.3.1, (h.3.0, h.3.2), (h.3.3.1, world_item_path_within.within h.3.1 h.3.3.0 h.3.3.1 h.3.3.2, (h.3.3.3.0, h.3.3.3.2)))) }

pub world_ref_within : Within w.world_ref WorldRef
unfolding w.world_ref
world_ref_within =
    begin_within k.PackagePath _ _ WorldRef (made n.package_path t.WorldRef.package_path WorldRef (record { within = package_path_within.within }))
    (begin_within k.Ident _ _ WorldRef (made n.ident t.WorldRef.ident WorldRef (record { within = ident_within.within }))
    (refuse_within _ WorldRef))

pub world_include_item_within : Within w.world_include_item IncludeItem
unfolding w.world_include_item
world_include_item_within = record { within = λ s x r h. rw (h.3.3.3.0, h.3.3.3.1) (h.1, ident_within.within s h.0 h.1 h.2, (h.3.1, (h.3.0, h.3.2), ident_within.within h.3.1 h.3.3.0 h.3.3.1 h.3.3.2)) }

pub include_items_within : Within w.include_items (λ xs. Braces (Separated IncludeItem xs))
unfolding w.include_items
include_items_within = list_body_within w.world_include_item IncludeItem world_include_item_within (k.Ident ∷ []) world_include_item_begins

pub include_with_within : Within w.include_with With
unfolding w.include_with
include_with_within = record {
  within = λ s x r h. let mark = (optional_within k.WithKeyword).within s h.0 h.1 h.2 in
      elim h.3 [
        | inl a ↦ inr (h.1, marked k.WithKeyword h.0 true s h.1 a.0 mark, include_items_within.within h.1 x r a.1)
        | inr a ↦ rw (a.1.0, a.1.1) (inl (marked k.WithKeyword h.0 false s h.1 a.0 mark))
      ];
}

pub world_include_within : Within w.world_include WorldInclude
unfolding w.world_include
world_include_within = record { within = λ s x r h. rw (h.3.3.3.3.3.0, h.3.3.3.3.3.1) (h.1, docs_within.within s h.0 h.1 h.2, (h.3.1, (h.3.0, h.3.2), (h.3.3.1, world_ref_within.within h.3.1 h.3.3.0 h.3.3.1 h.3.3.2, (h.3.3.3.1, include_with_within.within h.3.3.1 h.3.3.3.0 h.3.3.3.1 h.3.3.3.2, (h.3.3.3.3.0, h.3.3.3.3.2))))) }

pub world_item_within : Within w.world_item WorldItem
unfolding w.world_item
world_item_within =
    begin_within k.UseKeyword _ _ WorldItem (made w.use_types t.WorldItem.use_ WorldItem (record { within = use_types_within.within }))
    (begin_within k.ImportKeyword _ _ WorldItem (made w.world_import t.WorldItem.import WorldItem (record { within = world_import_within.within }))
    (begin_within k.ExportKeyword _ _ WorldItem (made w.world_export t.WorldItem.export WorldItem (record { within = world_export_within.within }))
    (begin_within k.IncludeKeyword _ _ WorldItem (made w.world_include t.WorldItem.include WorldItem (record { within = world_include_within.within }))
    (begin_any_within d.item_type_decl_first _ _ WorldItem (made d.item_type_decl t.WorldItem.ty WorldItem (record { within = item_type_decl_within.within }))
    (refuse_within _ WorldItem)))))

pub world_items_within : Within w.world_items (λ xs. Braces (Row WorldItem xs))
unfolding w.world_items
world_items_within = row_body_within w.world_item WorldItem world_item_within w.world_item_first

pub world_decl_within : Within w.world_decl WorldDecl
unfolding w.world_decl
world_decl_within = record { within = λ s x r h. rw (h.3.3.3.3.0, h.3.3.3.3.1) (h.1, docs_within.within s h.0 h.1 h.2, (h.3.1, (h.3.0, h.3.2), (h.3.3.1, ident_within.within h.3.1 h.3.3.0 h.3.3.1 h.3.3.2, world_items_within.within h.3.3.1 h.3.3.3.0 h.3.3.3.1 h.3.3.3.2))) }
