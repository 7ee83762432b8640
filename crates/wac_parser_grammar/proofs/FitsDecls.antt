-- What the rules of declarations, interfaces and worlds take is nested no deeper than they have room for.
use Rattle.std.proofs.Common.{inl, inr, Bool, true, false, List, [], ◌∷◌}
use Rattle.wac_parser_lexer.specs.declared.span.SourceSpan.{SourceSpan}
use Rattle.wac_parser_lexer.specs.declared.token.Token.{Token}
use Rattle.wac_parser_lexer.specs.declared.token.Token.TheVariants as k
use Rattle.wac_parser_tree.specs.Trees as t
use Rattle.wac_parser_grammar.specs.declared.error.DeclaredType.{DeclaredType}
use Rattle.wac_parser_grammar.specs.declared.error.MemberKind.{MemberKind}
use Rattle.wac_parser_grammar.specs.Rules.{Rule}
use Rattle.wac_parser_grammar.specs.Names as n
use Rattle.wac_parser_grammar.specs.ValueTypes as v
use Rattle.wac_parser_grammar.specs.Declarations as d
use Rattle.wac_parser_grammar.specs.Worlds as w
use Rattle.wac_parser_grammar.specs.FormDepths.{AllFit, NamedFits, FuncFits, RefFits, PayloadFits, CaseFits, FieldFits, KindFits, MethodFits, TypeDeclFits, ItemTypeDeclFits, InterfaceItemFits, ExternTypeFits, WorldItemPathFits, WorldItemFits, IsFitting}
use Rattle.wac_parser_grammar.proofs.FitsTypes.{pure_fits, refuse_fits, made_fits, made_always, begin_fits, begin_any_fits, list_fits, value_type_fits, named_type_fits, params_fit, func_type_fits, func_type_ref_fits}

-- ---- braces

module _ {X : Type 0} (p : Rule X) (Fits : X → Type 0) (b : IsFitting p Fits) where
  body_fits : (first : List Token) (commas : Bool) → IsFitting (d.body p first commas) (AllFit Fits)
  body_fits first commas = record { fits = λ s xs r h. rw (h.3.3.3.0) (list_fits p Fits b k.CloseBrace commas h.3.0 h.1 h.3.1 h.3.2) }

  some_fit : (xs : List X) (ty : DeclaredType) (kind : MemberKind) (close : SourceSpan) → AllFit Fits xs → IsFitting (d.some_member xs ty kind close) (AllFit Fits)
  some_fit [] ty kind close f = refuse_fits _ (AllFit Fits)
  some_fit (x ∷ xs) ty kind close f = pure_fits (x ∷ xs) (AllFit Fits) f

  members_fit : (ty : DeclaredType) (kind : MemberKind) → IsFitting (d.members p ty kind) (AllFit Fits)
  members_fit ty kind = record {
    fits = λ s xs r h.
        (some_fit h.3.0 ty kind h.3.3.0 (list_fits p Fits b k.CloseBrace true h.3.0 h.1 h.3.1 h.3.2)).fits h.3.3.1 xs r h.3.3.3;
  }

-- ---- declarations

case_type_fits : IsFitting d.case_type PayloadFits
unfolding d.case_type
case_type_fits = record { fits = λ s x r h. elim h.3 [ inl c ↦ rw (c.1.3.3.0) (value_type_fits.fits h.1 c.1.0 c.1.1 c.1.2) | inr c ↦ rw (c.1.0) tt ] }

pub variant_case_fits : IsFitting d.variant_case CaseFits
unfolding d.variant_case
variant_case_fits = record { fits = λ s x r h. rw (h.3.3.3.0) (case_type_fits.fits h.3.1 h.3.3.0 h.3.3.1 h.3.3.2) }

pub variant_decl_fits : IsFitting d.variant_decl (λ x. AllFit CaseFits x.cases)
unfolding d.variant_decl d.variant_cases
variant_decl_fits = record {
  fits = λ s x r h. rw (h.3.3.3.3.0) ((members_fit d.variant_case CaseFits variant_case_fits _ _).fits h.3.3.1 h.3.3.3.0 h.3.3.3.1 h.3.3.3.2);
}

pub field_fits : IsFitting d.field FieldFits
unfolding d.field
field_fits = record { fits = λ s x r h. rw (h.3.3.0) (named_type_fits.fits h.1 h.3.0 h.3.1 h.3.2) }

pub record_decl_fits : IsFitting d.record_decl (λ x. AllFit FieldFits x.fields)
unfolding d.record_decl d.record_fields
record_decl_fits = record {
  fits = λ s x r h. rw (h.3.3.3.3.0) ((members_fit d.field FieldFits field_fits _ _).fits h.3.3.1 h.3.3.3.0 h.3.3.3.1 h.3.3.3.2);
}

pub type_alias_kind_fits : IsFitting d.type_alias_kind KindFits
unfolding d.type_alias_kind
type_alias_kind_fits =
    begin_any_fits v.func_first _ _ KindFits (made_fits v.func_type t.TypeAliasKind.func KindFits (record { fits = func_type_fits.fits }))
    (begin_any_fits v.type_first _ _ KindFits (made_fits v.value_type t.TypeAliasKind.ty KindFits (record { fits = value_type_fits.fits })) (refuse_fits _ KindFits))

pub type_alias_fits : IsFitting d.type_alias (λ x. KindFits x.kind)
unfolding d.type_alias
type_alias_fits = record { fits = λ s x r h. rw (h.3.3.3.3.3.3.0) (type_alias_kind_fits.fits h.3.3.3.1 h.3.3.3.3.0 h.3.3.3.3.1 h.3.3.3.3.2) }

pub constructor_fits : IsFitting d.constructor (λ x. AllFit NamedFits x.params)
unfolding d.constructor
constructor_fits = record { fits = λ s x r h. rw (h.3.3.3.3.0) (params_fit.fits h.3.1 h.3.3.0 h.3.3.1 h.3.3.2) }

pub method_fits : IsFitting d.method (λ x. FuncFits x.ty)
unfolding d.method
method_fits = record { fits = λ s x r h. rw (h.3.3.3.3.3.3.0) (func_type_fits.fits h.3.3.3.1 h.3.3.3.3.0 h.3.3.3.3.1 h.3.3.3.3.2) }

pub resource_method_fits : IsFitting d.resource_method MethodFits
unfolding d.resource_method
resource_method_fits =
    begin_fits k.ConstructorKeyword _ _ MethodFits (made_fits d.constructor t.ResourceMethod.constructor MethodFits (record { fits = constructor_fits.fits }))
    (begin_fits k.Ident _ _ MethodFits (made_fits d.method t.ResourceMethod.method MethodFits (record { fits = method_fits.fits })) (refuse_fits _ MethodFits))

methods_fit : IsFitting d.resource_methods (AllFit MethodFits)
unfolding d.resource_methods
methods_fit =
    begin_fits k.Semicolon _ _ (AllFit MethodFits) (record { fits = λ s x r h. rw (h.3.0) tt })
    (begin_fits k.OpenBrace _ _ (AllFit MethodFits) (body_fits d.resource_method MethodFits resource_method_fits d.method_first false) (refuse_fits _ (AllFit MethodFits)))

pub resource_decl_fits : IsFitting d.resource_decl (λ x. AllFit MethodFits x.methods)
unfolding d.resource_decl
resource_decl_fits = record { fits = λ s x r h. rw (h.3.3.3.3.0) (methods_fit.fits h.3.3.1 h.3.3.3.0 h.3.3.3.1 h.3.3.3.2) }

pub type_decl_fits : IsFitting d.type_decl TypeDeclFits
unfolding d.type_decl
type_decl_fits =
    begin_fits k.VariantKeyword _ _ TypeDeclFits (made_fits d.variant_decl t.TypeDecl.variant TypeDeclFits (record { fits = variant_decl_fits.fits }))
    (begin_fits k.RecordKeyword _ _ TypeDeclFits (made_fits d.record_decl t.TypeDecl.record_ TypeDeclFits (record { fits = record_decl_fits.fits }))
    (begin_fits k.FlagsKeyword _ _ TypeDeclFits (made_always d.flags_decl t.TypeDecl.flags TypeDeclFits (λ x. tt))
    (begin_fits k.EnumKeyword _ _ TypeDeclFits (made_always d.enum_decl t.TypeDecl.enum TypeDeclFits (λ x. tt))
    (begin_fits k.TypeKeyword _ _ TypeDeclFits (made_fits d.type_alias t.TypeDecl.alias TypeDeclFits (record { fits = type_alias_fits.fits })) (refuse_fits _ TypeDeclFits)))))

pub item_type_decl_fits : IsFitting d.item_type_decl ItemTypeDeclFits
unfolding d.item_type_decl
item_type_decl_fits =
    begin_fits k.ResourceKeyword _ _ ItemTypeDeclFits (made_fits d.resource_decl t.ItemTypeDecl.resource ItemTypeDeclFits (record { fits = resource_decl_fits.fits }))
    (begin_fits k.VariantKeyword _ _ ItemTypeDeclFits (made_fits d.variant_decl t.ItemTypeDecl.variant ItemTypeDeclFits (record { fits = variant_decl_fits.fits }))
    (begin_fits k.RecordKeyword _ _ ItemTypeDeclFits (made_fits d.record_decl t.ItemTypeDecl.record_ ItemTypeDeclFits (record { fits = record_decl_fits.fits }))
    (begin_fits k.FlagsKeyword _ _ ItemTypeDeclFits (made_always d.flags_decl t.ItemTypeDecl.flags ItemTypeDeclFits (λ x. tt))
    (begin_fits k.EnumKeyword _ _ ItemTypeDeclFits (made_always d.enum_decl t.ItemTypeDecl.enum ItemTypeDeclFits (λ x. tt))
    (begin_fits k.TypeKeyword _ _ ItemTypeDeclFits (made_fits d.type_alias t.ItemTypeDecl.alias ItemTypeDeclFits (record { fits = type_alias_fits.fits })) (refuse_fits _ ItemTypeDeclFits))))))

-- ---- interfaces

pub interface_export_fits : IsFitting w.interface_export (λ x. RefFits x.ty)
unfolding w.interface_export
interface_export_fits = record { fits = λ s x r h. rw (h.3.3.3.3.3.0) (func_type_ref_fits.fits h.3.3.1 h.3.3.3.0 h.3.3.3.1 h.3.3.3.2) }

pub interface_item_fits : IsFitting w.interface_item InterfaceItemFits
unfolding w.interface_item
interface_item_fits =
    begin_fits k.UseKeyword _ _ InterfaceItemFits (made_always w.use_types t.InterfaceItem.use_ InterfaceItemFits (λ x. tt))
    (begin_fits k.Ident _ _ InterfaceItemFits (made_fits w.interface_export t.InterfaceItem.export InterfaceItemFits (record { fits = interface_export_fits.fits }))
    (begin_any_fits d.item_type_decl_first _ _ InterfaceItemFits (made_fits d.item_type_decl t.InterfaceItem.ty InterfaceItemFits (record { fits = item_type_decl_fits.fits }))
    (refuse_fits _ InterfaceItemFits)))

interface_items_fit : IsFitting w.interface_items (AllFit InterfaceItemFits)
unfolding w.interface_items
interface_items_fit = body_fits w.interface_item InterfaceItemFits interface_item_fits w.interface_item_first false

pub interface_decl_fits : IsFitting w.interface_decl (λ x. AllFit InterfaceItemFits x.items)
unfolding w.interface_decl
interface_decl_fits = record { fits = λ s x r h. rw (h.3.3.3.3.0) (interface_items_fit.fits h.3.3.1 h.3.3.3.0 h.3.3.3.1 h.3.3.3.2) }

pub inline_interface_fits : IsFitting w.inline_interface (λ x. AllFit InterfaceItemFits x.items)
unfolding w.inline_interface
inline_interface_fits = record { fits = λ s x r h. rw (h.3.3.0) (interface_items_fit.fits h.1 h.3.0 h.3.1 h.3.2) }

-- ---- worlds

pub extern_type_fits : IsFitting w.extern_type ExternTypeFits
unfolding w.extern_type
extern_type_fits =
    begin_fits k.Ident _ _ ExternTypeFits (made_always n.ident t.ExternType.ident ExternTypeFits (λ id. tt))
    (begin_any_fits v.func_first _ _ ExternTypeFits (made_fits v.func_type t.ExternType.func ExternTypeFits (record { fits = func_type_fits.fits }))
    (begin_fits k.InterfaceKeyword _ _ ExternTypeFits (made_fits w.inline_interface t.ExternType.interface ExternTypeFits (record { fits = inline_interface_fits.fits }))
    (refuse_fits _ ExternTypeFits)))

item_type_fits : (id : t.Ident) → IsFitting (w.item_type id) (λ x. ExternTypeFits x.ty)
unfolding w.item_type
item_type_fits id = record { fits = λ s x r h. rw (h.3.3.0) (extern_type_fits.fits h.1 h.3.0 h.3.1 h.3.2) }

pub named_world_item_fits : IsFitting w.named_world_item (λ x. ExternTypeFits x.ty)
unfolding w.named_world_item
named_world_item_fits = record { fits = λ s x r h. (item_type_fits h.0).fits h.1 x r h.3 }

ident_path_fits : IsFitting w.ident_path WorldItemPathFits
unfolding w.ident_path
ident_path_fits = record { fits = λ s x r h. elim h.3.3 [ inl c ↦ rw (c.1.3.0) ((item_type_fits h.0).fits h.3.1 c.1.0 c.1.1 c.1.2) | inr c ↦ rw (c.1.0) tt ] }

pub world_item_path_fits : IsFitting w.world_item_path WorldItemPathFits
unfolding w.world_item_path
world_item_path_fits =
    begin_fits k.PackagePath _ _ WorldItemPathFits (made_always n.package_path t.WorldItemPath.package_path WorldItemPathFits (λ x. tt))
    (begin_fits k.Ident _ _ WorldItemPathFits ident_path_fits (refuse_fits _ WorldItemPathFits))

pub world_import_fits : IsFitting w.world_import (λ x. WorldItemPathFits x.path)
unfolding w.world_import
world_import_fits = record { fits = λ s x r h. rw (h.3.3.3.3.0) (world_item_path_fits.fits h.3.1 h.3.3.0 h.3.3.1 h.3.3.2) }

pub world_export_fits : IsFitting w.world_export (λ x. WorldItemPathFits x.path)
unfolding w.world_export
world_export_fits = record { fits = λ s x r h. rw (h.3.3.3.3.0) (world_item_path_fits.fits h.3.1 h.3.3.0 h.3.3.1 h.3.3.2) }

pub world_item_fits : IsFitting w.world_item WorldItemFits
unfolding w.world_item
world_item_fits =
    begin_fits k.UseKeyword _ _ WorldItemFits (made_always w.use_types t.WorldItem.use_ WorldItemFits (λ x. tt))
    (begin_fits k.ImportKeyword _ _ WorldItemFits (made_fits w.world_import t.WorldItem.import WorldItemFits (record { fits = world_import_fits.fits }))
    (begin_fits k.ExportKeyword _ _ WorldItemFits (made_fits w.world_export t.WorldItem.export WorldItemFits (record { fits = world_export_fits.fits }))
    (begin_fits k.IncludeKeyword _ _ WorldItemFits (made_always w.world_include t.WorldItem.include WorldItemFits (λ x. tt))
    (begin_any_fits d.item_type_decl_first _ _ WorldItemFits (made_fits d.item_type_decl t.WorldItem.ty WorldItemFits (record { fits = item_type_decl_fits.fits }))
    (refuse_fits _ WorldItemFits)))))

world_items_fit : IsFitting w.world_items (AllFit WorldItemFits)
unfolding w.world_items
world_items_fit = body_fits w.world_item WorldItemFits world_item_fits w.world_item_first false

pub world_decl_fits : IsFitting w.world_decl (λ x. AllFit WorldItemFits x.items)
unfolding w.world_decl
world_decl_fits = record { fits = λ s x r h. rw (h.3.3.3.3.0) (world_items_fit.fits h.3.3.1 h.3.3.3.0 h.3.3.3.1 h.3.3.3.2) }
