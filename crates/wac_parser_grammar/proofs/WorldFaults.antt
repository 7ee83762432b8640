-- The faults of interfaces and worlds stand in the source.
use Rattle.std.proofs.Common.{true, false, [], ◌∷◌}
use Rattle.wac_parser_lexer.specs.declared.token.Token.TheVariants as k
use Rattle.wac_parser_tree.specs.Trees as t
use Rattle.wac_parser_grammar.proofs.Faithful.{Faithful, Any, anywhere, bind_faithful, pure_faithful, choose_faithful, none_both, refuse_faithful, token_faithful, begin_faithful, begin_any_faithful, optional_faithful}
use Rattle.wac_parser_grammar.specs.ValueTypes.{func_first}
use Rattle.wac_parser_grammar.specs.Declarations.{item_type_decl_first}
use Rattle.wac_parser_grammar.specs.Worlds.{interface_item_first, world_item_first, use_path, use_as, use_item, use_items, use_types, interface_export, interface_item, interface_items, interface_decl, inline_interface, extern_type, item_type, named_world_item, ident_path, world_item_path, world_import, world_export, world_ref, world_include_item, include_items, include_with, world_include, world_item, world_items, world_decl}
use Rattle.wac_parser_grammar.proofs.WorldLaws.{use_item_exact, use_item_takes, interface_item_exact, interface_item_takes, world_include_item_exact, world_include_item_takes, world_item_exact, world_item_takes}
use Rattle.wac_parser_grammar.proofs.NameFaults.{docs_faithful, ident_faithful, package_path_faithful}
use Rattle.wac_parser_grammar.proofs.TypeFaults.{func_type_faithful, func_type_ref_faithful}
use Rattle.wac_parser_grammar.proofs.DeclFaults.{body_faithful, item_type_decl_faithful}

pub use_path_faithful : Faithful Any use_path
unfolding use_path
use_path_faithful = begin_faithful k.PackagePath _ _ (bind_faithful _ _ (package_path_faithful) (λ v0. pure_faithful _)) (begin_faithful k.Ident _ _ (bind_faithful _ _ (anywhere (ident_faithful)) (λ v0. pure_faithful _)) (refuse_faithful _ (λ s h. none_both _ _ _ h.0.1 h.1)))

pub use_as_faithful : Faithful Any use_as
unfolding use_as
use_as_faithful = bind_faithful _ _ (optional_faithful k.AsKeyword) (λ v0. choose_faithful v0 _ _ (bind_faithful _ _ (ident_faithful) (λ v1. pure_faithful _)) (pure_faithful _))

pub use_item_faithful : Faithful Any use_item
unfolding use_item
use_item_faithful = bind_faithful _ _ (ident_faithful) (λ v0. bind_faithful _ _ (use_as_faithful) (λ v1. pure_faithful _))

pub use_items_faithful : Faithful Any use_items
unfolding use_items
use_items_faithful = body_faithful use_item (k.Ident ∷ []) true use_item_exact use_item_takes use_item_faithful

pub use_types_faithful : Faithful Any use_types
unfolding use_types
use_types_faithful = bind_faithful _ _ (docs_faithful) (λ v0. bind_faithful _ _ (token_faithful k.UseKeyword) (λ v1. bind_faithful _ _ (use_path_faithful) (λ v2. bind_faithful _ _ (token_faithful k.Dot) (λ v3. bind_faithful _ _ (use_items_faithful) (λ v4. bind_faithful _ _ (token_faithful k.Semicolon) (λ v5. pure_faithful _))))))

pub interface_export_faithful : Faithful Any interface_export
unfolding interface_export
interface_export_faithful = bind_faithful _ _ (docs_faithful) (λ v0. bind_faithful _ _ (ident_faithful) (λ v1. bind_faithful _ _ (token_faithful k.Colon) (λ v2. bind_faithful _ _ (func_type_ref_faithful) (λ v3. bind_faithful _ _ (token_faithful k.Semicolon) (λ v4. pure_faithful _)))))

pub interface_item_faithful : Faithful Any interface_item
unfolding interface_item
interface_item_faithful = begin_faithful k.UseKeyword _ _ (bind_faithful _ _ (use_types_faithful) (λ v0. pure_faithful _)) (begin_faithful k.Ident _ _ (bind_faithful _ _ (anywhere (interface_export_faithful)) (λ v0. pure_faithful _)) (begin_any_faithful item_type_decl_first _ _ (bind_faithful _ _ (anywhere (item_type_decl_faithful)) (λ v0. pure_faithful _)) (refuse_faithful _ (λ s h. none_both _ _ _ h.0.0.1 (none_both _ _ _ h.0.1 h.1)))))

pub interface_items_faithful : Faithful Any interface_items
unfolding interface_items
interface_items_faithful = body_faithful interface_item interface_item_first false interface_item_exact interface_item_takes interface_item_faithful

pub interface_decl_faithful : Faithful Any interface_decl
unfolding interface_decl
interface_decl_faithful = bind_faithful _ _ (docs_faithful) (λ v0. bind_faithful _ _ (token_faithful k.InterfaceKeyword) (λ v1. bind_faithful _ _ (ident_faithful) (λ v2. bind_faithful _ _ (interface_items_faithful) (λ v3. pure_faithful _))))

pub inline_interface_faithful : Faithful Any inline_interface
unfolding inline_interface
inline_interface_faithful = bind_faithful _ _ (token_faithful k.InterfaceKeyword) (λ v0. bind_faithful _ _ (interface_items_faithful) (λ v1. pure_faithful _))

pub extern_type_faithful : Faithful Any extern_type
unfolding extern_type
extern_type_faithful = begin_faithful k.Ident _ _ (bind_faithful _ _ (ident_faithful) (λ v0. pure_faithful _)) (begin_any_faithful func_first _ _ (bind_faithful _ _ (anywhere (func_type_faithful)) (λ v0. pure_faithful _)) (begin_faithful k.InterfaceKeyword _ _ (bind_faithful _ _ (anywhere (inline_interface_faithful)) (λ v0. pure_faithful _)) (refuse_faithful _ (λ s h. none_both _ _ _ h.0.0.1 (none_both _ _ _ h.0.1 h.1)))))

pub item_type_faithful : (id : t.Ident) → Faithful Any (item_type id)
unfolding item_type
item_type_faithful id = bind_faithful _ _ (token_faithful k.Colon) (λ v0. bind_faithful _ _ (extern_type_faithful) (λ v1. pure_faithful _))

pub named_world_item_faithful : Faithful Any named_world_item
unfolding named_world_item
named_world_item_faithful = bind_faithful _ _ (ident_faithful) (λ v0. item_type_faithful v0)

pub ident_path_faithful : Faithful Any ident_path
unfolding ident_path
ident_path_faithful = bind_faithful _ _ (ident_faithful) (λ v0. begin_faithful k.Colon _ _ (bind_faithful _ _ (item_type_faithful v0) (λ v1. pure_faithful _)) (pure_faithful _))

pub world_item_path_faithful : Faithful Any world_item_path
unfolding world_item_path
world_item_path_faithful = begin_faithful k.PackagePath _ _ (bind_faithful _ _ (package_path_faithful) (λ v0. pure_faithful _)) (begin_faithful k.Ident _ _ (anywhere (ident_path_faithful)) (refuse_faithful _ (λ s h. none_both _ _ _ h.0.1 h.1)))

pub world_import_faithful : Faithful Any world_import
unfolding world_import
world_import_faithful = bind_faithful _ _ (docs_faithful) (λ v0. bind_faithful _ _ (token_faithful k.ImportKeyword) (λ v1. bind_faithful _ _ (world_item_path_faithful) (λ v2. bind_faithful _ _ (token_faithful k.Semicolon) (λ v3. pure_faithful _))))

pub world_export_faithful : Faithful Any world_export
unfolding world_export
world_export_faithful = bind_faithful _ _ (docs_faithful) (λ v0. bind_faithful _ _ (token_faithful k.ExportKeyword) (λ v1. bind_faithful _ _ (world_item_path_faithful) (λ v2. bind_faithful _ _ (token_faithful k.Semicolon) (λ v3. pure_faithful _))))

pub world_ref_faithful : Faithful Any world_ref
unfolding world_ref
world_ref_faithful = begin_faithful k.PackagePath _ _ (bind_faithful _ _ (package_path_faithful) (λ v0. pure_faithful _)) (begin_faithful k.Ident _ _ (bind_faithful _ _ (anywhere (ident_faithful)) (λ v0. pure_faithful _)) (refuse_faithful _ (λ s h. none_both _ _ _ h.0.1 h.1)))

pub world_include_item_faithful : Faithful Any world_include_item
unfolding world_include_item
world_include_item_faithful = bind_faithful _ _ (ident_faithful) (λ v0. bind_faithful _ _ (token_faithful k.AsKeyword) (λ v1. bind_faithful _ _ (ident_faithful) (λ v2. pure_faithful _)))

pub include_items_faithful : Faithful Any include_items
unfolding include_items
include_items_faithful = body_faithful world_include_item (k.Ident ∷ []) true world_include_item_exact world_include_item_takes world_include_item_faithful

pub include_with_faithful : Faithful Any include_with
unfolding include_with
include_with_faithful = bind_faithful _ _ (optional_faithful k.WithKeyword) (λ v0. choose_faithful v0 _ _ (include_items_faithful) (pure_faithful _))

pub world_include_faithful : Faithful Any world_include
unfolding world_include
world_include_faithful = bind_faithful _ _ (docs_faithful) (λ v0. bind_faithful _ _ (token_faithful k.IncludeKeyword) (λ v1. bind_faithful _ _ (world_ref_faithful) (λ v2. bind_faithful _ _ (include_with_faithful) (λ v3. bind_faithful _ _ (token_faithful k.Semicolon) (λ v4. pure_faithful _)))))

pub world_item_faithful : Faithful Any world_item
unfolding world_item
world_item_faithful = begin_faithful k.UseKeyword _ _ (bind_faithful _ _ (use_types_faithful) (λ v0. pure_faithful _)) (begin_faithful k.ImportKeyword _ _ (bind_faithful _ _ (anywhere (world_import_faithful)) (λ v0. pure_faithful _)) (begin_faithful k.ExportKeyword _ _ (bind_faithful _ _ (anywhere (world_export_faithful)) (λ v0. pure_faithful _)) (begin_faithful k.IncludeKeyword _ _ (bind_faithful _ _ (anywhere (world_include_faithful)) (λ v0. pure_faithful _)) (begin_any_faithful item_type_decl_first _ _ (bind_faithful _ _ (anywhere (item_type_decl_faithful)) (λ v0. pure_faithful _)) (refuse_faithful _ (λ s h. none_both _ _ _ h.0.0.0.0.1 (none_both _ _ _ h.0.0.0.1 (none_both _ _ _ h.0.0.1 (none_both _ _ _ h.0.1 h.1)))))))))

pub world_items_faithful : Faithful Any world_items
unfolding world_items
world_items_faithful = body_faithful world_item world_item_first false world_item_exact world_item_takes world_item_faithful

pub world_decl_faithful : Faithful Any world_decl
unfolding world_decl
world_decl_faithful = bind_faithful _ _ (docs_faithful) (λ v0. bind_faithful _ _ (token_faithful k.WorldKeyword) (λ v1. bind_faithful _ _ (ident_faithful) (λ v2. bind_faithful _ _ (world_items_faithful) (λ v3. pure_faithful _))))
