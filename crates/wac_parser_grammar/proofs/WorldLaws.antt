-- The rules of interfaces and worlds read just what they say.
use Rattle.std.proofs.Common.{true, false, [], ◌∷◌}
use Rattle.wac_parser_lexer.specs.declared.token.Token.TheVariants as k
use Rattle.wac_parser_tree.specs.Trees as t
use Rattle.wac_parser_grammar.proofs.Exact.{Exact, Takes, Keeps, Begins, bind, pure_exact, refuse_exact, choose_exact, begin_exact, begin_any_exact, token_exact, optional_exact, bind_takes, bind_keeps, then_takes, still_keeps, pure_keeps, refuse_takes, token_takes, choose_keeps, begin_takes, begin_keeps, begin_any_takes, optional_keeps, token_begins, bind_begins, silent_begins, refuse_begins, begin_begins, last_begins}
use Rattle.wac_parser_grammar.specs.ValueTypes.{func_first}
use Rattle.wac_parser_grammar.specs.Declarations.{item_type_decl_first}
use Rattle.wac_parser_grammar.specs.Names.{docs}
use Rattle.wac_parser_grammar.specs.Worlds.{path_first, interface_item_first, world_item_first, use_path, use_as, use_item, use_items, use_types, interface_export, interface_item, interface_items, interface_decl, inline_interface, extern_type, item_type, named_world_item, ident_path, world_item_path, world_import, world_export, world_ref, world_include_item, include_items, include_with, world_include, world_item, world_items, world_decl}
use Rattle.wac_parser_grammar.proofs.NameLaws.{docs_exact, docs_keeps, docs_silent, ident_exact, ident_takes, ident_begins, package_path_exact, package_path_takes}
use Rattle.wac_parser_grammar.proofs.TypeLaws.{func_type_exact, func_type_takes, func_type_ref_exact, func_type_ref_takes}
use Rattle.wac_parser_grammar.proofs.DeclLaws.{body_exact, body_takes, item_type_decl_exact, item_type_decl_takes}

pub use_path_exact : Exact use_path
unfolding use_path
use_path_exact = begin_exact k.PackagePath _ _ (bind _ _ (package_path_exact) (λ v0. pure_exact _)) (begin_exact k.Ident _ _ (bind _ _ (ident_exact) (λ v0. pure_exact _)) (refuse_exact _))

pub use_path_takes : Takes use_path
unfolding use_path
use_path_takes = begin_takes k.PackagePath _ _ (bind_takes _ _ (package_path_takes) (λ v0. pure_keeps _)) (begin_takes k.Ident _ _ (bind_takes _ _ (ident_takes) (λ v0. pure_keeps _)) (refuse_takes _))

pub use_path_begins : Begins path_first use_path
unfolding use_path
use_path_begins = begin_begins k.PackagePath _ _ _ (begin_begins k.Ident _ _ _ (refuse_begins _ _))

pub use_as_exact : Exact use_as
unfolding use_as
use_as_exact = bind _ _ (optional_exact k.AsKeyword) (λ v0. choose_exact v0 _ _ (bind _ _ (ident_exact) (λ v1. pure_exact _)) (pure_exact _))

pub use_as_keeps : Keeps use_as
unfolding use_as
use_as_keeps = bind_keeps _ _ (optional_keeps k.AsKeyword) (λ v0. choose_keeps v0 _ _ (bind_keeps _ _ (still_keeps _ (ident_takes)) (λ v1. pure_keeps _)) (pure_keeps _))

pub use_item_exact : Exact use_item
unfolding use_item
use_item_exact = bind _ _ (ident_exact) (λ v0. bind _ _ (use_as_exact) (λ v1. pure_exact _))

pub use_item_takes : Takes use_item
unfolding use_item
use_item_takes = bind_takes _ _ (ident_takes) (λ v0. bind_keeps _ _ (use_as_keeps) (λ v1. pure_keeps _))

pub use_item_begins : Begins (k.Ident ∷ []) use_item
unfolding use_item
use_item_begins = bind_begins _ _ _ (ident_begins)

pub use_items_exact : Exact use_items
unfolding use_items
use_items_exact = body_exact use_item (k.Ident ∷ []) true use_item_exact use_item_begins use_item_takes

pub use_items_takes : Takes use_items
unfolding use_items
use_items_takes = body_takes use_item (k.Ident ∷ []) true use_item_exact use_item_begins use_item_takes

pub use_types_exact : Exact use_types
unfolding use_types
use_types_exact = bind _ _ (docs_exact) (λ v0. bind _ _ (token_exact k.UseKeyword) (λ v1. bind _ _ (use_path_exact) (λ v2. bind _ _ (token_exact k.Dot) (λ v3. bind _ _ (use_items_exact) (λ v4. bind _ _ (token_exact k.Semicolon) (λ v5. pure_exact _))))))

pub use_types_takes : Takes use_types
unfolding use_types
use_types_takes = then_takes _ _ (docs_keeps) (λ v0. bind_takes _ _ (token_takes k.UseKeyword) (λ v1. bind_keeps _ _ (still_keeps _ (use_path_takes)) (λ v2. bind_keeps _ _ (still_keeps _ (token_takes k.Dot)) (λ v3. bind_keeps _ _ (still_keeps _ (use_items_takes)) (λ v4. bind_keeps _ _ (still_keeps _ (token_takes k.Semicolon)) (λ v5. pure_keeps _))))))

pub use_types_begins : Begins (k.UseKeyword ∷ []) use_types
unfolding use_types
use_types_begins = silent_begins _ docs _ docs_silent (λ v. bind_begins _ _ _ (token_begins k.UseKeyword _))

pub interface_export_exact : Exact interface_export
unfolding interface_export
interface_export_exact = bind _ _ (docs_exact) (λ v0. bind _ _ (ident_exact) (λ v1. bind _ _ (token_exact k.Colon) (λ v2. bind _ _ (func_type_ref_exact) (λ v3. bind _ _ (token_exact k.Semicolon) (λ v4. pure_exact _)))))

pub interface_export_takes : Takes interface_export
unfolding interface_export
interface_export_takes = then_takes _ _ (docs_keeps) (λ v0. bind_takes _ _ (ident_takes) (λ v1. bind_keeps _ _ (still_keeps _ (token_takes k.Colon)) (λ v2. bind_keeps _ _ (still_keeps _ (func_type_ref_takes)) (λ v3. bind_keeps _ _ (still_keeps _ (token_takes k.Semicolon)) (λ v4. pure_keeps _)))))

pub interface_export_begins : Begins (k.Ident ∷ []) interface_export
unfolding interface_export
interface_export_begins = silent_begins _ docs _ docs_silent (λ v. bind_begins _ _ _ (ident_begins))

pub interface_item_exact : Exact interface_item
unfolding interface_item
interface_item_exact = begin_exact k.UseKeyword _ _ (bind _ _ (use_types_exact) (λ v0. pure_exact _)) (begin_exact k.Ident _ _ (bind _ _ (interface_export_exact) (λ v0. pure_exact _)) (begin_any_exact item_type_decl_first _ _ (bind _ _ (item_type_decl_exact) (λ v0. pure_exact _)) (refuse_exact _)))

pub interface_item_takes : Takes interface_item
unfolding interface_item
interface_item_takes = begin_takes k.UseKeyword _ _ (bind_takes _ _ (use_types_takes) (λ v0. pure_keeps _)) (begin_takes k.Ident _ _ (bind_takes _ _ (interface_export_takes) (λ v0. pure_keeps _)) (begin_any_takes item_type_decl_first _ _ (bind_takes _ _ (item_type_decl_takes) (λ v0. pure_keeps _)) (refuse_takes _)))

pub interface_item_begins : Begins interface_item_first interface_item
unfolding interface_item
interface_item_begins = begin_begins k.UseKeyword _ _ _ (begin_begins k.Ident _ _ _ (last_begins item_type_decl_first _ _))

pub interface_items_exact : Exact interface_items
unfolding interface_items
interface_items_exact = body_exact interface_item interface_item_first false interface_item_exact interface_item_begins interface_item_takes

pub interface_items_takes : Takes interface_items
unfolding interface_items
interface_items_takes = body_takes interface_item interface_item_first false interface_item_exact interface_item_begins interface_item_takes

pub interface_decl_exact : Exact interface_decl
unfolding interface_decl
interface_decl_exact = bind _ _ (docs_exact) (λ v0. bind _ _ (token_exact k.InterfaceKeyword) (λ v1. bind _ _ (ident_exact) (λ v2. bind _ _ (interface_items_exact) (λ v3. pure_exact _))))

pub interface_decl_takes : Takes interface_decl
unfolding interface_decl
interface_decl_takes = then_takes _ _ (docs_keeps) (λ v0. bind_takes _ _ (token_takes k.InterfaceKeyword) (λ v1. bind_keeps _ _ (still_keeps _ (ident_takes)) (λ v2. bind_keeps _ _ (still_keeps _ (interface_items_takes)) (λ v3. pure_keeps _))))

pub interface_decl_begins : Begins (k.InterfaceKeyword ∷ []) interface_decl
unfolding interface_decl
interface_decl_begins = silent_begins _ docs _ docs_silent (λ v. bind_begins _ _ _ (token_begins k.InterfaceKeyword _))

pub inline_interface_exact : Exact inline_interface
unfolding inline_interface
inline_interface_exact = bind _ _ (token_exact k.InterfaceKeyword) (λ v0. bind _ _ (interface_items_exact) (λ v1. pure_exact _))

pub inline_interface_takes : Takes inline_interface
unfolding inline_interface
inline_interface_takes = bind_takes _ _ (token_takes k.InterfaceKeyword) (λ v0. bind_keeps _ _ (still_keeps _ (interface_items_takes)) (λ v1. pure_keeps _))

pub inline_interface_begins : Begins (k.InterfaceKeyword ∷ []) inline_interface
unfolding inline_interface
inline_interface_begins = bind_begins _ _ _ (token_begins k.InterfaceKeyword _)

pub extern_type_exact : Exact extern_type
unfolding extern_type
extern_type_exact = begin_exact k.Ident _ _ (bind _ _ (ident_exact) (λ v0. pure_exact _)) (begin_any_exact func_first _ _ (bind _ _ (func_type_exact) (λ v0. pure_exact _)) (begin_exact k.InterfaceKeyword _ _ (bind _ _ (inline_interface_exact) (λ v0. pure_exact _)) (refuse_exact _)))

pub extern_type_takes : Takes extern_type
unfolding extern_type
extern_type_takes = begin_takes k.Ident _ _ (bind_takes _ _ (ident_takes) (λ v0. pure_keeps _)) (begin_any_takes func_first _ _ (bind_takes _ _ (func_type_takes) (λ v0. pure_keeps _)) (begin_takes k.InterfaceKeyword _ _ (bind_takes _ _ (inline_interface_takes) (λ v0. pure_keeps _)) (refuse_takes _)))

pub item_type_exact : (id : t.Ident) → Exact (item_type id)
unfolding item_type
item_type_exact id = bind _ _ (token_exact k.Colon) (λ v0. bind _ _ (extern_type_exact) (λ v1. pure_exact _))

pub item_type_takes : (id : t.Ident) → Takes (item_type id)
unfolding item_type
item_type_takes id = bind_takes _ _ (token_takes k.Colon) (λ v0. bind_keeps _ _ (still_keeps _ (extern_type_takes)) (λ v1. pure_keeps _))

pub named_world_item_exact : Exact named_world_item
unfolding named_world_item
named_world_item_exact = bind _ _ (ident_exact) (λ v0. item_type_exact v0)

pub named_world_item_takes : Takes named_world_item
unfolding named_world_item
named_world_item_takes = bind_takes _ _ (ident_takes) (λ v0. still_keeps _ (item_type_takes v0))

pub named_world_item_begins : Begins (k.Ident ∷ []) named_world_item
unfolding named_world_item
named_world_item_begins = bind_begins _ _ _ (ident_begins)

pub ident_path_exact : Exact ident_path
unfolding ident_path
ident_path_exact = bind _ _ (ident_exact) (λ v0. begin_exact k.Colon _ _ (bind _ _ (item_type_exact v0) (λ v1. pure_exact _)) (pure_exact _))

pub ident_path_takes : Takes ident_path
unfolding ident_path
ident_path_takes = bind_takes _ _ (ident_takes) (λ v0. begin_keeps k.Colon _ _ (bind_keeps _ _ (still_keeps _ (item_type_takes v0)) (λ v1. pure_keeps _)) (pure_keeps _))

pub world_item_path_exact : Exact world_item_path
unfolding world_item_path
world_item_path_exact = begin_exact k.PackagePath _ _ (bind _ _ (package_path_exact) (λ v0. pure_exact _)) (begin_exact k.Ident _ _ (ident_path_exact) (refuse_exact _))

pub world_item_path_takes : Takes world_item_path
unfolding world_item_path
world_item_path_takes = begin_takes k.PackagePath _ _ (bind_takes _ _ (package_path_takes) (λ v0. pure_keeps _)) (begin_takes k.Ident _ _ (ident_path_takes) (refuse_takes _))

pub world_import_exact : Exact world_import
unfolding world_import
world_import_exact = bind _ _ (docs_exact) (λ v0. bind _ _ (token_exact k.ImportKeyword) (λ v1. bind _ _ (world_item_path_exact) (λ v2. bind _ _ (token_exact k.Semicolon) (λ v3. pure_exact _))))

pub world_import_takes : Takes world_import
unfolding world_import
world_import_takes = then_takes _ _ (docs_keeps) (λ v0. bind_takes _ _ (token_takes k.ImportKeyword) (λ v1. bind_keeps _ _ (still_keeps _ (world_item_path_takes)) (λ v2. bind_keeps _ _ (still_keeps _ (token_takes k.Semicolon)) (λ v3. pure_keeps _))))

pub world_import_begins : Begins (k.ImportKeyword ∷ []) world_import
unfolding world_import
world_import_begins = silent_begins _ docs _ docs_silent (λ v. bind_begins _ _ _ (token_begins k.ImportKeyword _))

pub world_export_exact : Exact world_export
unfolding world_export
world_export_exact = bind _ _ (docs_exact) (λ v0. bind _ _ (token_exact k.ExportKeyword) (λ v1. bind _ _ (world_item_path_exact) (λ v2. bind _ _ (token_exact k.Semicolon) (λ v3. pure_exact _))))

pub world_export_takes : Takes world_export
unfolding world_export
world_export_takes = then_takes _ _ (docs_keeps) (λ v0. bind_takes _ _ (token_takes k.ExportKeyword) (λ v1. bind_keeps _ _ (still_keeps _ (world_item_path_takes)) (λ v2. bind_keeps _ _ (still_keeps _ (token_takes k.Semicolon)) (λ v3. pure_keeps _))))

pub world_export_begins : Begins (k.ExportKeyword ∷ []) world_export
unfolding world_export
world_export_begins = silent_begins _ docs _ docs_silent (λ v. bind_begins _ _ _ (token_begins k.ExportKeyword _))

pub world_ref_exact : Exact world_ref
unfolding world_ref
world_ref_exact = begin_exact k.PackagePath _ _ (bind _ _ (package_path_exact) (λ v0. pure_exact _)) (begin_exact k.Ident _ _ (bind _ _ (ident_exact) (λ v0. pure_exact _)) (refuse_exact _))

pub world_ref_takes : Takes world_ref
unfolding world_ref
world_ref_takes = begin_takes k.PackagePath _ _ (bind_takes _ _ (package_path_takes) (λ v0. pure_keeps _)) (begin_takes k.Ident _ _ (bind_takes _ _ (ident_takes) (λ v0. pure_keeps _)) (refuse_takes _))

pub world_include_item_exact : Exact world_include_item
unfolding world_include_item
world_include_item_exact = bind _ _ (ident_exact) (λ v0. bind _ _ (token_exact k.AsKeyword) (λ v1. bind _ _ (ident_exact) (λ v2. pure_exact _)))

pub world_include_item_takes : Takes world_include_item
unfolding world_include_item
world_include_item_takes = bind_takes _ _ (ident_takes) (λ v0. bind_keeps _ _ (still_keeps _ (token_takes k.AsKeyword)) (λ v1. bind_keeps _ _ (still_keeps _ (ident_takes)) (λ v2. pure_keeps _)))

pub world_include_item_begins : Begins (k.Ident ∷ []) world_include_item
unfolding world_include_item
world_include_item_begins = bind_begins _ _ _ (ident_begins)

pub include_items_exact : Exact include_items
unfolding include_items
include_items_exact = body_exact world_include_item (k.Ident ∷ []) true world_include_item_exact world_include_item_begins world_include_item_takes

pub include_items_takes : Takes include_items
unfolding include_items
include_items_takes = body_takes world_include_item (k.Ident ∷ []) true world_include_item_exact world_include_item_begins world_include_item_takes

pub include_with_exact : Exact include_with
unfolding include_with
include_with_exact = bind _ _ (optional_exact k.WithKeyword) (λ v0. choose_exact v0 _ _ (include_items_exact) (pure_exact _))

pub include_with_keeps : Keeps include_with
unfolding include_with
include_with_keeps = bind_keeps _ _ (optional_keeps k.WithKeyword) (λ v0. choose_keeps v0 _ _ (still_keeps _ (include_items_takes)) (pure_keeps _))

pub world_include_exact : Exact world_include
unfolding world_include
world_include_exact = bind _ _ (docs_exact) (λ v0. bind _ _ (token_exact k.IncludeKeyword) (λ v1. bind _ _ (world_ref_exact) (λ v2. bind _ _ (include_with_exact) (λ v3. bind _ _ (token_exact k.Semicolon) (λ v4. pure_exact _)))))

pub world_include_takes : Takes world_include
unfolding world_include
world_include_takes = then_takes _ _ (docs_keeps) (λ v0. bind_takes _ _ (token_takes k.IncludeKeyword) (λ v1. bind_keeps _ _ (still_keeps _ (world_ref_takes)) (λ v2. bind_keeps _ _ (include_with_keeps) (λ v3. bind_keeps _ _ (still_keeps _ (token_takes k.Semicolon)) (λ v4. pure_keeps _)))))

pub world_include_begins : Begins (k.IncludeKeyword ∷ []) world_include
unfolding world_include
world_include_begins = silent_begins _ docs _ docs_silent (λ v. bind_begins _ _ _ (token_begins k.IncludeKeyword _))

pub world_item_exact : Exact world_item
unfolding world_item
world_item_exact = begin_exact k.UseKeyword _ _ (bind _ _ (use_types_exact) (λ v0. pure_exact _)) (begin_exact k.ImportKeyword _ _ (bind _ _ (world_import_exact) (λ v0. pure_exact _)) (begin_exact k.ExportKeyword _ _ (bind _ _ (world_export_exact) (λ v0. pure_exact _)) (begin_exact k.IncludeKeyword _ _ (bind _ _ (world_include_exact) (λ v0. pure_exact _)) (begin_any_exact item_type_decl_first _ _ (bind _ _ (item_type_decl_exact) (λ v0. pure_exact _)) (refuse_exact _)))))

pub world_item_takes : Takes world_item
unfolding world_item
world_item_takes = begin_takes k.UseKeyword _ _ (bind_takes _ _ (use_types_takes) (λ v0. pure_keeps _)) (begin_takes k.ImportKeyword _ _ (bind_takes _ _ (world_import_takes) (λ v0. pure_keeps _)) (begin_takes k.ExportKeyword _ _ (bind_takes _ _ (world_export_takes) (λ v0. pure_keeps _)) (begin_takes k.IncludeKeyword _ _ (bind_takes _ _ (world_include_takes) (λ v0. pure_keeps _)) (begin_any_takes item_type_decl_first _ _ (bind_takes _ _ (item_type_decl_takes) (λ v0. pure_keeps _)) (refuse_takes _)))))

pub world_item_begins : Begins world_item_first world_item
unfolding world_item
world_item_begins = begin_begins k.UseKeyword _ _ _ (begin_begins k.ImportKeyword _ _ _ (begin_begins k.ExportKeyword _ _ _ (begin_begins k.IncludeKeyword _ _ _ (last_begins item_type_decl_first _ _))))

pub world_items_exact : Exact world_items
unfolding world_items
world_items_exact = body_exact world_item world_item_first false world_item_exact world_item_begins world_item_takes

pub world_items_takes : Takes world_items
unfolding world_items
world_items_takes = body_takes world_item world_item_first false world_item_exact world_item_begins world_item_takes

pub world_decl_exact : Exact world_decl
unfolding world_decl
world_decl_exact = bind _ _ (docs_exact) (λ v0. bind _ _ (token_exact k.WorldKeyword) (λ v1. bind _ _ (ident_exact) (λ v2. bind _ _ (world_items_exact) (λ v3. pure_exact _))))

pub world_decl_takes : Takes world_decl
unfolding world_decl
world_decl_takes = then_takes _ _ (docs_keeps) (λ v0. bind_takes _ _ (token_takes k.WorldKeyword) (λ v1. bind_keeps _ _ (still_keeps _ (ident_takes)) (λ v2. bind_keeps _ _ (still_keeps _ (world_items_takes)) (λ v3. pure_keeps _))))

pub world_decl_begins : Begins (k.WorldKeyword ∷ []) world_decl
unfolding world_decl
world_decl_begins = silent_begins _ docs _ docs_silent (λ v. bind_begins _ _ _ (token_begins k.WorldKeyword _))
