-- How interfaces and worlds are written.
use Rattle.std.specs.Prelude.{true, false, List, [], ◌∷◌, Option}
use Rattle.wac_parser_lexer.specs.declared.token.Token.{Token}
use Rattle.wac_parser_lexer.specs.declared.token.Token.TheVariants as k
use Rattle.wac_parser_tree.specs.Trees as t
use Rattle.wac_parser_grammar.specs.Ahead.{none_of}
use Rattle.wac_parser_grammar.specs.Rules.{Rule, ◌>>=◌, ◌>>◌, pure, refuse, token, choose, begin, begin_any, optional, optional_of}
use Rattle.wac_parser_grammar.specs.Names.{docs, ident, package_path}
use Rattle.wac_parser_grammar.specs.ValueTypes.{func_first, func_type, func_type_ref}
use Rattle.wac_parser_grammar.specs.Declarations.{body, item_type_decl_first, item_type_decl}

abbrev pub path_first : List Token
path_first = k.PackagePath ∷ k.Ident ∷ []

abbrev pub interface_item_first : List Token
interface_item_first = k.UseKeyword ∷ k.Ident ∷ item_type_decl_first

abbrev pub world_item_first : List Token
world_item_first = k.UseKeyword ∷ k.ImportKeyword ∷ k.ExportKeyword ∷ k.IncludeKeyword ∷ item_type_decl_first

unfoldable pub use_path : Rule t.UsePath
use_path =
    begin k.PackagePath (package_path >>= λ p. pure (t.UsePath.package_path p))
    (begin k.Ident (ident >>= λ id. pure (t.UsePath.ident id))
    (refuse (none_of path_first)))

unfoldable pub use_as : Rule (Option t.Ident)
use_as = optional_of k.AsKeyword ident

unfoldable pub use_item : Rule t.UseItem
use_item = do
  id ← ident
  as_id ← use_as
  pure (record { id = id; as_id = as_id })

unfoldable pub use_items : Rule (List t.UseItem)
use_items = body use_item (k.Ident ∷ []) true

unfoldable pub use_types : Rule t.Use
use_types = do
  docs ← docs
  token k.UseKeyword
  path ← use_path
  token k.Dot
  items ← use_items
  token k.Semicolon
  pure (record { docs = docs; path = path; items = items })

unfoldable pub interface_export : Rule t.InterfaceExport
interface_export = do
  docs ← docs
  id ← ident
  token k.Colon
  ty ← func_type_ref
  token k.Semicolon
  pure (record { docs = docs; id = id; ty = ty })

unfoldable pub interface_item : Rule t.InterfaceItem
interface_item =
    begin k.UseKeyword (use_types >>= λ x. pure (t.InterfaceItem.use_ x))
    (begin k.Ident (interface_export >>= λ x. pure (t.InterfaceItem.export x))
    (begin_any item_type_decl_first (item_type_decl >>= λ x. pure (t.InterfaceItem.ty x))
    (refuse (none_of interface_item_first))))

unfoldable pub interface_items : Rule (List t.InterfaceItem)
interface_items = body interface_item interface_item_first false

unfoldable pub interface_decl : Rule t.InterfaceDecl
interface_decl = do
  docs ← docs
  token k.InterfaceKeyword
  id ← ident
  items ← interface_items
  pure (record { docs = docs; id = id; items = items })

unfoldable pub inline_interface : Rule t.InlineInterface
inline_interface = do
  token k.InterfaceKeyword
  items ← interface_items
  pure (record { items = items })

-- ---- worlds

unfoldable pub extern_type : Rule t.ExternType
extern_type =
    begin k.Ident (ident >>= λ id. pure (t.ExternType.ident id))
    (begin_any func_first (func_type >>= λ f. pure (t.ExternType.func f))
    (begin k.InterfaceKeyword (inline_interface >>= λ i. pure (t.ExternType.interface i))
    (refuse (none_of (k.Ident ∷ k.AsyncKeyword ∷ k.FuncKeyword ∷ k.InterfaceKeyword ∷ [])))))

-- behind a name: a colon and a type
unfoldable pub item_type : t.Ident → Rule t.NamedWorldItem
item_type id = do
  token k.Colon
  ty ← extern_type
  pure (record { id = id; ty = ty })

unfoldable pub named_world_item : Rule t.NamedWorldItem
named_world_item = do
  id ← ident
  item_type id

-- an identifier, which a colon makes a name
unfoldable pub ident_path : Rule t.WorldItemPath
ident_path = do
  id ← ident
  begin k.Colon (item_type id >>= λ x. pure (t.WorldItemPath.named x)) (pure (t.WorldItemPath.ident id))

unfoldable pub world_item_path : Rule t.WorldItemPath
world_item_path =
    begin k.PackagePath (package_path >>= λ p. pure (t.WorldItemPath.package_path p))
    (begin k.Ident ident_path
    (refuse (none_of path_first)))

unfoldable pub world_import : Rule t.WorldImport
world_import = do
  docs ← docs
  token k.ImportKeyword
  path ← world_item_path
  token k.Semicolon
  pure (record { docs = docs; path = path })

unfoldable pub world_export : Rule t.WorldExport
world_export = do
  docs ← docs
  token k.ExportKeyword
  path ← world_item_path
  token k.Semicolon
  pure (record { docs = docs; path = path })

unfoldable pub world_ref : Rule t.WorldRef
world_ref =
    begin k.PackagePath (package_path >>= λ p. pure (t.WorldRef.package_path p))
    (begin k.Ident (ident >>= λ id. pure (t.WorldRef.ident id))
    (refuse (none_of path_first)))

unfoldable pub world_include_item : Rule t.WorldIncludeItem
world_include_item = do
  from ← ident
  token k.AsKeyword
  to ← ident
  pure (record { from = from; to = to })

unfoldable pub include_items : Rule (List t.WorldIncludeItem)
include_items = body world_include_item (k.Ident ∷ []) true

unfoldable pub include_with : Rule (List t.WorldIncludeItem)
include_with = optional k.WithKeyword >>= λ found. choose found include_items (pure [])

unfoldable pub world_include : Rule t.WorldInclude
world_include = do
  docs ← docs
  token k.IncludeKeyword
  world ← world_ref
  with ← include_with
  token k.Semicolon
  pure (record { docs = docs; world = world; with = with })

unfoldable pub world_item : Rule t.WorldItem
world_item =
    begin k.UseKeyword (use_types >>= λ x. pure (t.WorldItem.use_ x))
    (begin k.ImportKeyword (world_import >>= λ x. pure (t.WorldItem.import x))
    (begin k.ExportKeyword (world_export >>= λ x. pure (t.WorldItem.export x))
    (begin k.IncludeKeyword (world_include >>= λ x. pure (t.WorldItem.include x))
    (begin_any item_type_decl_first (item_type_decl >>= λ x. pure (t.WorldItem.ty x))
    (refuse (none_of world_item_first))))))

unfoldable pub world_items : Rule (List t.WorldItem)
world_items = body world_item world_item_first false

unfoldable pub world_decl : Rule t.WorldDecl
world_decl = do
  docs ← docs
  token k.WorldKeyword
  id ← ident
  items ← world_items
  pure (record { docs = docs; id = id; items = items })
