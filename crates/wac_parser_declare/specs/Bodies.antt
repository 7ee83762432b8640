-- What a body holds so far; the types that are used in it, and the resources that are declared.
use Rattle.std.specs.Prelude.{unwrap_or, Bool, true, false, not, ◌||◌, map, List, [], ◌∷◌, ◌++◌, Option, Some, None, is_none, option_map, codes}
use Rattle.wac_types_base.specs.declared.item.FuncKind.{FuncKind}
use Rattle.wac_types_base.specs.declared.item.ExternKind.{ExternKind}
use Rattle.wac_types_base.specs.Entries.{Name, value_at, has_name}
use Rattle.wac_types_base.specs.Collection as s
use Rattle.wac_types_base.specs.Stated.{Stated, Kind, IsResource, IsValueType, kind_of, desc, untyped, leaf, own, borrow, exports_of, Used, is_interface}
use Rattle.wac_parser_tree.specs.Trees as t
use Rattle.wac_parser_declare.specs.Scope.{Scope, Context, Path, has, bind, at_path, path_text, path_span, use_path}
use Rattle.wac_parser_declare.specs.Declarations.{function, variant_decl, record_decl, flags_decl, enum_decl, type_alias}
use Rattle.wac_parser_refusals.specs.Causes.{Answer, Fault, ◌>>=◌, ◌>>◌, pure, unless_clear, present, each}
use Rattle.wac_parser_refusals.specs.Causes.{NotInterface, UndefinedInterfaceType, NotInterfaceValueType, UseConflict, DuplicateResourceConstructor, DuplicateResourceMethod}

abbrev pub Items : Type 0
Items = List (Name × Stated)

-- what a body has stated so far: its names, its uses, the exports of an interface or the imports of a world, the exports of a
-- world
pub record Body : Type 0 where
  pub names : Scope
  pub uses : List Used
  pub items : Items
  pub exports : Items

abbrev pub no_body : Body
no_body = record { names = []; uses = []; items = []; exports = [] }

-- how a duplicate item is called, and what items are
pub record Holder : Type 0 where
  pub duplicate : Name → Fault
  pub kind : ExternKind

-- ---- uses

abbrev pub usable : Kind → Bool
usable IsResource = true
usable IsValueType = true
usable k = false

abbrev pub local_name : t.UseItem → t.Ident
local_name u = unwrap_or u.as_id u.id

-- the name there, where it is another
abbrev pub name_there : t.UseItem → Option Name
name_there u = option_map (λ a. u.id.string) u.as_id

-- the body that has one more use
abbrev pub with_use : Body → Scope → t.UseItem → Stated → Stated → Body
with_use b ns u from x = record {
  names = ns;
  uses = b.uses ++ record { name = (local_name u).string; there = name_there u; interface = untyped from } ∷ [];
  items = b.items ++ ((local_name u).string, x) ∷ [];
  exports = b.exports;
}

abbrev pub is_used : List Used → Name → Bool
is_used us n = has_name (map (λ u. u.name) us) n

abbrev pub use_one : Holder → Name → Stated → Body → t.UseItem → Answer Body
use_one h path from b u = do
  x ← present (value_at (exports_of from) u.id.string) (UndefinedInterfaceType u.id.string path) u.id.span
  unless_clear (not (usable (kind_of x))) (NotInterfaceValueType u.id.string (desc x) path) u.id.span
  unless_clear (has b.items (local_name u).string || is_used b.uses (local_name u).string)
      (UseConflict (local_name u).string h.kind (is_none u.as_id)) (local_name u).span
  ns ← bind b.names (local_name u) x
  pure (with_use b ns u from x)

-- the interface type that a path names
abbrev pub interface_at : Context → Path → Answer Stated
interface_at c p = at_path c p
    >>= λ x. unless_clear (not (is_interface (kind_of x))) (NotInterface (path_text p) (desc x)) (path_span p) >> pure x

abbrev pub use_types : Context → Holder → Body → t.Use → Answer Body
use_types c h b u = interface_at c (use_path u.path) >>= λ from. each (use_one h (path_text (use_path u.path)) from) b u.items

-- ---- types

-- the body that has one more item
abbrev pub with_item : Body → Name → Stated → Body
with_item b n x = record b { items = b.items ++ (n, x) ∷ [] }

-- a new type item: its name, then the item
abbrev pub add_type : Holder → Body → t.Ident → Stated → Answer Body
add_type h b i x = do
  ns ← bind b.names i x
  unless_clear (has b.items i.string) (h.duplicate i.string) i.span
  pure (record { names = ns; uses = b.uses; items = b.items ++ (i.string, x) ∷ []; exports = b.exports })

abbrev pub method_word : Bool → Name
method_word true = codes "[static]"
method_word false = codes "[method]"

-- the names of the functions of a resource
abbrev pub method_name : Bool → Name → Name → Name
method_name is_static r m = method_word is_static ++ (r ++ (codes "." ++ m))

abbrev pub constructor_name : Name → Name
constructor_name r = codes "[constructor]" ++ r

-- a method of a value takes that value first
abbrev pub method_kind : Bool → FuncKind
method_kind true = FuncKind.Static
method_kind false = FuncKind.Method

abbrev pub self_of : Bool → Stated → Items
self_of true x = []
self_of false x = (codes "self", borrow x) ∷ []

-- one more function of a resource. A duplicate comes before the type
abbrev pub add_constructor : Name → Stated → Body → t.Constructor → Answer Body
add_constructor r x b d = do
  unless_clear (has b.items (constructor_name r)) (DuplicateResourceConstructor r) d.span
  f ← function FuncKind.Constructor b.names [] (Some (own x)) d.params t.ResultList.empty false
  pure (with_item b (constructor_name r) f)

-- static or not, there is no other of this name
abbrev pub has_method : Items → Name → Name → Bool
has_method xs r m = has xs (method_name true r m) || has xs (method_name false r m)

abbrev pub add_method : Name → Stated → Body → t.Method → Answer Body
add_method r x b d = do
  unless_clear (has_method b.items r d.id.string) (DuplicateResourceMethod d.id.string r) d.id.span
  f ← function (method_kind d.is_static) b.names (self_of d.is_static x) None d.ty.params d.ty.results d.ty.is_async
  pure (with_item b (method_name d.is_static r d.id.string) f)

abbrev pub resource_method : Name → Stated → Body → t.ResourceMethod → Answer Body
resource_method r x b (t.ResourceMethod.constructor d) = add_constructor r x b d
resource_method r x b (t.ResourceMethod.method d) = add_method r x b d

abbrev pub resource_decl : Holder → Body → t.ResourceDecl → Answer Body
resource_decl h b d =
    add_type h b d.id (leaf (s.resource d.id.string))
    >>= λ c. each (resource_method d.id.string (leaf (s.resource d.id.string))) c d.methods

abbrev pub added : Holder → Body → t.Ident → Answer Stated → Answer Body
added h b i x = x >>= λ y. add_type h b i y

-- a declaration in a body
abbrev pub item_type : Holder → Body → t.ItemTypeDecl → Answer Body
item_type h b (t.ItemTypeDecl.resource d) = resource_decl h b d
item_type h b (t.ItemTypeDecl.variant d) = added h b d.id (variant_decl b.names d)
item_type h b (t.ItemTypeDecl.record_ d) = added h b d.id (record_decl b.names d)
item_type h b (t.ItemTypeDecl.flags d) = added h b d.id (flags_decl d)
item_type h b (t.ItemTypeDecl.enum d) = added h b d.id (enum_decl d)
item_type h b (t.ItemTypeDecl.alias d) = added h b d.id (type_alias false b.names d)
