-- Bodies and interfaces state the same whatever the spans are, and over packages that are the same where they are named.
use Rattle.std.specs.Prelude.{false, not, ◌||◌, List, [], ◌∷◌, ◌++◌, map, Option, Some, None, option_map}
use Rattle.wac_types_base.specs.declared.item.FuncKind.{FuncKind}
use Rattle.wac_types_base.specs.Entries.{Name, value_at}
use Rattle.wac_types_base.specs.Collection as s
use Rattle.wac_types_base.specs.Stated.{Stated, kind_of, leaf, own, exports_of, is_interface, interface_of}
use Rattle.wac_types_names.specs.Keys.{Key}
use Rattle.wac_parser_tree.specs.Trees as t
use Rattle.wac_parser_tree.specs.Bare.{bare_ident, bare_use_path, bare_use_item, bare_use, bare_constructor, bare_method, bare_resource_method, bare_resource, bare_item_type, bare_interface_export, bare_interface_item, bare_inline_interface, bare_interface}
use Rattle.wac_parser_tree.specs.Named.{in_use_path, in_interface_item, in_interface}
use Rattle.wac_parser_refusals.specs.Causes.{Answer, ◌>>=◌, each}
use Rattle.wac_parser_refusals.proofs.Alike.{IsAlike, both, itself, AreSame, then_alike, next_alike, clear_alike, present_same, each_alike, each_named}
use Rattle.wac_parser_declare.specs.Scope.{Context, Path, in_package, at_root, has, path_text, use_path, identifier}
use Rattle.wac_parser_declare.specs.Bodies.{Body, no_body, Holder, usable, with_use, is_used, use_one, interface_at, use_types, with_item, add_type, constructor_name, method_kind, self_of, method_name, has_method, add_constructor, add_method, resource_method, resource_decl, added, item_type}
use Rattle.wac_parser_declare.specs.Interfaces.{export_item, interface_item, exporting, interface_body, inline_interface, interface_decl}
use Rattle.wac_parser_declare.proofs.AlikeScopes.{bare_scope, bind_alike, IsSameIn, AreSameIn, bare_context, bare_path, in_any_path, at_alike}
use Rattle.wac_parser_declare.proofs.AlikeTypes.{function_alike, func_ref_alike, variant_alike, record_alike, flags_alike, enum_alike, alias_alike}

abbrev pub bare_body : Body → Body
bare_body b = record { names = bare_scope b.names; uses = b.uses; items = b.items; exports = b.exports }

-- ---- uses

use_one_alike : (h : Holder) (path gone : Name) (from : Stated) (b : Body) (u : t.UseItem) → IsAlike itself bare_body (use_one h path from b u) (use_one h gone from (bare_body b) (bare_use_item u))
use_one_alike h path gone from b u = go u.as_id
  where
    named_so : (l : t.Ident) (o : Option t.Ident) → t.UseItem
    named_so l o = record { id = l; as_id = o }

    go : (o : Option t.Ident) → IsAlike itself bare_body (use_one h path from b (named_so u.id o)) (use_one h gone from (bare_body b) (named_so (bare_ident u.id) (option_map bare_ident o)))
    go None = then_alike _ _ (present_same (value_at (exports_of from) u.id.string) _ _ _ _) (λ x. next_alike (clear_alike (not (usable (kind_of x))) _ _ _ _)
        (next_alike (clear_alike (has b.items u.id.string || is_used b.uses u.id.string) _ _ _ _)
        (then_alike _ _ (bind_alike b.names u.id x) (λ ns. both (with_use b ns (named_so u.id None) from x)))))
    go (Some a) = then_alike _ _ (present_same (value_at (exports_of from) u.id.string) _ _ _ _) (λ x. next_alike (clear_alike (not (usable (kind_of x))) _ _ _ _)
        (next_alike (clear_alike (has b.items a.string || is_used b.uses a.string) _ _ _ _)
        (then_alike _ _ (bind_alike b.names a x) (λ ns. both (with_use b ns (named_so u.id (Some a)) from x)))))

module _ (c : Context) (qs : List (Key × Stated)) where
  pub interface_at_alike : (p : Path) → AreSameIn c.packages qs (in_any_path p) → AreSame (interface_at c p) (interface_at (bare_context qs c) (bare_path p))
  interface_at_alike p h = then_alike _ _ (at_alike c qs p h) (λ x. next_alike (clear_alike (not (is_interface (kind_of x))) _ _ _ _) (both x))

  uses_alike : (h : Holder) (b : Body) (p : Path) (us : List t.UseItem) → AreSameIn c.packages qs (in_any_path p) → IsAlike itself bare_body
      (interface_at c p >>= λ from. each (use_one h (path_text p) from) b us)
      (interface_at (bare_context qs c) (bare_path p) >>= λ from. each (use_one h (path_text (bare_path p)) from) (bare_body b) (map bare_use_item us))
  uses_alike h b p us k =
      then_alike _ _ (interface_at_alike p k)
      (λ from. each_alike {f = itself} {g = bare_body} bare_use_item (use_one h (path_text p) from) (use_one h (path_text (bare_path p)) from) (use_one_alike h (path_text p) (path_text (bare_path p)) from) b us)

  pub use_types_alike : (h : Holder) (b : Body) (u : t.Use) → AreSameIn c.packages qs (in_use_path u.path) → IsAlike itself bare_body (use_types c h b u) (use_types (bare_context qs c) h (bare_body b) (bare_use u))
  use_types_alike h b u k = go u.path k
    where
      go : (p : t.UsePath) → AreSameIn c.packages qs (in_use_path p) → IsAlike itself bare_body
          (interface_at c (use_path p) >>= λ from. each (use_one h (path_text (use_path p)) from) b u.items)
          (interface_at (bare_context qs c) (use_path (bare_use_path p)) >>= λ from. each (use_one h (path_text (use_path (bare_use_path p))) from) (bare_body b) (map bare_use_item u.items))
      go (t.UsePath.package_path p) k = uses_alike h b (in_package p) u.items k
      go (t.UsePath.ident i) k = uses_alike h b (at_root i) u.items k

-- ---- types

add_type_alike : (h : Holder) (b : Body) (i : t.Ident) (x : Stated) → IsAlike itself bare_body (add_type h b i x) (add_type h (bare_body b) (bare_ident i) x)
add_type_alike h b i x = then_alike _ _ (bind_alike b.names i x)
    (λ ns. next_alike (clear_alike (has b.items i.string) _ _ _ _) (both (record { names = ns; uses = b.uses; items = b.items ++ (i.string, x) ∷ []; exports = b.exports })))

constructor_alike : (r : Name) (x : Stated) (b : Body) (d : t.Constructor) → IsAlike itself bare_body (add_constructor r x b d) (add_constructor r x (bare_body b) (bare_constructor d))
constructor_alike r x b d = next_alike (clear_alike (has b.items (constructor_name r)) _ _ _ _)
    (then_alike _ _ (function_alike FuncKind.Constructor b.names [] (Some (own x)) d.params t.ResultList.empty false) (λ f. both (with_item b (constructor_name r) f)))

method_alike : (r : Name) (x : Stated) (b : Body) (d : t.Method) → IsAlike itself bare_body (add_method r x b d) (add_method r x (bare_body b) (bare_method d))
method_alike r x b d = next_alike (clear_alike (has_method b.items r d.id.string) _ _ _ _)
    (then_alike _ _ (function_alike (method_kind d.is_static) b.names (self_of d.is_static x) None d.ty.params d.ty.results d.ty.is_async) (λ f. both (with_item b (method_name d.is_static r d.id.string) f)))

resource_method_alike : (r : Name) (x : Stated) (b : Body) (d : t.ResourceMethod) → IsAlike itself bare_body (resource_method r x b d) (resource_method r x (bare_body b) (bare_resource_method d))
resource_method_alike r x b (t.ResourceMethod.constructor d) = constructor_alike r x b d
resource_method_alike r x b (t.ResourceMethod.method d) = method_alike r x b d

resource_alike : (h : Holder) (b : Body) (d : t.ResourceDecl) → IsAlike itself bare_body (resource_decl h b d) (resource_decl h (bare_body b) (bare_resource d))
resource_alike h b d =
    let x : Stated = leaf (s.resource d.id.string) in
    then_alike _ _ (add_type_alike h b d.id x)
    (λ c. each_alike {f = itself} {g = bare_body} bare_resource_method (resource_method d.id.string x) (resource_method d.id.string x) (resource_method_alike d.id.string x) c d.methods)

added_alike : (h : Holder) (b : Body) (i : t.Ident) (q r : Answer Stated) → AreSame q r → IsAlike itself bare_body (added h b i q) (added h (bare_body b) (bare_ident i) r)
added_alike h b i q r k = then_alike _ _ k (λ x. add_type_alike h b i x)

pub item_type_alike : (h : Holder) (b : Body) (d : t.ItemTypeDecl) → IsAlike itself bare_body (item_type h b d) (item_type h (bare_body b) (bare_item_type d))
item_type_alike h b (t.ItemTypeDecl.resource d) = resource_alike h b d
item_type_alike h b (t.ItemTypeDecl.variant d) = added_alike h b d.id _ _ (variant_alike b.names d)
item_type_alike h b (t.ItemTypeDecl.record_ d) = added_alike h b d.id _ _ (record_alike b.names d)
item_type_alike h b (t.ItemTypeDecl.flags d) = added_alike h b d.id _ _ (flags_alike d)
item_type_alike h b (t.ItemTypeDecl.enum d) = added_alike h b d.id _ _ (enum_alike d)
item_type_alike h b (t.ItemTypeDecl.alias d) = added_alike h b d.id _ _ (alias_alike false b.names d)

-- ---- interfaces

export_alike : (h : Holder) (b : Body) (e : t.InterfaceExport) → IsAlike itself bare_body (export_item h b e) (export_item h (bare_body b) (bare_interface_export e))
export_alike h b e = then_alike _ _ (func_ref_alike b.names e.ty)
    (λ f. next_alike (clear_alike (has b.items e.id.string) _ _ _ _) (both (with_item b e.id.string f)))

module _ (c : Context) (qs : List (Key × Stated)) where
  interface_item_alike : (h : Holder) (b : Body) (i : t.InterfaceItem) → AreSameIn c.packages qs (in_interface_item i) → IsAlike itself bare_body (interface_item c h b i) (interface_item (bare_context qs c) h (bare_body b) (bare_interface_item i))
  interface_item_alike h b (t.InterfaceItem.use_ u) k = use_types_alike c qs h b u k
  interface_item_alike h b (t.InterfaceItem.ty d) k = item_type_alike h b d
  interface_item_alike h b (t.InterfaceItem.export e) k = export_alike h b e

  interface_body_alike : (name id : Option Name) (is : List t.InterfaceItem) → AreSameIn c.packages qs (in_interface is) → AreSame (interface_body c name id is) (interface_body (bare_context qs c) name id (map bare_interface_item is))
  interface_body_alike name id is k =
      then_alike _ _ (each_named (IsSameIn c.packages qs) {f = itself} {g = bare_body} in_interface_item bare_interface_item (interface_item c (exporting name)) (interface_item (bare_context qs c) (exporting name)) (interface_item_alike (exporting name)) no_body is k)
      (λ b. both (interface_of id b.uses b.items))

  pub inline_alike : (d : t.InlineInterface) → AreSameIn c.packages qs (in_interface d.items) → AreSame (inline_interface c d) (inline_interface (bare_context qs c) (bare_inline_interface d))
  inline_alike d k = interface_body_alike None None d.items k

  pub interface_alike : (d : t.InterfaceDecl) → AreSameIn c.packages qs (in_interface d.items) → AreSame (interface_decl c d) (interface_decl (bare_context qs c) (bare_interface d))
  interface_alike d k = interface_body_alike (Some d.id.string) (Some (identifier c.own d.id.string)) d.items k
