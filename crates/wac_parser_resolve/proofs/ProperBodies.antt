-- The types that paths name and that interfaces and worlds state are proper.
use Rattle.std.specs.Prelude.{option_map, cond, ◌&&◌, ◌||◌, ◌==◌, not, is_none, if◌then◌else◌}
use Rattle.std.proofs.lemmas.Option.{none-some, same_Some}
use Rattle.std.specs.Cmp.Lexicographic.{pointwise}
use Rattle.std.proofs.Common.{◌≡◌, List, [], ◌∷◌, ◌++◌, Bool, true, false, Option, Some, None, Ok, inl, inr, refl, sym, subst, ◌∙◌}
use Rattle.wac_types_base.specs.declared.item.FuncKind.{FuncKind}
use Rattle.wac_types_base.specs.declared.item.ExternKind.{ExternKind}
use Rattle.wac_types_base.specs.Entries.{Name, value_at}
use Rattle.wac_types_base.specs.Collection as s
use Rattle.wac_types_base.specs.Stated.{Stated, Kind, IsFunction, IsInstance, IsComponent, IsModule, IsValue, IsResource, IsFunctionType, IsValueType, IsInterface, IsWorld, IsModuleType, kind_of, desc, untyped, as_type, own, leaf, Used, interface_of, world_of, exports_of, imports_of, identifier_of, is_interface}
use Rattle.wac_types_base.proofs.Lists.{from_filtered, value_both}
use Rattle.wac_types_names.specs.Keys.{Key, same_key}
use Rattle.wac_parser_tree.specs.Trees as t
use Rattle.wac_parser_tree.specs.Trees.{Span}
use Rattle.wac_parser_tree.specs.Segments.{Segment, segment_spans, package_name_span}
use Rattle.wac_parser_refusals.specs.Causes.{Answer, Fault, ◌>>=◌, pure, unless_clear, present, each, UnknownPackage, PackageMissingExport, PackagePathMissingExport, UndefinedInterfaceType, NotInterfaceValueType, UseConflict, NotInterface, DuplicateResourceConstructor, DuplicateResourceMethod, DuplicateWorldItem, WorldIncludeConflict}
use Rattle.wac_parser_declare.specs.Scope.{Scope, Context, Meant, Path, in_package, at_root, has, named, taken, bind, package_under, world_of_package, is_instance_or_component, only_export, definition_by, definitions, use_path, world_path, own_path, package_path, segment_ident, from_root, from_definitions, path_item, at_path, path_text, path_span, identifier, passed_text}
use Rattle.wac_types_names.specs.InterfaceNames.{is_interface_name}
use Rattle.wac_parser_declare.specs.Declarations.{function, func_ref, variant_decl, record_decl, flags_decl, enum_decl, type_alias}
use Rattle.wac_parser_declare.specs.Bodies.{Items, Body, no_body, Holder, usable, local_name, with_use, is_used, use_one, interface_at, use_types, with_item, add_type, method_name, constructor_name, method_kind, self_of, add_constructor, has_method, add_method, resource_method, resource_decl, added, item_type}
use Rattle.wac_parser_declare.specs.Interfaces.{export_item, exporting, interface_body, inline_interface, interface_decl}
use Rattle.wac_parser_declare.specs.Interfaces as i
use Rattle.wac_parser_declare.specs.Worlds.{extern_by, extern_type, with_identifier, world_item, importing, with_imports, with_exports, world_part, world_by, world_at, with_name, renaming, has_colon, or_itself, include_at, include_one, is_empty, left_for_exports, unmet, include_world, world_body, world_include, world_decl, type_statement, interface_at_path}
use Rattle.std.specs.Option.{option_or}
use Rattle.wac_parser_resolve.specs.Proper.{Proper, AreProper}
use Rattle.wac_parser_resolve.proofs.Answers.{err_ok, ok_of, then_ok, ok_is, each_keeps}
use Rattle.wac_parser_resolve.proofs.Numbers.{each_more, value_more}
use Rattle.wac_parser_resolve.proofs.Sound.{present_is}
use Rattle.wac_parser_resolve.proofs.Proper.{leaf_proper, typed_proper, own_proper, borrow_proper, untyped_proper, AllItems, AllUses, exports_proper, imports_proper, item_proper, if_some, if_none, interface_proper, world_proper}
use Rattle.wac_parser_resolve.proofs.ProperTypes.{typed_is, ScopeProper, named_proper, more_items, no_items, function_proper, free_proper, func_ref_proper, IsDeclared, variant_declared, record_declared, flags_declared, enum_declared, type_decl_proper, alias_in_body}

-- ---- packages

pub under_proper : (ps : List (Key × Stated)) (k : Key) (w : Stated) → AreProper ps → package_under ps k ≡ Some w → Proper w
under_proper [] k w h e = absurd (none-some _ e)
under_proper (p ∷ ps) k w h e = go (under_proper ps k w (λ q m. h q (inr m))) (same_key k p.0) e
  where
    go : (package_under ps k ≡ Some w → Proper w) → (b : Bool) → cond b (Some p.1) (package_under ps k) ≡ Some w → Proper w
    go rest true q = subst Proper (same_Some _ _ q) (h p (inl refl))
    go rest false q = rest q

pub package_proper : (ps : List (Key × Stated)) (k : Key) (z : Span) (w : Stated) → AreProper ps → Ok w ≡ world_of_package ps k z → Proper w
package_proper ps k z w h e = under_proper ps k w h (present_is (package_under ps k) (UnknownPackage k.0) z w e)

only_proper : (es : List (Name × Stated)) (x : Stated) → AllItems es → only_export es ≡ Some x → Proper x
only_proper [] x h e = absurd (none-some _ e)
only_proper (d ∷ []) x h e = go (is_interface_name d.0 && is_instance_or_component (kind_of d.1)) e
  where
    go : (b : Bool) → cond b (Some (as_type d.1)) None ≡ Some x → Proper x
    go true q = subst Proper (same_Some _ _ q) (typed_proper d.1 (h d (inl refl)))
    go false q = absurd (none-some _ q)
only_proper (d ∷ f ∷ es) x h e = absurd (none-some _ e)

definition_proper : (k : Kind) (w x : Stated) → Proper w → definition_by k w ≡ Some x → Proper x
definition_proper IsWorld w x h e = only_proper (exports_of w) x (exports_proper w h) e
definition_proper IsFunction w x h e = absurd (none-some _ e)
definition_proper IsInstance w x h e = absurd (none-some _ e)
definition_proper IsComponent w x h e = absurd (none-some _ e)
definition_proper IsModule w x h e = absurd (none-some _ e)
definition_proper IsValue w x h e = absurd (none-some _ e)
definition_proper IsResource w x h e = absurd (none-some _ e)
definition_proper IsFunctionType w x h e = absurd (none-some _ e)
definition_proper IsValueType w x h e = absurd (none-some _ e)
definition_proper IsInterface w x h e = absurd (none-some _ e)
definition_proper IsModuleType w x h e = absurd (none-some _ e)

definitions_proper : (w : Stated) → Proper w → AllItems (definitions w)
definitions_proper w h d m =
    let r = from_filtered (λ (e : Name × Stated). option_map (λ x. (e.0, x)) (definition_by (kind_of e.1) e.1)) (exports_of w) d m in
    go r.0 (definition_by (kind_of r.0.1) r.0.1) refl (exports_proper w h r.0 r.1) r.2
  where
    go : (e : Name × Stated) (o : Option Stated) → definition_by (kind_of e.1) e.1 ≡ o → Proper e.1 → option_map (λ x. (e.0, x)) o ≡ Some d → Proper d.1
    go e None q f g = absurd (none-some _ g)
    go e (Some x) q f g = subst (λ (c : Name × Stated). Proper c.1) (same_Some _ _ g) (definition_proper (kind_of e.1) e.1 x f q)

-- ---- paths

pub record ContextProper (c : Context) : Type 0 where
  pub packages : AreProper c.packages
  pub root : ScopeProper c.root

own_path_proper : (parent : Name) (x : Stated) (is : List Segment) (y : Stated) → Proper x → Ok y ≡ own_path parent x is → Proper y
own_path_proper parent x [] y h e = subst Proper (sym (ok_is y x e)) h
own_path_proper parent x (g ∷ is) y h e =
    let a = ok_of (present (value_at (exports_of x) g.0) (PackagePathMissingExport parent (desc x) g.0) g.1) _ y e in
    own_path_proper g.0 a.0 is y (item_proper (exports_of x) g.0 a.0 (exports_proper x h) (present_is (value_at (exports_of x) g.0) (PackagePathMissingExport parent (desc x) g.0) g.1 a.0 (sym a.1))) a.2

package_path_proper : (p : Name) (passed : List Segment) (x : Stated) (is : List Segment) (y : Stated) → Proper x → Ok y ≡ package_path p passed x is → Proper y
package_path_proper p passed x [] y h e = subst Proper (sym (ok_is y x e)) h
package_path_proper p passed x (g ∷ is) y h e =
    let f : Fault = PackageMissingExport p g.0 (Some (desc x)) (passed_text passed) in
    let a = ok_of (present (value_at (exports_of x) g.0) f g.1) _ y e in
    package_path_proper p (passed ++ g ∷ []) a.0 is y (item_proper (exports_of x) g.0 a.0 (exports_proper x h) (present_is (value_at (exports_of x) g.0) f g.1 a.0 (sym a.1))) a.2

root_proper : (c : Context) (is : List Segment) (y : Stated) → ContextProper c → Ok y ≡ from_root c is → Proper y
root_proper c [] y h e = absurd (err_ok _ y e)
root_proper c (g ∷ is) y h e =
    let a = ok_of (named c.root (segment_ident g)) _ y e in own_path_proper g.0 a.0 is y (named_proper c.root (segment_ident g) a.0 h.root (sym a.1)) a.2

from_definitions_proper : (p : t.PackagePath) (ds : List (Name × Stated)) (is : List Segment) (y : Stated) → AllItems ds → Ok y ≡ from_definitions p ds is → Proper y
from_definitions_proper p ds [] y h e = absurd (err_ok _ y e)
from_definitions_proper p ds (g ∷ is) y h e =
    let f : Fault = PackageMissingExport p.name g.0 None [] in
    let a = ok_of (present (value_at ds g.0) f g.1) _ y e in
    package_path_proper p.name (g ∷ []) a.0 is y (item_proper ds g.0 a.0 h (present_is (value_at ds g.0) f g.1 a.0 (sym a.1))) a.2

pub path_proper : (c : Context) (p : t.PackagePath) (y : Stated) → ContextProper c → Ok y ≡ path_item c p → Proper y
path_proper c p y h e = go (pointwise ◌==◌ p.name c.own.name) e
  where
    go : (b : Bool) → Ok y ≡ cond b (from_root c (segment_spans p)) (world_of_package c.packages (p.name, p.version) (package_name_span p) >>= λ w. from_definitions p (definitions w) (segment_spans p)) → Proper y
    go true q = root_proper c (segment_spans p) y h q
    go false q =
        let a = ok_of (world_of_package c.packages (p.name, p.version) (package_name_span p)) _ y q in
        from_definitions_proper p (definitions a.0) (segment_spans p) y (definitions_proper a.0 (package_proper c.packages (p.name, p.version) (package_name_span p) a.0 h.packages (sym a.1))) a.2

at_proper : (c : Context) (p : Path) (y : Stated) → ContextProper c → Ok y ≡ at_path c p → Proper y
at_proper c (in_package p) y h e = path_proper c p y h e
at_proper c (at_root i) y h e = named_proper c.root i y h.root e

-- ---- bodies

pub bind_proper : (ns : Scope) (i : t.Ident) (x : Stated) (ms : Scope) → ScopeProper ns → Proper x → Ok ms ≡ bind ns i x → ScopeProper ms
bind_proper ns i x ms h k e =
    let b : Name × Meant = (i.string, record { item = x; span = i.span }) in
    subst ScopeProper (sym (ok_is ms (ns ++ b ∷ []) (then_ok (taken (value_at ns i.string) i) _ ms e))) (value_more (λ (m : Meant). Proper m.item) ns i.string b.1 h k)

record BodyProper (b : Body) : Type 0 where
  names : ScopeProper b.names
  uses : AllUses b.uses
  items : AllItems b.items
  exports : AllItems b.exports

nothing_proper : BodyProper no_body
nothing_proper = record { names = λ n m e. absurd (none-some _ e); uses = λ u m. absurd m; items = no_items; exports = no_items }

item_more : (b : Body) (n : Name) (x : Stated) → BodyProper b → Proper x → BodyProper (with_item b n x)
item_more b n x h k = record { names = h.names; uses = h.uses; items = more_items b.items (n, x) h.items k; exports = h.exports }

interface_at_proper : (c : Context) (p : Path) (y : Stated) → ContextProper c → Ok y ≡ interface_at c p → Proper y
interface_at_proper c p y h e =
    let a = ok_of (at_path c p) _ y e in
    subst Proper (sym (ok_is y a.0 (then_ok (unless_clear (not (is_interface (kind_of a.0))) (NotInterface (path_text p) (desc a.0)) (path_span p)) _ y a.2))) (at_proper c p a.0 h (sym a.1))

use_one_proper : (h : Holder) (path : Name) (from : Stated) (b c : Body) (u : t.UseItem) → Proper from → BodyProper b → use_one h path from b u ≡ Ok c → BodyProper c
use_one_proper h path from b c u f k e =
    let l = local_name u in
    let a = ok_of (present (value_at (exports_of from) u.id.string) (UndefinedInterfaceType u.id.string path) u.id.span) _ c (sym e) in
    let x = item_proper (exports_of from) u.id.string a.0 (exports_proper from f) (present_is (value_at (exports_of from) u.id.string) (UndefinedInterfaceType u.id.string path) u.id.span a.0 (sym a.1)) in
    let q = then_ok (unless_clear (not (usable (kind_of a.0))) (NotInterfaceValueType u.id.string (desc a.0) path) u.id.span) _ c a.2 in
    let r = then_ok (unless_clear (has b.items l.string || is_used b.uses l.string) (UseConflict l.string h.kind (is_none u.as_id)) l.span) _ c q in
    let ns = ok_of (bind b.names l a.0) _ c r in
    subst BodyProper (sym (ok_is c (with_use b ns.0 u from a.0) ns.2)) (record {
      names = bind_proper b.names l a.0 ns.0 k.names x (sym ns.1);
      uses = each_more (λ (v : Used). Proper v.interface) b.uses _ k.uses (untyped_proper from f);
      items = more_items b.items (l.string, a.0) k.items x;
      exports = k.exports;
    })

use_types_proper : (c : Context) (h : Holder) (b d : Body) (u : t.Use) → ContextProper c → BodyProper b → Ok d ≡ use_types c h b u → BodyProper d
use_types_proper c h b d u g k e =
    let a = ok_of (interface_at c (use_path u.path)) _ d e in
    let from = interface_at_proper c (use_path u.path) a.0 g (sym a.1) in
    each_keeps (use_one h (path_text (use_path u.path)) a.0) BodyProper (λ p q x m r. use_one_proper h (path_text (use_path u.path)) a.0 p q x from m r) b d u.items k a.2

add_type_proper : (h : Holder) (b c : Body) (i : t.Ident) (x : Stated) → BodyProper b → Proper x → Ok c ≡ add_type h b i x → BodyProper c
add_type_proper h b c i x k p e =
    let ns = ok_of (bind b.names i x) _ c e in
    let q = then_ok (unless_clear (has b.items i.string) (h.duplicate i.string) i.span) _ c ns.2 in
    subst BodyProper (sym (ok_is c (record { names = ns.0; uses = b.uses; items = b.items ++ (i.string, x) ∷ []; exports = b.exports }) q)) (record {
      names = bind_proper b.names i x ns.0 k.names p (sym ns.1);
      uses = k.uses;
      items = more_items b.items (i.string, x) k.items p;
      exports = k.exports;
    })

self_proper : (b : Bool) (x : Stated) → Proper x → AllItems (self_of b x)
self_proper true x h e m = absurd m
self_proper false x h e (inl q) = subst (λ (f : Name × Stated). Proper f.1) (sym q) (borrow_proper x h)
self_proper false x h e (inr m) = absurd m

constructor_proper : (r : Name) (x : Stated) (b c : Body) (d : t.Constructor) → Proper x → BodyProper b → Ok c ≡ add_constructor r x b d → BodyProper c
constructor_proper r x b c d p k e =
    let q = then_ok (unless_clear (has b.items (constructor_name r)) (DuplicateResourceConstructor r) d.span) _ c e in
    let a = ok_of (function FuncKind.Constructor b.names [] (Some (own x)) d.params t.ResultList.empty false) _ c q in
    subst BodyProper (sym (ok_is c (with_item b (constructor_name r) a.0) a.2))
    (item_more b (constructor_name r) a.0 k (function_proper b.names k.names FuncKind.Constructor [] (Some (own x)) d.params t.ResultList.empty false a.0 no_items (if_some (own x) (own_proper x p)) (sym a.1)))

method_proper : (r : Name) (x : Stated) (b c : Body) (d : t.Method) → Proper x → BodyProper b → Ok c ≡ add_method r x b d → BodyProper c
method_proper r x b c d p k e =
    let q = then_ok (unless_clear (has_method b.items r d.id.string) (DuplicateResourceMethod d.id.string r) d.id.span) _ c e in
    let a = ok_of (function (method_kind d.is_static) b.names (self_of d.is_static x) None d.ty.params d.ty.results d.ty.is_async) _ c q in
    subst BodyProper (sym (ok_is c (with_item b (method_name d.is_static r d.id.string) a.0) a.2))
    (item_more b (method_name d.is_static r d.id.string) a.0 k (function_proper b.names k.names (method_kind d.is_static) (self_of d.is_static x) None d.ty.params d.ty.results d.ty.is_async a.0 (self_proper d.is_static x p) if_none (sym a.1)))

resource_method_proper : (r : Name) (x : Stated) (b c : Body) (d : t.ResourceMethod) → Proper x → BodyProper b → resource_method r x b d ≡ Ok c → BodyProper c
resource_method_proper r x b c (t.ResourceMethod.constructor d) p k e = constructor_proper r x b c d p k (sym e)
resource_method_proper r x b c (t.ResourceMethod.method d) p k e = method_proper r x b c d p k (sym e)

resource_decl_proper : (h : Holder) (b c : Body) (d : t.ResourceDecl) → BodyProper b → Ok c ≡ resource_decl h b d → BodyProper c
resource_decl_proper h b c d k e =
    let x : Stated = leaf (s.resource d.id.string) in
    let p = leaf_proper (s.resource d.id.string) tt in
    let a = ok_of (add_type h b d.id x) _ c e in
    each_keeps (resource_method d.id.string x) BodyProper (λ f g y m r. resource_method_proper d.id.string x f g y p m r) a.0 c d.methods (add_type_proper h b a.0 d.id x k p (sym a.1)) a.2

added_proper : (h : Holder) (b c : Body) (i : t.Ident) (x : Answer Stated) → BodyProper b → ((y : Stated) → Ok y ≡ x → Proper y) → Ok c ≡ added h b i x → BodyProper c
added_proper h b c i x k p e = let a = ok_of x _ c e in add_type_proper h b c i a.0 k (p a.0 (sym a.1)) a.2

item_type_proper : (h : Holder) (b c : Body) (d : t.ItemTypeDecl) → BodyProper b → Ok c ≡ item_type h b d → BodyProper c
item_type_proper h b c (t.ItemTypeDecl.resource d) k e = resource_decl_proper h b c d k e
item_type_proper h b c (t.ItemTypeDecl.variant d) k e = added_proper h b c d.id (variant_decl b.names d) k (λ y q. (variant_declared b.names d y k.names q).is) e
item_type_proper h b c (t.ItemTypeDecl.record_ d) k e = added_proper h b c d.id (record_decl b.names d) k (λ y q. (record_declared b.names d y k.names q).is) e
item_type_proper h b c (t.ItemTypeDecl.flags d) k e = added_proper h b c d.id (flags_decl d) k (λ y q. (flags_declared d y q).is) e
item_type_proper h b c (t.ItemTypeDecl.enum d) k e = added_proper h b c d.id (enum_decl d) k (λ y q. (enum_declared d y q).is) e
item_type_proper h b c (t.ItemTypeDecl.alias d) k e = added_proper h b c d.id (type_alias false b.names d) k (λ y q. alias_in_body b.names d y k.names q) e

-- ---- interfaces

export_item_proper : (h : Holder) (b c : Body) (x : t.InterfaceExport) → BodyProper b → Ok c ≡ export_item h b x → BodyProper c
export_item_proper h b c x k e =
    let a = ok_of (func_ref b.names x.ty) _ c e in
    let q = then_ok (unless_clear (has b.items x.id.string) (h.duplicate x.id.string) x.id.span) _ c a.2 in
    subst BodyProper (sym (ok_is c (with_item b x.id.string a.0) q)) (item_more b x.id.string a.0 k (func_ref_proper b.names x.ty a.0 k.names (sym a.1)))

interface_item_proper : (g : Context) (h : Holder) (b c : Body) (x : t.InterfaceItem) → ContextProper g → BodyProper b → i.interface_item g h b x ≡ Ok c → BodyProper c
interface_item_proper g h b c (t.InterfaceItem.use_ u) f k e = use_types_proper g h b c u f k (sym e)
interface_item_proper g h b c (t.InterfaceItem.ty d) f k e = item_type_proper h b c d k (sym e)
interface_item_proper g h b c (t.InterfaceItem.export x) f k e = export_item_proper h b c x k (sym e)

interface_body_proper : (g : Context) (name id : Option Name) (xs : List t.InterfaceItem) (y : Stated) → ContextProper g → Ok y ≡ interface_body g name id xs → Proper y
interface_body_proper g name id xs y h e =
    let a = ok_of (each (i.interface_item g (exporting name)) no_body xs) _ y e in
    let b = each_keeps (i.interface_item g (exporting name)) BodyProper (λ f c x k q. interface_item_proper g (exporting name) f c x h k q) no_body a.0 xs nothing_proper (sym a.1) in
    subst Proper (sym (ok_is y (interface_of id a.0.uses a.0.items) a.2)) (interface_proper id a.0.uses a.0.items b.uses b.items)

pub inline_proper : (g : Context) (d : t.InlineInterface) (y : Stated) → ContextProper g → Ok y ≡ inline_interface g d → Proper y
inline_proper g d y h e = interface_body_proper g None None d.items y h e

-- ---- worlds

both_scopes : (ns ms : Scope) → ScopeProper ns → ScopeProper ms → ScopeProper (ns ++ ms)
both_scopes ns ms h k n m e = go (value_at ns n) refl (sym (value_both ns ms n) ∙ e)
  where
    go : (o : Option Meant) → value_at ns n ≡ o → option_or o (value_at ms n) ≡ Some m → Proper m.item
    go (Some u) q r = subst (λ (x : Meant). Proper x.item) (same_Some _ _ r) (h n u q)
    go None q r = k n m r

extern_by_proper : (k : Kind) (i : t.Ident) (x y : Stated) → Proper x → Ok y ≡ extern_by k i x → Proper y
extern_by_proper IsInterface i x y h e = subst Proper (sym (ok_is y (untyped x) e)) (untyped_proper x h)
extern_by_proper IsFunctionType i x y h e = subst Proper (sym (ok_is y (untyped x) e)) (untyped_proper x h)
extern_by_proper IsFunction i x y h e = absurd (err_ok _ y e)
extern_by_proper IsInstance i x y h e = absurd (err_ok _ y e)
extern_by_proper IsComponent i x y h e = absurd (err_ok _ y e)
extern_by_proper IsModule i x y h e = absurd (err_ok _ y e)
extern_by_proper IsValue i x y h e = absurd (err_ok _ y e)
extern_by_proper IsResource i x y h e = absurd (err_ok _ y e)
extern_by_proper IsValueType i x y h e = absurd (err_ok _ y e)
extern_by_proper IsWorld i x y h e = absurd (err_ok _ y e)
extern_by_proper IsModuleType i x y h e = absurd (err_ok _ y e)

extern_proper : (g : Context) (ns : Scope) (x : t.ExternType) (y : Stated) → ContextProper g → ScopeProper ns → Ok y ≡ extern_type g ns x → Proper y
extern_proper g ns (t.ExternType.ident i) y h k e =
    let a = ok_of (named (ns ++ g.root) i) _ y e in
    extern_by_proper (kind_of a.0) i a.0 y (named_proper (ns ++ g.root) i a.0 (both_scopes ns g.root k h.root) (sym a.1)) a.2
extern_proper g ns (t.ExternType.func f) y h k e = free_proper ns k f y e
extern_proper g ns (t.ExternType.interface d) y h k e = inline_proper g d y h e

world_interface_proper : (g : Context) (w : Name) (kind : ExternKind) (stand r : Items) (p : Path) → ContextProper g → AllItems stand → Ok r ≡ interface_at_path g w kind stand p → AllItems r
world_interface_proper g w kind stand r p h k e =
    let a = ok_of (interface_at g p) _ r e in
    let n = ok_of (with_identifier w (identifier_of a.0)) _ r a.2 in
    let q = then_ok (unless_clear (has stand n.0) (DuplicateWorldItem kind n.0 w) (path_span p)) _ r n.2 in
    subst AllItems (sym (ok_is r (stand ++ (n.0, untyped a.0) ∷ []) q)) (more_items stand (n.0, untyped a.0) k (untyped_proper a.0 (interface_at_proper g p a.0 h (sym a.1))))

world_item_proper : (g : Context) (ns : Scope) (w : Name) (kind : ExternKind) (stand r : Items) (x : t.WorldItemPath) → ContextProper g → ScopeProper ns → AllItems stand → Ok r ≡ world_item g ns w kind stand x → AllItems r
world_item_proper g ns w kind stand r (t.WorldItemPath.named i) h n k e =
    let q = then_ok (unless_clear (has stand i.id.string) (DuplicateWorldItem kind i.id.string w) i.id.span) _ r e in
    let a = ok_of (extern_type g ns i.ty) _ r q in
    subst AllItems (sym (ok_is r (stand ++ (i.id.string, a.0) ∷ []) a.2)) (more_items stand (i.id.string, a.0) k (extern_proper g ns i.ty a.0 h n (sym a.1)))
world_item_proper g ns w kind stand r (t.WorldItemPath.package_path p) h n k e = world_interface_proper g w kind stand r (in_package p) h k e
world_item_proper g ns w kind stand r (t.WorldItemPath.ident i) h n k e = world_interface_proper g w kind stand r (at_root i) h k e

world_part_proper : (g : Context) (w : Name) (b c : Body) (x : t.WorldItem) → ContextProper g → BodyProper b → world_part g w b x ≡ Ok c → BodyProper c
world_part_proper g w b c (t.WorldItem.use_ u) h k e = use_types_proper g (importing w) b c u h k (sym e)
world_part_proper g w b c (t.WorldItem.ty d) h k e = item_type_proper (importing w) b c d k (sym e)
world_part_proper g w b c (t.WorldItem.import i) h k e =
    let a = ok_of (world_item g b.names w ExternKind.Import b.items i.path) _ c (sym e) in
    subst BodyProper (sym (ok_is c (with_imports b a.0) a.2)) (record { names = k.names; uses = k.uses; items = world_item_proper g b.names w ExternKind.Import b.items a.0 i.path h k.names k.items (sym a.1); exports = k.exports })
world_part_proper g w b c (t.WorldItem.export x) h k e =
    let a = ok_of (world_item g b.names w ExternKind.Export b.exports x.path) _ c (sym e) in
    subst BodyProper (sym (ok_is c (with_exports b a.0) a.2)) (record { names = k.names; uses = k.uses; items = k.items; exports = world_item_proper g b.names w ExternKind.Export b.exports a.0 x.path h k.names k.exports (sym a.1) })
world_part_proper g w b c (t.WorldItem.include i) h k e = subst BodyProper (ok_is b c e) k

-- ---- includes

world_by_proper : (k : Kind) (p : Path) (x y : Stated) → Proper x → Ok y ≡ world_by k p x → Proper y
world_by_proper IsWorld p x y h e = subst Proper (sym (ok_is y (untyped x) e)) (untyped_proper x h)
world_by_proper IsComponent p x y h e = subst Proper (sym (ok_is y x e)) h
world_by_proper IsFunction p x y h e = absurd (err_ok _ y e)
world_by_proper IsInstance p x y h e = absurd (err_ok _ y e)
world_by_proper IsModule p x y h e = absurd (err_ok _ y e)
world_by_proper IsValue p x y h e = absurd (err_ok _ y e)
world_by_proper IsResource p x y h e = absurd (err_ok _ y e)
world_by_proper IsFunctionType p x y h e = absurd (err_ok _ y e)
world_by_proper IsValueType p x y h e = absurd (err_ok _ y e)
world_by_proper IsInterface p x y h e = absurd (err_ok _ y e)
world_by_proper IsModuleType p x y h e = absurd (err_ok _ y e)

world_at_proper : (g : Context) (p : Path) (y : Stated) → ContextProper g → Ok y ≡ world_at g p → Proper y
world_at_proper g p y h e = let a = ok_of (at_path g p) _ y e in world_by_proper (kind_of a.0) p a.0 y (at_proper g p a.0 h (sym a.1)) a.2

include_at_proper : (w : Name) (p : Path) (help : Bool) (kind : ExternKind) (stand r : Items) (x : Stated) (i : t.Ident) → AllItems stand → Proper x → Ok r ≡ include_at w p help kind stand x i → AllItems r
include_at_proper w p help kind stand r x i h k e =
    subst AllItems (sym (ok_is r (stand ++ (i.string, x) ∷ []) (then_ok (unless_clear (has stand i.string) (WorldIncludeConflict kind i.string (path_text p) w help) i.span) _ r e))) (more_items stand (i.string, x) h k)

include_one_proper : (w : Name) (p : Path) (help : Bool) (ws : List t.WorldIncludeItem) (kind : ExternKind) (stand r : Items) (x : Name × Stated) → AllItems stand → Proper x.1 → include_one w p help ws kind stand x ≡ Ok r → AllItems r
include_one_proper w p help ws kind stand r x h k e = go (has_colon x.0) (sym e)
  where
    kept : (b : Bool) → AllItems (cond b stand (stand ++ x ∷ []))
    kept true = h
    kept false = more_items stand x h k

    go : (b : Bool) → Ok r ≡ cond b (pure (cond (has stand x.0) stand (stand ++ x ∷ []))) (include_at w p help kind stand x.1 (or_itself p x.0 (renaming ws x.0))) → AllItems r
    go true q = subst AllItems (sym (ok_is r (cond (has stand x.0) stand (stand ++ x ∷ [])) q)) (kept (has stand x.0))
    go false q = include_at_proper w p help kind stand r x.1 (or_itself p x.0 (renaming ws x.0)) h k q

-- of each item that is included
include_all_proper : (w : Name) (p : Path) (help : Bool) (ws : List t.WorldIncludeItem) (kind : ExternKind) (stand r xs : Items) → AllItems stand → AllItems xs → Ok r ≡ each (include_one w p help ws kind) stand xs → AllItems r
include_all_proper w p help ws kind stand r [] h k e = subst AllItems (sym (ok_is r stand e)) h
include_all_proper w p help ws kind stand r (x ∷ xs) h k e =
    let a = ok_of (include_one w p help ws kind stand x) _ r e in
    include_all_proper w p help ws kind a.0 r xs (include_one_proper w p help ws kind stand a.0 x h (k x (inl refl)) a.1) (λ y m. k y (inr m)) a.2

include_proper : (g : Context) (w : Name) (b c : Body) (p : Path) (ws : List t.WorldIncludeItem) → ContextProper g → BodyProper b → Ok c ≡ include_world g w b p ws → BodyProper c
include_proper g w b c p ws h k e =
    let q = then_ok (each with_name [] ws) _ c e in
    let x = ok_of (world_at g p) _ c q in
    let world = world_at_proper g p x.0 h (sym x.1) in
    let is = ok_of (each (include_one w p (is_empty ws) ws ExternKind.Import) b.items (imports_of x.0)) _ c x.2 in
    let es = ok_of (each (include_one w p (is_empty ws) (left_for_exports x.0 ws) ExternKind.Export) b.exports (exports_of x.0)) _ c is.2 in
    let r = then_ok (each (unmet p x.0) tt ws) _ c es.2 in
    subst BodyProper (sym (ok_is c (record { names = b.names; uses = b.uses; items = is.0; exports = es.0 }) r)) (record {
      names = k.names;
      uses = k.uses;
      items = include_all_proper w p (is_empty ws) ws ExternKind.Import b.items is.0 (imports_of x.0) k.items (imports_proper x.0 world) (sym is.1);
      exports = include_all_proper w p (is_empty ws) (left_for_exports x.0 ws) ExternKind.Export b.exports es.0 (exports_of x.0) k.exports (exports_proper x.0 world) (sym es.1);
    })

world_include_proper : (g : Context) (w : Name) (b c : Body) (x : t.WorldItem) → ContextProper g → BodyProper b → world_include g w b x ≡ Ok c → BodyProper c
world_include_proper g w b c (t.WorldItem.include i) h k e = include_proper g w b c (world_path i.world) i.with h k (sym e)
world_include_proper g w b c (t.WorldItem.use_ u) h k e = subst BodyProper (ok_is b c e) k
world_include_proper g w b c (t.WorldItem.ty d) h k e = subst BodyProper (ok_is b c e) k
world_include_proper g w b c (t.WorldItem.import i) h k e = subst BodyProper (ok_is b c e) k
world_include_proper g w b c (t.WorldItem.export x) h k e = subst BodyProper (ok_is b c e) k

world_decl_proper : (g : Context) (d : t.WorldDecl) (y : Stated) → ContextProper g → Ok y ≡ world_decl g d → Proper y
world_decl_proper g d y h e =
    let a = ok_of (world_body g d.id.string d.items) _ y e in
    let p = ok_of (each (world_part g d.id.string) no_body d.items) _ a.0 (sym a.1) in
    let parts = each_keeps (world_part g d.id.string) BodyProper (λ f c x k q. world_part_proper g d.id.string f c x h k q) no_body p.0 d.items nothing_proper (sym p.1) in
    let all = each_keeps (world_include g d.id.string) BodyProper (λ f c x k q. world_include_proper g d.id.string f c x h k q) p.0 a.0 d.items parts p.2 in
    subst Proper (sym (ok_is y (world_of (Some (identifier g.own d.id.string)) a.0.uses a.0.items a.0.exports) a.2)) (world_proper (Some (identifier g.own d.id.string)) a.0.uses a.0.items a.0.exports all.uses all.items all.exports)

-- ---- statements

pub statement_declared : (g : Context) (x : t.TypeStatement) (y : Stated) → ContextProper g → Ok y ≡ type_statement g x → IsDeclared y
statement_declared g (t.TypeStatement.interface d) y h e =
    let a = ok_of (interface_decl g d) _ y e in
    subst IsDeclared (sym (ok_is y (as_type a.0) a.2)) (record { is = typed_proper a.0 (interface_body_proper g (Some d.id.string) (Some (identifier g.own d.id.string)) d.items a.0 h (sym a.1)); typed = typed_is a.0 })
statement_declared g (t.TypeStatement.world d) y h e =
    let a = ok_of (world_decl g d) _ y e in
    subst IsDeclared (sym (ok_is y (as_type a.0) a.2)) (record { is = typed_proper a.0 (world_decl_proper g d a.0 h (sym a.1)); typed = typed_is a.0 })
statement_declared g (t.TypeStatement.ty d) y h e = type_decl_proper g.root d y h.root e
