-- Worlds and declarations state the same whatever the spans are, and over packages that are the same where they are named.
use Rattle.std.specs.Prelude.{Bool, true, false, not, ◌||◌, ◌==◌, cond, List, [], ◌∷◌, ◌++◌, map, Option, Some, None, option_map, ⊤}
use Rattle.std.specs.List.{flat_map}
use Rattle.std.specs.Cmp.Lexicographic.{pointwise}
use Rattle.std.proofs.Common.{◌≡◌, refl, sym, ap, subst}
use Rattle.std.proofs.lemmas.List.{map-append}
use Rattle.wac_types_base.specs.declared.item.ExternKind.{ExternKind}
use Rattle.wac_types_base.specs.Entries.{Name, has_name}
use Rattle.wac_types_base.specs.Stated.{Stated, Kind, IsFunction, IsInstance, IsComponent, IsModule, IsValue, IsResource, IsFunctionType, IsValueType, IsInterface, IsWorld, IsModuleType, kind_of, untyped, as_type, world_of, exports_of, imports_of, identifier_of}
use Rattle.wac_types_names.specs.Keys.{Key}
use Rattle.wac_parser_tree.specs.Trees as t
use Rattle.wac_parser_tree.specs.Trees.{Span}
use Rattle.wac_parser_tree.specs.Bare.{bare_ident, bare_extern_type, bare_item_path, bare_world_ref, bare_include_item, bare_world_item, bare_world, bare_type_statement}
use Rattle.wac_parser_tree.specs.Named.{in_extern_type, in_item_path, in_world_ref, in_world_item, in_type_statement}
use Rattle.wac_parser_refusals.specs.Causes.{pure, each}
use Rattle.wac_parser_refusals.proofs.Alike.{IsAlike, both, neither, itself, AreSame, then_alike, next_alike, clear_alike, each_alike, each_same, each_named}
use Rattle.wac_parser_declare.specs.Scope.{Scope, Meant, Context, Path, in_package, at_root, has, named, world_path, identifier}
use Rattle.wac_parser_declare.specs.Bodies.{Items, Body, no_body}
use Rattle.wac_parser_declare.specs.Worlds.{extern_by, extern_type, with_identifier, interface_added, world_item, importing, with_imports, with_exports, world_part, world_by, world_at, with_name, renaming, has_colon, or_itself, include_at, include_one, is_empty, left_for_exports, unmet, include_items, include_world, world_include, world_body, world_decl, type_statement, interface_at_path}
use Rattle.wac_parser_declare.proofs.AlikeScopes.{bare_meant, bare_scope, named_alike, IsSameIn, AreSameIn, bare_context, bare_path, in_any_path, at_alike}
use Rattle.wac_parser_declare.proofs.AlikeTypes.{free_alike, type_decl_alike}
use Rattle.wac_parser_declare.proofs.AlikeBodies.{bare_body, interface_at_alike, use_types_alike, item_type_alike, inline_alike, interface_alike}

-- ---- items

extern_by_alike : (k : Kind) (i : t.Ident) (x : Stated) → AreSame (extern_by k i x) (extern_by k (bare_ident i) x)
extern_by_alike IsInterface i x = both (untyped x)
extern_by_alike IsFunctionType i x = both (untyped x)
extern_by_alike IsFunction i x = neither _ _
extern_by_alike IsInstance i x = neither _ _
extern_by_alike IsComponent i x = neither _ _
extern_by_alike IsModule i x = neither _ _
extern_by_alike IsValue i x = neither _ _
extern_by_alike IsResource i x = neither _ _
extern_by_alike IsValueType i x = neither _ _
extern_by_alike IsWorld i x = neither _ _
extern_by_alike IsModuleType i x = neither _ _

with_identifier_same : (world : Name) (o : Option Name) → AreSame (with_identifier world o) (with_identifier world o)
with_identifier_same world None = neither _ _
with_identifier_same world (Some n) = both n

interface_added_alike : (world : Name) (kind : ExternKind) (stand : Items) (s z : Span) (x : Stated) → AreSame (interface_added world kind stand s x) (interface_added world kind stand z x)
interface_added_alike world kind stand s z x = then_alike _ _ (with_identifier_same world (identifier_of x))
    (λ n. next_alike (clear_alike (has stand n) _ _ _ _) (both (stand ++ (n, untyped x) ∷ [])))

module _ (c : Context) (qs : List (Key × Stated)) where
  extern_type_alike : (ns : Scope) (x : t.ExternType) → AreSameIn c.packages qs (in_extern_type x) → AreSame (extern_type c ns x) (extern_type (bare_context qs c) (bare_scope ns) (bare_extern_type x))
  extern_type_alike ns (t.ExternType.ident i) h = then_alike _ _
      (subst (λ (ms : Scope). AreSame (named (ns ++ c.root) i) (named ms (bare_ident i))) (map-append (λ (e : Name × Meant). (e.0, bare_meant e.1)) ns c.root) (named_alike (ns ++ c.root) i))
      (λ x. extern_by_alike (kind_of x) i x)
  extern_type_alike ns (t.ExternType.func f) h = free_alike ns f
  extern_type_alike ns (t.ExternType.interface d) h = inline_alike c qs d h

  interface_item_alike : (world : Name) (kind : ExternKind) (stand : Items) (p : Path) → AreSameIn c.packages qs (in_any_path p) → AreSame (interface_at_path c world kind stand p) (interface_at_path (bare_context qs c) world kind stand (bare_path p))
  interface_item_alike world kind stand p h = then_alike _ _ (interface_at_alike c qs p h) (λ x. interface_added_alike world kind stand _ _ x)

  world_item_alike : (ns : Scope) (world : Name) (kind : ExternKind) (stand : Items) (i : t.WorldItemPath) → AreSameIn c.packages qs (in_item_path i) → AreSame (world_item c ns world kind stand i) (world_item (bare_context qs c) (bare_scope ns) world kind stand (bare_item_path i))
  world_item_alike ns world kind stand (t.WorldItemPath.named i) h = next_alike (clear_alike (has stand i.id.string) _ _ _ _)
      (then_alike _ _ (extern_type_alike ns i.ty h) (λ x. both (stand ++ (i.id.string, x) ∷ [])))
  world_item_alike ns world kind stand (t.WorldItemPath.package_path p) h = interface_item_alike world kind stand (in_package p) h
  world_item_alike ns world kind stand (t.WorldItemPath.ident i) h = interface_item_alike world kind stand (at_root i) h

  world_part_alike : (w : Name) (b : Body) (i : t.WorldItem) → AreSameIn c.packages qs (in_world_item i) → IsAlike itself bare_body (world_part c w b i) (world_part (bare_context qs c) w (bare_body b) (bare_world_item i))
  world_part_alike w b (t.WorldItem.use_ u) h = use_types_alike c qs (importing w) b u h
  world_part_alike w b (t.WorldItem.ty d) h = item_type_alike (importing w) b d
  world_part_alike w b (t.WorldItem.import i) h =
      then_alike _ _ (world_item_alike b.names w ExternKind.Import b.items i.path h) (λ xs. both (with_imports b xs))
  world_part_alike w b (t.WorldItem.export e) h =
      then_alike _ _ (world_item_alike b.names w ExternKind.Export b.exports e.path h) (λ xs. both (with_exports b xs))
  world_part_alike w b (t.WorldItem.include i) h = both b

-- ---- includes

world_by_alike : (k : Kind) (p q : Path) (x : Stated) → AreSame (world_by k p x) (world_by k q x)
world_by_alike IsWorld p q x = both (untyped x)
world_by_alike IsComponent p q x = both x
world_by_alike IsFunction p q x = neither _ _
world_by_alike IsInstance p q x = neither _ _
world_by_alike IsModule p q x = neither _ _
world_by_alike IsValue p q x = neither _ _
world_by_alike IsResource p q x = neither _ _
world_by_alike IsFunctionType p q x = neither _ _
world_by_alike IsValueType p q x = neither _ _
world_by_alike IsInterface p q x = neither _ _
world_by_alike IsModuleType p q x = neither _ _

with_name_alike : (found : List Name) (w : t.WorldIncludeItem) → AreSame (with_name found w) (with_name found (bare_include_item w))
with_name_alike found w = next_alike (clear_alike (has_name found w.from.string) _ _ _ _) (both (found ++ w.from.string ∷ []))

renaming_bare : (ws : List t.WorldIncludeItem) (n : Name) → renaming (map bare_include_item ws) n ≡ option_map bare_ident (renaming ws n)
renaming_bare [] n = refl
renaming_bare (w ∷ ws) n = go (pointwise ◌==◌ n w.from.string) (renaming_bare ws n)
  where
    go : (b : Bool) → renaming (map bare_include_item ws) n ≡ option_map bare_ident (renaming ws n)
        → cond b (Some (bare_ident w.to)) (renaming (map bare_include_item ws) n) ≡ option_map bare_ident (cond b (Some w.to) (renaming ws n))
    go true e = refl
    go false e = e

include_at_alike : (world : Name) (p q : Path) (help told : Bool) (kind : ExternKind) (stand : Items) (x : Stated) (n : Name) (o : Option t.Ident) → AreSame (include_at world p help kind stand x (or_itself p n o)) (include_at world q told kind stand x (or_itself q n (option_map bare_ident o)))
include_at_alike world p q help told kind stand x n None = next_alike (clear_alike (has stand n) _ _ _ _) (both (stand ++ (n, x) ∷ []))
include_at_alike world p q help told kind stand x n (Some i) = next_alike (clear_alike (has stand i.string) _ _ _ _) (both (stand ++ (i.string, x) ∷ []))

include_one_alike : (world : Name) (p q : Path) (help told : Bool) (ws : List t.WorldIncludeItem) (kind : ExternKind) (stand : Items) (e : Name × Stated) → AreSame (include_one world p help ws kind stand e) (include_one world q told (map bare_include_item ws) kind stand e)
include_one_alike world p q help told ws kind stand e = go (has_colon e.0)
  where
    go : (b : Bool) → AreSame
        (cond b (pure (cond (has stand e.0) stand (stand ++ e ∷ []))) (include_at world p help kind stand e.1 (or_itself p e.0 (renaming ws e.0))))
        (cond b (pure (cond (has stand e.0) stand (stand ++ e ∷ []))) (include_at world q told kind stand e.1 (or_itself q e.0 (renaming (map bare_include_item ws) e.0))))
    go true = both (cond (has stand e.0) stand (stand ++ e ∷ []))
    go false = subst (λ (o : Option t.Ident). AreSame (include_at world p help kind stand e.1 (or_itself p e.0 (renaming ws e.0))) (include_at world q told kind stand e.1 (or_itself q e.0 o)))
        (sym (renaming_bare ws e.0)) (include_at_alike world p q help told kind stand e.1 e.0 (renaming ws e.0))

left_bare : (x : Stated) (ws : List t.WorldIncludeItem) → left_for_exports x (map bare_include_item ws) ≡ map bare_include_item (left_for_exports x ws)
left_bare x [] = refl
left_bare x (w ∷ ws) = go (has_colon w.from.string || not (has (imports_of x) w.from.string)) (left_bare x ws)
  where
    go : (b : Bool) → left_for_exports x (map bare_include_item ws) ≡ map bare_include_item (left_for_exports x ws)
        → cond b (bare_include_item w ∷ left_for_exports x (map bare_include_item ws)) (left_for_exports x (map bare_include_item ws)) ≡ map bare_include_item (cond b (w ∷ left_for_exports x ws) (left_for_exports x ws))
    go true e = ap (λ vs. bare_include_item w ∷ vs) e
    go false e = e

unmet_alike : (p q : Path) (x : Stated) (u : ⊤) (w : t.WorldIncludeItem) → AreSame (unmet p x u w) (unmet q x u (bare_include_item w))
unmet_alike p q x u w = clear_alike (has_colon w.from.string || not (has (imports_of x) w.from.string || has (exports_of x) w.from.string)) _ _ _ _

include_items_alike : (world : Name) (b : Body) (p q : Path) (ws : List t.WorldIncludeItem) (x : Stated) → IsAlike itself bare_body (include_items world b p ws x) (include_items world (bare_body b) q (map bare_include_item ws) x)
include_items_alike world b p q ws x =
    then_alike _ _ (each_same {f = itself} {g = itself} _ _ (λ stand e. include_one_alike world p q _ _ ws ExternKind.Import stand e) b.items (imports_of x))
    (λ is. then_alike _ _ (exports_alike (left_for_exports x (map bare_include_item ws)) (left_bare x ws))
    (λ es. next_alike (each_alike {f = itself} {g = itself} bare_include_item (unmet p x) (unmet q x) (unmet_alike p q x) tt ws)
    (both (record { names = b.names; uses = b.uses; items = is; exports = es }))))
  where
    exports_alike : (vs : List t.WorldIncludeItem) → vs ≡ map bare_include_item (left_for_exports x ws)
        → AreSame (each (include_one world p (is_empty ws) (left_for_exports x ws) ExternKind.Export) b.exports (exports_of x)) (each (include_one world q (is_empty (map bare_include_item ws)) vs ExternKind.Export) b.exports (exports_of x))
    exports_alike vs e = subst (λ (vs : List t.WorldIncludeItem). AreSame (each (include_one world p (is_empty ws) (left_for_exports x ws) ExternKind.Export) b.exports (exports_of x)) (each (include_one world q (is_empty (map bare_include_item ws)) vs ExternKind.Export) b.exports (exports_of x)))
        (sym e) (each_same {f = itself} {g = itself} _ _ (λ stand e. include_one_alike world p q _ _ (left_for_exports x ws) ExternKind.Export stand e) b.exports (exports_of x))

module _ (c : Context) (qs : List (Key × Stated)) where
  world_at_alike : (p : Path) → AreSameIn c.packages qs (in_any_path p) → AreSame (world_at c p) (world_at (bare_context qs c) (bare_path p))
  world_at_alike p h = then_alike _ _ (at_alike c qs p h) (λ x. world_by_alike (kind_of x) p (bare_path p) x)

  include_world_alike : (world : Name) (b : Body) (p : Path) (ws : List t.WorldIncludeItem) → AreSameIn c.packages qs (in_any_path p) → IsAlike itself bare_body (include_world c world b p ws) (include_world (bare_context qs c) world (bare_body b) (bare_path p) (map bare_include_item ws))
  include_world_alike world b p ws h = next_alike (each_alike {f = itself} {g = itself} bare_include_item with_name with_name with_name_alike [] ws)
      (then_alike _ _ (world_at_alike p h) (λ x. include_items_alike world b p (bare_path p) ws x))

  world_include_alike : (w : Name) (b : Body) (i : t.WorldItem) → AreSameIn c.packages qs (in_world_item i) → IsAlike itself bare_body (world_include c w b i) (world_include (bare_context qs c) w (bare_body b) (bare_world_item i))
  world_include_alike w b (t.WorldItem.use_ u) h = both b
  world_include_alike w b (t.WorldItem.ty d) h = both b
  world_include_alike w b (t.WorldItem.import i) h = both b
  world_include_alike w b (t.WorldItem.export e) h = both b
  world_include_alike w b (t.WorldItem.include i) h = go i.world h
    where
      go : (r : t.WorldRef) → AreSameIn c.packages qs (in_world_ref r) → IsAlike itself bare_body (include_world c w b (world_path r) i.with) (include_world (bare_context qs c) w (bare_body b) (world_path (bare_world_ref r)) (map bare_include_item i.with))
      go (t.WorldRef.ident j) h = include_world_alike w b (at_root j) i.with h
      go (t.WorldRef.package_path p) h = include_world_alike w b (in_package p) i.with h

  world_body_alike : (w : Name) (is : List t.WorldItem) → AreSameIn c.packages qs (flat_map in_world_item is) → IsAlike itself bare_body (world_body c w is) (world_body (bare_context qs c) w (map bare_world_item is))
  world_body_alike w is h = then_alike _ _
      (each_named (IsSameIn c.packages qs) {f = itself} {g = bare_body} in_world_item bare_world_item (world_part c w) (world_part (bare_context qs c) w) (world_part_alike c qs w) no_body is h)
      (λ b. each_named (IsSameIn c.packages qs) {f = itself} {g = bare_body} in_world_item bare_world_item (world_include c w) (world_include (bare_context qs c) w) (world_include_alike w) b is h)

  world_alike : (d : t.WorldDecl) → AreSameIn c.packages qs (flat_map in_world_item d.items) → AreSame (world_decl c d) (world_decl (bare_context qs c) (bare_world d))
  world_alike d h = then_alike _ _ (world_body_alike d.id.string d.items h)
      (λ b. both (world_of (Some (identifier c.own d.id.string)) b.uses b.items b.exports))

  -- ---- statements

  pub type_statement_alike : (x : t.TypeStatement) → AreSameIn c.packages qs (in_type_statement x) → AreSame (type_statement c x) (type_statement (bare_context qs c) (bare_type_statement x))
  type_statement_alike (t.TypeStatement.interface d) h = then_alike _ _ (interface_alike c qs d h) (λ x. both (as_type x))
  type_statement_alike (t.TypeStatement.world d) h = then_alike _ _ (world_alike d h) (λ x. both (as_type x))
  type_statement_alike (t.TypeStatement.ty d) h = type_decl_alike c.root d
