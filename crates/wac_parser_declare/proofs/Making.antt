-- What interfaces and worlds that are made of a body state; types of things; names of a body before those of the root.
use Rattle.std.proofs.Common.{◌≡◌, ◌==◌, if◌then◌else◌, Bool, true, false, List, [], ◌∷◌, ◌++◌, map, Option, Some, None, IfOk, IfSome, option_map, Result, Ok, Err, refl, sym, ap, subst, ◌∙◌}
use Rattle.std.specs.Cmp.Lexicographic.{pointwise}
use Rattle.std.specs.declared.alloc.AllocError.{AllocError}
use Rattle.wac_types_base.specs.declared.item.ItemKind.{ItemKind}
use Rattle.wac_types_base.specs.declared.item.«Type».{«Type» as TypeKind}
use Rattle.wac_types_base.specs.declared.defined.UsedType.{UsedType}
use Rattle.wac_types_base.specs.declared.ids.FuncTypeId.{FuncTypeId}
use Rattle.wac_types_base.specs.declared.ids.InterfaceId.{InterfaceId}
use Rattle.wac_types_base.specs.declared.ids.WorldId.{WorldId}
use Rattle.wac_types_base.specs.Record.{Collection}
use Rattle.wac_types_base.specs.Collection.{Grows, IsAcyclic, Slot, Stands, interface, interface_entry, item_node, items, use_names, used, world, world_entry}
use Rattle.wac_types_base.specs.Entries.{Name, names_of, value_at, with_values}
use Rattle.wac_types_base.specs.Stated.{Stated, desc, filled, kind_of, names, names_used, over, stated_of, used_places, stated_use}
use Rattle.wac_types_base.proofs.Slots.{stands_typed_func, stands_typed_interface}
use Rattle.wac_types_base.proofs.Telling.{item_kind, kind_stated, untyped_stated}
use Rattle.wac_types_base.proofs.Stating.{value_with}
use Rattle.wac_parser_tree.specs.Trees as t
use Rattle.wac_parser_tree.specs.Trees.{Span}
use Rattle.wac_parser_refusals.specs.declared.refusal.Refusal.{Refusal}
use Rattle.wac_parser_refusals.specs.Causes.{NotFuncOrInterface, UndefinedName, present}
use Rattle.wac_parser_refusals.specs.Outcomes.{IsHeld, IsOutcome, IsRefusal, Refuses}
use Rattle.wac_parser_declare.specs.declared.bodies.Body.{Body}
use Rattle.wac_parser_declare.specs.declared.scope.Binding.{Binding}
use Rattle.wac_parser_declare.specs.Held.{BodyStands, stated_body}
use Rattle.wac_parser_declare.specs.Holding.{Holds, meant_by, scope_of}
use Rattle.wac_parser_declare.specs.InPaths.{AWorld}
use Rattle.wac_parser_declare.specs.Making.{AnInstance, IsInterfaceMade, IsTypeOf, IsWorldMade, interface_with, world_with}
use Rattle.wac_parser_declare.specs.Scope.{Meant, meant}
use Rattle.wac_parser_declare.specs.Worlds.{extern_by}
use Rattle.wac_parser_declare.specs.Bodies as stated
use Rattle.wac_parser_declare.proofs.InBodies.{body-kept}
use Rattle.wac_parser_declare.proofs.Kept.{entry_holds}

-- ---- what is made of a body

module _ (c : Collection) where
  used_named : (us : List (Name × UsedType)) → names_used (map (stated_use c) us) ≡ use_names us
  used_named [] = refl
  used_named (u ∷ us) = ap (λ ns. (u.0, u.1.name) ∷ ns) (used_named us)

  used_placed : (us : List (Name × UsedType)) → map (option_map (stated_of c)) (used us) ≡ used_places (map (stated_use c) us)
  used_placed [] = refl
  used_placed (u ∷ us) = ap (λ os. Some (stated_of c (ItemKind.Instance u.1.interface)) ∷ os) (used_placed us)

  items_named : (xs : List (Name × ItemKind)) → names (with_values (stated_of c) xs) ≡ names_of xs
  items_named [] = refl
  items_named (x ∷ xs) = ap (λ ns. x.0 ∷ ns) (items_named xs)

  items_placed : (xs : List (Name × ItemKind)) → map (option_map (stated_of c)) (items xs) ≡ filled (with_values (stated_of c) xs)
  items_placed [] = refl
  items_placed (x ∷ xs) = ap (λ os. Some (stated_of c x.1) ∷ os) (items_placed xs)

  both_placed : (xs ys : List Slot) (os ps : List (Option Stated)) → map (option_map (stated_of c)) xs ≡ os → map (option_map (stated_of c)) ys ≡ ps → map (option_map (stated_of c)) (xs ++ ys) ≡ os ++ ps
  both_placed [] ys os ps e f = f ∙ ap (λ (qs : List (Option Stated)). qs ++ ps) e
  both_placed (x ∷ xs) ys os ps e f = ap (λ (qs : List (Option Stated)). option_map (stated_of c) x ∷ qs) (both_placed xs ys (map (option_map (stated_of c)) xs) ps refl f) ∙ ap (λ (qs : List (Option Stated)). qs ++ ps) e

  module _ (a : IsAcyclic c) (b : Body) where
    -- an interface states what its entry is made of
    pub interface_made : (id : Option Name) (i : InterfaceId) → item_node c (ItemKind.Instance i) ≡ Some (interface_entry (record { id = id; uses = b.uses; exports = b.items })) → AnInstance c (interface_with id (stated_body c b)) i
    interface_made id i is =
        let xs = with_values (stated_of c) b.items in
        let os : List (Option Stated) = used_places (map (stated_use c) b.uses) ++ filled xs in
        let placed = both_placed (used b.uses) (items b.items) _ _ (used_placed b.uses) (items_placed b.items) in
        subst (λ ns. Holds c (over (interface id ns (names xs)) os) (ItemKind.Instance i)) (sym (used_named b.uses))
        (subst (λ ns. Holds c (over (interface id (use_names b.uses) ns) os) (ItemKind.Instance i)) (sym (items_named b.items))
        (entry_holds c a (ItemKind.Instance i) (interface id (use_names b.uses) (names_of b.items)) (used b.uses ++ items b.items) os is placed))

    pub world_made : (id : Name) (w : WorldId) → item_node c (ItemKind.Component w) ≡ Some (world_entry (record { id = Some id; uses = b.uses; imports = b.items; exports = b.exports })) → AWorld c (world_with id (stated_body c b)) w
    world_made id w is =
        let xs = with_values (stated_of c) b.items in
        let ys = with_values (stated_of c) b.exports in
        let os : List (Option Stated) = used_places (map (stated_use c) b.uses) ++ (filled xs ++ filled ys) in
        let placed = both_placed (used b.uses) (items b.items ++ items b.exports) _ _ (used_placed b.uses) (both_placed (items b.items) (items b.exports) _ _ (items_placed b.items) (items_placed b.exports)) in
        subst (λ ns. Holds c (over (world (Some id) ns (names xs) (names ys)) os) (ItemKind.Component w)) (sym (used_named b.uses))
        (subst (λ ns. Holds c (over (world (Some id) (use_names b.uses) ns (names ys)) os) (ItemKind.Component w)) (sym (items_named b.items))
        (subst (λ ns. Holds c (over (world (Some id) (use_names b.uses) (names_of b.items) ns) os) (ItemKind.Component w)) (sym (items_named b.exports))
        (entry_holds c a (ItemKind.Component w) (world (Some id) (use_names b.uses) (names_of b.items) (names_of b.exports)) (used b.uses ++ (items b.items ++ items b.exports)) os is placed)))

-- ---- types of things

module _ (c : Collection) (a : IsAcyclic c) (i : t.Ident) where
  typed_interface : (x : InterfaceId) → Stands c (ItemKind.Ty (TypeKind.Interface x)) → IsHeld (Holds c) (extern_by (kind_of (stated_of c (ItemKind.Ty (TypeKind.Interface x)))) i (stated_of c (ItemKind.Ty (TypeKind.Interface x)))) (ItemKind.Instance x)
  unfolding item_node
  typed_interface x s =
      let k = ItemKind.Ty (TypeKind.Interface x) in
      subst (λ q. IsHeld (Holds c) (extern_by q i (stated_of c k)) (ItemKind.Instance x)) (sym (kind_stated c a k s))
      (record { stands = stands_typed_interface c x s; same = sym (untyped_stated c a k (ItemKind.Instance x) refl s) })

  typed_func : (x : FuncTypeId) → Stands c (ItemKind.Ty (TypeKind.Func x)) → IsHeld (Holds c) (extern_by (kind_of (stated_of c (ItemKind.Ty (TypeKind.Func x)))) i (stated_of c (ItemKind.Ty (TypeKind.Func x)))) (ItemKind.Func x)
  unfolding item_node
  typed_func x s =
      let k = ItemKind.Ty (TypeKind.Func x) in
      subst (λ q. IsHeld (Holds c) (extern_by q i (stated_of c k)) (ItemKind.Func x)) (sym (kind_stated c a k s))
      (record { stands = stands_typed_func c x s; same = sym (untyped_stated c a k (ItemKind.Func x) refl s) })

  thing_held : (k j : ItemKind) → IsTypeOf k j → Stands c k → IsHeld (Holds c) (extern_by (kind_of (stated_of c k)) i (stated_of c k)) j
  thing_held (ItemKind.Ty (TypeKind.Resource x)) j h s = absurd h
  thing_held (ItemKind.Ty (TypeKind.Func x)) j h s =
      let k = ItemKind.Ty (TypeKind.Func x) in subst (IsHeld (Holds c) (extern_by (kind_of (stated_of c k)) i (stated_of c k))) (sym h) (typed_func x s)
  thing_held (ItemKind.Ty (TypeKind.Value x)) j h s = absurd h
  thing_held (ItemKind.Ty (TypeKind.Interface x)) j h s =
      let k = ItemKind.Ty (TypeKind.Interface x) in subst (IsHeld (Holds c) (extern_by (kind_of (stated_of c k)) i (stated_of c k))) (sym h) (typed_interface x s)
  thing_held (ItemKind.Ty (TypeKind.World x)) j h s = absurd h
  thing_held (ItemKind.Ty (TypeKind.Module x)) j h s = absurd h
  thing_held (ItemKind.Func x) j h s = absurd h
  thing_held (ItemKind.Instance x) j h s = absurd h
  thing_held (ItemKind.Component x) j h s = absurd h
  thing_held (ItemKind.Module x) j h s = absurd h
  thing_held (ItemKind.Value x) j h s = absurd h

  pub thing_found : (k : ItemKind) (o : Option ItemKind) (j : ItemKind) → o ≡ Some j → IfSome o (IsTypeOf k) → Stands c k → IsHeld (Holds c) (extern_by (kind_of (stated_of c k)) i (stated_of c k)) j
  thing_found k None j is h s = absurd (cc is)
  thing_found k (Some l) j is h s = let same : l ≡ j = cc is in thing_held k j (subst (IsTypeOf k) same h) s

  no_thing_by : (k : ItemKind) → ((j : ItemKind) → IsTypeOf k j → ⊥) → (x : Stated) (e : Refusal) → Refuses e (NotFuncOrInterface i.string (desc x)) i.span → IsRefusal (extern_by (item_kind k) i x) e
  no_thing_by (ItemKind.Ty (TypeKind.Resource y)) f x e r = r
  no_thing_by (ItemKind.Ty (TypeKind.Func y)) f x e r = absurd (f (ItemKind.Func y) refl)
  no_thing_by (ItemKind.Ty (TypeKind.Value y)) f x e r = r
  no_thing_by (ItemKind.Ty (TypeKind.Interface y)) f x e r = absurd (f (ItemKind.Instance y) refl)
  no_thing_by (ItemKind.Ty (TypeKind.World y)) f x e r = r
  no_thing_by (ItemKind.Ty (TypeKind.Module y)) f x e r = r
  no_thing_by (ItemKind.Func y) f x e r = r
  no_thing_by (ItemKind.Instance y) f x e r = r
  no_thing_by (ItemKind.Component y) f x e r = r
  no_thing_by (ItemKind.Module y) f x e r = r
  no_thing_by (ItemKind.Value y) f x e r = r

  pub no_thing : (k : ItemKind) → Stands c k → ((j : ItemKind) → IsTypeOf k j → ⊥) → (e : Refusal) → Refuses e (NotFuncOrInterface i.string (desc (stated_of c k))) i.span → IsRefusal (extern_by (kind_of (stated_of c k)) i (stated_of c k)) e
  no_thing k s f e r = subst (λ q. IsRefusal (extern_by q i (stated_of c k)) e) (sym (kind_stated c a k s)) (no_thing_by k f (stated_of c k) e r)

-- ---- names of a body before those of the root

module _ {V : Type 0} where
  in_front : (xs ys : List (Name × V)) (n : Name) (v : V) → value_at xs n ≡ Some v → value_at (xs ++ ys) n ≡ Some v
  in_front [] ys n v e = absurd (cc e)
  in_front (x ∷ xs) ys n v e = by (pointwise ◌==◌ n x.0) (value_at xs n) (value_at (xs ++ ys) n) e (in_front xs ys n v)
    where
      by : (b : Bool) (o p : Option V) → (if b then Some x.1 else o) ≡ Some v → (o ≡ Some v → p ≡ Some v) → (if b then Some x.1 else p) ≡ Some v
      by true o p e f = e
      by false o p e f = f e

  behind : (xs ys : List (Name × V)) (n : Name) → value_at xs n ≡ None → value_at (xs ++ ys) n ≡ value_at ys n
  behind [] ys n e = refl
  behind (x ∷ xs) ys n e = by (pointwise ◌==◌ n x.0) (value_at xs n) (value_at (xs ++ ys) n) (value_at ys n) e (behind xs ys n)
    where
      by : (b : Bool) (o p q : Option V) → (if b then Some x.1 else o) ≡ None → (o ≡ None → p ≡ q) → (if b then Some x.1 else p) ≡ q
      by true o p q e f = absurd (cc e)
      by false o p q e f = f e

module _ (c : Collection) (names root : List (Name × Binding)) (i : t.Ident) where
  pub meant_in_body : (b : Binding) → value_at names i.string ≡ Some b → IsHeld (λ m d. meant_by c d ≡ m) (meant (scope_of c names ++ scope_of c root) i) b
  meant_in_body b is =
      subst (λ (o : Option Meant). IsHeld (λ m d. meant_by c d ≡ m) (present o (UndefinedName i.string) i.span) b)
      (sym (in_front (scope_of c names) (scope_of c root) i.string (meant_by c b) (value_with (meant_by c) names i.string ∙ ap (option_map (meant_by c)) is))) refl

  pub meant_at_root : (r : Result Binding Refusal) → value_at names i.string ≡ None → IsOutcome (λ b d. d ≡ b) (present (value_at root i.string) (UndefinedName i.string) i.span) r
      → IsOutcome (λ m d. meant_by c d ≡ m) (meant (scope_of c names ++ scope_of c root) i) r
  meant_at_root r none o =
      subst (λ (p : Option Meant). IsOutcome (λ m d. meant_by c d ≡ m) (present p (UndefinedName i.string) i.span) r)
      (sym (behind (scope_of c names) (scope_of c root) i.string (value_with (meant_by c) names i.string ∙ ap (option_map (meant_by c)) none) ∙ value_with (meant_by c) root i.string))
      (by (value_at root i.string) r o)
    where
      by : (p : Option Binding) (r : Result Binding Refusal) → IsOutcome (λ b d. d ≡ b) (present p (UndefinedName i.string) i.span) r → IsOutcome (λ m d. meant_by c d ≡ m) (present (option_map (meant_by c) p) (UndefinedName i.string) i.span) r
      by (Some b) (Ok d) h = ap (meant_by c) h
      by (Some b) (Err e) h = h
      by None (Ok d) h = absurd h
      by None (Err e) h = h

-- ---- what was added

module _ (c d : Collection) (g : Grows c d) (b : Body) (s : BodyStands c b) where
  pub interface_answered : (id : Option Name) (r : Result InterfaceId AllocError) → IfOk r (λ i. item_node d (ItemKind.Instance i) ≡ Some (interface_entry (record { id = id; uses = b.uses; exports = b.items }))) → IsInterfaceMade id b c d r
  interface_answered id (Ok i) is = subst (λ (x : stated.Body). AnInstance d (interface_with id x) i) (body-kept c d g b s) (interface_made d g.acyclic b id i is)
  interface_answered id (Err e) is = tt

  pub world_answered : (id n : Name) → n ≡ id → (r : Result WorldId AllocError) → IfOk r (λ w. item_node d (ItemKind.Component w) ≡ Some (world_entry (record { id = Some n; uses = b.uses; imports = b.items; exports = b.exports }))) → IsWorldMade id b c d r
  world_answered id n same (Ok w) is =
      subst (λ (m : Name). AWorld d (world_with m (stated_body c b)) w) same
      (subst (λ (x : stated.Body). AWorld d (world_with n x) w) (body-kept c d g b s) (world_made d g.acyclic b n w is))
  world_answered id n same (Err e) is = tt
