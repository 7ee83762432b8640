-- Items of a world: sides, items under a name, interfaces under their identifiers.
use Rattle.std.specs.Prelude.{⊤}
use Rattle.std.proofs.Common.{◌≡◌, List, [], ◌∷◌, ◌++◌, Option, Some, None, slice_get, Result, Ok, Err, refl, sym, ap, subst}
use Rattle.wac_types_base.specs.declared.item.ExternKind.{ExternKind}
use Rattle.wac_types_base.specs.declared.item.ItemKind.{ItemKind}
use Rattle.wac_types_base.specs.declared.item.«Type».{«Type» as TypeKind}
use Rattle.wac_types_base.specs.declared.defined.Interface.{Interface}
use Rattle.wac_types_base.specs.declared.ids.InterfaceId.{InterfaceId}
use Rattle.wac_types_base.specs.declared.ids.WorldId.{WorldId}
use Rattle.wac_types_base.specs.Record.{Collection}
use Rattle.wac_types_base.specs.Collection.{IsAcyclic, Stands, interface_entry, item_node, labelled, type_of}
use Rattle.wac_types_base.specs.Entries.{Name}
use Rattle.wac_types_base.specs.Stated.{Stated, as_type, identifier_of, stated_of, untyped}
use Rattle.wac_types_base.proofs.Slots.{entry_at-is}
use Rattle.wac_types_base.proofs.Telling.{stated_step, untyped_stated}
use Rattle.wac_parser_tree.specs.Trees as t
use Rattle.wac_parser_tree.specs.Trees.{Span}
use Rattle.wac_parser_refusals.specs.declared.refusal.Refusal.{Refusal}
use Rattle.wac_parser_refusals.specs.Causes.{Answer, ◌>>=◌, ◌>>◌, DuplicateWorldItem, TypeCannotBeWritten, pure, unless_clear, plainly}
use Rattle.wac_parser_refusals.specs.Views.{Names}
use Rattle.wac_parser_refusals.specs.Outcomes.{IsHeld, IsOutcome, IsRefusal}
use Rattle.wac_parser_declare.specs.declared.bodies.Body.{Body}
use Rattle.wac_parser_declare.specs.Bodies as stated
use Rattle.wac_parser_declare.specs.Bodies.{Items}
use Rattle.wac_parser_declare.specs.Held.{stated_body}
use Rattle.wac_parser_declare.specs.Holding.{Holds}
use Rattle.wac_parser_declare.specs.InBodies.{IsBody}
use Rattle.wac_parser_declare.specs.InIncludes.{AreNow}
use Rattle.wac_parser_declare.specs.InUses.{AnInterface}
use Rattle.wac_parser_declare.specs.InWorlds.{item_on, items_on, on_side}
use Rattle.wac_parser_declare.specs.Scope.{has}
use Rattle.wac_parser_declare.specs.Worlds.{interface_added, with_exports, with_identifier, with_imports}
use Rattle.wac_parser_declare.proofs.Kept.{labelled_holds}
use Rattle.wac_parser_declare.proofs.Members.{told}

-- ---- sides

module _ (c : Collection) (b : Body) (new : List (Name × ItemKind)) where
  pub on_imports : (q : Answer Items) (r : Result ⊤ Refusal) → IsOutcome (AreNow c new) q r
      → IsOutcome (λ (s : stated.Body) (u : ⊤). IsBody c s (record { names = b.names; uses = b.uses; items = new; exports = b.exports })) (on_side ExternKind.Import (stated_body c b) q) r
  on_imports (Ok xs) (Ok u) h = ap (with_imports (stated_body c b)) h
  on_imports (Ok xs) (Err e) h = h
  on_imports (Err f) (Ok u) h = absurd h
  on_imports (Err f) (Err e) h = h

  pub on_exports : (q : Answer Items) (r : Result ⊤ Refusal) → IsOutcome (AreNow c new) q r
      → IsOutcome (λ (s : stated.Body) (u : ⊤). IsBody c s (record { names = b.names; uses = b.uses; items = b.items; exports = new })) (on_side ExternKind.Export (stated_body c b) q) r
  on_exports (Ok xs) (Ok u) h = ap (with_exports (stated_body c b)) h
  on_exports (Ok xs) (Err e) h = h
  on_exports (Err f) (Ok u) h = absurd h
  on_exports (Err f) (Err e) h = h

pub side_refused : (k : ExternKind) (b : stated.Body) (q : Answer Items) (e : Refusal) → IsRefusal q e → IsRefusal (on_side k b q) e
side_refused k b (Ok xs) e h = h
side_refused k b (Err f) e h = h

-- ---- interfaces

module _ (c : Collection) (a : IsAcyclic c) (i : InterfaceId) where
  pub type_identifier : (x : Interface) → slice_get c.interfaces i.index ≡ Some x → i.collection ≡ c.number → identifier_of (stated_of c (ItemKind.Ty (TypeKind.Interface i))) ≡ x.id
  unfolding item_node
  type_identifier x at own =
      ap identifier_of (stated_step c a (ItemKind.Ty (TypeKind.Interface i)) (type_of (interface_entry x).0, (interface_entry x).1)
      (ap (labelled type_of) (entry_at-is interface_entry c.number c.interfaces i.collection i.index x at own)))

  pub type_untyped : Stands c (ItemKind.Ty (TypeKind.Interface i)) → untyped (stated_of c (ItemKind.Ty (TypeKind.Interface i))) ≡ stated_of c (ItemKind.Instance i)
  unfolding item_node
  type_untyped s = untyped_stated c a (ItemKind.Ty (TypeKind.Interface i)) (ItemKind.Instance i) refl s

module _ (w : Name) (k : ExternKind) (b : stated.Body) (at : Span) (x : Stated) where
  -- an interface without identifier
  pub unnamed_refused : (e : Refusal) → identifier_of x ≡ None → Names e (Some (plainly (TypeCannotBeWritten w) None)) → IsRefusal (on_side k b (interface_added w k (items_on k b) at x)) e
  unnamed_refused e none h =
      side_refused k b (interface_added w k (items_on k b) at x) e
      (subst (λ (o : Option Name). IsRefusal (with_identifier w o >>= λ n. item_on w k (items_on k b) (record { string = n; span = at }) (untyped x)) e) (sym none)
      (told e (TypeCannotBeWritten w) None h))

  -- an interface under its identifier
  pub named_added : (n : Name) → identifier_of x ≡ Some n → interface_added w k (items_on k b) at x ≡ item_on w k (items_on k b) (record { string = n; span = at }) (untyped x)
  named_added n is = ap (λ (o : Option Name). with_identifier w o >>= λ m. item_on w k (items_on k b) (record { string = m; span = at }) (untyped x)) is

-- ---- items whose type comes first

module _ {D : Type 0} (K : stated.Body → D → Type 0) (k : ExternKind) (b : stated.Body) (d : Collection) (r : Result D Refusal) where
  -- an item under a name of its own
  pub named_outcome : (w : Name) (i : t.Ident) (q : Answer Stated) (x : ItemKind) → IsHeld (Holds d) q x → IsOutcome K (on_side k b (item_on w k (items_on k b) i (stated_of d x))) r
      → IsOutcome K (on_side k b (unless_clear (has (items_on k b) i.string) (DuplicateWorldItem k i.string w) i.span >> (q >>= λ y. pure (items_on k b ++ (i.string, y) ∷ [])))) r
  named_outcome w i (Ok y) x held h = subst (λ (z : Stated). IsOutcome K (on_side k b (item_on w k (items_on k b) i z)) r) held.same h
  named_outcome w i (Err c) x held h = absurd held

  -- an interface that a path names
  pub path_outcome : (f : Stated → Answer Items) (q : Answer Stated) (i : InterfaceId) → IsHeld (AnInterface d) q i → IsOutcome K (on_side k b (f (stated_of d (ItemKind.Ty (TypeKind.Interface i))))) r → IsOutcome K (on_side k b (q >>= f)) r
  path_outcome f (Ok y) i held h = subst (λ (z : Stated). IsOutcome K (on_side k b (f z)) r) held.same h
  path_outcome f (Err c) i held h = absurd held

-- ---- types of what is declared

module _ (c : Collection) (a : IsAcyclic c) where
  pub interface_typed : (y : Stated) (i : InterfaceId) → Holds c y (ItemKind.Instance i) → Holds c (as_type y) (ItemKind.Ty (TypeKind.Interface i))
  unfolding item_node
  interface_typed y i h =
      subst (λ (z : Stated). Holds c (as_type z) (ItemKind.Ty (TypeKind.Interface i))) h.same (labelled_holds c a type_of (ItemKind.Ty (TypeKind.Interface i)) (ItemKind.Instance i) refl h.stands)

  pub world_typed : (y : Stated) (i : WorldId) → Holds c y (ItemKind.Component i) → Holds c (as_type y) (ItemKind.Ty (TypeKind.World i))
  unfolding item_node
  world_typed y i h = subst (λ (z : Stated). Holds c (as_type z) (ItemKind.Ty (TypeKind.World i))) h.same (labelled_holds c a type_of (ItemKind.Ty (TypeKind.World i)) (ItemKind.Component i) refl h.stands)
