-- What aliases state.
use Rattle.std.proofs.Common.{◌≡◌, List, [], ◌∷◌, map, Option, Some, None, option_map, Ok, Err, Bool, true, false, slice_get, refl, sym, ap, subst, ◌∙◌, inl, inr}
use Rattle.wac_types_base.specs.declared.item.ValueType.{ValueType}
use Rattle.wac_types_base.specs.declared.item.ItemKind.{ItemKind}
use Rattle.wac_types_base.specs.declared.item.«Type».{«Type» as TypeKind}
use Rattle.wac_types_base.specs.declared.defined.Resource.{Resource}
use Rattle.wac_types_base.specs.declared.defined.ResourceAlias.{ResourceAlias}
use Rattle.wac_types_base.specs.declared.ids.FuncTypeId.{FuncTypeId}
use Rattle.wac_types_base.specs.declared.ids.InterfaceId.{InterfaceId}
use Rattle.wac_types_base.specs.declared.ids.ResourceId.{ResourceId}
use Rattle.wac_types_base.specs.Record.{Collection}
use Rattle.wac_types_base.specs.Graph.{Among}
use Rattle.wac_types_base.specs.Collection as s
use Rattle.wac_types_base.specs.Collection.{Entry, Slot, SlotStands, Stands, IsAcyclic, Grows, item_node, value_slot, resource_entry_at}
use Rattle.wac_types_base.specs.Entries.{Name}
use Rattle.wac_types_base.specs.Stated.{Stated, stated_of, kind_of, desc, as_type, over}
use Rattle.wac_types_base.proofs.Slots.{stands_typed_func}
use Rattle.wac_types_base.proofs.Telling.{child_stands, item_kind, kind_stated, resource_node, stated_step, untyped_stated}
use Rattle.wac_types_base.proofs.Stating.{stated_kept}
use Rattle.wac_parser_tree.specs.Trees as t
use Rattle.wac_parser_refusals.specs.declared.refusal.Refusal.{Refusal}
use Rattle.wac_parser_refusals.specs.Causes.{Answer, ◌>>=◌, pure, InvalidAliasType}
use Rattle.wac_parser_refusals.specs.Outcomes.{IsHeld, IsRefusal, Refuses}
use Rattle.wac_parser_declare.specs.Aliases.{IsOwner, stated_resource}
use Rattle.wac_parser_declare.specs.Declarations.{alias_by, alias_of, owner_of, resource_alias_of}
use Rattle.wac_parser_declare.specs.Holding.{Holds, IsFunc, IsType, stated_value}
use Rattle.wac_parser_declare.proofs.Kept.{entry_holds, labelled_holds}
use Rattle.wac_parser_declare.proofs.Named.{typed_holds}

-- ---- owners

owner_at_row : (n : Name) (x : Stated) (o : Option Stated) → owner_of (over (s.resource_alias n) (Some x ∷ o ∷ [])) ≡ o
owner_at_row n x None = refl
owner_at_row n x (Some u) = refl

module _ (c : Collection) (a : IsAcyclic c) (r : ResourceId) (x : Resource) (at : slice_get c.resources r.index ≡ Some x) (own : r.collection ≡ c.number) where
  stated_at : (o : Option ResourceAlias) → x.alias ≡ o → stated_resource c r ≡ over (resource_entry_at x.name o).0 (map (option_map (stated_of c)) (resource_entry_at x.name o).1)
  stated_at o is = stated_step c a (ItemKind.Ty (TypeKind.Resource r)) (resource_entry_at x.name o) (resource_node c r x at own ∙ ap (λ b. Some (resource_entry_at x.name b)) is)

  -- a resource that is no alias has no owner
  pub owner_none : x.alias ≡ None → IsOwner c r None
  owner_none is = sym (ap owner_of (stated_at None is))

  pub owner_some : (b : ResourceAlias) → x.alias ≡ Some b → IsOwner c r b.owner
  owner_some b is =
      sym (ap owner_of (stated_at (Some b) is)
      ∙ owner_at_row x.name (stated_resource c b.source) (option_map (stated_of c) (option_map ItemKind.Instance b.owner)))

-- ---- what is added

slot-kept : (c d : Collection) → Grows c d → (x : Slot) → SlotStands c x → option_map (stated_of d) x ≡ option_map (stated_of c) x
slot-kept c d g None s = refl
slot-kept c d g (Some k) s = ap Some (stated_kept c d g k s)

-- another name of a resource
pub resource_alias_held : (c d : Collection) → Grows c d → (n : Name) (r i : ResourceId) (o : Option InterfaceId) → Stands c (ItemKind.Ty (TypeKind.Resource r)) → SlotStands c (option_map ItemKind.Instance o) → IsOwner c r o
    → item_node d (ItemKind.Ty (TypeKind.Resource i)) ≡ Some (s.resource_alias n, Some (ItemKind.Ty (TypeKind.Resource r)) ∷ option_map ItemKind.Instance o ∷ [])
    → IsType d (resource_alias_of n (stated_resource c r)) (TypeKind.Resource i)
resource_alias_held c d g n r i o stands owner is node =
    let k = ItemKind.Ty (TypeKind.Resource r) in
    let x = option_map ItemKind.Instance o in
    entry_holds d g.acyclic (ItemKind.Ty (TypeKind.Resource i)) (s.resource_alias n) (Some k ∷ x ∷ []) (Some (stated_resource c r) ∷ owner_of (stated_resource c r) ∷ []) node
    (ap (λ y. Some y ∷ option_map (stated_of d) x ∷ []) (stated_kept c d g k stands)
    ∙ ap (λ y. Some (stated_resource c r) ∷ y ∷ []) (slot-kept c d g x owner ∙ is))

-- another name of a value type
pub value_alias_held : (c d : Collection) → Grows c d → (v w : ValueType) → Stands c (ItemKind.Value v) → item_node d (ItemKind.Value w) ≡ Some (s.alias, value_slot v ∷ []) → IsType d (alias_of (stated_value c v)) (TypeKind.Value w)
value_alias_held c d g v w stands node =
    typed_holds d g.acyclic (over s.alias (Some (stated_value c v) ∷ [])) w
    (entry_holds d g.acyclic (ItemKind.Value w) s.alias (value_slot v ∷ []) (Some (stated_value c v) ∷ []) node (ap (λ y. Some y ∷ []) (stated_kept c d g (ItemKind.Value v) stands)))

places-kept : (c d : Collection) → Grows c d → (xs : List Slot) → ((j : ItemKind) → Among (Some j) xs → Stands c j) → map (option_map (stated_of d)) xs ≡ map (option_map (stated_of c)) xs
places-kept c d g [] h = refl
places-kept c d g (None ∷ xs) h = ap (λ os. None ∷ os) (places-kept c d g xs (λ j m. h j (inr m)))
places-kept c d g (Some k ∷ xs) h =
    ap (λ y. Some y ∷ map (option_map (stated_of d)) xs) (stated_kept c d g k (h k (inl refl)))
    ∙ ap (λ os. Some (stated_of c k) ∷ os) (places-kept c d g xs (λ j m. h j (inr m)))

-- the type item of a function type
pub typed_func_holds : (d : Collection) → IsAcyclic d → (x : Stated) (f : FuncTypeId) → Holds d x (ItemKind.Func f) → IsType d (as_type x) (TypeKind.Func f)
unfolding item_node
typed_func_holds d a x f h =
    subst (λ (y : Stated). IsType d (as_type y) (TypeKind.Func f)) h.same
    (labelled_holds d a s.type_of (ItemKind.Ty (TypeKind.Func f)) (ItemKind.Func f) refl h.stands)

-- a function type like another
pub func_alias_held : (c d : Collection) → IsAcyclic c → Grows c d → (f i : FuncTypeId) (e : Entry) → item_node c (ItemKind.Func f) ≡ Some e → item_node d (ItemKind.Func i) ≡ Some e → IsType d (as_type (stated_of c (ItemKind.Func f))) (TypeKind.Func i)
func_alias_held c d a g f i e from node =
    let held = entry_holds d g.acyclic (ItemKind.Func i) e.0 e.1 (map (option_map (stated_of c)) e.1) node (places-kept c d g e.1 (child_stands c a (ItemKind.Func f) e from)) in
    typed_func_holds d g.acyclic (stated_of c (ItemKind.Func f)) i
    (record { stands = held.stands; same = held.same ∙ sym (stated_step c a (ItemKind.Func f) e from) })

-- ---- by what the item is

module _ (c : Collection) (a : IsAcyclic c) (p : Bool) (n i : t.Ident) (P : Answer Stated → Type 0) where
  pub alias_of_value : (v : ValueType) → Stands c (ItemKind.Ty (TypeKind.Value v)) → P (pure (alias_of (stated_value c v)))
      → P (alias_by (kind_of (stated_of c (ItemKind.Ty (TypeKind.Value v)))) p n i (stated_of c (ItemKind.Ty (TypeKind.Value v))))
  unfolding item_node
  alias_of_value v stands h =
      let k = ItemKind.Ty (TypeKind.Value v) in
      rw (kind_stated c a k stands) (subst (λ (x : Stated). P (pure (alias_of x))) (sym (untyped_stated c a k (ItemKind.Value v) refl stands)) h)

  pub alias_of_func_type : (f : FuncTypeId) → Stands c (ItemKind.Ty (TypeKind.Func f)) → P (pure (as_type (stated_of c (ItemKind.Func f))))
      → P (alias_by (kind_of (stated_of c (ItemKind.Ty (TypeKind.Func f)))) p n i (stated_of c (ItemKind.Ty (TypeKind.Func f))))
  alias_of_func_type f stands h =
      let k = ItemKind.Ty (TypeKind.Func f) in
      let typed = typed_func_holds c a (stated_of c (ItemKind.Func f)) f (record { stands = stands_typed_func c f stands; same = refl }) in
      rw (kind_stated c a k stands) (subst (λ (x : Stated). P (pure x)) (sym typed.same) h)

  pub alias_of_func : (f : FuncTypeId) → Stands c (ItemKind.Func f) → P (pure (as_type (stated_of c (ItemKind.Func f))))
      → P (alias_by (kind_of (stated_of c (ItemKind.Func f))) p n i (stated_of c (ItemKind.Func f)))
  alias_of_func f stands h = rw (kind_stated c a (ItemKind.Func f) stands) h

module _ (c : Collection) (a : IsAcyclic c) (n i : t.Ident) (P : Answer Stated → Type 0) where
  -- a resource, in a body and at the root
  pub alias_in_body : (r : ResourceId) → Stands c (ItemKind.Ty (TypeKind.Resource r)) → P (pure (resource_alias_of n.string (stated_resource c r)))
      → P (alias_by (kind_of (stated_resource c r)) false n i (stated_resource c r))
  alias_in_body r stands h = rw (kind_stated c a (ItemKind.Ty (TypeKind.Resource r)) stands) h

pub alias_at_root : (c : Collection) → IsAcyclic c → (n i : t.Ident) (e : Refusal) (r : ResourceId) → Stands c (ItemKind.Ty (TypeKind.Resource r)) → Refuses e (InvalidAliasType i.string (desc (stated_resource c r))) i.span
    → IsRefusal (alias_by (kind_of (stated_resource c r)) true n i (stated_resource c r)) e
alias_at_root c a n i e r stands h = rw (kind_stated c a (ItemKind.Ty (TypeKind.Resource r)) stands) h

no_alias_at : (ty : TypeKind) (p : Bool) (n i : t.Ident) (x : Stated) (e : Refusal) → ((v : ValueType) → ty ≡ TypeKind.Value v → ⊥) → ((f : FuncTypeId) → ty ≡ TypeKind.Func f → ⊥) → ((r : ResourceId) → ty ≡ TypeKind.Resource r → ⊥)
    → Refuses e (InvalidAliasType i.string (desc x)) i.span → IsRefusal (alias_by (item_kind (ItemKind.Ty ty)) p n i x) e
no_alias_at (TypeKind.Resource r) p n i x e h g k f = absurd (k r refl)
no_alias_at (TypeKind.Func r) p n i x e h g k f = absurd (g r refl)
no_alias_at (TypeKind.Value v) p n i x e h g k f = absurd (h v refl)
no_alias_at (TypeKind.Interface r) p n i x e h g k f = f
no_alias_at (TypeKind.World r) p n i x e h g k f = f
no_alias_at (TypeKind.Module r) p n i x e h g k f = f

no_alias : (k : ItemKind) (p : Bool) (n i : t.Ident) (x : Stated) (e : Refusal) → ((ty : TypeKind) → k ≡ ItemKind.Ty ty → ⊥) → ((f : FuncTypeId) → k ≡ ItemKind.Func f → ⊥)
    → Refuses e (InvalidAliasType i.string (desc x)) i.span → IsRefusal (alias_by (item_kind k) p n i x) e
no_alias (ItemKind.Ty ty) p n i x e h g f = absurd (h ty refl)
no_alias (ItemKind.Func r) p n i x e h g f = absurd (g r refl)
no_alias (ItemKind.Instance r) p n i x e h g f = f
no_alias (ItemKind.Component r) p n i x e h g f = f
no_alias (ItemKind.Module r) p n i x e h g f = f
no_alias (ItemKind.Value r) p n i x e h g f = f

module _ (c : Collection) (a : IsAcyclic c) (p : Bool) (n i : t.Ident) (e : Refusal) where
  pub no_alias_type : (ty : TypeKind) → Stands c (ItemKind.Ty ty) → ((v : ValueType) → ty ≡ TypeKind.Value v → ⊥) → ((f : FuncTypeId) → ty ≡ TypeKind.Func f → ⊥) → ((r : ResourceId) → ty ≡ TypeKind.Resource r → ⊥)
      → Refuses e (InvalidAliasType i.string (desc (stated_of c (ItemKind.Ty ty)))) i.span → IsRefusal (alias_by (kind_of (stated_of c (ItemKind.Ty ty))) p n i (stated_of c (ItemKind.Ty ty))) e
  no_alias_type ty stands h g k f = rw (kind_stated c a (ItemKind.Ty ty) stands) (no_alias_at ty p n i (stated_of c (ItemKind.Ty ty)) e h g k f)

  pub no_alias_kind : (k : ItemKind) → Stands c k → ((ty : TypeKind) → k ≡ ItemKind.Ty ty → ⊥) → ((f : FuncTypeId) → k ≡ ItemKind.Func f → ⊥)
      → Refuses e (InvalidAliasType i.string (desc (stated_of c k))) i.span → IsRefusal (alias_by (kind_of (stated_of c k)) p n i (stated_of c k)) e
  no_alias_kind k stands h g f = rw (kind_stated c a k stands) (no_alias k p n i (stated_of c k) e h g f)

-- ---- written types

-- the type item of a function type that was found
pub func_typed : (d : Collection) → IsAcyclic d → (q : Answer Stated) (f : FuncTypeId) → IsHeld (IsFunc d) q f → IsHeld (IsType d) (q >>= λ x. pure (as_type x)) (TypeKind.Func f)
func_typed d a (Ok x) f h = typed_func_holds d a x f h
func_typed d a (Err x) f h = absurd h
