-- What value types state.
use Rattle.std.proofs.Common.{◌≡◌, List, [], ◌∷◌, map, All, Option, Some, None, option_map, Result, Ok, Err, refl, sym, ap, subst, ◌∙◌}
use Rattle.wac_types_base.specs.declared.item.PrimitiveType.{PrimitiveType}
use Rattle.wac_types_base.specs.declared.item.ValueType.{ValueType}
use Rattle.wac_types_base.specs.declared.item.ItemKind.{ItemKind}
use Rattle.wac_types_base.specs.declared.item.«Type».{«Type» as TypeKind}
use Rattle.wac_types_base.specs.declared.ids.ResourceId.{ResourceId}
use Rattle.wac_types_base.specs.Record.{Collection}
use Rattle.wac_types_base.specs.Collection as s
use Rattle.wac_types_base.specs.Collection.{Shape, Slot, SlotStands, HasChildren, Stands, IsAcyclic, Grows, item_node, defined_entry, value_slot, option_slot, StandsIf}
use Rattle.wac_types_base.specs.Entries.{Name, value_at}
use Rattle.wac_types_base.specs.Stated.{Stated, stated_of, kind_of, desc}
use Rattle.wac_types_base.proofs.Telling.{item_kind, kind_stated, untyped_stated, primitive_node}
use Rattle.wac_types_base.proofs.Slots.{stands_typed_value}
use Rattle.wac_types_base.proofs.Stating.{value_with}
use Rattle.wac_parser_tree.specs.Trees as t
use Rattle.wac_parser_tree.specs.Trees.{Span}
use Rattle.wac_parser_refusals.specs.declared.refusal.Refusal.{Refusal}
use Rattle.wac_parser_declare.specs.declared.scope.Binding.{Binding}
use Rattle.wac_parser_refusals.specs.Causes.{Answer, Fault, ◌>>=◌, present, UndefinedName, NotValueType, NotResourceType}
use Rattle.wac_parser_declare.specs.Scope.{Meant, Scope, named}
use Rattle.wac_parser_declare.specs.ValueTypes.{maybe_value, value_by, borrow_by, of_one, of_maybe, of_two, of_all, some_of, primitive}
use Rattle.wac_parser_refusals.specs.Outcomes.{IsHeld, IsRefusal, IsOutcome, Refuses}
use Rattle.wac_parser_declare.specs.Holding.{IsValue, IsValueIf, AreValues, NamesStand, BindingStands, stated_if, meant_by, scope_of}
use Rattle.wac_parser_declare.proofs.Kept.{entry_holds, labelled_holds, children, values_stand, option_places, value_places, Holds-kept, IsValueIf-kept, AreValues-kept, found_stands}
use Rattle.wac_parser_refusals.proofs.Outcomes.{memory_refusal}

-- ---- names

-- the binding that was found is the one of the name
pub is_found : {B : Type 0} (o : Option B) (f : Fault) (s : Span) (b : B) → IsHeld (λ x y. y ≡ x) (present o f s) b → o ≡ Some b
is_found None f s b h = absurd h
is_found (Some x) f s b h = ap Some (sym h)

abbrev pub sought : {B : Type 0} → List (Name × B) → t.Ident → Answer B
sought bs i = present (value_at bs i.string) (UndefinedName i.string) i.span

meant_in : (c : Collection) (o : Option Binding) (f : Fault) (s : Span) → Answer Stated
meant_in c o f s = present (option_map (meant_by c) o) f s >>= λ m. Ok m.item

pub named_found : (c : Collection) (bs : List (Name × Binding)) (i : t.Ident) (b : Binding) → IsHeld (λ x y. y ≡ x) (sought bs i) b → named (scope_of c bs) i ≡ Ok (stated_of c b.kind)
unfolding meant_in
named_found c bs i b h =
    ap (λ o. present o (UndefinedName i.string) i.span >>= λ m. Ok m.item) (value_with (meant_by c) bs i.string)
    ∙ ap (λ o. meant_in c o (UndefinedName i.string) i.span) (is_found (value_at bs i.string) (UndefinedName i.string) i.span b h)

refused_in : (c : Collection) (o : Option Binding) (f : Fault) (s : Span) (e : Refusal) → IsRefusal (present o f s) e → IsRefusal (meant_in c o f s) e
unfolding meant_in
refused_in c None f s e h = h
refused_in c (Some b) f s e h = h

pub named_refused : (c : Collection) (bs : List (Name × Binding)) (i : t.Ident) (e : Refusal) → IsRefusal (sought bs i) e → IsRefusal (named (scope_of c bs) i) e
unfolding meant_in
named_refused c bs i e h =
    subst (λ (o : Option Meant). IsRefusal (present o (UndefinedName i.string) i.span >>= λ m. Ok m.item) e) (sym (value_with (meant_by c) bs i.string))
    (refused_in c (value_at bs i.string) (UndefinedName i.string) i.span e h)

pub binding_stands : (c : Collection) (bs : List (Name × Binding)) (i : t.Ident) (b : Binding) → NamesStand c bs → IsHeld (λ x y. y ≡ x) (sought bs i) b → Stands c b.kind
binding_stands c bs i b s h = found_stands (BindingStands c) bs i.string b s (is_found (value_at bs i.string) (UndefinedName i.string) i.span b h)

-- a name, then what is made of its item
pub by_name : {C D : Type 0} (k : C → D → Type 0) (f : Stated → Answer C) (c : Collection) (bs : List (Name × Binding)) (i : t.Ident) (b : Binding) (r : Result D Refusal)
    → IsHeld (λ x y. y ≡ x) (sought bs i) b → IsOutcome k (f (stated_of c b.kind)) r → IsOutcome k (named (scope_of c bs) i >>= f) r
by_name k f c bs i b r h x = subst (λ q. IsOutcome k (q >>= f) r) (sym (named_found c bs i b h)) x

-- ---- items as value types

module _ (c : Collection) (a : IsAcyclic c) (i : t.Ident) where
  pub owned : (r : ResourceId) → Stands c (ItemKind.Ty (TypeKind.Resource r)) → IsHeld (IsValue c) (value_by (kind_of (stated_of c (ItemKind.Ty (TypeKind.Resource r)))) i (stated_of c (ItemKind.Ty (TypeKind.Resource r)))) (ValueType.Own r)
  unfolding item_node
  owned r stands =
      let k = ItemKind.Ty (TypeKind.Resource r) in
      rw (kind_stated c a k stands) (labelled_holds c a s.own_of (ItemKind.Value (ValueType.Own r)) k refl stands)

  pub borrowed : (r : ResourceId) → Stands c (ItemKind.Ty (TypeKind.Resource r)) → IsHeld (IsValue c) (borrow_by (kind_of (stated_of c (ItemKind.Ty (TypeKind.Resource r)))) i (stated_of c (ItemKind.Ty (TypeKind.Resource r)))) (ValueType.Borrow r)
  unfolding item_node
  borrowed r stands =
      let k = ItemKind.Ty (TypeKind.Resource r) in
      rw (kind_stated c a k stands) (labelled_holds c a s.borrow_of (ItemKind.Value (ValueType.Borrow r)) k refl stands)

  pub untyped_value : (v : ValueType) → Stands c (ItemKind.Ty (TypeKind.Value v)) → IsHeld (IsValue c) (value_by (kind_of (stated_of c (ItemKind.Ty (TypeKind.Value v)))) i (stated_of c (ItemKind.Ty (TypeKind.Value v)))) v
  unfolding item_node
  untyped_value v stands =
      let k = ItemKind.Ty (TypeKind.Value v) in
      rw (kind_stated c a k stands) (record { stands = stands_typed_value c v stands; same = sym (untyped_stated c a k (ItemKind.Value v) refl stands) })

-- by what the kind is
module _ (c : Collection) (a : IsAcyclic c) (i : t.Ident) (ty : TypeKind) where
  pub owned_at : (r : ResourceId) → ty ≡ TypeKind.Resource r → Stands c (ItemKind.Ty ty) → IsHeld (IsValue c) (value_by (kind_of (stated_of c (ItemKind.Ty ty))) i (stated_of c (ItemKind.Ty ty))) (ValueType.Own r)
  owned_at r e stands =
      subst (λ (y : TypeKind). IsHeld (IsValue c) (value_by (kind_of (stated_of c (ItemKind.Ty y))) i (stated_of c (ItemKind.Ty y))) (ValueType.Own r)) (sym e)
      (owned c a i r (subst (λ (y : TypeKind). Stands c (ItemKind.Ty y)) e stands))

  pub borrowed_at : (r : ResourceId) → ty ≡ TypeKind.Resource r → Stands c (ItemKind.Ty ty) → IsHeld (IsValue c) (borrow_by (kind_of (stated_of c (ItemKind.Ty ty))) i (stated_of c (ItemKind.Ty ty))) (ValueType.Borrow r)
  borrowed_at r e stands =
      subst (λ (y : TypeKind). IsHeld (IsValue c) (borrow_by (kind_of (stated_of c (ItemKind.Ty y))) i (stated_of c (ItemKind.Ty y))) (ValueType.Borrow r)) (sym e)
      (borrowed c a i r (subst (λ (y : TypeKind). Stands c (ItemKind.Ty y)) e stands))

  pub untyped_at : (v : ValueType) → ty ≡ TypeKind.Value v → Stands c (ItemKind.Ty ty) → IsHeld (IsValue c) (value_by (kind_of (stated_of c (ItemKind.Ty ty))) i (stated_of c (ItemKind.Ty ty))) v
  untyped_at v e stands =
      subst (λ (y : TypeKind). IsHeld (IsValue c) (value_by (kind_of (stated_of c (ItemKind.Ty y))) i (stated_of c (ItemKind.Ty y))) v) (sym e)
      (untyped_value c a i v (subst (λ (y : TypeKind). Stands c (ItemKind.Ty y)) e stands))

no_value_at : (ty : TypeKind) (i : t.Ident) (x : Stated) (e : Refusal) → ((r : ResourceId) → ty ≡ TypeKind.Resource r → ⊥) → ((v : ValueType) → ty ≡ TypeKind.Value v → ⊥)
    → Refuses e (NotValueType i.string (desc x)) i.span → IsRefusal (value_by (item_kind (ItemKind.Ty ty)) i x) e
no_value_at (TypeKind.Resource r) i x e h g f = absurd (h r refl)
no_value_at (TypeKind.Func r) i x e h g f = f
no_value_at (TypeKind.Value v) i x e h g f = absurd (g v refl)
no_value_at (TypeKind.Interface r) i x e h g f = f
no_value_at (TypeKind.World r) i x e h g f = f
no_value_at (TypeKind.Module r) i x e h g f = f

no_value : (k : ItemKind) (i : t.Ident) (x : Stated) (e : Refusal) → ((ty : TypeKind) → k ≡ ItemKind.Ty ty → ⊥) → Refuses e (NotValueType i.string (desc x)) i.span → IsRefusal (value_by (item_kind k) i x) e
no_value (ItemKind.Ty ty) i x e h f = absurd (h ty refl)
no_value (ItemKind.Func r) i x e h f = f
no_value (ItemKind.Instance r) i x e h f = f
no_value (ItemKind.Component r) i x e h f = f
no_value (ItemKind.Module r) i x e h f = f
no_value (ItemKind.Value r) i x e h f = f

no_resource_at : (ty : TypeKind) (i : t.Ident) (x : Stated) (e : Refusal) → ((r : ResourceId) → ty ≡ TypeKind.Resource r → ⊥) → Refuses e (NotResourceType i.string (desc x)) i.span → IsRefusal (borrow_by (item_kind (ItemKind.Ty ty)) i x) e
no_resource_at (TypeKind.Resource r) i x e h f = absurd (h r refl)
no_resource_at (TypeKind.Func r) i x e h f = f
no_resource_at (TypeKind.Value v) i x e h f = f
no_resource_at (TypeKind.Interface r) i x e h f = f
no_resource_at (TypeKind.World r) i x e h f = f
no_resource_at (TypeKind.Module r) i x e h f = f

no_resource : (k : ItemKind) (i : t.Ident) (x : Stated) (e : Refusal) → ((ty : TypeKind) → k ≡ ItemKind.Ty ty → ⊥) → Refuses e (NotResourceType i.string (desc x)) i.span → IsRefusal (borrow_by (item_kind k) i x) e
no_resource (ItemKind.Ty ty) i x e h f = absurd (h ty refl)
no_resource (ItemKind.Func r) i x e h f = f
no_resource (ItemKind.Instance r) i x e h f = f
no_resource (ItemKind.Component r) i x e h f = f
no_resource (ItemKind.Module r) i x e h f = f
no_resource (ItemKind.Value r) i x e h f = f

module _ (c : Collection) (a : IsAcyclic c) (i : t.Ident) (e : Refusal) where
  pub no_value_type : (ty : TypeKind) → Stands c (ItemKind.Ty ty) → ((r : ResourceId) → ty ≡ TypeKind.Resource r → ⊥) → ((v : ValueType) → ty ≡ TypeKind.Value v → ⊥) → Refuses e (NotValueType i.string (desc (stated_of c (ItemKind.Ty ty)))) i.span
      → IsRefusal (value_by (kind_of (stated_of c (ItemKind.Ty ty))) i (stated_of c (ItemKind.Ty ty))) e
  no_value_type ty stands h g f = rw (kind_stated c a (ItemKind.Ty ty) stands) (no_value_at ty i (stated_of c (ItemKind.Ty ty)) e h g f)

  pub no_value_kind : (k : ItemKind) → Stands c k → ((ty : TypeKind) → k ≡ ItemKind.Ty ty → ⊥) → Refuses e (NotValueType i.string (desc (stated_of c k))) i.span → IsRefusal (value_by (kind_of (stated_of c k)) i (stated_of c k)) e
  no_value_kind k stands h f = rw (kind_stated c a k stands) (no_value k i (stated_of c k) e h f)

  pub no_resource_type : (ty : TypeKind) → Stands c (ItemKind.Ty ty) → ((r : ResourceId) → ty ≡ TypeKind.Resource r → ⊥) → Refuses e (NotResourceType i.string (desc (stated_of c (ItemKind.Ty ty)))) i.span
      → IsRefusal (borrow_by (kind_of (stated_of c (ItemKind.Ty ty))) i (stated_of c (ItemKind.Ty ty))) e
  no_resource_type ty stands h f = rw (kind_stated c a (ItemKind.Ty ty) stands) (no_resource_at ty i (stated_of c (ItemKind.Ty ty)) e h f)

  pub no_resource_kind : (k : ItemKind) → Stands c k → ((ty : TypeKind) → k ≡ ItemKind.Ty ty → ⊥) → Refuses e (NotResourceType i.string (desc (stated_of c k))) i.span → IsRefusal (borrow_by (kind_of (stated_of c k)) i (stated_of c k)) e
  no_resource_kind k stands h f = rw (kind_stated c a k stands) (no_resource k i (stated_of c k) e h f)

-- ---- defined types

pub primitive_holds : (c : Collection) → IsAcyclic c → (p : PrimitiveType) → IsHeld (IsValue c) (primitive p) (ValueType.Primitive p)
primitive_holds c a p = entry_holds c a (ItemKind.Value (ValueType.Primitive p)) (s.primitive p) [] [] (primitive_node c p) refl

pub value_stands : (c : Collection) (q : Answer Stated) (v : ValueType) → IsHeld (IsValue c) q v → Stands c (ItemKind.Value v)
value_stands c (Ok t) v h = h.stands
value_stands c (Err x) v h = absurd h

pub maybe_stands : (c : Collection) (q : Answer (Option Stated)) (o : Option ValueType) → IsHeld (IsValueIf c) q o → StandsIf c o
maybe_stands c (Ok t) v h = h.stands
maybe_stands c (Err x) v h = absurd h

module _ (c d : Collection) (g : Grows c d) (l : Shape) (w : ValueType) where
  pub one_held : (q : Answer Stated) (v : ValueType) → IsHeld (IsValue c) q v → item_node d (ItemKind.Value w) ≡ Some (l, value_slot v ∷ []) → IsHeld (IsValue d) (of_one l q) w
  one_held (Ok t) v h e = entry_holds d g.acyclic (ItemKind.Value w) l (value_slot v ∷ []) (Some t ∷ []) e (ap (λ x. Some x ∷ []) (Holds-kept c d g t (ItemKind.Value v) h).same)
  one_held (Err x) v h e = absurd h

  pub maybe_held : (q : Answer (Option Stated)) (o : Option ValueType) → IsHeld (IsValueIf c) q o → item_node d (ItemKind.Value w) ≡ Some (l, option_slot o ∷ []) → IsHeld (IsValue d) (of_maybe l q) w
  maybe_held (Ok t) o h e = entry_holds d g.acyclic (ItemKind.Value w) l (option_slot o ∷ []) (t ∷ []) e (ap (λ x. x ∷ []) (option_places d o ∙ (IsValueIf-kept c d g t o h).same))
  maybe_held (Err x) o h e = absurd h

  pub all_held : (q : Answer (List (Option Stated))) (vs : List ValueType) → IsHeld (AreValues c) q vs → item_node d (ItemKind.Value w) ≡ Some (l, map value_slot vs) → IsHeld (IsValue d) (of_all l q) w
  all_held (Ok ts) vs h e = entry_holds d g.acyclic (ItemKind.Value w) l (map value_slot vs) ts e (value_places d vs ∙ (AreValues-kept c d g ts vs h).same)
  all_held (Err x) vs h e = absurd h

pub two_held : (b c d : Collection) → Grows b c → Grows c d → (l : Shape) (w : ValueType) (q q' : Answer (Option Stated)) (o o' : Option ValueType) → IsHeld (IsValueIf b) q o → IsHeld (IsValueIf c) q' o'
    → item_node d (ItemKind.Value w) ≡ Some (l, option_slot o ∷ option_slot o' ∷ []) → IsHeld (IsValue d) (of_two l q q') w
two_held b c d g g' l w (Ok t) (Ok t') o o' h h' e =
    entry_holds d g'.acyclic (ItemKind.Value w) l (option_slot o ∷ option_slot o' ∷ []) (t ∷ t' ∷ []) e
    (ap (λ x. x ∷ option_map (stated_of d) (option_slot o') ∷ []) (option_places d o ∙ (IsValueIf-kept c d g' t o (IsValueIf-kept b c g t o h)).same)
    ∙ ap (λ x. t ∷ x ∷ []) (option_places d o' ∙ (IsValueIf-kept c d g' t' o' h').same))
two_held b c d g g' l w (Ok t) (Err x) o o' h h' e = absurd h'
two_held b c d g g' l w (Err x) q' o o' h h' e = absurd h

pub some_held : (c : Collection) (q : Answer Stated) (v : ValueType) → IsHeld (IsValue c) q v → IsHeld (IsValueIf c) (some_of q) (Some v)
some_held c (Ok t) v h = record { stands = h.stands; same = ap Some h.same }
some_held c (Err x) v h = absurd h

pub all_stand : (c : Collection) (q : Answer (List (Option Stated))) (vs : List ValueType) → IsHeld (AreValues c) q vs → All (SlotStands c) (map value_slot vs)
all_stand c (Ok ts) vs h = children c (map value_slot vs) (values_stand c vs h.stand)
all_stand c (Err x) vs h = absurd h

-- ---- refusals

pub one_refused : (l : Shape) (q : Answer Stated) (e : Refusal) → IsRefusal q e → IsRefusal (of_one l q) e
one_refused l (Ok x) e h = h
one_refused l (Err c) e h = h

pub maybe_refused : (l : Shape) (q : Answer (Option Stated)) (e : Refusal) → IsRefusal q e → IsRefusal (of_maybe l q) e
maybe_refused l (Ok x) e h = h
maybe_refused l (Err c) e h = h

pub all_refused : (l : Shape) (q : Answer (List (Option Stated))) (e : Refusal) → IsRefusal q e → IsRefusal (of_all l q) e
all_refused l (Ok x) e h = h
all_refused l (Err c) e h = h

pub some_refused : (q : Answer Stated) (e : Refusal) → IsRefusal q e → IsRefusal (some_of q) e
some_refused (Ok x) e h = h
some_refused (Err c) e h = h

pub first_refused : (l : Shape) (q q' : Answer (Option Stated)) (e : Refusal) → IsRefusal q e → IsRefusal (of_two l q q') e
first_refused l (Ok x) (Ok y) e h = h
first_refused l (Ok x) (Err c) e h = memory_refusal {A = Stated} (Err c) e h
first_refused l (Err c) q' e h = h

pub second_refused : (l : Shape) (c : Collection) (q q' : Answer (Option Stated)) (o : Option ValueType) (e : Refusal) → IsHeld (IsValueIf c) q o → IsRefusal q' e → IsRefusal (of_two l q q') e
second_refused l c (Ok x) (Ok y) o e h r = r
second_refused l c (Ok x) (Err d) o e h r = r
second_refused l c (Err d) q' o e h r = absurd h

pub second_refused_in : (l : Shape) (c : Collection) (ns ms : Scope) (p p' : t.MaybeTy) (o : Option ValueType) (e : Refusal) → ms ≡ ns → IsHeld (IsValueIf c) (maybe_value ns p) o → IsRefusal (maybe_value ms p') e
    → IsRefusal (of_two l (maybe_value ns p) (maybe_value ns p')) e
second_refused_in l c ns ms p p' o e same h r = second_refused l c (maybe_value ns p) (maybe_value ns p') o e h (subst (λ (n : Scope). IsRefusal (maybe_value n p') e) same r)

-- a first part that is known
joined_by : (d c : Collection) (q q' : Answer (Option Stated)) (o : Option ValueType) (r : Result ValueType Refusal) → IsHeld (IsValueIf c) q o → IsOutcome (IsValue d) (of_two s.result (Ok (stated_if c o)) q') r → IsOutcome (IsValue d) (of_two s.result q q') r
joined_by d c (Ok t) q' o r h x = subst (λ (u : Option Stated). IsOutcome (IsValue d) (of_two s.result (Ok u) q') r) h.same x
joined_by d c (Err e) q' o r h x = absurd h

pub joined : (c d : Collection) (ns ms : Scope) (p p' : t.MaybeTy) (o : Option ValueType) (r : Result ValueType Refusal) → ms ≡ ns → IsHeld (IsValueIf c) (maybe_value ns p) o
    → IsOutcome (IsValue d) (of_two s.result (Ok (stated_if c o)) (maybe_value ms p')) r → IsOutcome (IsValue d) (of_two s.result (maybe_value ns p) (maybe_value ns p')) r
joined c d ns ms p p' o r same h x =
    joined_by d c (maybe_value ns p) (maybe_value ns p') o r h (subst (λ (n : Scope). IsOutcome (IsValue d) (of_two s.result (Ok (stated_if c o)) (maybe_value n p')) r) same x)
