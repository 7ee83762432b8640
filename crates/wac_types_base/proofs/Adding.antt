-- Adding entries keeps each tree, and the collection acyclic.
use Rattle.std.proofs.Common.{◌≡◌, ℕ, zero, suc, ◌+◌, ◌<◌, List, [], ◌∷◌, ◌++◌, map, length, Option, Some, None, Bool, true, false, ◌==◌, if◌then◌else◌, slice_get, All, refl, sym, ap, subst, ◌∙◌, ◌⊎◌, inl, inr, arith, length-append, append-nil}
use Rattle.std.proofs.lemmas.List.{length-map}
use Rattle.std.specs.Option.{option_map}
use Rattle.wac_types_base.specs.declared.item.ValueType.{ValueType}
use Rattle.wac_types_base.specs.declared.item.«Type».{«Type» as TypeKind}
use Rattle.wac_types_base.specs.declared.item.ItemKind.{ItemKind}
use Rattle.wac_types_base.specs.declared.defined.FuncType.{FuncType}
use Rattle.wac_types_base.specs.declared.defined.Interface.{Interface}
use Rattle.wac_types_base.specs.declared.defined.World.{World}
use Rattle.wac_types_base.specs.declared.defined.DefinedType.{DefinedType}
use Rattle.wac_types_base.specs.declared.defined.Resource.{Resource}
use Rattle.wac_types_base.specs.declared.core_types.ModuleType.{ModuleType}
use Rattle.wac_types_base.specs.Record.{Collection, Kept}
use Rattle.wac_types_base.specs.Kept.{keeping}
use Rattle.wac_types_base.specs.Graph.{Among}
use Rattle.wac_types_base.specs.Collection.{Shape, Entry, Slot, SlotStands, entry_at, labelled, defined_entry, resource_entry, func_entry, interface_entry, world_entry, module_entry, value_node, type_node, item_node, rows, depth, Stands, unfolding_of, IsAcyclic, empty, HasChildren, KeepsTrees, Grows, plus}
use Rattle.wac_types_base.proofs.GraphLemmas.{row_of, value_of, is_there, whole-extends, node_has}

pub All-among : {X : Type 0} (P : X → Type 0) (xs : List X) (x : X) → All P xs → Among x xs → P x
All-among P [] x a m = absurd m
All-among P (y ∷ ys) x a (inl e) = subst P (sym e) (a 0 x (omega arith))
All-among P (y ∷ ys) x a (inr m) = All-among P ys x (λ k d h. a (suc k) d (omega arith)) m

pub Among-left : {X : Type 0} (x : X) (xs ys : List X) → Among x xs → Among x (xs ++ ys)
Among-left x [] ys m = absurd m
Among-left x (y ∷ xs) ys (inl e) = inl e
Among-left x (y ∷ xs) ys (inr m) = inr (Among-left x xs ys m)

pub Among-right : {X : Type 0} (x : X) (xs ys : List X) → Among x ys → Among x (xs ++ ys)
Among-right x [] ys m = m
Among-right x (y ∷ xs) ys m = inr (Among-right x xs ys m)

-- an element of a list that is another one more
pub slice_get-left : {X : Type 0} (xs ys : List X) (i : ℕ) (x : X) → slice_get xs i ≡ Some x → slice_get (xs ++ ys) i ≡ Some x
slice_get-left [] ys i x e = absurd (cc e)
slice_get-left (y ∷ xs) ys zero x e = e
slice_get-left (y ∷ xs) ys (suc i) x e = slice_get-left xs ys i x e

pub slice_get-among : {X Y : Type 0} (f : X → Y) (xs : List X) (i : ℕ) (x : X) → slice_get xs i ≡ Some x → Among (f x) (map f xs)
slice_get-among f [] i x e = absurd (cc e)
slice_get-among f (y ∷ xs) zero x e = inl (ap f (cc e))
slice_get-among f (y ∷ xs) (suc i) x e = inr (slice_get-among f xs i x e)

pub slice_get-append : {X Y : Type 0} (f : X → Y) (xs ys : List X) (i : ℕ) (x : X) → slice_get (xs ++ ys) i ≡ Some x → (slice_get xs i ≡ Some x) ⊎ Among (f x) (map f ys)
slice_get-append f [] ys i x e = inr (slice_get-among f ys i x e)
slice_get-append f (y ∷ xs) ys zero x e = inl e
slice_get-append f (y ∷ xs) ys (suc i) x e = slice_get-append f xs ys i x e

-- what a guarded option is that is there
pub guarded-some : {A : Type 0} (b : Bool) (o : Option A) (x : A) → (if b then o else None) ≡ Some x → (b ≡ true) × (o ≡ Some x)
guarded-some true o x e = (refl, e)
guarded-some false o x e = absurd (cc e)

pub option_map-some : {A B : Type 0} (f : A → B) (o : Option A) (y : B) → option_map f o ≡ Some y → (x : A) × (o ≡ Some x) × (y ≡ f x)
option_map-some f None y e = absurd (cc e)
option_map-some f (Some x) y e = (x, refl, cc e)

module _ {E : Type 0} (f : E → Entry) (n : ℕ) (es ds : List E) (col i : ℕ) where
  pub entry_at-extends : (x : Entry) → entry_at f n es col i ≡ Some x → entry_at f n (es ++ ds) col i ≡ Some x
  entry_at-extends x e =
      let g = guarded-some (col == n) (option_map f (slice_get es i)) x e in
      let m = option_map-some f (slice_get es i) x g.1 in
      rw (g.0, slice_get-left es ds i m.0 m.1) (sym (ap Some m.2))

  pub entry_at-append : (x : Entry) → entry_at f n (es ++ ds) col i ≡ Some x → (entry_at f n es col i ≡ Some x) ⊎ Among x.1 (map (λ y. (f y).1) ds)
  entry_at-append x e =
      let g = guarded-some (col == n) (option_map f (slice_get (es ++ ds) i)) x e in
      let m = option_map-some f (slice_get (es ++ ds) i) x g.1 in
      elim (slice_get-append (λ y. (f y).1) es ds i m.0 m.1) [
        | inl old ↦ inl (rw (g.0, old) (sym (ap Some m.2)))
        | inr new ↦ inr (subst (λ y. Among y (map (λ y. (f y).1) ds)) (sym (ap (λ y. y.1) m.2)) new)
      ]

  pub entry_at-among : (x : Entry) → entry_at f n es col i ≡ Some x → Among x.1 (map (λ y. (f y).1) es)
  entry_at-among x e =
      let g = guarded-some (col == n) (option_map f (slice_get es i)) x e in
      let m = option_map-some f (slice_get es i) x g.1 in
      subst (λ y. Among y (map (λ y. (f y).1) es)) (sym (ap (λ y. y.1) m.2)) (slice_get-among (λ y. (f y).1) es i m.0 m.1)

pub labelled-some : (l : Shape → Shape) (o : Option Entry) (x : Entry) → labelled l o ≡ Some x → (y : Entry) × (o ≡ Some y) × (x ≡ (l y.0, y.1))
labelled-some l None x e = absurd (cc e)
labelled-some l (Some y) x e = (y, refl, cc e)

pub labelled-extends : (l : Shape → Shape) (o o' : Option Entry) → ((x : Entry) → o ≡ Some x → o' ≡ Some x) → (x : Entry) → labelled l o ≡ Some x → labelled l o' ≡ Some x
labelled-extends l o o' h x e = let m = labelled-some l o x e in rw (h m.0 m.1) (sym (ap Some m.2))

-- an entry that is there in the larger collection was there, or is a new one
abbrev pub OldOrNew : Option Entry → List (List Slot) → Option Entry → Type 0
OldOrNew o new o' = (x : Entry) → o' ≡ Some x → (o ≡ Some x) ⊎ Among x.1 new

pub labelled-old_or_new : (l : Shape → Shape) (o o' : Option Entry) (new : List (List Slot)) → OldOrNew o new o' → OldOrNew (labelled l o) new (labelled l o')
labelled-old_or_new l o o' new h x e =
    let m = labelled-some l o' x e in
    elim (h m.0 m.1) [
      | inl old ↦ inl (rw old (sym (ap Some m.2)))
      | inr a ↦ inr (subst (λ y. Among y new) (sym (ap (λ y. y.1) m.2)) a)
    ]

pub old_or_new-weaken : (o o' : Option Entry) (new all : List (List Slot)) → ((r : List Slot) → Among r new → Among r all) → OldOrNew o new o' → OldOrNew o all o'
old_or_new-weaken o o' new all w h x e = elim (h x e) [ inl old ↦ inl old | inr a ↦ inr (w x.1 a) ]

-- the rows of each list are among the rows of all
module _ (d : Collection) (r : List Slot) where
  defined_rows : Among r (map (λ e. (defined_entry e).1) d.defined_types) → Among r (rows d)
  unfolding rows
  defined_rows m = Among-left r _ _ m

  resource_rows : Among r (map (λ e. (resource_entry e).1) d.resources) → Among r (rows d)
  unfolding rows
  resource_rows m = Among-right r (map (λ e. (defined_entry e).1) d.defined_types) _ (Among-left r _ _ m)

  func_rows : Among r (map (λ e. (func_entry e).1) d.func_types) → Among r (rows d)
  unfolding rows
  func_rows m = Among-right r (map (λ e. (defined_entry e).1) d.defined_types) _ (Among-right r (map (λ e. (resource_entry e).1) d.resources) _ (Among-left r _ _ m))

  interface_rows : Among r (map (λ e. (interface_entry e).1) d.interfaces) → Among r (rows d)
  unfolding rows
  interface_rows m = Among-right r (map (λ e. (defined_entry e).1) d.defined_types) _ (Among-right r (map (λ e. (resource_entry e).1) d.resources) _ (Among-right r (map (λ e. (func_entry e).1) d.func_types) _ (Among-left r _ _ m)))

  world_rows : Among r (map (λ e. (world_entry e).1) d.worlds) → Among r (rows d)
  unfolding rows
  world_rows m = Among-right r (map (λ e. (defined_entry e).1) d.defined_types) _ (Among-right r (map (λ e. (resource_entry e).1) d.resources) _ (Among-right r (map (λ e. (func_entry e).1) d.func_types) _ (Among-right r (map (λ e. (interface_entry e).1) d.interfaces) _ (Among-left r _ _ m))))

  module_rows : Among r (map (λ e. (module_entry e).1) d.modules) → Among r (rows d)
  unfolding rows
  module_rows m = Among-right r (map (λ e. (defined_entry e).1) d.defined_types) _ (Among-right r (map (λ e. (resource_entry e).1) d.resources) _ (Among-right r (map (λ e. (func_entry e).1) d.func_types) _ (Among-right r (map (λ e. (interface_entry e).1) d.interfaces) _ (Among-right r (map (λ e. (world_entry e).1) d.worlds) _ m))))

module _ (c d : Collection) where
  value_old_or_new : (v : ValueType) → OldOrNew (value_node c v) (rows d) (value_node (plus c d) v)
  value_old_or_new (ValueType.Primitive p) = λ x e. inl e
  value_old_or_new (ValueType.Borrow r) = labelled-old_or_new _ _ _ _ (old_or_new-weaken _ _ _ _ (resource_rows d) (entry_at-append resource_entry c.number c.resources d.resources r.collection r.index))
  value_old_or_new (ValueType.Own r) = labelled-old_or_new _ _ _ _ (old_or_new-weaken _ _ _ _ (resource_rows d) (entry_at-append resource_entry c.number c.resources d.resources r.collection r.index))
  value_old_or_new (ValueType.Defined t) = old_or_new-weaken _ _ _ _ (defined_rows d) (entry_at-append defined_entry c.number c.defined_types d.defined_types t.collection t.index)

  func_old_or_new : (i j : ℕ) → OldOrNew (entry_at func_entry c.number c.func_types i j) (rows d) (entry_at func_entry c.number (c.func_types ++ d.func_types) i j)
  func_old_or_new i j = old_or_new-weaken _ _ _ _ (func_rows d) (entry_at-append func_entry c.number c.func_types d.func_types i j)

  interface_old_or_new : (i j : ℕ) → OldOrNew (entry_at interface_entry c.number c.interfaces i j) (rows d) (entry_at interface_entry c.number (c.interfaces ++ d.interfaces) i j)
  interface_old_or_new i j = old_or_new-weaken _ _ _ _ (interface_rows d) (entry_at-append interface_entry c.number c.interfaces d.interfaces i j)

  world_old_or_new : (i j : ℕ) → OldOrNew (entry_at world_entry c.number c.worlds i j) (rows d) (entry_at world_entry c.number (c.worlds ++ d.worlds) i j)
  world_old_or_new i j = old_or_new-weaken _ _ _ _ (world_rows d) (entry_at-append world_entry c.number c.worlds d.worlds i j)

  module_old_or_new : (i j : ℕ) → OldOrNew (entry_at module_entry c.number c.modules i j) (rows d) (entry_at module_entry c.number (c.modules ++ d.modules) i j)
  module_old_or_new i j = old_or_new-weaken _ _ _ _ (module_rows d) (entry_at-append module_entry c.number c.modules d.modules i j)

  type_old_or_new : (t : TypeKind) → OldOrNew (type_node c t) (rows d) (type_node (plus c d) t)
  type_old_or_new (TypeKind.Resource r) = old_or_new-weaken _ _ _ _ (resource_rows d) (entry_at-append resource_entry c.number c.resources d.resources r.collection r.index)
  type_old_or_new (TypeKind.Func f) = labelled-old_or_new _ _ _ _ (func_old_or_new f.collection f.index)
  type_old_or_new (TypeKind.Value v) = labelled-old_or_new _ _ _ _ (value_old_or_new v)
  type_old_or_new (TypeKind.Interface i) = labelled-old_or_new _ _ _ _ (interface_old_or_new i.collection i.index)
  type_old_or_new (TypeKind.World w) = labelled-old_or_new _ _ _ _ (world_old_or_new w.collection w.index)
  type_old_or_new (TypeKind.Module m) = labelled-old_or_new _ _ _ _ (module_old_or_new m.collection m.index)

  pub item_old_or_new : (k : ItemKind) → OldOrNew (item_node c k) (rows d) (item_node (plus c d) k)
  unfolding item_node
  item_old_or_new (ItemKind.Ty t) = type_old_or_new t
  item_old_or_new (ItemKind.Func f) = func_old_or_new f.collection f.index
  item_old_or_new (ItemKind.Instance i) = interface_old_or_new i.collection i.index
  item_old_or_new (ItemKind.Component w) = world_old_or_new w.collection w.index
  item_old_or_new (ItemKind.Module m) = module_old_or_new m.collection m.index
  item_old_or_new (ItemKind.Value v) = value_old_or_new v

  value_extends : (v : ValueType) (x : Entry) → value_node c v ≡ Some x → value_node (plus c d) v ≡ Some x
  value_extends (ValueType.Primitive p) = λ x e. e
  value_extends (ValueType.Borrow r) = labelled-extends _ _ _ (entry_at-extends resource_entry c.number c.resources d.resources r.collection r.index)
  value_extends (ValueType.Own r) = labelled-extends _ _ _ (entry_at-extends resource_entry c.number c.resources d.resources r.collection r.index)
  value_extends (ValueType.Defined t) = entry_at-extends defined_entry c.number c.defined_types d.defined_types t.collection t.index

  type_extends : (t : TypeKind) (x : Entry) → type_node c t ≡ Some x → type_node (plus c d) t ≡ Some x
  type_extends (TypeKind.Resource r) = entry_at-extends resource_entry c.number c.resources d.resources r.collection r.index
  type_extends (TypeKind.Func f) = labelled-extends _ _ _ (entry_at-extends func_entry c.number c.func_types d.func_types f.collection f.index)
  type_extends (TypeKind.Value v) = labelled-extends _ _ _ (value_extends v)
  type_extends (TypeKind.Interface i) = labelled-extends _ _ _ (entry_at-extends interface_entry c.number c.interfaces d.interfaces i.collection i.index)
  type_extends (TypeKind.World w) = labelled-extends _ _ _ (entry_at-extends world_entry c.number c.worlds d.worlds w.collection w.index)
  type_extends (TypeKind.Module m) = labelled-extends _ _ _ (entry_at-extends module_entry c.number c.modules d.modules m.collection m.index)

  pub item_extends : (k : ItemKind) (x : Entry) → item_node c k ≡ Some x → item_node (plus c d) k ≡ Some x
  unfolding item_node
  item_extends (ItemKind.Ty t) = type_extends t
  item_extends (ItemKind.Func f) = entry_at-extends func_entry c.number c.func_types d.func_types f.collection f.index
  item_extends (ItemKind.Instance i) = entry_at-extends interface_entry c.number c.interfaces d.interfaces i.collection i.index
  item_extends (ItemKind.Component w) = entry_at-extends world_entry c.number c.worlds d.worlds w.collection w.index
  item_extends (ItemKind.Module m) = entry_at-extends module_entry c.number c.modules d.modules m.collection m.index
  item_extends (ItemKind.Value v) = value_extends v

length-rows : (c d : Collection) → length (rows (plus c d)) ≡ length (rows c) + length (rows d)
unfolding rows
length-rows c d = simp (length-append, length-map) (omega arith)

Among-length : {X : Type 0} (x : X) (xs : List X) → Among x xs → 0 < length xs
Among-length x [] m = absurd m
Among-length x (y ∷ xs) m = omega arith

-- new entries whose ids all stand leave a collection acyclic
pub IsAcyclic-plus : (c d : Collection) → IsAcyclic c → ((r : List Slot) → Among r (rows d) → (k : ItemKind) → Among (Some k) r → Stands c k) → IsAcyclic (plus c d)
unfolding IsAcyclic
IsAcyclic-plus c d h new k stands =
    let v = value_of _ stands in
    let len = length-rows c d in
    elim (item_old_or_new c d k v.0 v.1) [
      | inl old ↦
          let t = value_of _ (h k (is_there _ v.0 old)) in
          is_there _ t.0 (whole-extends (item_node c) (item_node (plus c d)) (item_extends c d) (depth c) (depth (plus c d)) (omega (arith, len)) k t.0 t.1)
      | inr row ↦
          let some = Among-length v.0.1 (rows d) row in
          let b = value_of _ (node_has (item_node (plus c d)) (depth c) k v.0.0 v.0.1 v.1 (λ j m.
          let t = value_of _ (h j (new v.0.1 row j m)) in
          is_there _ t.0 (whole-extends (item_node c) (item_node (plus c d)) (item_extends c d) (depth c) (depth c) (omega arith) j t.0 t.1))) in
          is_there _ b.0 (whole-extends (item_node (plus c d)) (item_node (plus c d)) (λ r e x. x) (suc (depth c)) (depth (plus c d)) (omega (arith, len, some)) k b.0 b.1)
    ]

pub KeepsTrees-plus : (c d : Collection) → IsAcyclic c → KeepsTrees c (plus c d)
unfolding IsAcyclic unfolding_of
KeepsTrees-plus c d h k stands =
    let len = length-rows c d in
    let t = value_of _ (h k stands) in
    whole-extends (item_node c) (item_node (plus c d)) (item_extends c d) (depth c) (depth (plus c d)) (omega (arith, len)) k t.0 t.1 ∙ sym t.1

-- in a collection with no entries only what has no children stands
IsBare : Option Entry → Type 0
IsBare o = (x : Entry) → o ≡ Some x → x.1 ≡ []

entry_at-bare : {E : Type 0} (f : E → Entry) (n col i : ℕ) → IsBare (entry_at f n [] col i)
unfolding IsBare
entry_at-bare f n col i x e = absurd (entry_at-among f n [] [] col i x e)

labelled-bare : (l : Shape → Shape) (o : Option Entry) → IsBare o → IsBare (labelled l o)
unfolding IsBare
labelled-bare l o h x e = let m = labelled-some l o x e in ap (λ y. y.1) m.2 ∙ h m.0 m.1

value_bare : (n : ℕ) (v : ValueType) → IsBare (value_node (empty n) v)
unfolding IsBare
value_bare n (ValueType.Primitive p) = λ x e. sym (ap row_of e)
value_bare n (ValueType.Borrow r) = labelled-bare _ _ (entry_at-bare resource_entry n r.collection r.index)
value_bare n (ValueType.Own r) = labelled-bare _ _ (entry_at-bare resource_entry n r.collection r.index)
value_bare n (ValueType.Defined t) = entry_at-bare defined_entry n t.collection t.index

type_bare : (n : ℕ) (t : TypeKind) → IsBare (type_node (empty n) t)
type_bare n (TypeKind.Resource r) = entry_at-bare resource_entry n r.collection r.index
type_bare n (TypeKind.Func f) = labelled-bare _ _ (entry_at-bare func_entry n f.collection f.index)
type_bare n (TypeKind.Value v) = labelled-bare _ _ (value_bare n v)
type_bare n (TypeKind.Interface i) = labelled-bare _ _ (entry_at-bare interface_entry n i.collection i.index)
type_bare n (TypeKind.World w) = labelled-bare _ _ (entry_at-bare world_entry n w.collection w.index)
type_bare n (TypeKind.Module m) = labelled-bare _ _ (entry_at-bare module_entry n m.collection m.index)

item_bare : (n : ℕ) (k : ItemKind) → IsBare (item_node (empty n) k)
unfolding item_node
item_bare n (ItemKind.Ty t) = type_bare n t
item_bare n (ItemKind.Func f) = entry_at-bare func_entry n f.collection f.index
item_bare n (ItemKind.Instance i) = entry_at-bare interface_entry n i.collection i.index
item_bare n (ItemKind.Component w) = entry_at-bare world_entry n w.collection w.index
item_bare n (ItemKind.Module m) = entry_at-bare module_entry n m.collection m.index
item_bare n (ItemKind.Value v) = value_bare n v

-- the children of what stands are a row, or none
pub children_in_rows : (c : Collection) (k : ItemKind) (s : Shape) (rs : List Slot) → item_node c k ≡ Some (s, rs) → (rs ≡ []) ⊎ Among rs (rows c)
unfolding IsBare
children_in_rows c k s rs e = elim (item_old_or_new (empty c.number) c k (s, rs) e) [
  | inl old ↦ inl (item_bare c.number k (s, rs) old)
  | inr row ↦ inr row
]

pub IsAcyclic-empty : (n : ℕ) → IsAcyclic (empty n)
unfolding IsAcyclic IsBare
IsAcyclic-empty n k stands =
    let v = value_of _ stands in
    let none = item_bare n k v.0 v.1 in
    let b = value_of _ (node_has (item_node (empty n)) 0 k v.0.0 v.0.1 v.1 (λ j m. absurd (subst (λ l. Among (Some j) l) none m))) in
    is_there _ b.0 (whole-extends (item_node (empty n)) (item_node (empty n)) (λ r e x. x) 1 (depth (empty n)) (omega arith) k b.0 b.1)

pub row_stands : (c : Collection) (e : Entry) → HasChildren c e → (r : List Slot) → r ≡ e.1 → (k : ItemKind) → Among (Some k) r → Stands c k
row_stands c e h r is k m = All-among (SlotStands c) e.1 (Some k) h (subst (λ l. Among (Some k) l) is m)

pub Grows-refl : (c : Collection) → IsAcyclic c → Grows c c
Grows-refl c a = record { number = refl; stand = λ k h. h; keep = λ k h. refl; acyclic = a }

pub Grows-trans : (c d e : Collection) → Grows c d → Grows d e → Grows c e
Grows-trans c d e p q = record { number = q.number ∙ p.number; stand = λ k h. q.stand k (p.stand k h); keep = λ k h. q.keep k (p.stand k h) ∙ p.keep k h; acyclic = q.acyclic }

pub Grows-plus : (c d : Collection) → IsAcyclic c → ((r : List Slot) → Among r (rows d) → (k : ItemKind) → Among (Some k) r → Stands c k) → Grows c (plus c d)
Grows-plus c d a h = record {
  number = refl;
  stand = λ k s. let v = value_of _ s in is_there _ v.0 (item_extends c d k v.0 v.1);
  keep = KeepsTrees-plus c d a;
  acyclic = IsAcyclic-plus c d a h;
}

plus_defined : (c : Collection) (m : Kept) (x : DefinedType) → plus c (record (empty 0) { defined_types = x ∷ []; kept = m }) ≡ keeping m (record c { defined_types = c.defined_types ++ x ∷ [] })
plus_defined c m x = simp append-nil

pub Grows-add_defined_type : (c : Collection) (m : Kept) (x : DefinedType) → IsAcyclic c → HasChildren c (defined_entry x) → Grows c (keeping m (record c { defined_types = c.defined_types ++ x ∷ [] }))
unfolding rows
Grows-add_defined_type c m x a has = subst (Grows c) (plus_defined c m x) (Grows-plus c (record (empty 0) { defined_types = x ∷ []; kept = m }) a
    (λ r m. elim m [ inl is ↦ row_stands c (defined_entry x) has r is | inr none ↦ absurd none ]))

pub IsAcyclic-add_defined_type : (c : Collection) (m : Kept) (x : DefinedType) → IsAcyclic c → HasChildren c (defined_entry x) → IsAcyclic (keeping m (record c { defined_types = c.defined_types ++ x ∷ [] }))
IsAcyclic-add_defined_type c m x a has = (Grows-add_defined_type c m x a has).acyclic

plus_resource : (c : Collection) (m : Kept) (x : Resource) → plus c (record (empty 0) { resources = x ∷ []; kept = m }) ≡ keeping m (record c { resources = c.resources ++ x ∷ [] })
plus_resource c m x = simp append-nil

pub Grows-add_resource : (c : Collection) (m : Kept) (x : Resource) → IsAcyclic c → HasChildren c (resource_entry x) → Grows c (keeping m (record c { resources = c.resources ++ x ∷ [] }))
unfolding rows
Grows-add_resource c m x a has = subst (Grows c) (plus_resource c m x) (Grows-plus c (record (empty 0) { resources = x ∷ []; kept = m }) a
    (λ r m. elim m [ inl is ↦ row_stands c (resource_entry x) has r is | inr none ↦ absurd none ]))

pub IsAcyclic-add_resource : (c : Collection) (m : Kept) (x : Resource) → IsAcyclic c → HasChildren c (resource_entry x) → IsAcyclic (keeping m (record c { resources = c.resources ++ x ∷ [] }))
IsAcyclic-add_resource c m x a has = (Grows-add_resource c m x a has).acyclic

plus_func : (c : Collection) (m : Kept) (x : FuncType) → plus c (record (empty 0) { func_types = x ∷ []; kept = m }) ≡ keeping m (record c { func_types = c.func_types ++ x ∷ [] })
plus_func c m x = simp append-nil

pub Grows-add_func_type : (c : Collection) (m : Kept) (x : FuncType) → IsAcyclic c → HasChildren c (func_entry x) → Grows c (keeping m (record c { func_types = c.func_types ++ x ∷ [] }))
unfolding rows
Grows-add_func_type c m x a has = subst (Grows c) (plus_func c m x) (Grows-plus c (record (empty 0) { func_types = x ∷ []; kept = m }) a
    (λ r m. elim m [ inl is ↦ row_stands c (func_entry x) has r is | inr none ↦ absurd none ]))

pub IsAcyclic-add_func_type : (c : Collection) (m : Kept) (x : FuncType) → IsAcyclic c → HasChildren c (func_entry x) → IsAcyclic (keeping m (record c { func_types = c.func_types ++ x ∷ [] }))
IsAcyclic-add_func_type c m x a has = (Grows-add_func_type c m x a has).acyclic

plus_interface : (c : Collection) (m : Kept) (x : Interface) → plus c (record (empty 0) { interfaces = x ∷ []; kept = m }) ≡ keeping m (record c { interfaces = c.interfaces ++ x ∷ [] })
plus_interface c m x = simp append-nil

pub Grows-add_interface : (c : Collection) (m : Kept) (x : Interface) → IsAcyclic c → HasChildren c (interface_entry x) → Grows c (keeping m (record c { interfaces = c.interfaces ++ x ∷ [] }))
unfolding rows
Grows-add_interface c m x a has = subst (Grows c) (plus_interface c m x) (Grows-plus c (record (empty 0) { interfaces = x ∷ []; kept = m }) a
    (λ r m. elim m [ inl is ↦ row_stands c (interface_entry x) has r is | inr none ↦ absurd none ]))

pub IsAcyclic-add_interface : (c : Collection) (m : Kept) (x : Interface) → IsAcyclic c → HasChildren c (interface_entry x) → IsAcyclic (keeping m (record c { interfaces = c.interfaces ++ x ∷ [] }))
IsAcyclic-add_interface c m x a has = (Grows-add_interface c m x a has).acyclic

plus_world : (c : Collection) (m : Kept) (x : World) → plus c (record (empty 0) { worlds = x ∷ []; kept = m }) ≡ keeping m (record c { worlds = c.worlds ++ x ∷ [] })
plus_world c m x = simp append-nil

pub Grows-add_world : (c : Collection) (m : Kept) (x : World) → IsAcyclic c → HasChildren c (world_entry x) → Grows c (keeping m (record c { worlds = c.worlds ++ x ∷ [] }))
unfolding rows
Grows-add_world c m x a has = subst (Grows c) (plus_world c m x) (Grows-plus c (record (empty 0) { worlds = x ∷ []; kept = m }) a
    (λ r m. elim m [ inl is ↦ row_stands c (world_entry x) has r is | inr none ↦ absurd none ]))

pub IsAcyclic-add_world : (c : Collection) (m : Kept) (x : World) → IsAcyclic c → HasChildren c (world_entry x) → IsAcyclic (keeping m (record c { worlds = c.worlds ++ x ∷ [] }))
IsAcyclic-add_world c m x a has = (Grows-add_world c m x a has).acyclic

plus_module : (c : Collection) (m : Kept) (x : ModuleType) → plus c (record (empty 0) { modules = x ∷ []; kept = m }) ≡ keeping m (record c { modules = c.modules ++ x ∷ [] })
plus_module c m x = simp append-nil

pub Grows-add_module_type : (c : Collection) (m : Kept) (x : ModuleType) → IsAcyclic c → Grows c (keeping m (record c { modules = c.modules ++ x ∷ [] }))
unfolding rows
Grows-add_module_type c m x a = subst (Grows c) (plus_module c m x) (Grows-plus c (record (empty 0) { modules = x ∷ []; kept = m }) a
    (λ r m. elim m [ inl is ↦ λ k n. absurd (subst (λ l. Among (Some k) l) is n) | inr none ↦ absurd none ]))

pub IsAcyclic-add_module_type : (c : Collection) (m : Kept) (x : ModuleType) → IsAcyclic c → IsAcyclic (keeping m (record c { modules = c.modules ++ x ∷ [] }))
IsAcyclic-add_module_type c m x a = (Grows-add_module_type c m x a).acyclic
