-- What merging makes of two, by its stated type.
use Rattle.std.specs.Prelude.{slice_get, ◌==◌}
use Rattle.std.proofs.Common.{◌≡◌, ℕ, ◌+◌, List, [], ◌∷◌, ◌++◌, map, take, Option, Some, None, Bool, true, false, is_some, cond, refl, sym, ap, subst, ◌∙◌, inl, inr}
use Rattle.std.specs.Option.{option_map}
use Rattle.std.specs.Cmp.Lexicographic.{pointwise}
use Rattle.wac_types_base.specs.declared.item.ItemKind.{ItemKind}
use Rattle.wac_types_base.specs.declared.item.ValueType.{ValueType}
use Rattle.wac_types_base.specs.declared.item.«Type».{«Type» as TypeKind}
use Rattle.wac_types_base.specs.declared.ids.InterfaceId.{InterfaceId}
use Rattle.wac_types_base.specs.declared.defined.DefinedType.{DefinedType}
use Rattle.wac_types_base.specs.declared.defined.ResourceAlias.{ResourceAlias}
use Rattle.wac_types_base.specs.declared.defined.UsedType.{UsedType}
use Rattle.wac_types_base.specs.declared.defined.Interface.{Interface}
use Rattle.wac_types_base.specs.Record.{Collection}
use Rattle.wac_types_base.specs.Entries.{Name, value_at, with_values}
use Rattle.wac_types_base.specs.Collection.{Shape, Entry, SlotStands, Stands, IsAcyclic, Grows, item_node, labelled, type_of, borrow_of, own_of, defined_entry, resource_entry, resource_entry_at, func_entry, interface_entry, world_entry, module_entry}
use Rattle.wac_types_base.specs.Stated.{Stated, Used, Kind, IsInstance, IsInterface, stated_of, stated_entry, shape_kind, kind_of, uses_of, exports_of, identifier_of}
use Rattle.wac_types_base.proofs.GraphLemmas.{value_of}
use Rattle.wac_types_base.proofs.Adding.{labelled-some}
use Rattle.wac_types_base.proofs.Slots.{entry_at-is, stands_typed_func, stands_typed_interface, stands_typed_value, stands_typed_world, stands_typed_module}
use Rattle.wac_types_base.proofs.Standing.{defined_found, resource_found, func_found, interface_found, world_found, module_found}
use Rattle.wac_types_base.proofs.Telling.{stated_step}
use Rattle.wac_types_base.proofs.Looked.{take-one_more}
use Rattle.wac_types_base.proofs.Loops.{map-append}
use Rattle.wac_types_base.proofs.Stating.{stated_uses, interface_uses, interface_exports, interface_stated, value_with, stated_kept}
use Rattle.wac_types_fit.specs.TargetSteps.{AllStand}
use Rattle.wac_types_merge.specs.Interfaces.{new_in, joined, merged_interface, IsAt, UsesStand}
use Rattle.wac_types_merge.specs.United.{by_name, AreBoth, Unites, the_first, of_instances, ExportsUnite, none_united, one_alone, one_united, UnitesIn, OtherUnites, ItemsUnite, InterfacesUnite}
use Rattle.wac_types_merge.proofs.Placed.{uses_stand, exports_stand}

-- ---- entries that are mapped, name by name

new_at : {T U : Type 0} (g : Name × T → Name × U) (b d : Bool) (f : Name × T) (rest : List (Name × T)) (other : List (Name × U)) → b ≡ d → map g rest ≡ other → map g (cond b rest (f ∷ rest)) ≡ cond d other (g f ∷ other)
new_at g true d f rest other e h = subst (λ d. map g rest ≡ cond d other (g f ∷ other)) e h
new_at g false d f rest other e h = subst (λ d. g f ∷ map g rest ≡ cond d other (g f ∷ other)) e (ap (λ l. g f ∷ l) h)

-- values that depend on the name
abbrev named_by : {T U : Type 0} → (Name → T → U) → Name × T → Name × U
named_by h e = (e.0, h e.0 e.1)

module _ {T U : Type 0} (h : Name → T → U) where
  there_at : (b : Bool) (e : Name × T) (o : Option T) (p : Option U) → is_some p ≡ is_some o → is_some (cond b (Some (h e.0 e.1)) p) ≡ is_some (cond b (Some e.1) o)
  there_at true e o p same = refl
  there_at false e o p same = same

  same_there : (es : List (Name × T)) (n : Name) → is_some (value_at (map (named_by h) es) n) ≡ is_some (value_at es n)
  same_there [] n = refl
  same_there (e ∷ es) n = there_at (pointwise ◌==◌ n e.0) e (value_at es n) (value_at (map (named_by h) es) n) (same_there es n)

  new_mapped : (es fs : List (Name × T)) → map (named_by h) (new_in es fs) ≡ new_in (map (named_by h) es) (map (named_by h) fs)
  new_mapped es [] = refl
  new_mapped es (f ∷ fs) = new_at (named_by h) (is_some (value_at es f.0)) (is_some (value_at (map (named_by h) es) f.0)) f (new_in es fs) (new_in (map (named_by h) es) (map (named_by h) fs)) (sym (same_there es f.0)) (new_mapped es fs)

  joined_mapped : (es fs : List (Name × T)) → map (named_by h) (joined es fs) ≡ joined (map (named_by h) es) (map (named_by h) fs)
  joined_mapped es fs = map-append (named_by h) es (new_in es fs) ∙ ap (λ l. map (named_by h) es ++ l) (new_mapped es fs)

-- ---- uses

abbrev used_as : Collection → Name → UsedType → Used
used_as c n u = record { name = n; there = u.name; interface = stated_of c (ItemKind.Instance u.interface) }

named_uses : (c : Collection) (us : List (Name × UsedType)) → by_name (stated_uses c us) ≡ map (named_by (used_as c)) us
named_uses c [] = refl
named_uses c (u ∷ us) = ap (λ l. (u.0, used_as c u.0 u.1) ∷ l) (named_uses c us)

used_kept : (c d : Collection) → Grows c d → (us : List (Name × UsedType)) → UsesStand c us → map (named_by (used_as d)) us ≡ map (named_by (used_as c)) us
used_kept c d g [] s = refl
used_kept c d g (u ∷ us) s =
    ap (λ t. (u.0, record { name = u.0; there = u.1.name; interface = t }) ∷ map (named_by (used_as d)) us) (stated_kept c d g (ItemKind.Instance u.1.interface) (s u.0 u.1 (inl refl)))
    ∙ ap (λ l. (u.0, used_as c u.0 u.1) ∷ l) (used_kept c d g us (λ n v m. s n v (inr m)))

-- ---- items

items_kept : (c d : Collection) → Grows c d → (es : List (Name × ItemKind)) → AllStand c es → with_values (stated_of d) es ≡ with_values (stated_of c) es
items_kept c d g [] s = refl
items_kept c d g (e ∷ es) s =
    ap (λ t. (e.0, t) ∷ with_values (stated_of d) es) (stated_kept c d g e.1 (s e.0 e.1 (inl refl)))
    ∙ ap (λ l. (e.0, stated_of c e.1) ∷ l) (items_kept c d g es (λ n k m. s n k (inr m)))

-- ---- two interfaces

module _ (c d : Collection) (a : IsAcyclic c) (b : IsAcyclic d) (g : Grows c d) (i j l : InterfaceId) (x y : Interface) (p : IsAt c i x) (q : IsAt c j y) (h : InterfacesUnite c x y d l) where
  abbrev z : Interface
  z = merged_interface x y h.both

  -- what has the parts of the three interfaces
  parts_unite : (t u v : Stated) → AreBoth t u → kind_of v ≡ kind_of t → identifier_of v ≡ identifier_of t → uses_of t ≡ stated_uses c x.uses → uses_of u ≡ stated_uses c y.uses → uses_of v ≡ stated_uses d z.uses
      → exports_of t ≡ with_values (stated_of c) x.exports → exports_of u ≡ with_values (stated_of c) y.exports → exports_of v ≡ with_values (stated_of d) z.exports → Unites t u v
  parts_unite t u v both kind id tu uu vu te ue ve =
      of_instances t u v both kind id
      (ap by_name vu ∙ named_uses d z.uses ∙ joined_mapped (used_as d) x.uses y.uses
      ∙ ap (λ m. joined m (map (named_by (used_as d)) y.uses)) (used_kept c d g x.uses (uses_stand c a i x p))
      ∙ ap (λ m. joined (map (named_by (used_as c)) x.uses) m) (used_kept c d g y.uses (uses_stand c a j y q))
      ∙ sym (ap (λ m. joined m (by_name (uses_of u))) (ap by_name tu ∙ named_uses c x.uses) ∙ ap (λ m. joined (map (named_by (used_as c)) x.uses) m) (ap by_name uu ∙ named_uses c y.uses)))
      (with_values (stated_of d) h.both)
      (subst (λ others. ExportsUnite others (exports_of t) (with_values (stated_of d) h.both)) (sym ue) (subst (λ es. ExportsUnite (with_values (stated_of c) y.exports) es (with_values (stated_of d) h.both)) (sym te) h.united))
      (ve ∙ map-append (λ e. (e.0, stated_of d e.1)) h.both (new_in x.exports y.exports)
      ∙ ap (λ m. with_values (stated_of d) h.both ++ m) (new_mapped (λ n k. stated_of d k) x.exports y.exports
      ∙ ap (λ m. new_in m (with_values (stated_of d) y.exports)) (items_kept c d g x.exports (exports_stand c a i x p))
      ∙ ap (λ m. new_in (with_values (stated_of c) x.exports) m) (items_kept c d g y.exports (exports_stand c a j y q))
      ∙ sym (ap (λ m. new_in m (exports_of u)) te ∙ ap (λ m. new_in (with_values (stated_of c) x.exports) m) ue)))

  pub instances_unite : UnitesIn c (ItemKind.Instance i) (ItemKind.Instance j) d (ItemKind.Instance l)
  instances_unite =
      let t = interface_stated c a i x p.at p.own in
      let u = interface_stated c a j y q.at q.own in
      let v = interface_stated d b l z h.at.at h.at.own in
      parts_unite (stated_of c (ItemKind.Instance i)) (stated_of c (ItemKind.Instance j)) (stated_of d (ItemKind.Instance l))
      (inl (ap kind_of t, ap kind_of u)) (ap kind_of v ∙ sym (ap kind_of t)) (ap identifier_of v ∙ sym (ap identifier_of t))
      (ap uses_of t ∙ interface_uses c x) (ap uses_of u ∙ interface_uses c y) (ap uses_of v ∙ interface_uses d z)
      (ap exports_of t ∙ interface_exports c x) (ap exports_of u ∙ interface_exports c y) (ap exports_of v ∙ interface_exports d z)

  -- the entry of the type of an interface
  typed_node : (e : Collection) (k : InterfaceId) (w : Interface) → IsAt e k w → item_node e (ItemKind.Ty (TypeKind.Interface k)) ≡ Some (type_of (interface_entry w).0, (interface_entry w).1)
  unfolding item_node
  typed_node e k w r = ap (labelled type_of) (entry_at-is interface_entry e.number e.interfaces k.collection k.index w r.at r.own)

  typed_stated : (e : Collection) → IsAcyclic e → (k : InterfaceId) (w : Interface) → IsAt e k w → stated_of e (ItemKind.Ty (TypeKind.Interface k)) ≡ stated_entry e (type_of (interface_entry w).0, (interface_entry w).1)
  typed_stated e ac k w r = stated_step e ac (ItemKind.Ty (TypeKind.Interface k)) (type_of (interface_entry w).0, (interface_entry w).1) (typed_node e k w r)

  pub types_unite : UnitesIn c (ItemKind.Ty (TypeKind.Interface i)) (ItemKind.Ty (TypeKind.Interface j)) d (ItemKind.Ty (TypeKind.Interface l))
  types_unite =
      let t = typed_stated c a i x p in
      let u = typed_stated c a j y q in
      let v = typed_stated d b l z h.at in
      parts_unite (stated_of c (ItemKind.Ty (TypeKind.Interface i))) (stated_of c (ItemKind.Ty (TypeKind.Interface j))) (stated_of d (ItemKind.Ty (TypeKind.Interface l)))
      (inr (ap kind_of t, ap kind_of u)) (ap kind_of v ∙ sym (ap kind_of t)) (ap identifier_of v ∙ sym (ap identifier_of t))
      (ap uses_of t ∙ interface_uses c x) (ap uses_of u ∙ interface_uses c y) (ap uses_of v ∙ interface_uses d z)
      (ap exports_of t ∙ interface_exports c x) (ap exports_of u ∙ interface_exports c y) (ap exports_of v ∙ interface_exports d z)

-- ---- one more export

snoc_alone : (others es fs : List (Name × Stated)) (n : Name) (t : Stated) → value_at others n ≡ None → ExportsUnite others es fs → ExportsUnite others (es ++ (n, t) ∷ []) (fs ++ (n, t) ∷ [])
snoc_alone others es fs n t none none_united = one_alone n t [] [] none none_united
snoc_alone others es fs n t none (one_alone m s xs ys at h) = one_alone m s (xs ++ (n, t) ∷ []) (ys ++ (n, t) ∷ []) at (snoc_alone others xs ys n t none h)
snoc_alone others es fs n t none (one_united m s u v xs ys at w h) = one_united m s u v (xs ++ (n, t) ∷ []) (ys ++ (n, t) ∷ []) at w (snoc_alone others xs ys n t none h)

snoc_united : (others es fs : List (Name × Stated)) (n : Name) (t u v : Stated) → value_at others n ≡ Some u → Unites t u v → ExportsUnite others es fs → ExportsUnite others (es ++ (n, t) ∷ []) (fs ++ (n, v) ∷ [])
snoc_united others es fs n t u v at w none_united = one_united n t u v [] [] at w none_united
snoc_united others es fs n t u v at w (one_alone m s xs ys none h) = one_alone m s (xs ++ (n, t) ∷ []) (ys ++ (n, v) ∷ []) none (snoc_united others xs ys n t u v at w h)
snoc_united others es fs n t u v at w (one_united m s r q xs ys there k h) = one_united m s r q (xs ++ (n, t) ∷ []) (ys ++ (n, v) ∷ []) there k (snoc_united others xs ys n t u v at w h)

-- what is united before the collection grew
pub other_before : (c d : Collection) (a : ItemKind) (o : Option ItemKind) (e : Collection) (k : ItemKind) → Grows c d → Stands c a → SlotStands c o → OtherUnites d a o e k → OtherUnites c a o e k
other_before c d a None e k g s r h = h ∙ stated_kept c d g a s
other_before c d a (Some b) e k g s r h =
    subst (λ t. Unites t (stated_of c b) (stated_of e k)) (stated_kept c d g a s) (subst (λ u. Unites (stated_of d a) u (stated_of e k)) (stated_kept c d g b r) h)

united_last : (c : Collection) (fs : List (Name × ItemKind)) (e : Collection) (es gs : List (Name × Stated)) (n : Name) (k j : ItemKind) (o : Option ItemKind) → value_at fs n ≡ o → OtherUnites c k o e j → ExportsUnite (with_values (stated_of c) fs) es gs
    → ExportsUnite (with_values (stated_of c) fs) (es ++ (n, stated_of c k) ∷ []) (gs ++ (n, stated_of e j) ∷ [])
united_last c fs e es gs n k j None at w h =
    subst (λ t. ExportsUnite (with_values (stated_of c) fs) (es ++ (n, stated_of c k) ∷ []) (gs ++ (n, t) ∷ [])) (sym w)
    (snoc_alone (with_values (stated_of c) fs) es gs n (stated_of c k) (value_with (stated_of c) fs n ∙ ap (option_map (stated_of c)) at) h)
united_last c fs e es gs n k j (Some b) at w h =
    snoc_united (with_values (stated_of c) fs) es gs n (stated_of c k) (stated_of c b) (stated_of e j) (value_with (stated_of c) fs n ∙ ap (option_map (stated_of c)) at) w h

pub united_more : (c : Collection) (fs : List (Name × ItemKind)) (d e : Collection) (es gs after : List (Name × ItemKind)) (i : ℕ) (n : Name) (k j : ItemKind) → slice_get es i ≡ Some (n, k) → Grows d e → AllStand d gs → ItemsUnite c fs d (take i es) gs → OtherUnites c k (value_at fs n) e j
    → after ≡ gs ++ (n, j) ∷ [] → ItemsUnite c fs e (take (i + 1) es) after
united_more c fs d e es gs after i n k j at g stand h w is =
    let P : List (Name × Stated) → List (Name × Stated) → Type 0 = λ xs ys. ExportsUnite (with_values (stated_of c) fs) xs ys in
    let last = united_last c fs e (with_values (stated_of c) (take i es)) (with_values (stated_of d) gs) n k j (value_at fs n) refl w h in
    let left : with_values (stated_of c) (take (i + 1) es) ≡ with_values (stated_of c) (take i es) ++ (n, stated_of c k) ∷ [] =
    ap (with_values (stated_of c)) (take-one_more es i (n, k) at) ∙ map-append (λ x. (x.0, stated_of c x.1)) (take i es) ((n, k) ∷ []) in
    let right : with_values (stated_of e) after ≡ with_values (stated_of d) gs ++ (n, stated_of e j) ∷ [] =
    ap (with_values (stated_of e)) is ∙ map-append (λ x. (x.0, stated_of e x.1)) gs ((n, j) ∷ []) ∙ ap (λ l. l ++ (n, stated_of e j) ∷ []) (items_kept d e g gs stand) in
    subst (λ xs. P xs (with_values (stated_of e) after)) (sym left) (subst (P (with_values (stated_of c) (take i es) ++ (n, stated_of c k) ∷ [])) (sym right) last)

-- ---- what is no instance and no type of one

-- of neither kind
abbrev IsOther : Kind → Type 0
IsOther k = (k ≡ IsInstance → ⊥) × (k ≡ IsInterface → ⊥)

Others : Option Entry → Type 0
Others o = (e : Entry) → o ≡ Some e → IsOther (shape_kind e.0)

others : (o : Option Entry) (e : Entry) → o ≡ Some e → IsOther (shape_kind e.0) → Others o
unfolding Others
others o e is h f at =
    let here : e ≡ f = cc (is, at) in
    subst (λ (x : Entry). IsOther (shape_kind x.0)) here h

others_labelled : (l : Shape → Shape) (o : Option Entry) → ((s : Shape) → IsOther (shape_kind (l s))) → Others (labelled l o)
unfolding Others
others_labelled l o h e at =
    let y = labelled-some l o e at in
    subst (λ (x : Entry). IsOther (shape_kind x.0)) (sym y.2) (h y.0.0)

others_twice : (l : Shape → Shape) (o : Option Entry) → ((s : Shape) → IsOther (shape_kind (type_of (l s)))) → Others (labelled type_of (labelled l o))
unfolding Others
others_twice l o h e at =
    let y = labelled-some type_of (labelled l o) e at in
    let x = labelled-some l o y.0 y.1 in
    subst (λ (w : Entry). IsOther (shape_kind w.0)) (sym y.2) (subst (λ (w : Entry). IsOther (shape_kind (type_of w.0))) (sym x.2) (h x.0.0))

-- of the kinds of values
defined_other : (x : DefinedType) → IsOther (shape_kind (defined_entry x).0) × IsOther (shape_kind (type_of (defined_entry x).0))
defined_other (DefinedType.Tuple ts) = ((λ e. absurd (cc e), λ e. absurd (cc e)), (λ e. absurd (cc e), λ e. absurd (cc e)))
defined_other (DefinedType.List t) = ((λ e. absurd (cc e), λ e. absurd (cc e)), (λ e. absurd (cc e), λ e. absurd (cc e)))
defined_other (DefinedType.FixedSizeList t k) = ((λ e. absurd (cc e), λ e. absurd (cc e)), (λ e. absurd (cc e), λ e. absurd (cc e)))
defined_other (DefinedType.Option t) = ((λ e. absurd (cc e), λ e. absurd (cc e)), (λ e. absurd (cc e), λ e. absurd (cc e)))
defined_other (DefinedType.Result ok err) = ((λ e. absurd (cc e), λ e. absurd (cc e)), (λ e. absurd (cc e), λ e. absurd (cc e)))
defined_other (DefinedType.Variant v) = ((λ e. absurd (cc e), λ e. absurd (cc e)), (λ e. absurd (cc e), λ e. absurd (cc e)))
defined_other (DefinedType.Record r) = ((λ e. absurd (cc e), λ e. absurd (cc e)), (λ e. absurd (cc e), λ e. absurd (cc e)))
defined_other (DefinedType.Flags f) = ((λ e. absurd (cc e), λ e. absurd (cc e)), (λ e. absurd (cc e), λ e. absurd (cc e)))
defined_other (DefinedType.Enum x) = ((λ e. absurd (cc e), λ e. absurd (cc e)), (λ e. absurd (cc e), λ e. absurd (cc e)))
defined_other (DefinedType.Alias t) = ((λ e. absurd (cc e), λ e. absurd (cc e)), (λ e. absurd (cc e), λ e. absurd (cc e)))
defined_other (DefinedType.Stream o) = ((λ e. absurd (cc e), λ e. absurd (cc e)), (λ e. absurd (cc e), λ e. absurd (cc e)))
defined_other (DefinedType.Future o) = ((λ e. absurd (cc e), λ e. absurd (cc e)), (λ e. absurd (cc e), λ e. absurd (cc e)))

resource_other : (n : Name) (a : Option ResourceAlias) → IsOther (shape_kind (resource_entry_at n a).0)
resource_other n None = (λ e. absurd (cc e), λ e. absurd (cc e))
resource_other n (Some a) = (λ e. absurd (cc e), λ e. absurd (cc e))

module _ (c : Collection) where
  value_other : (v : ValueType) → Stands c (ItemKind.Value v) → Others (item_node c (ItemKind.Value v)) × Others (item_node c (ItemKind.Ty (TypeKind.Value v)))
  unfolding item_node
  value_other (ValueType.Primitive p) stands = (others _ _ refl (λ e. absurd (cc e), λ e. absurd (cc e)), others _ _ refl (λ e. absurd (cc e), λ e. absurd (cc e)))
  value_other (ValueType.Borrow r) stands = (others_labelled borrow_of _ (λ s. (λ e. absurd (cc e), λ e. absurd (cc e))), others_twice borrow_of _ (λ s. (λ e. absurd (cc e), λ e. absurd (cc e))))
  value_other (ValueType.Own r) stands = (others_labelled own_of _ (λ s. (λ e. absurd (cc e), λ e. absurd (cc e))), others_twice own_of _ (λ s. (λ e. absurd (cc e), λ e. absurd (cc e))))
  value_other (ValueType.Defined i) stands =
      let f = defined_found c i stands in
      let is = entry_at-is defined_entry c.number c.defined_types i.collection i.index f.value f.at f.own in
      (others _ (defined_entry f.value) is (defined_other f.value).0, others _ (type_of (defined_entry f.value).0, (defined_entry f.value).1) (ap (labelled type_of) is) (defined_other f.value).1)

  type_other : (t : TypeKind) → Stands c (ItemKind.Ty t) → ((i : InterfaceId) → t ≡ TypeKind.Interface i → ⊥) → Others (item_node c (ItemKind.Ty t))
  unfolding item_node
  type_other (TypeKind.Resource r) stands other =
      let f = resource_found c r stands in
      others _ (resource_entry f.value) (entry_at-is resource_entry c.number c.resources r.collection r.index f.value f.at f.own) (resource_other f.value.name f.value.alias)
  type_other (TypeKind.Func i) stands other =
      let f = func_found c i (stands_typed_func c i stands) in
      others _ (type_of (func_entry f.value).0, (func_entry f.value).1) (ap (labelled type_of) (entry_at-is func_entry c.number c.func_types i.collection i.index f.value f.at f.own)) (λ e. absurd (cc e), λ e. absurd (cc e))
  type_other (TypeKind.Value v) stands other = (value_other v (stands_typed_value c v stands)).1
  type_other (TypeKind.Interface i) stands other = absurd (other i refl)
  type_other (TypeKind.World i) stands other =
      let f = world_found c i (stands_typed_world c i stands) in
      others _ (type_of (world_entry f.value).0, (world_entry f.value).1) (ap (labelled type_of) (entry_at-is world_entry c.number c.worlds i.collection i.index f.value f.at f.own)) (λ e. absurd (cc e), λ e. absurd (cc e))
  type_other (TypeKind.Module i) stands other =
      let f = module_found c i (stands_typed_module c i stands) in
      others _ (type_of (module_entry f.value).0, (module_entry f.value).1) (ap (labelled type_of) (entry_at-is module_entry c.number c.modules i.collection i.index f.value f.at f.own)) (λ e. absurd (cc e), λ e. absurd (cc e))

  kind_other : (k : ItemKind) → Stands c k → ((i : InterfaceId) → k ≡ ItemKind.Instance i → ⊥) → ((i : InterfaceId) → k ≡ ItemKind.Ty (TypeKind.Interface i) → ⊥) → Others (item_node c k)
  unfolding item_node
  kind_other (ItemKind.Ty t) stands no_instance no_type = type_other t stands (λ i e. no_type i (ap ItemKind.Ty e))
  kind_other (ItemKind.Func i) stands no_instance no_type =
      let f = func_found c i stands in
      others _ (func_entry f.value) (entry_at-is func_entry c.number c.func_types i.collection i.index f.value f.at f.own) (λ e. absurd (cc e), λ e. absurd (cc e))
  kind_other (ItemKind.Instance i) stands no_instance no_type = absurd (no_instance i refl)
  kind_other (ItemKind.Component i) stands no_instance no_type =
      let f = world_found c i stands in
      others _ (world_entry f.value) (entry_at-is world_entry c.number c.worlds i.collection i.index f.value f.at f.own) (λ e. absurd (cc e), λ e. absurd (cc e))
  kind_other (ItemKind.Module i) stands no_instance no_type =
      let f = module_found c i stands in
      others _ (module_entry f.value) (entry_at-is module_entry c.number c.modules i.collection i.index f.value f.at f.own) (λ e. absurd (cc e), λ e. absurd (cc e))
  kind_other (ItemKind.Value v) stands no_instance no_type = (value_other v stands).0

module _ (c : Collection) (acyclic : IsAcyclic c) where
  other_kind : (k : ItemKind) → Stands c k → ((i : InterfaceId) → k ≡ ItemKind.Instance i → ⊥) → ((i : InterfaceId) → k ≡ ItemKind.Ty (TypeKind.Interface i) → ⊥) → IsOther (kind_of (stated_of c k))
  unfolding Others
  other_kind k stands no_instance no_type =
      let e = value_of _ stands in
      let is = stated_step c acyclic k e.0 e.1 in
      subst IsOther (sym (ap kind_of is)) (kind_other c k stands no_instance no_type e.0 e.1)

  instance_kind : (i : InterfaceId) → Stands c (ItemKind.Instance i) → kind_of (stated_of c (ItemKind.Instance i)) ≡ IsInstance
  instance_kind i stands = let f = interface_found c i stands in ap kind_of (interface_stated c acyclic i f.value f.at f.own)

  type_kind_is : (i : InterfaceId) → Stands c (ItemKind.Ty (TypeKind.Interface i)) → kind_of (stated_of c (ItemKind.Ty (TypeKind.Interface i))) ≡ IsInterface
  unfolding item_node
  type_kind_is i stands =
      let f = interface_found c i (stands_typed_interface c i stands) in
      ap kind_of (stated_step c acyclic (ItemKind.Ty (TypeKind.Interface i)) (type_of (interface_entry f.value).0, (interface_entry f.value).1) (ap (labelled type_of) (entry_at-is interface_entry c.number c.interfaces i.collection i.index f.value f.at f.own)))

  -- a kind that is neither
  pub first_other : (a b : ItemKind) → Stands c a → ((i : InterfaceId) → a ≡ ItemKind.Instance i → ⊥) → ((i : InterfaceId) → a ≡ ItemKind.Ty (TypeKind.Interface i) → ⊥) → AreBoth (stated_of c a) (stated_of c b) → ⊥
  first_other a b s no_instance no_type both =
      let o = other_kind a s no_instance no_type in
      elim both [ inl h ↦ o.0 h.0 | inr h ↦ o.1 h.0 ]

  -- an instance and something that is none
  pub instance_other : (a b : ItemKind) (i : InterfaceId) → a ≡ ItemKind.Instance i → Stands c a → Stands c b → ((j : InterfaceId) → b ≡ ItemKind.Instance j → ⊥) → AreBoth (stated_of c a) (stated_of c b) → ⊥
  instance_other a b i is s r no_instance both =
      let kind : kind_of (stated_of c a) ≡ IsInstance = ap (λ k. kind_of (stated_of c k)) is ∙ instance_kind i (subst (Stands c) is s) in
      elim both [ inl h ↦ (other_kind b r no_instance (λ j is. typed b j is r h.1)).0 h.1 | inr h ↦ absurd (cc (kind, h.0)) ]
    where
      typed : (b : ItemKind) (j : InterfaceId) → b ≡ ItemKind.Ty (TypeKind.Interface j) → Stands c b → kind_of (stated_of c b) ≡ IsInstance → ⊥
      typed b j is r e = absurd (cc (ap (λ k. kind_of (stated_of c k)) is ∙ type_kind_is j (subst (Stands c) is r), e))

  -- the type of an instance and something that is none
  pub type_other_than : (a b : ItemKind) (i : InterfaceId) → a ≡ ItemKind.Ty (TypeKind.Interface i) → Stands c a → Stands c b → ((j : InterfaceId) → b ≡ ItemKind.Ty (TypeKind.Interface j) → ⊥) → AreBoth (stated_of c a) (stated_of c b) → ⊥
  type_other_than a b i is s r no_type both =
      let kind : kind_of (stated_of c a) ≡ IsInterface = ap (λ k. kind_of (stated_of c k)) is ∙ type_kind_is i (subst (Stands c) is s) in
      elim both [ inl h ↦ absurd (cc (kind, h.0)) | inr h ↦ (other_kind b r (λ j is. instance b j is r h.1) no_type).1 h.1 ]
    where
      instance : (b : ItemKind) (j : InterfaceId) → b ≡ ItemKind.Instance j → Stands c b → kind_of (stated_of c b) ≡ IsInterface → ⊥
      instance b j is r e = absurd (cc (ap (λ k. kind_of (stated_of c k)) is ∙ instance_kind j (subst (Stands c) is r), e))

  -- the first, where not both are instances
  pub first_unites : (a b k : ItemKind) → (AreBoth (stated_of c a) (stated_of c b) → ⊥) → k ≡ a → UnitesIn c a b c k
  first_unites a b k other is = subst (λ j. UnitesIn c a b c j) (sym is) (the_first (stated_of c a) (stated_of c b) other)

  -- a type and something that is none
  pub typed_and_other : (a b : ItemKind) (x : TypeKind) → a ≡ ItemKind.Ty x → Stands c a → Stands c b → ((t : TypeKind) → b ≡ ItemKind.Ty t → ⊥) → AreBoth (stated_of c a) (stated_of c b) → ⊥
  typed_and_other a b x is s r no_type both =
      elim both [
        | inl h ↦ (other_kind a s (λ i e. apart i e) (λ j js. typed a j js s h.0)).0 h.0
        | inr h ↦ (other_kind b r (λ j js. instance b j js r h.1) (λ j js. no_type (TypeKind.Interface j) js)).1 h.1
      ]
    where
      apart : (i : InterfaceId) → a ≡ ItemKind.Instance i → ⊥
      apart i e = absurd (cc (is, e))

      typed : (b : ItemKind) (j : InterfaceId) → b ≡ ItemKind.Ty (TypeKind.Interface j) → Stands c b → kind_of (stated_of c b) ≡ IsInstance → ⊥
      typed b j is r e = absurd (cc (ap (λ k. kind_of (stated_of c k)) is ∙ type_kind_is j (subst (Stands c) is r), e))

      instance : (b : ItemKind) (j : InterfaceId) → b ≡ ItemKind.Instance j → Stands c b → kind_of (stated_of c b) ≡ IsInterface → ⊥
      instance b j is r e = absurd (cc (ap (λ k. kind_of (stated_of c k)) is ∙ instance_kind j (subst (Stands c) is r), e))

-- one type, as items
pub same_type : (t u : TypeKind) → ItemKind.Ty t ≡ ItemKind.Ty u → t ≡ u
same_type t u e = cc

pub no_instance : (t : TypeKind) (i : InterfaceId) → ItemKind.Ty t ≡ ItemKind.Instance i → ⊥
no_instance t i e = absurd (cc e)

-- what is united while the collection grows
pub united_kept : (c : Collection) (fs : List (Name × ItemKind)) (d e : Collection) (es gs : List (Name × ItemKind)) → Grows d e → AllStand d gs → ItemsUnite c fs d es gs → ItemsUnite c fs e es gs
united_kept c fs d e es gs g stand h = subst (λ l. ExportsUnite (with_values (stated_of c) fs) (with_values (stated_of c) es) l) (sym (items_kept d e g gs stand)) h

-- two instances, by their ids
pub at_instance : (c : Collection) (i : InterfaceId) (stands : Stands c (ItemKind.Instance i)) → (x : Interface) × IsAt c i x
at_instance c i stands = let f = interface_found c i stands in (f.value, record { at = f.at; own = f.own })

pub both_instances : (c d : Collection) → IsAcyclic c → IsAcyclic d → Grows c d → (a b : ItemKind) (i j l : InterfaceId) → a ≡ ItemKind.Instance i → b ≡ ItemKind.Instance j → Stands c a → Stands c b
    → ((x y : Interface) → IsAt c i x → IsAt c j y → InterfacesUnite c x y d l) → UnitesIn c a b d (ItemKind.Instance l)
both_instances c d ac ad g a b i j l is js s r h =
    let x = at_instance c i (subst (Stands c) is s) in
    let y = at_instance c j (subst (Stands c) js r) in
    subst (λ k. UnitesIn c k b d (ItemKind.Instance l)) (sym is) (subst (λ k. UnitesIn c (ItemKind.Instance i) k d (ItemKind.Instance l)) (sym js)
    (instances_unite c d ac ad g i j l x.0 y.0 x.1 y.1 (h x.0 y.0 x.1 y.1)))

pub both_types : (c d : Collection) → IsAcyclic c → IsAcyclic d → Grows c d → (t u : TypeKind) (i j l : InterfaceId) → t ≡ TypeKind.Interface i → u ≡ TypeKind.Interface j → Stands c (ItemKind.Ty t) → Stands c (ItemKind.Ty u)
    → ((x y : Interface) → IsAt c i x → IsAt c j y → InterfacesUnite c x y d l) → UnitesIn c (ItemKind.Ty t) (ItemKind.Ty u) d (ItemKind.Ty (TypeKind.Interface l))
both_types c d ac ad g t u i j l is js s r h =
    let x = at_instance c i (stands_typed_interface c i (subst (λ t. Stands c (ItemKind.Ty t)) is s)) in
    let y = at_instance c j (stands_typed_interface c j (subst (λ t. Stands c (ItemKind.Ty t)) js r)) in
    subst (λ t. UnitesIn c (ItemKind.Ty t) (ItemKind.Ty u) d (ItemKind.Ty (TypeKind.Interface l))) (sym is) (subst (λ u. UnitesIn c (ItemKind.Ty (TypeKind.Interface i)) (ItemKind.Ty u) d (ItemKind.Ty (TypeKind.Interface l))) (sym js)
    (types_unite c d ac ad g i j l x.0 y.0 x.1 y.1 (h x.0 y.0 x.1 y.1)))
