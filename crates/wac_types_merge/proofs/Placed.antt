-- Interfaces that are added.
use Rattle.std.specs.Prelude.{Result, Ok, Err, OnOk, IfOk, slice_get, is_some, Bool, true, false, if◌then◌else◌}
use Rattle.std.proofs.Common.{◌≡◌, List, [], ◌∷◌, ◌++◌, length, map, Some, None, refl, sym, ap, subst, ◌∙◌, inl, inr}
use Rattle.wac_types_base.specs.declared.item.«Type».{«Type» as TypeKind}
use Rattle.wac_types_base.specs.declared.item.ItemKind.{ItemKind}
use Rattle.wac_types_base.specs.declared.ids.InterfaceId.{InterfaceId}
use Rattle.wac_types_base.specs.declared.defined.Interface.{Interface}
use Rattle.wac_types_base.specs.declared.defined.UsedType.{UsedType}
use Rattle.wac_types_base.specs.Record.{Collection}
use Rattle.wac_types_base.specs.Kept.{keeping}
use Rattle.wac_types_base.specs.Graph.{Among, node}
use Rattle.std.specs.Option.{option_map}
use Rattle.wac_types_base.specs.Entries.{Name, value_at}
use Rattle.wac_types_base.specs.Collection.{Entry, Slot, SlotStands, Stands, IsAcyclic, HasChildren, Grows, item_node, type_of, used, items, interface_entry}
use Rattle.wac_types_base.specs.Stated.{row, stated_in, stated_of, stated_entry, identifier_of}
use Rattle.wac_types_base.specs.Tree.{instance, type_item, put}
use Rattle.wac_types_base.proofs.Adding.{All-among, Among-left, Among-right}
use Rattle.wac_types_base.proofs.Copying.{Among-All, last_place}
use Rattle.wac_types_base.proofs.GraphLemmas.{is_there}
use Rattle.wac_types_base.proofs.Telling.{stated_step, child_stands}
use Rattle.wac_types_fit.specs.Meets.{IsMeet}
use Rattle.wac_types_fit.specs.Trees.{tree_in}
use Rattle.wac_types_fit.proofs.Checks.{interface_type_is}
use Rattle.wac_types_fit.proofs.Meeting.{types_meet}
use Rattle.wac_types_fit.proofs.Unfolded.{fields_in, instance_tree, interface_node}
use Rattle.wac_types_fit.specs.TargetSteps.{AllStand}
use Rattle.wac_types_merge.specs.Interfaces.{new_in, merged_interface, IsAt, renamed, IsRenamed, UsesStand, MeetIn, AreJoined}
use Rattle.wac_types_merge.proofs.Grown.{tree_kept}
use Rattle.wac_types_merge.proofs.Joining.{merged_meet}
use Rattle.wac_types_base.proofs.Replacing.{labelled_there}
use Rattle.wac_types_base.proofs.Lists.{among_split}
use Rattle.wac_types_fit.proofs.Items.{as_slot, used_among}

pub added_at : (c d : Collection) (x : Interface) (i : InterfaceId) → d ≡ keeping d.kept (record c { interfaces = c.interfaces ++ x ∷ [] }) → i ≡ record { collection = c.number; index = length c.interfaces } → IsAt d i x
added_at c d x i e is =
    subst (λ z. IsAt z i x) (sym e) (subst (λ k. IsAt (keeping d.kept (record c { interfaces = c.interfaces ++ x ∷ [] })) k x) (sym is) (record { at = last_place c.interfaces x; own = refl }))

pub at_stands : (c : Collection) (i : InterfaceId) (x : Interface) → IsAt c i x → Stands c (ItemKind.Instance i)
at_stands c i x h = is_there (item_node c (ItemKind.Instance i)) (interface_entry x) (interface_node c i x h.at h.own)

-- ---- ids inside

used_slots : (c : Collection) (us : List (Name × UsedType)) → UsesStand c us → (s : Slot) → Among s (used us) → SlotStands c s
used_slots c [] h s m = absurd m
used_slots c (u ∷ us) h s (inl e) = subst (SlotStands c) (sym e) (h u.0 u.1 (inl refl))
used_slots c (u ∷ us) h s (inr m) = used_slots c us (λ n v k. h n v (inr k)) s m

item_slots : (c : Collection) (es : List (Name × ItemKind)) → AllStand c es → (s : Slot) → Among s (items es) → SlotStands c s
item_slots c [] h s m = absurd m
item_slots c (e ∷ es) h s (inl is) = subst (SlotStands c) (sym is) (h e.0 e.1 (inl refl))
item_slots c (e ∷ es) h s (inr m) = item_slots c es (λ n k a. h n k (inr a)) s m

pub all_children : (c : Collection) (x : Interface) → UsesStand c x.uses → AllStand c x.exports → HasChildren c (interface_entry x)
all_children c x u e =
    Among-All (SlotStands c) (interface_entry x).1 (λ s m. elim (among_split s (used x.uses) (items x.exports) m) [ inl n ↦ used_slots c x.uses u s n | inr n ↦ item_slots c x.exports e s n ])

new_among : {T : Type 0} (b : Bool) (f : Name × T) (rs fs : List (Name × T)) (x : Name × T) → (Among x rs → Among x fs) → Among x (if b then rs else f ∷ rs) → Among x (f ∷ fs)
new_among true f rs fs x h m = inr (h m)
new_among false f rs fs x h (inl e) = inl e
new_among false f rs fs x h (inr m) = inr (h m)

pub new-among : {T : Type 0} (es fs : List (Name × T)) (x : Name × T) → Among x (new_in es fs) → Among x fs
new-among es [] x m = absurd m
new-among es (f ∷ fs) x m = new_among (is_some (value_at es f.0)) f (new_in es fs) fs x (new-among es fs x) m

pub merged_children : (c : Collection) (x y : Interface) (both : List (Name × ItemKind)) → UsesStand c x.uses → UsesStand c y.uses → AllStand c both → AllStand c y.exports → HasChildren c (interface_entry (merged_interface x y both))
merged_children c x y both u v b e =
    all_children c (merged_interface x y both)
    (λ n t m. elim (among_split (n, t) x.uses (new_in x.uses y.uses) m) [ inl k ↦ u n t k | inr k ↦ v n t (new-among x.uses y.uses (n, t) k) ])
    (λ n t m. elim (among_split (n, t) both (new_in x.exports y.exports) m) [ inl k ↦ b n t k | inr k ↦ e n t (new-among x.exports y.exports (n, t) k) ])

-- what an interface that is there holds stands
module _ (c : Collection) (a : IsAcyclic c) (i : InterfaceId) (x : Interface) (h : IsAt c i x) where
  pub uses_stand : UsesStand c x.uses
  uses_stand n u m = child_stands c a (ItemKind.Instance i) (interface_entry x) (interface_node c i x h.at h.own) (ItemKind.Instance u.interface) (Among-left (Some (ItemKind.Instance u.interface)) (used x.uses) (items x.exports) (used_among x.uses n u m))

  pub exports_stand : AllStand c x.exports
  exports_stand n k m = child_stands c a (ItemKind.Instance i) (interface_entry x) (interface_node c i x h.at h.own) k (Among-right (Some k) (used x.uses) (items x.exports) (as_slot x.exports n k m))

pub uses_kept : (c d : Collection) → Grows c d → (us : List (Name × UsedType)) → UsesStand c us → UsesStand d us
uses_kept c d g us h n u m = g.stand (ItemKind.Instance u.interface) (h n u m)

pub exports_kept : (c d : Collection) → Grows c d → (es : List (Name × ItemKind)) → AllStand c es → AllStand d es
exports_kept c d g es h n k m = g.stand k (h n k m)

-- ---- the meet of two instances

pub instances_meet : (c d e : Collection) → IsAcyclic c → IsAcyclic e → Grows c d → Grows d e → Grows c e → (i j k : InterfaceId) (x y : Interface) (both : List (Name × ItemKind)) → IsAt c i x → IsAt c j y → IsAt e k (merged_interface x y both) → AreJoined c y.exports d x.exports both → MeetIn c (ItemKind.Instance i) (ItemKind.Instance j) e (ItemKind.Instance k)
instances_meet c d e a b g h f i j k x y both p q r m = record {
  stands = at_stands e k (merged_interface x y both) r;
  meet = subst (λ t. IsMeet t (tree_in c (ItemKind.Instance i) ∷ tree_in c (ItemKind.Instance j) ∷ [])) (sym (instance_tree e b k (merged_interface x y both) r.at r.own))
      (subst (λ t. IsMeet (instance (fields_in e (both ++ new_in x.exports y.exports))) (t ∷ tree_in c (ItemKind.Instance j) ∷ [])) (sym (instance_tree c a i x p.at p.own))
      (subst (λ u. IsMeet (instance (fields_in e (both ++ new_in x.exports y.exports))) (instance (fields_in c x.exports) ∷ u ∷ [])) (sym (instance_tree c a j y q.at q.own))
      (merged_meet c d e g h f x.exports y.exports both m (exports_stand c a j y q))));
}

-- ---- types of interfaces

pub typed_stands : (c : Collection) (i : InterfaceId) → Stands c (ItemKind.Instance i) → Stands c (ItemKind.Ty (TypeKind.Interface i))
unfolding item_node
typed_stands c i s = labelled_there type_of (item_node c (ItemKind.Instance i)) s

pub typed_meet : (c d : Collection) → IsAcyclic c → IsAcyclic d → (t u : TypeKind) (i j k : InterfaceId) → t ≡ TypeKind.Interface i → u ≡ TypeKind.Interface j → Stands c (ItemKind.Ty t) → Stands c (ItemKind.Ty u) → MeetIn c (ItemKind.Instance i) (ItemKind.Instance j) d (ItemKind.Instance k) → MeetIn c (ItemKind.Ty t) (ItemKind.Ty u) d (ItemKind.Ty (TypeKind.Interface k))
typed_meet c d a b t u i j k is js s r h = record {
  stands = typed_stands d k h.stands;
  meet = subst (λ v. IsMeet v (tree_in c (ItemKind.Ty t) ∷ tree_in c (ItemKind.Ty u) ∷ [])) (sym (interface_type_is d b (TypeKind.Interface k) k refl (typed_stands d k h.stands)))
      (subst (λ v. IsMeet (type_item (tree_in d (ItemKind.Instance k))) (v ∷ tree_in c (ItemKind.Ty u) ∷ [])) (sym (interface_type_is c a t i is s))
      (subst (λ v. IsMeet (type_item (tree_in d (ItemKind.Instance k))) (type_item (tree_in c (ItemKind.Instance i)) ∷ v ∷ [])) (sym (interface_type_is c a u j js r))
      (types_meet (tree_in c (ItemKind.Instance i)) (tree_in c (ItemKind.Instance j)) (tree_in d (ItemKind.Instance k)) h.meet)));
}

-- ---- an interface again, under another identifier

all_fields_kept : (c d : Collection) → Grows c d → (es : List (Name × ItemKind)) → AllStand c es → fields_in d es ≡ fields_in c es
all_fields_kept c d g [] s = refl
all_fields_kept c d g (e ∷ es) s = ap (λ t. put e.0 t (fields_in d es)) (tree_kept c d g e.1 (s e.0 e.1 (inl refl))) ∙ ap (put e.0 (tree_in c e.1)) (all_fields_kept c d g es (λ n k m. s n k (inr m)))

fields_kept : (c d : Collection) → Grows c d → (es : List (Name × ItemKind)) → AllStand c es → instance (fields_in d es) ≡ instance (fields_in c es)
fields_kept c d g es s = ap instance (all_fields_kept c d g es s)

-- what stands in places has its stated types still
places_kept : (c d : Collection) → Grows c d → (xs : List Slot) → ((s : Slot) → Among s xs → SlotStands c s) → map (option_map (stated_of d)) xs ≡ map (option_map (stated_of c)) xs
places_kept c d g [] h = refl
places_kept c d g (None ∷ xs) h = ap (λ l. None ∷ l) (places_kept c d g xs (λ s m. h s (inr m)))
places_kept c d g (Some k ∷ xs) h =
    ap (λ t. Some (stated_in t) ∷ map (option_map (stated_of d)) xs) (g.keep k (h (Some k) (inl refl)))
    ∙ ap (λ l. Some (stated_of c k) ∷ l) (places_kept c d g xs (λ s m. h s (inr m)))

entry_kept : (c d : Collection) → Grows c d → (e : Entry) → HasChildren c e → stated_entry d e ≡ stated_entry c e
entry_kept c d g e h = ap (λ os. node e.0 (row os)) (places_kept c d g e.1 (λ s m. All-among (SlotStands c) e.1 s h m))

same_interface : (x y : Interface) (n : Name) → y.uses ≡ x.uses → y.exports ≡ x.exports → y.id ≡ Some n → y ≡ record { id = Some n; uses = x.uses; exports = x.exports }
same_interface x y n u e is =
    ap (λ v. record { id = v; uses = y.uses; exports = y.exports }) is ∙ ap (λ v. record { id = Some n; uses = v; exports = y.exports }) u ∙ ap (λ v. record { id = Some n; uses = x.uses; exports = v }) e

pub renamed_is : (c d : Collection) → IsAcyclic c → IsAcyclic d → Grows c d → (i j : InterfaceId) (x y : Interface) (n : Name) → IsAt c i x → IsAt d j y → y.uses ≡ x.uses → y.exports ≡ x.exports → y.id ≡ Some n → HasChildren c (interface_entry y) → IsRenamed c i d j n
renamed_is c d a b g i j x y n p q u e is children = record {
  stands = at_stands d j y q;
  tree = instance_tree d b j y q.at q.own ∙ ap (λ l. instance (fields_in d l)) e ∙ fields_kept c d g x.exports (exports_stand c a i x p) ∙ sym (instance_tree c a i x p.at p.own);
  identifier = ap identifier_of (stated_step d b (ItemKind.Instance j) (interface_entry y) (interface_node d j y q.at q.own)) ∙ is;
  stated = stated_step d b (ItemKind.Instance j) (interface_entry y) (interface_node d j y q.at q.own) ∙ entry_kept c d g (interface_entry y) children
      ∙ ap (λ (z : Interface). stated_entry c (interface_entry z)) (same_interface x y n u e is)
      ∙ ap (renamed n) (sym (stated_step c a (ItemKind.Instance i) (interface_entry x) (interface_node c i x p.at p.own)));
}

-- ---- what adding answers

pub all_added : {E : Type 0} (r : Result InterfaceId E) (c d : Collection) (x y : Interface) → x ≡ y → OnOk r (d ≡ keeping d.kept (record c { interfaces = c.interfaces ++ x ∷ [] })) → IfOk r (λ i. i ≡ record { collection = c.number; index = length c.interfaces }) → IfOk r (λ i. IsAt d i y)
all_added (Ok i) c d x y e a n = subst (IsAt d i) e (added_at c d x i a n)
all_added (Err f) c d x y e a n = tt

pub all_standing : {E : Type 0} (r : Result InterfaceId E) (c d : Collection) (x : Interface) → OnOk r (d ≡ keeping d.kept (record c { interfaces = c.interfaces ++ x ∷ [] })) → IfOk r (λ i. i ≡ record { collection = c.number; index = length c.interfaces }) → IfOk r (λ i. Stands d (ItemKind.Instance i))
all_standing (Ok i) c d x a n = at_stands d i x (added_at c d x i a n)
all_standing (Err f) c d x a n = tt

pub renamed_children : (c : Collection) → IsAcyclic c → (i : InterfaceId) (x y : Interface) → slice_get c.interfaces i.index ≡ Some x → i.collection ≡ c.number → y.uses ≡ x.uses → y.exports ≡ x.exports → HasChildren c (interface_entry y)
renamed_children c a i x y at own u e =
    let here : IsAt c i x = record { at = at; own = own } in
    all_children c y (subst (UsesStand c) (sym u) (uses_stand c a i x here)) (subst (AllStand c) (sym e) (exports_stand c a i x here))

pub all_renamed : {E : Type 0} (r : Result InterfaceId E) (c d : Collection) → IsAcyclic c → Grows c d → (i : InterfaceId) (x y : Interface) (n : Name) → slice_get c.interfaces i.index ≡ Some x → i.collection ≡ c.number → y.uses ≡ x.uses → y.exports ≡ x.exports → y.id ≡ Some n
    → OnOk r (d ≡ keeping d.kept (record c { interfaces = c.interfaces ++ y ∷ [] })) → IfOk r (λ j. j ≡ record { collection = c.number; index = length c.interfaces }) → IfOk r (λ j. IsRenamed c i d j n)
all_renamed (Ok j) c d a g i x y n at own u e is added id =
    renamed_is c d a g.acyclic g i j x y n (record { at = at; own = own }) (added_at c d y j added id) u e is (renamed_children c a i x y at own u e)
all_renamed (Err f) c d a g i x y n at own u e is added id = tt
