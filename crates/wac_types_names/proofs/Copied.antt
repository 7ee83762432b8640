-- The ids in a copy of a world's items.
use Rattle.std.proofs.Common.{◌≡◌, ℕ, zero, suc, List, [], ◌∷◌, ◌++◌, sym, ap, subst, inl, inr}
use Rattle.std.specs.Prelude.{Option, Some, None, IsSome, slice_get}
use Rattle.wac_types_base.specs.declared.ids.WorldId.{WorldId}
use Rattle.wac_types_base.specs.declared.item.«Type».{«Type» as TypeKind}
use Rattle.wac_types_base.specs.declared.item.ItemKind.{ItemKind}
use Rattle.wac_types_base.specs.declared.defined.Interface.{Interface}
use Rattle.wac_types_base.specs.declared.defined.World.{World}
use Rattle.wac_types_base.specs.Graph.{Among}
use Rattle.wac_types_base.specs.Record.{Collection}
use Rattle.wac_types_base.specs.Entries.{Name}
use Rattle.wac_types_base.specs.Collection.{Entry, Slot, SlotStands, Stands, HasChildren, IsAcyclic, item_node, entry_at, labelled, type_of, used, items, interface_entry, world_entry}
use Rattle.wac_types_base.proofs.Copying.{Among-All}
use Rattle.wac_types_base.proofs.Slots.{entry_at-is}
use Rattle.wac_types_base.proofs.Telling.{child_stands}
use Rattle.wac_types_names.specs.Packages.{interface_of}

abbrev some_kind : ItemKind → Option ItemKind
some_kind k = Some k

middle_among : {X : Type 0} (x : X) (as' bs cs : List X) → Among x (as' ++ cs) → Among x (as' ++ (bs ++ cs))
middle_among x [] [] cs a = a
middle_among x [] (b ∷ bs) cs a = inr (middle_among x [] bs cs a)
middle_among x (y ∷ as') bs cs (inl e) = inl e
middle_among x (y ∷ as') bs cs (inr a) = inr (middle_among x as' bs cs a)

module _ (c : Collection) (acyclic : IsAcyclic c) (id : WorldId) (w : World) (at : slice_get c.worlds id.index ≡ Some w) (own : id.collection ≡ c.number) where
  inside : (k : ItemKind) → Among (Some k) (world_entry w).1 → Stands c k
  unfolding item_node
  inside k a = child_stands c acyclic (ItemKind.Component id) (world_entry w) (entry_at-is world_entry c.number c.worlds id.collection id.index w at own) k a

  slot_inside : (x : Slot) → Among x (interface_entry (interface_of w)).1 → SlotStands c x
  slot_inside None a = tt
  slot_inside (Some k) a = inside k (middle_among (Some k) (used w.uses) (items w.imports) (items w.exports) a)

  pub interface_stands : (i : Interface) → i ≡ interface_of w → HasChildren c (interface_entry i)
  interface_stands i e = subst (λ i. HasChildren c (interface_entry i)) (sym e) (Among-All (SlotStands c) (interface_entry (interface_of w)).1 slot_inside)

  item_at : (es : List (Name × ItemKind)) (i : ℕ) (n : Name) (k : ItemKind) → slice_get es i ≡ Some (n, k) → Among (Some k) (items es)
  item_at [] i n k e = absurd (cc e)
  item_at (x ∷ es) zero n k e =
      let same : k ≡ x.1 = ap (λ y. y.1) (pair_in e) in
      inl (ap (λ y. some_kind y) same)
    where
      pair_in : {y : Name × ItemKind} → Some x ≡ Some y → y ≡ x
      pair_in e = cc e
  item_at (x ∷ es) (suc i) n k e = inr (item_at es i n k e)

  behind : (x : Slot) (as' bs : List Slot) → Among x bs → Among x (as' ++ bs)
  behind x [] bs a = a
  behind x (y ∷ as') bs a = inr (behind x as' bs a)

  -- each export stands
  pub export_stands : (i : ℕ) (n : Name) (k : ItemKind) → slice_get w.exports i ≡ Some (n, k) → Stands c k
  export_stands i n k e = inside k (behind (Some k) (used w.uses) (items w.imports ++ items w.exports) (behind (Some k) (items w.imports) (items w.exports) (item_at w.exports i n k e)))

-- the world of a type that stands
pub world_stands : (c : Collection) (id : WorldId) → Stands c (ItemKind.Ty (TypeKind.World id)) → Stands c (ItemKind.Component id)
unfolding item_node
world_stands c id s = unlabelled (entry_at world_entry c.number c.worlds id.collection id.index) s
  where
    unlabelled : (o : Option Entry) → IsSome (labelled type_of o) → IsSome o
    unlabelled None s = s
    unlabelled (Some e) s = s
