-- The interfaces that an interface reaches by uses are those of what it states.
use Rattle.std.proofs.Common.{◌≡◌, ℕ, zero, suc, ◌<◌, List, [], ◌∷◌, ◌++◌, map, Option, Some, refl, sym, ap, subst, ◌∙◌, inl, inr, arith}
use Rattle.std.specs.Prelude.{◌⊎◌, slice_get}
use Rattle.std.specs.List.{flat_map}
use Rattle.wac_types_base.specs.declared.item.ItemKind.{ItemKind}
use Rattle.wac_types_base.specs.declared.ids.InterfaceId.{InterfaceId}
use Rattle.wac_types_base.specs.declared.defined.UsedType.{UsedType}
use Rattle.wac_types_base.specs.declared.defined.Interface.{Interface}
use Rattle.wac_types_base.specs.Record.{Collection}
use Rattle.wac_types_base.specs.Graph.{Among}
use Rattle.wac_types_base.specs.Entries.{Name, values_of}
use Rattle.wac_types_base.specs.Collection.{Slot, Stands, IsAcyclic, size_of, use_names, used, items, interface_entry}
use Rattle.wac_types_base.specs.Stated.{Stated, Used, uses_from, stated_of}
use Rattle.wac_types_base.specs.Implicit.{used_interfaces, uses_in}
use Rattle.wac_types_base.proofs.Adding.{Among-left, Among-right}
use Rattle.wac_types_base.proofs.Standing.{interface_found}
use Rattle.wac_types_fit.proofs.Unfolded.{interface_node}
use Rattle.wac_types_merge.specs.Families.{IsUsedBy, used_directly, used_further}
use Rattle.wac_types_merge.proofs.Families.{use_inside, use_in}
use Rattle.wac_composition.specs.Merging.{reached_at, reached}
use Rattle.wac_composition.proofs.Clashing.{among_append}
use Rattle.wac_merging.proofs.Folding.{found_in, folded_step}

use_among : (us : List UsedType) (j : InterfaceId) → Among j (used_interfaces us) → (u : UsedType) × Among u us × (j ≡ u.interface)
use_among [] j m = absurd m
use_among (u ∷ us) j (inl e) = (u, inl refl, e)
use_among (u ∷ us) j (inr m) = let r = use_among us j m in (r.0, inr r.1, r.2)

module _ (c : Collection) where
  abbrev interface_stated : InterfaceId → Stated
  interface_stated i = stated_of c (ItemKind.Instance i)

  abbrev found : List Slot → List (Option (Stated × List Stated))
  found = found_in reached_at c

  -- a use of what an interface states, with what is reached from there
  abbrev used_found : Name × UsedType → Used × List Stated
  used_found u = (record { name = u.0; there = u.1.name; interface = interface_stated u.1.interface }, reached (interface_stated u.1.interface))

  uses_found : (us : List (Name × UsedType)) (rest : List Slot) → uses_from (use_names us) (found (used us ++ rest)) ≡ map used_found us
  uses_found [] rest = refl
  uses_found (u ∷ us) rest = ap (λ l. used_found u ∷ l) (uses_found us rest)

  abbrev below : List (Name × UsedType) → List Stated
  below us = flat_map (λ (u : Used × List Stated). u.0.interface ∷ u.1) (map used_found us)

  reached_is : IsAcyclic c → (i : InterfaceId) (x : Interface) → slice_get c.interfaces i.index ≡ Some x → i.collection ≡ c.number → reached (interface_stated i) ≡ below x.uses
  reached_is a i x at own =
      folded_step reached_at c a (ItemKind.Instance i) (interface_entry x) (interface_node c i x at own)
      ∙ ap (flat_map (λ (u : Used × List Stated). u.0.interface ∷ u.1)) (uses_found x.uses (items x.exports))

  -- what is below uses is a used interface, or is reached from one
  abbrev IsBelow : UsedType → Stated → Type 0
  IsBelow u y = (y ≡ interface_stated u.interface) ⊎ Among y (reached (interface_stated u.interface))

  below_use : (us : List (Name × UsedType)) (y : Stated) → Among y (below us) → (u : UsedType) × Among u (values_of us) × IsBelow u y
  below_use [] y m = absurd m
  below_use (u ∷ us) y (inl e) = (u.1, inl refl, inl e)
  below_use (u ∷ us) y (inr m) = elim (among_append (reached (interface_stated u.1.interface)) (below us) y m) [
    | inl k ↦ (u.1, inl refl, inr k)
    | inr k ↦ let r = below_use us y k in (r.0, inr r.1, r.2)
  ]

  use_below : (us : List (Name × UsedType)) (y : Stated) (u : UsedType) → Among u (values_of us) → IsBelow u y → Among y (below us)
  use_below [] y u m b = absurd m
  use_below (v ∷ us) y u (inl e) (inl q) = inl (q ∙ ap (λ (w : UsedType). interface_stated w.interface) e)
  use_below (v ∷ us) y u (inl e) (inr k) =
      inr (Among-left y (reached (interface_stated v.1.interface)) (below us) (subst (λ (w : UsedType). Among y (reached (interface_stated w.interface))) e k))
  use_below (v ∷ us) y u (inr m) b = inr (Among-right y (reached (interface_stated v.1.interface)) (below us) (use_below us y u m b))

  module _ (a : IsAcyclic c) where
    -- what is used is reached
    use_reached : (i : InterfaceId) (y : Stated) (j : InterfaceId) → Stands c (ItemKind.Instance i) → Among j (uses_in (slice_get c.interfaces i.index)) → (Stands c (ItemKind.Instance j) → (y ≡ interface_stated j) ⊎ Among y (reached (interface_stated j))) → Among y (reached (interface_stated i))
    use_reached i y j s m b =
        let f = interface_found c i s in
        let u = use_among (values_of f.value.uses) j (subst (λ o. Among j (uses_in o)) f.at m) in
        let stands = (use_inside c a i f.value s f.at f.own u.0 u.1).0 in
        subst (Among y) (sym (reached_is a i f.value f.at f.own))
        (use_below f.value.uses y u.0 u.1 (subst (λ k. (y ≡ interface_stated k) ⊎ Among y (reached (interface_stated k))) u.2 (b (subst (λ k. Stands c (ItemKind.Instance k)) (sym u.2) stands))))

    pub used_reached : (i j : InterfaceId) → Stands c (ItemKind.Instance i) → IsUsedBy c i j → Among (interface_stated j) (reached (interface_stated i))
    used_reached i j s (used_directly m) = use_reached i (interface_stated j) j s m (λ t. inl refl)
    used_reached i j s (used_further {k = k} m r) = use_reached i (interface_stated j) k s m (λ t. inr (used_reached k j t r))

    reached_below : (n : ℕ) (i : InterfaceId) (y : Stated) → size_of c (ItemKind.Instance i) < n → Stands c (ItemKind.Instance i) → Among y (reached (interface_stated i)) → (j : InterfaceId) × IsUsedBy c i j × (y ≡ interface_stated j)
    reached_below zero i y lt s m = absurd (omega arith)
    reached_below (suc n) i y lt s m =
        let f = interface_found c i s in
        let u = below_use f.value.uses y (subst (Among y) (reached_is a i f.value f.at f.own) m) in
        let into = use_inside c a i f.value s f.at f.own u.0 u.1 in
        let less = into.1 in
        elim u.2 [
          | inl e ↦ (u.0.interface, used_directly (use_in c u.0.interface i f.value f.at u.0 u.1), e)
          | inr k ↦
              let r = reached_below n u.0.interface y (omega (arith, lt, less)) into.0 k in
              (r.0, used_further (use_in c r.0 i f.value f.at u.0 u.1) r.1, r.2)
        ]

    pub reached_used : (i : InterfaceId) (y : Stated) → Stands c (ItemKind.Instance i) → Among y (reached (interface_stated i)) → (j : InterfaceId) × IsUsedBy c i j × (y ≡ interface_stated j)
    reached_used i y s m = reached_below (suc (size_of c (ItemKind.Instance i))) i y (omega arith) s m
