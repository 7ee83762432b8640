-- What interfaces and worlds state, in the words of their parts.
use Rattle.std.proofs.Common.{◌≡◌, suc, ◌+◌, true≢false, Option, Some, None, IsSome, ◌⊎◌, inl, inr, length, refl, sym, ap, ◌∙◌, arith}
use Rattle.wac_types_base.specs.declared.ids.InterfaceId.{InterfaceId}
use Rattle.wac_types_base.specs.declared.ids.WorldId.{WorldId}
use Rattle.wac_types_base.specs.declared.item.ItemKind.{ItemKind}
use Rattle.wac_types_base.specs.Entries.{with_values}
use Rattle.wac_types_base.specs.Record.{Collection}
use Rattle.wac_types_base.specs.Graph.{whole, grow, node, no_more}
use Rattle.wac_types_base.specs.Collection.{Stands, IsAcyclic, depth, rows, item_node, unfolding_of, alias}
use Rattle.wac_types_base.specs.Stated.{stated_in, stated_of, uses_of, imports_of, exports_of, identifier_of}
use Rattle.wac_types_base.proofs.Standing.{interface_found, world_found}
use Rattle.wac_types_base.proofs.Stating.{stated_uses, interface_stated, world_stated, interface_uses, world_uses, instance_exports_stated, imports_stated, exports_stated}
use Rattle.wac_types_base.proofs.Lists.{not_some}
use Rattle.wac_types_base.specs.Parts.{identifier_in}
use Rattle.wac_types_parts.specs.Parts.{interface_in}
use Rattle.wac_types_parts.specs.Parts.{exports_of as exports_in, uses_of as uses_in, world_uses_of as world_uses_in, imports_of as imports_in, world_exports_of as world_exports_in}
use Rattle.wac_types_parts.proofs.PartLaws.{uses_there, uses_missing, exports_there, exports_missing, identifier_there, identifier_missing, world_uses_there, world_uses_missing, imports_there, imports_missing, world_exports_there, world_exports_missing}

-- ---- what does not stand states nothing

pub no_unfolding : (c : Collection) (k : ItemKind) → (Stands c k → ⊥) → unfolding_of c k ≡ None
unfolding unfolding_of whole
no_unfolding c k h =
    let g = item_node c in
    let e : depth c ≡ suc (length (rows c) + 1) = omega arith in
    ap (λ n. whole g n k) e ∙ ap (λ o. grow o (whole g (length (rows c) + 1))) (not_some (g k) h)

pub stated_nothing : (c : Collection) (k : ItemKind) → (Stands c k → ⊥) → stated_of c k ≡ node alias no_more
stated_nothing c k h = ap stated_in (no_unfolding c k h)

pub stands_or_not : (c : Collection) (k : ItemKind) → Stands c k ⊎ (Stands c k → ⊥)
stands_or_not c k = go (item_node c k)
  where
    go : {A : Type 0} (o : Option A) → IsSome o ⊎ (IsSome o → ⊥)
    go None = inr (λ h. true≢false (sym h))
    go (Some x) = inl refl

-- ---- interfaces

module _ (c : Collection) (a : IsAcyclic c) (id : InterfaceId) where
  pub uses_are : uses_of (stated_of c (ItemKind.Instance id)) ≡ stated_uses c (uses_in c id)
  uses_are = elim (stands_or_not c (ItemKind.Instance id)) [
    | inl s ↦ let f = interface_found c id s in ap uses_of (interface_stated c a id f.value f.at f.own) ∙ interface_uses c f.value ∙ ap (stated_uses c) (sym (uses_there c id f.value f.at f.own))
    | inr n ↦ ap uses_of (stated_nothing c (ItemKind.Instance id) n) ∙ ap (stated_uses c) (sym (uses_missing c id n))
  ]

  pub exports_are : exports_of (stated_of c (ItemKind.Instance id)) ≡ with_values (stated_of c) (exports_in c id)
  exports_are = elim (stands_or_not c (ItemKind.Instance id)) [
    | inl s ↦ let f = interface_found c id s in instance_exports_stated c a id f.value f.at f.own ∙ ap (with_values (stated_of c)) (sym (exports_there c id f.value f.at f.own))
    | inr n ↦ ap exports_of (stated_nothing c (ItemKind.Instance id) n) ∙ ap (with_values (stated_of c)) (sym (exports_missing c id n))
  ]

  pub identifier_is : identifier_of (stated_of c (ItemKind.Instance id)) ≡ identifier_in (interface_in c id)
  identifier_is = elim (stands_or_not c (ItemKind.Instance id)) [
    | inl s ↦ let f = interface_found c id s in ap identifier_of (interface_stated c a id f.value f.at f.own) ∙ sym (identifier_there c id f.value f.at f.own)
    | inr n ↦ ap identifier_of (stated_nothing c (ItemKind.Instance id) n) ∙ sym (identifier_missing c id n)
  ]

-- ---- worlds

module _ (c : Collection) (a : IsAcyclic c) (id : WorldId) where
  pub world_uses_are : uses_of (stated_of c (ItemKind.Component id)) ≡ stated_uses c (world_uses_in c id)
  world_uses_are = elim (stands_or_not c (ItemKind.Component id)) [
    | inl s ↦ let f = world_found c id s in ap uses_of (world_stated c a id f.value f.at f.own) ∙ world_uses c f.value ∙ ap (stated_uses c) (sym (world_uses_there c id f.value f.at f.own))
    | inr n ↦ ap uses_of (stated_nothing c (ItemKind.Component id) n) ∙ ap (stated_uses c) (sym (world_uses_missing c id n))
  ]

  pub imports_are : imports_of (stated_of c (ItemKind.Component id)) ≡ with_values (stated_of c) (imports_in c id)
  imports_are = elim (stands_or_not c (ItemKind.Component id)) [
    | inl s ↦ let f = world_found c id s in imports_stated c a id f.value f.at f.own ∙ ap (with_values (stated_of c)) (sym (imports_there c id f.value f.at f.own))
    | inr n ↦ ap imports_of (stated_nothing c (ItemKind.Component id) n) ∙ ap (with_values (stated_of c)) (sym (imports_missing c id n))
  ]

  pub world_exports_are : exports_of (stated_of c (ItemKind.Component id)) ≡ with_values (stated_of c) (world_exports_in c id)
  world_exports_are = elim (stands_or_not c (ItemKind.Component id)) [
    | inl s ↦ let f = world_found c id s in exports_stated c a id f.value f.at f.own ∙ ap (with_values (stated_of c)) (sym (world_exports_there c id f.value f.at f.own))
    | inr n ↦ ap exports_of (stated_nothing c (ItemKind.Component id) n) ∙ ap (with_values (stated_of c)) (sym (world_exports_missing c id n))
  ]
