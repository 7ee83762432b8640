-- What definitions reach has an index below a bound.
use Rattle.std.proofs.Common.{◌≡◌, ◌<◌, ◌≤◌, ℕ, not, List, [], ◌∷◌, ◌++◌, drop, Some, length, slice_get, refl, sym, ap, subst, ◌∙◌, arith, append-nil}
use Rattle.std.specs.Prelude.{Result, Ok, Err}
use Rattle.std.specs.Result.{OnOk, OnErr, IfOk}
use Rattle.std.specs.FinMap as map
use Rattle.wac_types_base.specs.declared.ids.DefinedTypeId.{DefinedTypeId}
use Rattle.wac_types_base.specs.declared.ids.InterfaceId.{InterfaceId}
use Rattle.wac_types_base.specs.declared.ids.WorldId.{WorldId}
use Rattle.wac_types_base.specs.declared.defined.DefinedType.{DefinedType}
use Rattle.wac_types_base.specs.declared.defined.Resource.{Resource}
use Rattle.wac_types_base.specs.declared.defined.FuncType.{FuncType}
use Rattle.wac_types_base.specs.declared.defined.Interface.{Interface}
use Rattle.wac_types_base.specs.declared.defined.World.{World}
use Rattle.wac_types_base.specs.declared.core_types.ModuleType.{ModuleType}
use Rattle.wac_types_base.specs.declared.item.ItemKind.{ItemKind}
use Rattle.wac_types_base.specs.declared.item.«Type».{«Type» as TypeKind}
use Rattle.wac_types_base.specs.Graph.{Among}
use Rattle.wac_types_base.specs.Record.{Collection}
use Rattle.wac_types_base.specs.Kept.{keeping}
use Rattle.wac_types_base.specs.Collection.{Stands, IsAcyclic, empty, plus, item_node, slots_in, slots_of}
use Rattle.wac_types_base.specs.Visiting.{defined_in, skipped, below, interface_uses, world_uses}
use Rattle.wac_types_base.proofs.Adding.{slice_get-left, item_extends}
use Rattle.wac_types_base.proofs.GraphLemmas.{value_of}
use Rattle.wac_types_base.proofs.Slots.{stands_typed_interface, stands_typed_world}
use Rattle.wac_types_base.proofs.Standing.{interface_found, world_found}
use Rattle.wac_types_base.proofs.Walking.{child_smaller, slice_get-Among}
use Rattle.wac_types_base.proofs.Lists.{among_drop}
use Rattle.wac_types_names.specs.Packaged.{Packaged}
use Rattle.wac_types_names.specs.Packages.{AddsInterfaceOf}
use Rattle.wac_graph_core.specs.Nodes.{NodeData, Role}
use Rattle.wac_graph_core.specs.NodeMaps.{NodeMap, NoDefinition, AreThose}
use Rattle.wac_graph_core.specs.Edges.{has}
use Rattle.wac_graph_core.specs.Reaching.{Reaches, reaches_own, reaches_below}
use Rattle.wac_graph_core.specs.Defining.{IsUserOf, ItemsStand, ReachBelow}
use Rattle.wac_graph_core.proofs.Gathering.{none_in}
use Rattle.wac_graph_core.proofs.GraphSteps.{no_node}
use Rattle.wac_graph_core.proofs.NodeSteps.{each_node, stayed}
use Rattle.wac_graph_core.proofs.Reached.{same_own, stands_within}

-- ---- in a collection, and in a longer one

module _ (c : Collection) (acyclic : IsAcyclic c) where
  below_stands : (k j : ItemKind) → Stands c k → Among (Some j) (below c k) → Stands c j
  below_stands k j stands m =
      let at = slice_get-Among (slots_of c k) (Some j) (among_drop (skipped c k) (slots_of c k) (Some j) m) in
      (child_smaller c acyclic k stands at.0 j at.2).0

  -- what is reached has a place
  reached_within : (k : ItemKind) (d : DefinedTypeId) → Stands c k → Reaches c k d → d.index < length c.defined_types
  reached_within k d stands (reaches_own is) = (stands_within c k d stands is).within
  reached_within k d stands (reaches_below {j = j} m r) = reached_within j d (below_stands k j stands m) r

  module _ (more : Collection) where
    uses_kept : (i : InterfaceId) → Stands c (ItemKind.Instance i) → interface_uses (slice_get (c.interfaces ++ more.interfaces) i.index) ≡ interface_uses (slice_get c.interfaces i.index)
    uses_kept i stands =
        let f = interface_found c i stands in
        ap interface_uses (slice_get-left c.interfaces more.interfaces i.index f.value f.at ∙ sym f.at)

    world_uses_kept : (w : WorldId) → Stands c (ItemKind.Component w) → world_uses (slice_get (c.worlds ++ more.worlds) w.index) ≡ world_uses (slice_get c.worlds w.index)
    world_uses_kept w stands =
        let f = world_found c w stands in
        ap world_uses (slice_get-left c.worlds more.worlds w.index f.value f.at ∙ sym f.at)

    skipped_kept : (k : ItemKind) → Stands c k → skipped (plus c more) k ≡ skipped c k
    skipped_kept (ItemKind.Ty (TypeKind.Resource r)) stands = refl
    skipped_kept (ItemKind.Ty (TypeKind.Func f)) stands = refl
    skipped_kept (ItemKind.Ty (TypeKind.Value v)) stands = refl
    skipped_kept (ItemKind.Ty (TypeKind.Interface i)) stands = uses_kept i (stands_typed_interface c i stands)
    skipped_kept (ItemKind.Ty (TypeKind.World w)) stands = world_uses_kept w (stands_typed_world c w stands)
    skipped_kept (ItemKind.Ty (TypeKind.Module m)) stands = refl
    skipped_kept (ItemKind.Func f) stands = refl
    skipped_kept (ItemKind.Instance i) stands = uses_kept i stands
    skipped_kept (ItemKind.Component w) stands = world_uses_kept w stands
    skipped_kept (ItemKind.Module m) stands = refl
    skipped_kept (ItemKind.Value v) stands = refl

    below_kept : (k : ItemKind) → Stands c k → below (plus c more) k ≡ below c k
    below_kept k stands =
        let v = value_of (item_node c k) stands in
        let slots : slots_of (plus c more) k ≡ slots_of c k = ap slots_in (item_extends c more k v.0 v.1 ∙ sym v.1) in
        ap (λ n. drop n (slots_of (plus c more) k)) (skipped_kept k stands) ∙ ap (drop (skipped c k)) slots

    -- what stood reaches what it reached
    reached_before : (k : ItemKind) (d : DefinedTypeId) → Stands c k → Reaches (plus c more) k d → Reaches c k d
    reached_before k d stands (reaches_own is) = reaches_own is
    reached_before k d stands (reaches_below {j = j} m r) =
        let here : Among (Some j) (below c k) = subst (Among (Some j)) (below_kept k stands) m in
        reaches_below here (reached_before j d (below_stands k j stands here) r)

  module _ (m : NodeMap) (items : ItemsStand c m) where
    -- each index that is reached is below the length
    pub ReachBelow-all : ReachBelow c m (length c.defined_types)
    ReachBelow-all k n at role d r = reached_within n.item_kind d (items k n at) r

    ReachBelow-plus : (more : Collection) (b : ℕ) → ReachBelow c m b → ReachBelow (plus c more) m b
    ReachBelow-plus more b is k n at role d r = is k n at role d (reached_before more n.item_kind d (items k n at) r)

    at_more : (more all new : Collection) (b : ℕ) → plus c more ≡ all → new ≡ all → ReachBelow c m b → ReachBelow new m b
    at_more more all new b same is old = subst (λ t. ReachBelow t m b) (same ∙ sym is) (ReachBelow-plus more b old)

    -- entries were added after those there are, or nothing was
    module _ {A E : Type 0} (r : Result A E) (new : Collection) (b : ℕ) (err : OnErr r (new ≡ c)) (is : ReachBelow c m b) where
      longer : (more all : Collection) → plus c more ≡ all → OnOk r (new ≡ all) → ReachBelow new m b
      longer more all same ok = by_result r ok err
        where
          by_result : (r : Result A E) → OnOk r (new ≡ all) → OnErr r (new ≡ c) → ReachBelow new m b
          by_result (Ok x) ok err = at_more more all new b same ok is
          by_result (Err e) ok err = subst (λ t. ReachBelow t m b) (sym err) is

      pub ReachBelow-defined_type : (x : DefinedType) → OnOk r (new ≡ keeping new.kept (record c { defined_types = c.defined_types ++ x ∷ [] })) → ReachBelow new m b
      ReachBelow-defined_type x = longer (record (empty 0) { defined_types = x ∷ []; kept = new.kept }) (keeping new.kept (record c { defined_types = c.defined_types ++ x ∷ [] })) (simp append-nil)

      pub ReachBelow-resource : (x : Resource) → OnOk r (new ≡ keeping new.kept (record c { resources = c.resources ++ x ∷ [] })) → ReachBelow new m b
      ReachBelow-resource x = longer (record (empty 0) { resources = x ∷ []; kept = new.kept }) (keeping new.kept (record c { resources = c.resources ++ x ∷ [] })) (simp append-nil)

      pub ReachBelow-func_type : (x : FuncType) → OnOk r (new ≡ keeping new.kept (record c { func_types = c.func_types ++ x ∷ [] })) → ReachBelow new m b
      ReachBelow-func_type x = longer (record (empty 0) { func_types = x ∷ []; kept = new.kept }) (keeping new.kept (record c { func_types = c.func_types ++ x ∷ [] })) (simp append-nil)

      pub ReachBelow-interface : (x : Interface) → OnOk r (new ≡ keeping new.kept (record c { interfaces = c.interfaces ++ x ∷ [] })) → ReachBelow new m b
      ReachBelow-interface x = longer (record (empty 0) { interfaces = x ∷ []; kept = new.kept }) (keeping new.kept (record c { interfaces = c.interfaces ++ x ∷ [] })) (simp append-nil)

      pub ReachBelow-world : (x : World) → OnOk r (new ≡ keeping new.kept (record c { worlds = c.worlds ++ x ∷ [] })) → ReachBelow new m b
      ReachBelow-world x = longer (record (empty 0) { worlds = x ∷ []; kept = new.kept }) (keeping new.kept (record c { worlds = c.worlds ++ x ∷ [] })) (simp append-nil)

      pub ReachBelow-module : (x : ModuleType) → OnOk r (new ≡ keeping new.kept (record c { modules = c.modules ++ x ∷ [] })) → ReachBelow new m b
      ReachBelow-module x = longer (record (empty 0) { modules = x ∷ []; kept = new.kept }) (keeping new.kept (record c { modules = c.modules ++ x ∷ [] })) (simp append-nil)

    -- the same where a package was made
    pub ReachBelow-package : {E : Type 0} (r : Result Packaged E) (new : Collection) (w : WorldId) (b : ℕ) → IfOk r (λ p. AddsInterfaceOf c new w p.instance_type) → OnErr r (new ≡ c) → ReachBelow c m b → ReachBelow new m b
    ReachBelow-package (Ok p) new w b added err is =
        at_more (record (empty 0) { interfaces = added.interface ∷ []; kept = new.kept }) (keeping new.kept (record c { interfaces = c.interfaces ++ added.interface ∷ [] })) new b (simp append-nil) added.collection is
    ReachBelow-package (Err e) new w b added err is = subst (λ t. ReachBelow t m b) (sym err) is

-- ---- nodes come and go

pub ReachBelow-none : (c : Collection) (ns : NodeMap) (b : ℕ) → ns ≡ map.empty → ReachBelow c ns b
ReachBelow-none c ns b none k n at role d r = absurd (no_node k n (subst (λ l. map.get l k ≡ Some n) none at))

module _ (c : Collection) (m ns : NodeMap) (b : ℕ) where
  added_below : (k : ℕ) (n : NodeData) → ns ≡ map.insert m k n → (n.role ≡ Role.Defined → (d : DefinedTypeId) → Reaches c n.item_kind d → d.index < b) → ReachBelow c m b → ReachBelow c ns b
  added_below k n added own is =
      subst (λ l. ReachBelow c l b) (sym added)
      (each_node (λ x. x.role ≡ Role.Defined → (d : DefinedTypeId) → Reaches c x.item_kind d → d.index < b) m k n own is)

  -- a node that is no definition
  pub ReachBelow-other : (k : ℕ) (n : NodeData) → ns ≡ map.insert m k n → (n.role ≡ Role.Defined → ⊥) → ReachBelow c m b → ReachBelow c ns b
  ReachBelow-other k n added other is = added_below k n added (λ role. absurd (other role)) is

  -- the same node but for its names
  pub ReachBelow-same : (k : ℕ) (o n : NodeData) → map.get m k ≡ Some o → o.role ≡ n.role → o.item_kind ≡ n.item_kind → ns ≡ map.insert m k n → ReachBelow c m b → ReachBelow c ns b
  ReachBelow-same k o n at role item added is =
      added_below k n added (λ defined d r. is k o at (role ∙ defined) d (subst (λ i. Reaches c i d) (sym item) r)) is

  pub ReachBelow-left : (gone : List ℕ) → ns ≡ map.retain_keys m (λ k. not (has gone k)) → ReachBelow c m b → ReachBelow c ns b
  ReachBelow-left gone left is k n at = is k n (stayed m gone k n (subst (λ l. map.get l k ≡ Some n) left at)).1

-- ---- a type at the bound or above it

module _ (c : Collection) (m : NodeMap) (b : ℕ) (is : ReachBelow c m b) (ty : TypeKind) (id : DefinedTypeId) (own : Some id ≡ defined_in (ItemKind.Ty ty)) (newer : b ≤ id.index) where
  unreached : (k : ℕ) (n : NodeData) → map.get m k ≡ Some n → n.role ≡ Role.Defined → Reaches c n.item_kind id → ⊥
  unreached k n at role r = let h = is k n at role id r in absurd (omega (arith, h, newer))

  pub newer_undefined : NoDefinition m (ItemKind.Ty ty)
  newer_undefined k d = unreached k d.node d.there d.role (reaches_own (ap defined_in d.type ∙ sym own))

  newer_unused : (x : NodeData) (k : ℕ) → map.get m k ≡ Some x → IsUserOf c ty x → ⊥
  newer_unused x k at u =
      let same : u.uses.id ≡ id = same_own (ItemKind.Ty ty) id u.uses.id (sym own) u.uses.is in
      unreached k x at u.role (subst (Reaches c x.item_kind) same (subst (λ i. Reaches c i u.uses.id) (sym u.type) u.uses.reached))

  pub newer_users : (found : List ℕ) → found ≡ [] → AreThose m (IsUserOf c ty) found
  newer_users found none k = (λ h. absurd (none_in found k none h), λ r. absurd (newer_unused r.0 k r.1 r.2))
