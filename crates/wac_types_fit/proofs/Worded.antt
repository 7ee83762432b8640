-- The words of a mismatch, one step further out and in other forms.
use Rattle.std.proofs.Common.{◌≡◌, ℕ, zero, suc, ◌<◌, ◌%◌, ◌==◌, List, [], ◌∷◌, ◌⊎◌, Bool, true, false, not, Option, Some, None, refl, sym, subst, inl, inr, arith, slice_get}
use Rattle.std.specs.Prelude.{if◌then◌else◌}
use Rattle.wac_types_base.specs.declared.item.ItemKind.{ItemKind}
use Rattle.wac_types_base.specs.declared.item.ExternKind.{ExternKind}
use Rattle.wac_types_base.specs.declared.item.«Type».{«Type» as TypeKind}
use Rattle.wac_types_base.specs.declared.ids.InterfaceId.{InterfaceId}
use Rattle.wac_types_base.specs.declared.ids.WorldId.{WorldId}
use Rattle.wac_types_base.specs.declared.ids.ModuleTypeId.{ModuleTypeId}
use Rattle.wac_types_base.specs.declared.core_types.ModuleType.{ModuleType}
use Rattle.wac_types_base.specs.Record.{Collection}
use Rattle.wac_types_base.specs.Entries.{Name, value_at}
use Rattle.wac_types_base.specs.Stated.{stated_of, desc}
use Rattle.wac_types_fit.specs.declared.checker.SubtypeCheck.{SubtypeCheck}
use Rattle.wac_types_fit.specs.Errors.{Said}
use Rattle.wac_types_fit.specs.Frames.{Step}
use Rattle.wac_types_fit.specs.Directions.{direction_of}
use Rattle.wac_types_fit.specs.Words.{Called, itself, in_instance, in_interface, in_component_exports, in_component_imports, in_world_exports, in_world_imports, in_module, in_module_type, ItemsCalled, nothing_called, item_called, AreCalled, CalledUnder, in_turn, InstanceCalled, WorldCalled, NamedCalled, CoreCalled}

same_saying : (o : Option Said) (x y : Said) → o ≡ Some x → o ≡ Some y → x ≡ y
same_saying o x y e f = cc (e, f)

-- a mismatch of the two items themselves
pub called_here : (t : Bool) (G A : List Step → Option Name → Type 0) (o : Option Said) (g a : Option Name) → o ≡ Some ([], in_turn t a g) → G [] g → A [] a
    → (ss : List Step) (e f : Option Name) → o ≡ Some (ss, (e, f)) → AreCalled t (G ss) (A ss) e f
called_here false G A o g a is hg ha ss e f eq =
    let same : ([], (a, g)) ≡ (ss, (e, f)) = same_saying o ([], (a, g)) (ss, (e, f)) is eq in
    let P : Said → Type 0 = λ p. A p.0 p.1.0 × G p.0 p.1.1 in
    subst P same (ha, hg)
called_here true G A o g a is hg ha ss e f eq =
    let same : ([], (g, a)) ≡ (ss, (e, f)) = same_saying o ([], (g, a)) (ss, (e, f)) is eq in
    let P : Said → Type 0 = λ p. G p.0 p.1.0 × A p.0 p.1.1 in
    subst P same (hg, ha)

-- in another form
pub called_as : (t : Bool) (G H A B : Option Name → Type 0) (e f : Option Name) → ((w : Option Name) → G w → H w) → ((w : Option Name) → A w → B w) → AreCalled t G A e f → AreCalled t H B e f
called_as false G H A B e f g a h = (a e h.0, g f h.1)
called_as true G H A B e f g a h = (g e h.0, a f h.1)

-- with the sides changed
pub called_turned : (t : Bool) (G A : Option Name → Type 0) (e f : Option Name) → AreCalled (not t) G A e f → AreCalled t A G e f
called_turned false G A e f h = h
called_turned true G A e f h = h

module _ (t : Bool) (side : ExternKind) (c : Collection) (es : List (Name × ItemKind)) (d : Collection) (n : Name) (k : ItemKind) where
  -- nothing stands there under the name
  pub missing_called : (o : Option Said) (ss rest : List Step) (e f : Option Name) → value_at es n ≡ None → o ≡ Some ([], in_turn t (Some (desc (stated_of d k))) None)
      → o ≡ Some (rest, (e, f)) → ss ≡ (side, n) ∷ rest → AreCalled t (ItemsCalled c side es ss) (NamedCalled d side n k ss) e f
  missing_called o ss rest e f none is eq same =
      let P : List Step → Type 0 = λ r. AreCalled t (ItemsCalled c side es r) (NamedCalled d side n k r) e f in
      subst P (sym same)
      (called_here t (λ r. ItemsCalled c side es ((side, n) ∷ r)) (λ r. NamedCalled d side n k ((side, n) ∷ r)) o None (Some (desc (stated_of d k))) is
      (nothing_called side es n none) ([], refl, itself k) rest e f eq)

  -- what stands there disagrees
  pub item_called_in : (j : ItemKind) (ss rest : List Step) (e f : Option Name) → value_at es n ≡ Some j → AreCalled t (Called c j rest) (Called d k rest) e f → ss ≡ (side, n) ∷ rest
      → AreCalled t (ItemsCalled c side es ss) (NamedCalled d side n k ss) e f
  item_called_in j ss rest e f at h same =
      let P : List Step → Type 0 = λ r. AreCalled t (ItemsCalled c side es r) (NamedCalled d side n k r) e f in
      subst P (sym same)
      (called_as t (Called c j rest) (ItemsCalled c side es ((side, n) ∷ rest)) (Called d k rest) (NamedCalled d side n k ((side, n) ∷ rest)) e f
      (λ w x. item_called side es n j rest w at x) (λ w x. (rest, refl, x)) h)

-- an item of that name is one of the items
pub named_called : (c : Collection) (side : ExternKind) (es : List (Name × ItemKind)) (n : Name) (k : ItemKind) (ss : List Step) (w : Option Name) → value_at es n ≡ Some k → NamedCalled c side n k ss w → ItemsCalled c side es ss w
named_called c side es n k ss w at h = subst (λ r. ItemsCalled c side es r w) (sym h.1) (item_called side es n k h.0 w at h.2)

module _ (c : Collection) (ss : List Step) (w : Option Name) where
  pub instance_called : (k : ItemKind) (i : InterfaceId) → k ≡ ItemKind.Instance i → InstanceCalled c i ss w → Called c k ss w
  instance_called k i is h = subst (λ k. Called c k ss w) (sym is) (in_instance i h.0 ss w h.1 h.2)

  pub interface_called : (t : TypeKind) (i : InterfaceId) → t ≡ TypeKind.Interface i → InstanceCalled c i ss w → Called c (ItemKind.Ty t) ss w
  interface_called t i is h = subst (λ t. Called c (ItemKind.Ty t) ss w) (sym is) (in_interface i h.0 ss w h.1 h.2)

  pub component_called : (k : ItemKind) (i : WorldId) → k ≡ ItemKind.Component i → WorldCalled c i ss w → Called c k ss w
  component_called k i is h = subst (λ k. Called c k ss w) (sym is) (elim h.2 [ inl x ↦ in_component_imports i h.0 ss w h.1 x | inr x ↦ in_component_exports i h.0 ss w h.1 x ])

  pub world_called : (t : TypeKind) (i : WorldId) → t ≡ TypeKind.World i → WorldCalled c i ss w → Called c (ItemKind.Ty t) ss w
  world_called t i is h = subst (λ t. Called c (ItemKind.Ty t) ss w) (sym is) (elim h.2 [ inl x ↦ in_world_imports i h.0 ss w h.1 x | inr x ↦ in_world_exports i h.0 ss w h.1 x ])

  pub module_called : (k : ItemKind) (i : ModuleTypeId) (m : ModuleType) → k ≡ ItemKind.Module i → slice_get c.modules i.index ≡ Some m → CoreCalled m ss w → Called c k ss w
  module_called k i m is at h = subst (λ k. Called c k ss w) (sym is) (in_module i m ss w at h)

  pub module_type_called : (t : TypeKind) (i : ModuleTypeId) (m : ModuleType) → t ≡ TypeKind.Module i → slice_get c.modules i.index ≡ Some m → CoreCalled m ss w → Called c (ItemKind.Ty t) ss w
  module_type_called t i m is at h = subst (λ t. Called c (ItemKind.Ty t) ss w) (sym is) (in_module_type i m ss w at h)

-- the words of a core item one step further out
pub core_called : (t : Bool) (step : Step) (G A : List Step → Option Name → Type 0) (p : Option Said) (g a : Option Name) → (p ≡ None) ⊎ (p ≡ Some ([], in_turn t a g)) → G (step ∷ []) g → A (step ∷ []) a
    → (ss rest : List Step) (e f : Option Name) → p ≡ Some (rest, (e, f)) → ss ≡ step ∷ rest → AreCalled t (G ss) (A ss) e f
core_called t step G A p g a (inl none) hg ha ss rest e f eq same = absurd (cc (none, eq))
core_called t step G A p g a (inr is) hg ha ss rest e f eq same =
    let P : List Step → Type 0 = λ r. AreCalled t (G r) (A r) e f in
    subst P (sym same) (called_here t (λ r. G (step ∷ r)) (λ r. A (step ∷ r)) p g a is hg ha rest e f eq)

-- a checker is turned where an odd number of directions is set
pub called_under : (n : ℕ) (t : Bool) (G A : Option Name → Type 0) (e f : Option Name) → t ≡ (n % 2 == 1) → AreCalled t G A e f → CalledUnder (direction_of n) G A e f
called_under n t G A e f is h = by_rest (n % 2) (mod_two n) (subst (λ t. AreCalled t G A e f) is h)
  where
    mod_two : (n : ℕ) → n % 2 < 2
    mod_two n = omega arith

    by_rest : (r : ℕ) → r < 2 → AreCalled (r == 1) G A e f → CalledUnder (if r == 0 then SubtypeCheck.Covariant else SubtypeCheck.Contravariant) G A e f
    by_rest zero lt h = h
    by_rest (suc zero) lt h = h
    by_rest (suc (suc r)) lt h = absurd (omega (arith, lt))
