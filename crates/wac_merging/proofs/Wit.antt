-- An item is an instance of the family of identified interfaces where what it states is.
use Rattle.std.specs.Prelude.{◌&&◌, is_some, slice_get}
use Rattle.std.proofs.Common.{◌≡◌, List, [], ◌∷◌, Bool, true, false, true≢false, Option, Some, None, refl, sym, ap, subst, ◌∙◌, inl, inr}
use Rattle.std.specs.List.{list_all, list_any}
use Rattle.std.specs.Cmp.Derive.{both_true}
use Rattle.std.proofs.lemmas.Bool.{and_parts}
use Rattle.std.proofs.lemmas.Slice.Eq.{bytes_eq-Decides}
use Rattle.wac_types_base.specs.declared.item.«Type».{«Type» as TypeKind}
use Rattle.wac_types_base.specs.declared.item.ItemKind.{ItemKind}
use Rattle.wac_types_base.specs.declared.ids.InterfaceId.{InterfaceId}
use Rattle.wac_types_base.specs.declared.defined.UsedType.{UsedType}
use Rattle.wac_types_base.specs.declared.defined.Interface.{Interface}
use Rattle.wac_types_base.specs.Record.{Collection}
use Rattle.wac_types_base.specs.Graph.{Among}
use Rattle.wac_types_base.specs.Entries.{Name, values_of, with_values}
use Rattle.wac_types_base.specs.Reaching.{Reaches, here, below}
use Rattle.wac_types_base.specs.Collection.{Stands, IsAcyclic, item_node}
use Rattle.wac_types_base.specs.Stated.{Stated, Used, kind_of, stated_of, exports_of, uses_of, identifier_of}
use Rattle.wac_types_base.specs.Parts.{identifier_in}
use Rattle.wac_types_base.proofs.Standing.{interface_found}
use Rattle.wac_types_base.proofs.Stating.{stated_uses, interface_uses, interface_stated, instance_exports_stated}
use Rattle.wac_types_base.proofs.Telling.{item_kind, kind_stated}
use Rattle.wac_types_fit.proofs.Items.{exports_inside}
use Rattle.wac_types_merge.specs.Families.{IsUnnamedIn, UsesSuch, IsWitExport, IsForeign, AreWitExports, IsWitInterface}
use Rattle.wac_types_merge.proofs.Families.{use_inside, entry_of, unnamed_there, all_named}
use Rattle.wac_composition.specs.Classes.{is_instance_kind}
use Rattle.wac_composition.specs.Tests.{same}
use Rattle.wac_composition.specs.Merging.{is_wit_kind, is_called, is_wit, owners, reached}
use Rattle.wac_composition.proofs.Closures.{any_among, among_any}
use Rattle.wac_merging.proofs.SameStated.{stated_tell}
use Rattle.wac_merging.proofs.Owners.{OwnsItem, reached_owner, owner_reached}
use Rattle.wac_merging.proofs.Reached.{used_reached, reached_used}

-- ---- lists

module _ {X : Type 0} (p : X → Bool) where
  pub all_of : (xs : List X) → ((x : X) → Among x xs → p x ≡ true) → list_all p xs ≡ true
  all_of [] h = refl
  all_of (x ∷ xs) h = both_true (h x (inl refl)) (all_of xs (λ y m. h y (inr m)))

  pub of_all : (xs : List X) → list_all p xs ≡ true → (x : X) → Among x xs → p x ≡ true
  of_all [] e x m = absurd m
  of_all (y ∷ xs) e x (inl q) = ap p q ∙ (and_parts (p y) (list_all p xs) e).0
  of_all (y ∷ xs) e x (inr m) = of_all xs (and_parts (p y) (list_all p xs) e).1 x m

-- items, each as what it states
module _ (c : Collection) (q : Stated → Bool) where
  all_items : (es : List (Name × ItemKind)) → ((k : ItemKind) → Among k (values_of es) → q (stated_of c k) ≡ true) → list_all (λ (e : Name × Stated). q e.1) (with_values (stated_of c) es) ≡ true
  all_items [] h = refl
  all_items (e ∷ es) h = both_true (h e.1 (inl refl)) (all_items es (λ k m. h k (inr m)))

  items_all : (es : List (Name × ItemKind)) → list_all (λ (e : Name × Stated). q e.1) (with_values (stated_of c) es) ≡ true → (k : ItemKind) → Among k (values_of es) → q (stated_of c k) ≡ true
  items_all [] h k m = absurd m
  items_all (e ∷ es) h k (inl d) = ap (λ k. q (stated_of c k)) d ∙ (and_parts (q (stated_of c e.1)) (list_all (λ (e : Name × Stated). q e.1) (with_values (stated_of c) es)) h).0
  items_all (e ∷ es) h k (inr m) = items_all es (and_parts (q (stated_of c e.1)) (list_all (λ (e : Name × Stated). q e.1) (with_values (stated_of c) es)) h).1 k m

-- uses, each as what it states
module _ (c : Collection) (q : Stated → Bool) where
  all_uses : (us : List (Name × UsedType)) → ((u : UsedType) → Among u (values_of us) → q (stated_of c (ItemKind.Instance u.interface)) ≡ true) → list_all (λ (u : Used). q u.interface) (stated_uses c us) ≡ true
  all_uses [] h = refl
  all_uses (u ∷ us) h = both_true (h u.1 (inl refl)) (all_uses us (λ v m. h v (inr m)))

  uses_all : (us : List (Name × UsedType)) → list_all (λ (u : Used). q u.interface) (stated_uses c us) ≡ true → (u : UsedType) → Among u (values_of us) → q (stated_of c (ItemKind.Instance u.interface)) ≡ true
  uses_all [] h u m = absurd m
  uses_all (v ∷ us) h u (inl d) = ap (λ (w : UsedType). q (stated_of c (ItemKind.Instance w.interface))) d ∙ (and_parts (q (stated_of c (ItemKind.Instance v.1.interface))) (list_all (λ (u : Used). q u.interface) (stated_uses c us)) h).0
  uses_all (v ∷ us) h u (inr m) = uses_all us (and_parts (q (stated_of c (ItemKind.Instance v.1.interface))) (list_all (λ (u : Used). q u.interface) (stated_uses c us)) h).1 u m

-- ---- kinds and identifiers

kind_wit : (k : ItemKind) → IsWitExport k → is_wit_kind (item_kind k) ≡ true
kind_wit (ItemKind.Func f) h = refl
kind_wit (ItemKind.Ty (TypeKind.Value v)) h = refl
kind_wit (ItemKind.Ty (TypeKind.Resource r)) h = refl
kind_wit (ItemKind.Ty (TypeKind.Func f)) h = absurd h
kind_wit (ItemKind.Ty (TypeKind.Interface f)) h = absurd h
kind_wit (ItemKind.Ty (TypeKind.World f)) h = absurd h
kind_wit (ItemKind.Ty (TypeKind.Module f)) h = absurd h
kind_wit (ItemKind.Instance f) h = absurd h
kind_wit (ItemKind.Component f) h = absurd h
kind_wit (ItemKind.Module f) h = absurd h
kind_wit (ItemKind.Value f) h = absurd h

wit_kind : (k : ItemKind) → is_wit_kind (item_kind k) ≡ true → IsWitExport k
wit_kind (ItemKind.Func f) e = tt
wit_kind (ItemKind.Ty (TypeKind.Value v)) e = tt
wit_kind (ItemKind.Ty (TypeKind.Resource r)) e = tt
wit_kind (ItemKind.Ty (TypeKind.Func f)) e = true≢false (sym e)
wit_kind (ItemKind.Ty (TypeKind.Interface f)) e = true≢false (sym e)
wit_kind (ItemKind.Ty (TypeKind.World f)) e = true≢false (sym e)
wit_kind (ItemKind.Ty (TypeKind.Module f)) e = true≢false (sym e)
wit_kind (ItemKind.Instance f) e = true≢false (sym e)
wit_kind (ItemKind.Component f) e = true≢false (sym e)
wit_kind (ItemKind.Module f) e = true≢false (sym e)
wit_kind (ItemKind.Value f) e = true≢false (sym e)

pub called_is : (o : Option Name) (n : Name) → is_called o n ≡ true → o ≡ Some n
called_is None n e = absurd (true≢false (sym e))
called_is (Some m) n e = ap Some ((bytes_eq-Decides m n).0 e)

is_named : (o : Option Name) → (o ≡ None → ⊥) → is_some o ≡ true
is_named None h = absurd (h refl)
is_named (Some n) h = refl

not_named : (o : Option Name) → is_some o ≡ true → o ≡ None → ⊥
not_named o e q = true≢false (sym e ∙ ap (λ o. is_some o) q)

-- ---- what is reached

reaches_as : {R S : Type 0} (g : R → Option (S × List (Option R))) (P Q : R → Type 0) → ((r : R) → P r → Q r) → {r : R} → Reaches g P r → Reaches g Q r
reaches_as g P Q h (here p) = here (h _ p)
reaches_as g P Q h (below e m r) = below e m (reaches_as g P Q h r)

module _ (c : Collection) (i : InterfaceId) where
  abbrev interface_of_id : InterfaceId → Stated
  interface_of_id o = stated_of c (ItemKind.Instance o)

  -- the owner of a resource that is reached and foreign
  foreign_owner : {k : ItemKind} → Reaches (item_node c) (IsForeign c i) k → (o : InterfaceId) × (UsesSuch c i o → ⊥) × Reaches (item_node c) (OwnsItem c (interface_of_id o)) k
  foreign_owner (here p) = (p.0, p.2, here (p.0, p.1, refl))
  foreign_owner (below e m r) = let f = foreign_owner r in (f.0, f.1, below e m f.2)

module _ (c : Collection) (a : IsAcyclic c) (i : InterfaceId) (s : Stands c (ItemKind.Instance i)) where
  abbrev t : Stated
  t = stated_of c (ItemKind.Instance i)

  -- whether an owner is reached
  abbrev is_reached : Stated → Bool
  is_reached y = list_any (same y) (reached t)

  abbrev owners_reached : Stated → Bool
  owners_reached y = list_all is_reached (owners y)

  owners_are : (k : ItemKind) → Stands c k → (Reaches (item_node c) (IsForeign c i) k → ⊥) → owners_reached (stated_of c k) ≡ true
  owners_are k stands h = all_of is_reached (owners (stated_of c k)) (λ y m. each y m (is_reached y) refl)
    where
      foreign : (y : Stated) → is_reached y ≡ false → (r : ItemKind) → OwnsItem c y r → IsForeign c i r
      foreign y e r p = (
        p.0,
        p.1,
        λ u.
            true≢false (sym (among_any (same y) (reached t) (stated_of c (ItemKind.Instance u.0)) (used_reached c a i u.0 s u.1) (subst (λ z. same y z ≡ true) (p.2 ∙ sym u.2) (stated_tell.itself y))) ∙ e),
      )

      each : (y : Stated) → Among y (owners (stated_of c k)) → (b : Bool) → is_reached y ≡ b → b ≡ true
      each y m true e = refl
      each y m false e = absurd (h (reaches_as (item_node c) (OwnsItem c y) (IsForeign c i) (foreign y e) (owner_reached c y a k stands m)))

  none_foreign : (k : ItemKind) → Stands c k → owners_reached (stated_of c k) ≡ true → Reaches (item_node c) (IsForeign c i) k → ⊥
  none_foreign k stands e r =
      let f = foreign_owner c i r in
      let y = stated_of c (ItemKind.Instance f.0) in
      let z = any_among (same y) (reached t) (of_all is_reached (owners (stated_of c k)) e y (reached_owner c y a k stands f.2)) in
      let j = reached_used c a i z.0 s z.1 in
      f.1 (j.0, j.1, sym (stated_tell.only y z.0 z.2 ∙ j.2))

  -- ---- the interface

  module _ (x : Interface) (at : slice_get c.interfaces i.index ≡ Some x) (own : i.collection ≡ c.number) where
    exports_are : exports_of t ≡ with_values (stated_of c) x.exports
    exports_are = instance_exports_stated c a i x at own

    uses_are : uses_of t ≡ stated_uses c x.uses
    uses_are = ap uses_of (interface_stated c a i x at own) ∙ interface_uses c x

    named_as : identifier_of t ≡ x.id
    named_as = ap identifier_of (interface_stated c a i x at own)

    export_stands : (k : ItemKind) → Among k (values_of x.exports) → Stands c k
    export_stands k m = let n = entry_of x.exports k m in (exports_inside c a i x s at own n.0 k n.1).0

    use_stands : (u : UsedType) → Among u (values_of x.uses) → Stands c (ItemKind.Instance u.interface)
    use_stands u m = (use_inside c a i x s at own u m).0

    use_named : (u : UsedType) → Among u (values_of x.uses) → identifier_of (stated_of c (ItemKind.Instance u.interface)) ≡ identifier_in (slice_get c.interfaces u.interface.index)
    use_named u m =
        let f = interface_found c u.interface (use_stands u m) in
        ap identifier_of (interface_stated c a u.interface f.value f.at f.own) ∙ ap identifier_in (sym f.at)

    abbrev is_named_use : Stated → Bool
    is_named_use y = is_some (identifier_of y)

    uses_named : (IsUnnamedIn c (values_of x.uses) → ⊥) → list_all (λ (u : Used). is_named_use u.interface) (uses_of t) ≡ true
    uses_named h =
        ap (list_all (λ (u : Used). is_named_use u.interface)) uses_are
        ∙ all_uses c is_named_use x.uses (λ u m. is_named _ (λ e. h (unnamed_there c (values_of x.uses) u m (sym (use_named u m) ∙ e))))

    none_unnamed : list_all (λ (u : Used). is_named_use u.interface) (uses_of t) ≡ true → IsUnnamedIn c (values_of x.uses) → ⊥
    none_unnamed e = all_named c (values_of x.uses) (λ u m q.
        not_named _ (uses_all c is_named_use x.uses (ap (list_all (λ (u : Used). is_named_use u.interface)) (sym uses_are) ∙ e) u m) (use_named u m ∙ q))

    abbrev has_wit_kind : Stated → Bool
    has_wit_kind y = is_wit_kind (kind_of y)

    exports_wit : AreWitExports c i (values_of x.exports) → list_all (λ (e : Name × Stated). has_wit_kind e.1) (exports_of t) ≡ true
    exports_wit w =
        ap (list_all (λ (e : Name × Stated). has_wit_kind e.1)) exports_are
        ∙ all_items c has_wit_kind x.exports (λ k m. ap (λ k. is_wit_kind k) (kind_stated c a k (export_stands k m)) ∙ kind_wit k (w k m).0)

    exports_owned : AreWitExports c i (values_of x.exports) → list_all (λ (e : Name × Stated). owners_reached e.1) (exports_of t) ≡ true
    exports_owned w =
        ap (list_all (λ (e : Name × Stated). owners_reached e.1)) exports_are
        ∙ all_items c owners_reached x.exports (λ k m. owners_are k (export_stands k m) (w k m).1)

    are_wit : list_all (λ (e : Name × Stated). has_wit_kind e.1) (exports_of t) ≡ true → list_all (λ (e : Name × Stated). owners_reached e.1) (exports_of t) ≡ true → AreWitExports c i (values_of x.exports)
    are_wit e f k m =
        let kinds = items_all c has_wit_kind x.exports (ap (list_all (λ (e : Name × Stated). has_wit_kind e.1)) (sym exports_are) ∙ e) k m in
        let owned = items_all c owners_reached x.exports (ap (list_all (λ (e : Name × Stated). owners_reached e.1)) (sym exports_are) ∙ f) k m in
        (wit_kind k (ap (λ k. is_wit_kind k) (sym (kind_stated c a k (export_stands k m))) ∙ kinds), none_foreign k (export_stands k m) owned)

    pub instance_wit : (n : Name) → (IsUnnamedIn c (values_of x.uses) → ⊥) → IsWitInterface c n i (Some x) → is_wit n t ≡ true
    instance_wit n h w =
        both_true (both_true (both_true (both_true
        (ap (λ k. is_instance_kind k) (kind_stated c a (ItemKind.Instance i) s))
        (ap (λ o. is_called o n) (named_as ∙ w.0) ∙ (bytes_eq-Decides n n).1 refl))
        (exports_wit w.1))
        (uses_named h))
        (exports_owned w.1)

    -- what the test says
    record Tested (n : Name) : Type 0 where
      called : is_called (identifier_of t) n ≡ true
      kinds : list_all (λ (e : Name × Stated). has_wit_kind e.1) (exports_of t) ≡ true
      uses : list_all (λ (u : Used). is_named_use u.interface) (uses_of t) ≡ true
      owned : list_all (λ (e : Name × Stated). owners_reached e.1) (exports_of t) ≡ true

    tested : (n : Name) → is_wit n t ≡ true → Tested n
    tested n e =
        let kind = is_instance_kind (kind_of t) in
        let called = is_called (identifier_of t) n in
        let kinds = list_all (λ (e : Name × Stated). has_wit_kind e.1) (exports_of t) in
        let uses = list_all (λ (u : Used). is_named_use u.interface) (uses_of t) in
        let owned = list_all (λ (e : Name × Stated). owners_reached e.1) (exports_of t) in
        let f = and_parts (kind && called && kinds && uses) owned e in
        let g = and_parts (kind && called && kinds) uses f.0 in
        let h = and_parts (kind && called) kinds g.0 in
        record { called = (and_parts kind called h.0).1; kinds = h.1; uses = g.1; owned = f.1 }

    pub wit_instance : (n : Name) → is_wit n t ≡ true → IsWitInterface c n i (Some x)
    wit_instance n e = let p = tested n e in (sym named_as ∙ called_is (identifier_of t) n p.called, are_wit p.kinds p.owned)

    pub wit_named : (n : Name) → is_wit n t ≡ true → IsUnnamedIn c (values_of x.uses) → ⊥
    wit_named n e = none_unnamed (tested n e).uses
