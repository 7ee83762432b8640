-- Imports that give what is used.
use Rattle.std.specs.Prelude.{◌==◌, cond}
use Rattle.std.specs.Cmp.Lexicographic.{pointwise}
use Rattle.std.proofs.Common.{◌≡◌, List, [], ◌∷◌, ◌++◌, Bool, true, false, Option, Some, None, inl, inr, refl, sym, ap, subst, ◌∙◌}
use Rattle.std.specs.Prelude.{option_map, if◌then◌else◌}
use Rattle.std.specs.Bool.{Decides}
use Rattle.std.proofs.lemmas.Bool.Decides.{Decides-at}
use Rattle.wac_types_base.specs.declared.ids.InterfaceId.{InterfaceId}
use Rattle.wac_writable.specs.declared.writable.GivenBy.{GivenBy}
use Rattle.wac_types_base.specs.declared.item.ItemKind.{ItemKind}
use Rattle.wac_types_base.specs.declared.item.«Type».{«Type» as TypeKind}
use Rattle.wac_types_base.specs.Entries.{Name, value_at, with_values}
use Rattle.wac_types_base.specs.Record.{Collection}
use Rattle.wac_types_base.specs.Collection.{Stands, IsAcyclic}
use Rattle.wac_types_base.specs.Stated.{exports_of, stated_of, kind_of}
use Rattle.wac_types_base.proofs.Telling.{item_kind, kind_stated}
use Rattle.wac_types_base.proofs.Stating.{value_with}
use Rattle.wac_composition.specs.Classes.{is_instance_kind}
use Rattle.wac_composition.specs.Writable.{item_in, given_in, stands_as}
use Rattle.wac_composition.specs.NotWritten.{IsImported}
use Rattle.wac_types_parts.specs.declared.parts.Use.{Use}
use Rattle.wac_types_parts.specs.Parts.{exports_of as exports_in, imports_of as imports_in, world_exports_of as world_exports_in}
use Rattle.wac_writable.specs.Holders.{instance_in}
use Rattle.wac_writable.specs.Tests.{used_of, given_by}
use Rattle.wac_writable.specs.Givers.{items_by, givers_by}
use Rattle.wac_types_parts.proofs.PartsStated.{exports_are, imports_are, world_exports_are, stated_nothing, stands_or_not}
use Rattle.wac_writable.proofs.UseLaws.{imported_decides, nothing_imported}

is_instance : (k : ItemKind) (i : InterfaceId) → instance_in k ≡ Some i → k ≡ ItemKind.Instance i
is_instance (ItemKind.Instance j) i e = let same : j ≡ i = cc e in ap ItemKind.Instance same
is_instance (ItemKind.Ty t) i e = absurd (cc e)
is_instance (ItemKind.Func f) i e = absurd (cc e)
is_instance (ItemKind.Component w) i e = absurd (cc e)
is_instance (ItemKind.Module m) i e = absurd (cc e)
is_instance (ItemKind.Value v) i e = absurd (cc e)

module _ (c : Collection) (a : IsAcyclic c) where
  -- ---- items under a name

  named : (id : InterfaceId) (n : Name) (o : Option ItemKind) → o ≡ value_at (exports_in c id) n → value_at (exports_of (stated_of c (ItemKind.Instance id))) n ≡ option_map (stated_of c) o
  named id n o e = ap (λ l. value_at l n) (exports_are c a id) ∙ value_with (stated_of c) (exports_in c id) n ∙ ap (option_map (stated_of c)) (sym e)

  -- only an instance gives items
  no_instance : (k : ItemKind) → instance_in k ≡ None → is_instance_kind (kind_of (stated_of c k)) ≡ false
  no_instance k e = elim (stands_or_not c k) [
    | inl s ↦ ap is_instance_kind (kind_stated c a k s) ∙ by k e
    | inr n ↦ ap (λ x. is_instance_kind (kind_of x)) (stated_nothing c k n)
  ]
    where
      by : (k : ItemKind) → instance_in k ≡ None → is_instance_kind (item_kind k) ≡ false
      by (ItemKind.Ty (TypeKind.Resource r)) e = refl
      by (ItemKind.Ty (TypeKind.Value v)) e = refl
      by (ItemKind.Ty (TypeKind.Func f)) e = refl
      by (ItemKind.Ty (TypeKind.Interface i)) e = refl
      by (ItemKind.Ty (TypeKind.World w)) e = refl
      by (ItemKind.Ty (TypeKind.Module m)) e = refl
      by (ItemKind.Func f) e = refl
      by (ItemKind.Instance i) e = absurd (cc e)
      by (ItemKind.Component w) e = refl
      by (ItemKind.Module m) e = refl
      by (ItemKind.Value v) e = refl

  module _ (u : Use) (import : ItemKind) where
    pub takes_nothing : None ≡ value_at (exports_in c u.interface) u.there.now → true ≡ given_by c import u
    takes_nothing e = sym (ap (λ o. stands_as o (given_in (stated_of c import) (used_of c u))) (named u.interface u.there.now None e))

    pub gives_nothing : (k : ItemKind) → Some k ≡ value_at (exports_in c u.interface) u.there.now → None ≡ instance_in import → false ≡ given_by c import u
    gives_nothing k e none =
        sym (ap (λ o. stands_as o (given_in (stated_of c import) (used_of c u))) (named u.interface u.there.now (Some k) e)
        ∙ ap (λ b. stands_as (Some (stated_of c k)) (if b then item_in (stated_of c import) (used_of c u) else None)) (no_instance import (sym none)))

    pub gives_by : (k : ItemKind) (id : InterfaceId) (o : Option ItemKind) → Some k ≡ value_at (exports_in c u.interface) u.there.now → Some id ≡ instance_in import → Stands c import → o ≡ value_at (exports_in c id) u.there.now
        → given_by c import u ≡ stands_as (Some (stated_of c k)) (option_map (stated_of c) o)
    gives_by k id o e i s f =
        let is = is_instance import id (sym i) in
        let kind : is_instance_kind (kind_of (stated_of c (ItemKind.Instance id))) ≡ true = ap is_instance_kind (kind_stated c a (ItemKind.Instance id) (subst (λ m. Stands c m) is s)) in
        ap (λ o. stands_as o (given_in (stated_of c import) (used_of c u))) (named u.interface u.there.now (Some k) e)
        ∙ ap (λ m. stands_as (Some (stated_of c k)) (given_in (stated_of c m) (used_of c u))) is
        ∙ ap (λ b. stands_as (Some (stated_of c k)) (if b then item_in (stated_of c (ItemKind.Instance id)) (used_of c u) else None)) kind
        ∙ ap (stands_as (Some (stated_of c k))) (named id u.there.now o f)

  values_both : {A B : Type 0} (f : A → B) (xs ys : List (Name × A)) → with_values f (xs ++ ys) ≡ with_values f xs ++ with_values f ys
  values_both f [] ys = refl
  values_both f (x ∷ xs) ys = ap (λ l. (x.0, f x.1) ∷ l) (values_both f xs ys)

  -- ---- what is given under a name

  given_stated : (by : GivenBy) → givers_by c by ≡ with_values (stated_of c) (items_by c by)
  given_stated GivenBy.Nothing = refl
  given_stated (GivenBy.Imports w) = imports_are c a w
  given_stated (GivenBy.Exports w) = (λ i. world_exports_are c a w i ++ imports_are c a w i) ∙ sym (values_both (stated_of c) (world_exports_in c w) (imports_in c w))

  module _ (by : GivenBy) (n : Name) (u : Use) where
    given_under : (o : Option ItemKind) → o ≡ value_at (items_by c by) n → value_at (givers_by c by) n ≡ option_map (stated_of c) o
    given_under o e = ap (λ l. value_at l n) (given_stated by) ∙ value_with (stated_of c) (items_by c by) n ∙ ap (option_map (stated_of c)) (sym e)

    pub item_gives : (k : ItemKind) (b : Bool) → Some k ≡ value_at (items_by c by) n → b ≡ given_by c k u → Decides b (IsImported (givers_by c by) n (used_of c u))
    item_gives k b e g = Decides-at b (given_by c k u) g (imported_decides (givers_by c by) n (used_of c u) (stated_of c k) (given_under (Some k) e))

    pub no_item_gives : None ≡ value_at (items_by c by) n → IsImported (givers_by c by) n (used_of c u) → ⊥
    no_item_gives e = nothing_imported (givers_by c by) n (used_of c u) (given_under None e)

-- of two lists the first decides
pub value_first : {T : Type 0} (xs ys : List (Name × T)) (n : Name) (v : T) → Some v ≡ value_at xs n → Some v ≡ value_at (xs ++ ys) n
value_first [] ys n v e = absurd (cc e)
value_first (x ∷ xs) ys n v e = go (value_first xs ys n v) (pointwise ◌==◌ n x.0) e
  where
    go : (Some v ≡ value_at xs n → Some v ≡ value_at (xs ++ ys) n) → (b : Bool) → Some v ≡ cond b (Some x.1) (value_at xs n) → Some v ≡ cond b (Some x.1) (value_at (xs ++ ys) n)
    go later true e = e
    go later false e = later e

pub value_second : {T : Type 0} (xs ys : List (Name × T)) (n : Name) (o : Option T) → None ≡ value_at xs n → o ≡ value_at ys n → o ≡ value_at (xs ++ ys) n
value_second [] ys n o e f = f
value_second (x ∷ xs) ys n o e f = go (λ h. value_second xs ys n o h f) (pointwise ◌==◌ n x.0) e
  where
    go : (None ≡ value_at xs n → o ≡ value_at (xs ++ ys) n) → (b : Bool) → None ≡ cond b (Some x.1) (value_at xs n) → o ≡ cond b (Some x.1) (value_at (xs ++ ys) n)
    go later true e = absurd (cc e)
    go later false e = later e
