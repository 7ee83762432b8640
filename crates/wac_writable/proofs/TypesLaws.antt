-- Interfaces whose types cannot be written.
use Rattle.std.proofs.Common.{◌≡◌, ◌⊎◌, ◌&&◌, ◌||◌, Bool, true, false, true≢false, List, [], ◌∷◌, ◌++◌, map, filter, inl, inr, refl, sym, ap, ◌∙◌, subst, if◌then◌else◌}
use Rattle.std.specs.Prelude.{not, bytes_eq, filter_map}
use Rattle.std.specs.Bool.{Decides}
use Rattle.std.specs.List.{list_any}
use Rattle.std.proofs.lemmas.Bool.Decides.{Decides-and, Decides-or, Decides-not, Decides-like}
use Rattle.wac_types_base.specs.declared.ids.InterfaceId.{InterfaceId}
use Rattle.wac_types_base.specs.declared.item.ItemKind.{ItemKind}
use Rattle.wac_types_base.specs.declared.item.«Type».{«Type» as TypeKind}
use Rattle.wac_types_base.specs.Entries.{Name, with_values}
use Rattle.wac_types_base.specs.Record.{Collection}
use Rattle.wac_types_base.specs.Graph.{Among}
use Rattle.wac_types_base.specs.Collection.{Stands, IsAcyclic}
use Rattle.wac_types_base.specs.Stated.{Stated, Kind, Used, kind_of, stated_of, uses_of, exports_of, root_name}
use Rattle.wac_types_base.proofs.Standing.{interface_found}
use Rattle.wac_types_base.proofs.Telling.{item_kind, kind_stated}
use Rattle.wac_types_base.proofs.Lists.{among_mapped}
use Rattle.wac_types_written.specs.Written.{is_type}
use Rattle.wac_types_fit.proofs.Items.{exports_inside}
use Rattle.wac_composition.specs.Writable.{has_items, is_resource, is_fresh, root_of, taken, is_given, holder, some_unnamed}
use Rattle.wac_composition.specs.Writable.{Holder as Held}
use Rattle.wac_composition.specs.NotWritten.{IsGiven, CannotBeWritten, ItemsFail, unnamed, an_item, type_exports}
use Rattle.wac_composition.proofs.Closures.{filter_among, among_filter}
use Rattle.wac_composition.proofs.NotWritten.{any_decides, given_decides, resource_decides}
use Rattle.wac_composition.proofs.NotFound.{written_decides}
use Rattle.wac_composition.proofs.Lists.{mapped_among}
use Rattle.wac_types_parts.specs.Parts.{exports_of as exports_in}
use Rattle.wac_types_parts.proofs.PartLaws.{exports_there, exports_missing}
use Rattle.wac_writable.specs.declared.writable.Which.{Which}
use Rattle.wac_writable.specs.Holders.{interface_holder}
use Rattle.wac_writable.specs.Items.{item_unwritable}
use Rattle.wac_writable.specs.Tests.{is_tested, ungiven_unwritable, tested_unwritable, exports_unwritable, interface_unwritable}
use Rattle.wac_writable.specs.Uses.{TypesFail}
use Rattle.wac_types_parts.proofs.PartsStated.{stated_nothing, stands_or_not, exports_are}
use Rattle.wac_writable.proofs.InterfaceLaws.{SomeItem}
use Rattle.wac_writable.proofs.UseLaws.{tells_no}

-- ---- the roots of an interface's types are those of its items

no_resource : (k : Kind) → is_type k ≡ false → is_resource k ≡ false
no_resource k e = by (is_resource k) refl
  where
    by : (b : Bool) → is_resource k ≡ b → b ≡ false
    by true r = absurd (true≢false (sym (ap is_type ((resource_decides k).0 r)) ∙ e))
    by false r = refl

fresh_types : (es : List (Name × Stated)) → filter is_fresh (filter (λ e. is_type (kind_of e.1)) es) ≡ filter is_fresh es
fresh_types [] = refl
fresh_types (e ∷ es) = by (is_type (kind_of e.1)) refl (fresh_types es)
  where
    by : (b : Bool) → is_type (kind_of e.1) ≡ b → filter is_fresh (filter (λ e. is_type (kind_of e.1)) es) ≡ filter is_fresh es
        → filter is_fresh (if b then e ∷ filter (λ e. is_type (kind_of e.1)) es else filter (λ e. is_type (kind_of e.1)) es) ≡ filter is_fresh (e ∷ es)
    by true q r = ap (λ l. if is_fresh e then e ∷ l else l) r
    by false q r = r ∙ sym (ap (λ b. if b && bytes_eq e.0 (root_name e.1) then e ∷ filter is_fresh es else filter is_fresh es) (no_resource (kind_of e.1) q))

abbrev holder_with : List Used → List (Name × Stated) → Held
holder_with us fresh = record {
  used = filter_map taken us;
  roots = map root_of fresh ++ map root_of (filter (λ e. is_resource (kind_of e.1)) (filter_map taken us));
}

pub types_holder : (x : Stated) → interface_holder x ≡ holder (uses_of x) (type_exports x)
types_holder x = sym (ap (holder_with (uses_of x)) (fresh_types (exports_of x)))

-- ---- types among items

type_tested : (k : ItemKind) → is_type (item_kind k) ≡ is_tested Which.TypesOnly k
type_tested (ItemKind.Ty (TypeKind.Resource r)) = refl
type_tested (ItemKind.Ty (TypeKind.Func f)) = refl
type_tested (ItemKind.Ty (TypeKind.Value v)) = refl
type_tested (ItemKind.Ty (TypeKind.Interface i)) = refl
type_tested (ItemKind.Ty (TypeKind.World w)) = refl
type_tested (ItemKind.Ty (TypeKind.Module m)) = refl
type_tested (ItemKind.Func f) = refl
type_tested (ItemKind.Instance i) = refl
type_tested (ItemKind.Component w) = refl
type_tested (ItemKind.Module m) = refl
type_tested (ItemKind.Value v) = refl

module _ (c : Collection) (a : IsAcyclic c) where
  pub exports_stand : (id : InterfaceId) → Stands c (ItemKind.Instance id) → (e : Name × ItemKind) → Among e (exports_in c id) → Stands c e.1
  exports_stand id s e m =
      let f = interface_found c id s in
      (exports_inside c a id f.value s f.at f.own e.0 e.1 (subst (Among e) (exports_there c id f.value f.at f.own) m)).0

  module _ (o : Bool) (h : Held) (es : List (Name × ItemKind)) (stand : (e : Name × ItemKind) → Among e es → Stands c e.1) where
    abbrev is_type_item : Name × Stated → Bool
    is_type_item e = is_type (kind_of e.1)

    abbrev stated_entry : Name × ItemKind → Name × Stated
    stated_entry e = (e.0, stated_of c e.1)

    same_test : (e : Name × ItemKind) → Among e es → is_type_item (stated_entry e) ≡ is_tested Which.TypesOnly e.1
    same_test e m = ap is_type (kind_stated c a e.1 (stand e m)) ∙ type_tested e.1

    types_fail : Decides (list_any (tested_unwritable c o Which.TypesOnly h) es) (SomeItem c a o h (filter is_type_item (with_values (stated_of c) es)))
    types_fail = Decides-like (list_any (tested_unwritable c o Which.TypesOnly h) es) to back
        (any_decides (tested_unwritable c o Which.TypesOnly h) (λ e. (is_tested Which.TypesOnly e.1 ≡ true) × ((IsGiven h e.0 (stated_of c e.1) → ⊥) × CannotBeWritten o h e.0 (stated_of c e.1))) es
        (λ e m. Decides-and (is_tested Which.TypesOnly e.1) (ungiven_unwritable c o e h) (λ e. e, λ e. e)
        (Decides-and (not (is_given h e.0 (stated_of c e.1))) (item_unwritable c o e.0 e.1 h) (Decides-not (is_given h e.0 (stated_of c e.1)) (given_decides h e.0 (stated_of c e.1))) (written_decides o h e.0 (stated_of c e.1)))))
      where
        to : ((e : Name × ItemKind) × Among e es × ((is_tested Which.TypesOnly e.1 ≡ true) × ((IsGiven h e.0 (stated_of c e.1) → ⊥) × CannotBeWritten o h e.0 (stated_of c e.1)))) → SomeItem c a o h (filter is_type_item (with_values (stated_of c) es))
        to (e, m, (k, (g, f))) = (e.0, stated_of c e.1, among_filter is_type_item (with_values (stated_of c) es) (stated_entry e) (among_mapped stated_entry es e m) (same_test e m ∙ k), g, f)

        back : SomeItem c a o h (filter is_type_item (with_values (stated_of c) es)) → (e : Name × ItemKind) × Among e es × ((is_tested Which.TypesOnly e.1 ≡ true) × ((IsGiven h e.0 (stated_of c e.1) → ⊥) × CannotBeWritten o h e.0 (stated_of c e.1)))
        back (n, x, m, g, f) =
            let p = filter_among is_type_item (with_values (stated_of c) es) (n, x) m in
            let q = mapped_among stated_entry es (n, x) p.0 in
            (q.0, q.1, (sym (same_test q.0 q.1) ∙ ap is_type_item (sym q.2) ∙ p.1, subst (λ (y : Name × Stated). (IsGiven h y.0 y.1 → ⊥) × CannotBeWritten o h y.0 y.1) q.2 (g, f)))

  -- ---- interfaces

  module _ (o : Bool) (id : InterfaceId) where
    abbrev x : Stated
    x = stated_of c (ItemKind.Instance id)

    standing : Stands c (ItemKind.Instance id) → Decides (interface_unwritable c o Which.TypesOnly id) (ItemsFail o (uses_of x) (type_exports x))
    standing s =
        Decides-like (interface_unwritable c o Which.TypesOnly id) to from
        (Decides-or (some_unnamed (uses_of x)) (exports_unwritable c o Which.TypesOnly id (interface_holder x)) (λ e. e, λ e. e)
        (subst (λ l. Decides (exports_unwritable c o Which.TypesOnly id (interface_holder x)) (SomeItem c a o (interface_holder x) (filter (λ e. is_type (kind_of e.1)) l))) (sym (exports_are c a id))
        (types_fail o (interface_holder x) (exports_in c id) (exports_stand id s))))
      where
        to : (some_unnamed (uses_of x) ≡ true) ⊎ SomeItem c a o (interface_holder x) (type_exports x) → ItemsFail o (uses_of x) (type_exports x)
        to (inl e) = unnamed e
        to (inr (n, y, m, g, f)) = an_item m (λ k. g (subst (λ h. IsGiven h n y) (sym (types_holder x)) k)) (subst (λ h. CannotBeWritten o h n y) (types_holder x) f)

        from : ItemsFail o (uses_of x) (type_exports x) → (some_unnamed (uses_of x) ≡ true) ⊎ SomeItem c a o (interface_holder x) (type_exports x)
        from (unnamed e) = inl e
        from (an_item {n = n} {x = y} m g f) = inr (n, y, m, (λ k. g (subst (λ h. IsGiven h n y) (types_holder x) k)), subst (λ h. CannotBeWritten o h n y) (sym (types_holder x)) f)

    -- the test of an interface's types
    pub types_decide : Decides (interface_unwritable c o Which.TypesOnly id) (TypesFail o x)
    types_decide = elim (stands_or_not c (ItemKind.Instance id)) [
      | inl s ↦ Decides-like (interface_unwritable c o Which.TypesOnly id) (λ f. (ap has_items (kind_stated c a (ItemKind.Instance id) s), f)) (λ f. f.1) (standing s)
      | inr n ↦
          let e = stated_nothing c (ItemKind.Instance id) n in
          subst (λ b. Decides b (TypesFail o x)) (sym (ap (λ y. some_unnamed (uses_of y) || list_any (tested_unwritable c o Which.TypesOnly (interface_holder x)) (exports_in c id)) e ∙ ap (list_any (tested_unwritable c o Which.TypesOnly (interface_holder x))) (exports_missing c id n)))
          (tells_no (λ f. true≢false (sym f.0 ∙ ap (λ y. has_items (kind_of y)) e)))
    ]
