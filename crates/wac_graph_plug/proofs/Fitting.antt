-- A match fits by the items of its packages.
use Rattle.std.proofs.Common.{◌≡◌, Bool, true, false, ◌==◌, cond, List, ◌∷◌, Some, refl, sym, ap, subst, ◌∙◌, inl, inr}
use Rattle.std.specs.Cmp.Lexicographic.{pointwise, same_text}
use Rattle.wac_types_base.specs.declared.item.ItemKind.{ItemKind}
use Rattle.wac_types_base.specs.Record.{Collection}
use Rattle.wac_types_base.specs.Collection.{IsAcyclic}
use Rattle.wac_types_base.specs.Entries.{Name, names_of, value_at, AreDistinct, with_values}
use Rattle.wac_types_base.specs.Graph.{Among}
use Rattle.wac_types_base.specs.Stated.{Stated, stated_of, imports_of, exports_of}
use Rattle.wac_types_base.specs.Tree.{tree}
use Rattle.wac_types_base.specs.Fits.{Fits}
use Rattle.wac_types_base.proofs.Adding.{option_map-some}
use Rattle.wac_types_base.proofs.Standing.{interface_found, world_found}
use Rattle.wac_types_names.specs.Packaged.{Packaged}
use Rattle.wac_types_fit.specs.Trees.{Fit, tree_in}
use Rattle.wac_graph_core.specs.Graph.{PackageStands, exported_in, imported_in, item_export, item_import}
use Rattle.wac_types_base.proofs.Stating.{imports_stated, exports_stated, instance_exports_stated, value_with}
use Rattle.wac_graph_core.proofs.Stating.{instance_type_exports}
use Rattle.wac_graph_plug.specs.declared.matching.Match.{Match}
use Rattle.wac_graph_plug.specs.Plugging.{Matches, AreMatchesOf, no_exports, matched, passed}
use Rattle.wac_types_names.proofs.TrackLaws.{name_among}
use Rattle.wac_types_fit.proofs.Items.{among-value_at}

-- the export of an instance, and the import that it is for
pub record Fitting (c : Collection) (pp sp : Packaged) (m : Match) : Type 0 where
  pub given : ItemKind
  pub asked : ItemKind
  pub is_given : item_export c (ItemKind.Instance pp.instance_type) m.export ≡ Some given
  pub is_asked : item_import c sp.ty m.import ≡ Some asked
  pub fits : Fit c given c asked

-- a match of the list is one of an export
pub record IsMatched (is es : List (Name × Stated)) (m : Match) : Type 0 where
  pub given : Stated
  pub among : Among (m.export, given) es
  pub matches : Matches is m.export given m.import

later : (is es : List (Name × Stated)) (x : Name × Stated) (m : Match) → IsMatched is es m → IsMatched is (x ∷ es) m
later is es x m r = record { given = r.given; among = inr r.among; matches = r.matches }

pub matched_in : {is es : List (Name × Stated)} {ms : List Match} (m : Match) → AreMatchesOf is es ms → Among m ms → IsMatched is es m
matched_in m no_exports at = absurd at
matched_in {is = is} m (matched e i given {es = es} x rest) (inl same) =
    subst (IsMatched is ((e, given) ∷ es)) (sym same) (record { given = given; among = inl refl; matches = x })
matched_in {is = is} m (matched e i given {es = es} x rest) (inr at) = later is es (e, given) m (matched_in m rest at)
matched_in {is = is} m (passed e given {es = es} none rest) at = later is es (e, given) m (matched_in m rest at)

by_test : {X : Type 0} (x : Name × X) (xs : List (Name × X)) (n : Name) (v : X) (b : Bool) → pointwise ◌==◌ n x.0 ≡ b → (Among x.0 (names_of xs) → ⊥) → Among (n, v) xs → value_at xs n ≡ Some v → cond b (Some x.1) (value_at xs n) ≡ Some v
by_test x xs n v true is d at ih = absurd (d (subst (λ m. Among m (names_of xs)) (same_text n x.0 (sym is)) (name_among xs n v at)))
by_test x xs n v false is d at ih = ih

module _ (c : Collection) (acyclic : IsAcyclic c) where
  -- what is stated of an import
  asked_in : (p : Packaged) → PackageStands c p → (n : Name) (t : Stated) → value_at (imports_of (stated_of c (ItemKind.Component p.ty))) n ≡ Some t → (k : ItemKind) × (item_import c p.ty n ≡ Some k) × (t ≡ stated_of c k)
  asked_in p stands n t at =
      let w = world_found c p.ty stands.world in
      let there = sym (value_with (stated_of c) w.value.imports n) ∙ ap (λ l. value_at l n) (sym (imports_stated c acyclic p.ty w.value w.at w.own)) ∙ at in
      let r = option_map-some (stated_of c) (value_at w.value.imports n) t there in
      (r.0, ap (λ o. imported_in o n) w.at ∙ r.1, r.2)

  -- the exports of a package's world are those of its instances
  exports_same : (p : Packaged) (stands : PackageStands c p) → exports_of (stated_of c (ItemKind.Component p.ty)) ≡ with_values (stated_of c) (interface_found c p.instance_type stands.instance).value.exports
  exports_same p stands =
      let w = world_found c p.ty stands.world in
      let i = interface_found c p.instance_type stands.instance in
      exports_stated c acyclic p.ty w.value w.at w.own ∙ sym (instance_type_exports c p.ty w.value acyclic w.at w.own)
      ∙ ap exports_of (sym stands.exports) ∙ instance_exports_stated c acyclic p.instance_type i.value i.at i.own

  given_in : (p : Packaged) → PackageStands c p → AreDistinct (names_of (exports_of (stated_of c (ItemKind.Component p.ty)))) → (n : Name) (t : Stated) → Among (n, t) (exports_of (stated_of c (ItemKind.Component p.ty)))
      → (k : ItemKind) × (item_export c (ItemKind.Instance p.instance_type) n ≡ Some k) × (t ≡ stated_of c k)
  given_in p stands d n t at =
      let i = interface_found c p.instance_type stands.instance in
      let there = sym (value_with (stated_of c) i.value.exports n) ∙ ap (λ l. value_at l n) (sym (exports_same p stands)) ∙ among-value_at (exports_of (stated_of c (ItemKind.Component p.ty))) n t d at in
      let r = option_map-some (stated_of c) (value_at i.value.exports n) t there in
      (r.0, ap (λ o. exported_in o n) i.at ∙ r.1, r.2)

  -- an instance has each export of its package's world
  pub has_export : (p : Packaged) → PackageStands c p → AreDistinct (names_of (exports_of (stated_of c (ItemKind.Component p.ty)))) → (n : Name) (t : Stated) → Among (n, t) (exports_of (stated_of c (ItemKind.Component p.ty)))
      → (k : ItemKind) × (item_export c (ItemKind.Instance p.instance_type) n ≡ Some k)
  has_export p stands d n t at = let r = given_in p stands d n t at in (r.0, r.1)

  pub fitting : (pp sp : Packaged) → PackageStands c pp → PackageStands c sp → AreDistinct (names_of (exports_of (stated_of c (ItemKind.Component pp.ty)))) → (ms : List Match)
      → AreMatchesOf (imports_of (stated_of c (ItemKind.Component sp.ty))) (exports_of (stated_of c (ItemKind.Component pp.ty))) ms → (m : Match) → Among m ms → Fitting c pp sp m
  unfolding tree_in
  fitting pp sp plug socket d ms are m at =
      let r = matched_in m are at in
      let g = given_in pp plug d m.export r.given r.among in
      let a = asked_in sp socket m.import r.matches.asked r.matches.is in
      record {
        given = g.0;
        asked = a.0;
        is_given = g.1;
        is_asked = a.1;
        fits = subst (λ t. Fits (tree t) (tree (stated_of c a.0))) g.2 (subst (λ t. Fits (tree r.given) (tree t)) a.2 r.matches.fits);
      }
