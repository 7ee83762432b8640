-- The exports of the world that is handed out, one after another, and that world.
use Rattle.std.proofs.Common.{◌≡◌, ℕ, ◌+◌, ◌<◌, ◌≤◌, arith, List, [], ◌∷◌, ◌++◌, map, take, length, Some, None, slice_get, inl, inr, refl, sym, ap, subst, ◌∙◌}
use Rattle.std.proofs.lemmas.List.{take_all}
use Rattle.wac_types_base.specs.declared.item.ItemKind.{ItemKind}
use Rattle.wac_types_base.specs.declared.ids.WorldId.{WorldId}
use Rattle.wac_types_base.specs.Record.{Collection}
use Rattle.wac_types_base.specs.Entries.{AreDistinct, IsNew, Name, names_of}
use Rattle.wac_types_base.specs.Collection.{Grows, IsAcyclic, Stands}
use Rattle.wac_types_base.specs.Copying.{IsCopy}
use Rattle.wac_types_base.specs.Stated.{IsComponent, Stated, kind_of, stated_in, stated_of, world_of}
use Rattle.wac_types_base.proofs.Again.{new_in_copy, one_more_copied}
use Rattle.wac_types_base.proofs.Lists.{among_last, there_is}
use Rattle.wac_types_base.proofs.Looked.{put_entry-new}
use Rattle.wac_types_base.proofs.Loops.{map-one_more, names-with_values}
use Rattle.wac_types_base.proofs.Standing.{world_found}
use Rattle.wac_types_base.proofs.Telling.{kind_stated}
use Rattle.wac_types_base.proofs.Walking.{slice_get-Among}
use Rattle.wac_types_fit.proofs.ItemKinds.{not_component}
use Rattle.wac_types_written.specs.Forms.{ItemsStand, stated_items, stated_uses}
use Rattle.wac_types_written.specs.Written.{bare_world, without_uses}
use Rattle.wac_types_written.proofs.Growing.{items_kept}
use Rattle.wac_types_written.proofs.Ids.{world_states}
use Rattle.wac_types_written.proofs.Loops.{place_new}
use Rattle.wac_types_written.proofs.Shapes.{world_by_parts}
use Rattle.wac_graph_core.specs.Graph.{Graph}
use Rattle.wac_types_parts.specs.Parts.{imports_of}
use Rattle.wac_graph_scopes.proofs.WritingLaws.{value_here}
use Rattle.wac_composition.specs.Asks.{asks_of}
use Rattle.wac_composition.specs.OuterImports.{outer_imports}
use Rattle.wac_composition.specs.Worlds.{used_world, world_exports}
use Rattle.wac_graph_asks.specs.Graphs.{composition_of, item_at, origin_of}
use Rattle.wac_graph_encode.specs.Worlds.{AddsExported, AreExported, exported_at, with_import}
use Rattle.wac_graph_encode.proofs.ItemSorts.{import_there}

-- ---- one more entry

items_more : (c : Collection) (xs : List (Name × ItemKind)) (n : Name) (k : ItemKind) → stated_items c (xs ++ (n, k) ∷ []) ≡ stated_items c xs ++ (n, stated_of c k) ∷ []
items_more c [] n k = refl
items_more c (x ∷ xs) n k = ap (λ l. (x.0, stated_of c x.1) ∷ l) (items_more c xs n k)

more_stand : (c : Collection) (xs : List (Name × ItemKind)) (n : Name) (k : ItemKind) → ItemsStand c xs → Stands c k → ItemsStand c (xs ++ (n, k) ∷ [])
more_stand c xs n k all one x m = elim (among_last x (n, k) xs m) [
  | inl there ↦ all x there
  | inr same ↦ subst (λ (y : Name × ItemKind). Stands c y.1) (sym same) one
]

module _ (g : Graph) where
  abbrev pub one_exported : Name × ℕ → Name × Stated
  one_exported e = (e.0, exported_at g e.1)

  names_exported : (es : List (Name × ℕ)) → names_of (map one_exported es) ≡ names_of es
  names_exported [] = refl
  names_exported (e ∷ es) = ap (λ l. e.0 ∷ l) (names_exported es)

  pub exported_none : (c : Collection) → AreExported g c [] []
  exported_none c = record { stand = λ x m. absurd m; state = refl }

  pub exported_kept : (c d : Collection) → Grows c d → (es : List (Name × ℕ)) (xs : List (Name × ItemKind)) → AreExported g c es xs → AreExported g d es xs
  exported_kept c d grows es xs are = record { stand = λ x m. grows.stand x.1 (are.stand x m); state = items_kept c d grows xs are.stand ∙ are.state }

  exported_names : (c : Collection) (es : List (Name × ℕ)) (xs : List (Name × ItemKind)) → AreExported g c es xs → names_of xs ≡ names_of es
  exported_names c es xs are = sym (names-with_values (stated_of c) xs) ∙ ap names_of are.state ∙ names_exported es

  -- one more, under a name of its own
  pub exported_next : (c d : Collection) → Grows c d → (es : List (Name × ℕ)) → AreDistinct (names_of es) → (i : ℕ) (n : Name) (k : ℕ) (old new : List (Name × ItemKind)) → slice_get es i ≡ Some (n, k) → AddsExported g d n k old new
      → AreExported g c (take i es) old → AreExported g d (take (i + 1) es) new
  exported_next c d grows es distinct i n k old new at adds are =
      let new_name : IsNew n old = place_new es i n k old distinct at (exported_names c (take i es) old are) in
      let is : new ≡ old ++ (n, adds.0) ∷ [] = adds.1 ∙ put_entry-new old n adds.0 new_name in
      let kept = exported_kept c d grows (take i es) old are in
      let states : stated_items d (old ++ (n, adds.0) ∷ []) ≡ map one_exported (take (i + 1) es) =
      items_more d old n adds.0 ∙ ap (λ l. l ++ (n, stated_of d adds.0) ∷ []) kept.state
      ∙ ap (λ (x : Stated). map one_exported (take i es) ++ (n, x) ∷ []) adds.2.states ∙ sym (map-one_more one_exported es i (n, k) at) in
      subst (AreExported g d (take (i + 1) es)) (sym is) (record { stand = more_stand d old n adds.0 kept.stand adds.2.stands; state = states })

  pub exported_all : (c : Collection) (es : List (Name × ℕ)) (i : ℕ) (xs : List (Name × ItemKind)) → length es ≤ i → AreExported g c (take i es) xs → AreExported g c es xs
  exported_all c es i xs le are = subst (λ l. AreExported g c l xs) (take_all i es le) are

-- ---- the world

exports_same : (g : Graph) (es : List (Name × ℕ)) → map (one_exported g) es ≡ world_exports (asks_of (composition_of g)) (map (λ e. (e.0, origin_of g e.1, item_at g e.1)) es)
exports_same g [] = refl
exports_same g (e ∷ es) = ap (λ l. one_exported g e ∷ l) (exports_same g es)

-- of what is asked of the outside and what is exported
pub used_states : (g : Graph) (c : Collection) (imports exports : List (Name × ItemKind)) → stated_items c imports ≡ outer_imports (asks_of (composition_of g)) → AreExported g c g.exports exports
    → world_of None [] (stated_items c imports) (stated_items c exports) ≡ used_world (composition_of g)
used_states g c imports exports asked are = λ j. world_of None [] (asked j) ((are.state ∙ exports_same g g.exports) j)

pub imports_stand : (c : Collection) → IsAcyclic c → (w : WorldId) → Stands c (ItemKind.Component w) → AreDistinct (names_of (imports_of c w)) → ItemsStand c (imports_of c w)
imports_stand c acyclic w stands distinct x m =
    let a = slice_get-Among (imports_of c w) x m in
    import_there c acyclic w stands x.0 x.1 (value_here (imports_of c w) a.0 x.0 x.1 distinct a.2)

-- ---- without uses

-- a world without uses is one
pub world_kind : (c : Collection) → IsAcyclic c → (w : WorldId) → Stands c (ItemKind.Component w) → kind_of (without_uses (stated_of c (ItemKind.Component w))) ≡ IsComponent
world_kind c acyclic w stands =
    let f = world_found c w stands in
    ap (λ y. kind_of (without_uses y)) (world_states c acyclic w f.value f.at f.own)
    ∙ ap kind_of (world_by_parts bare_world f.value.id (stated_uses c f.value.uses) (stated_items c f.value.imports) (stated_items c f.value.exports))

-- what is a copy of one is no other item
pub not_other : (c d : Collection) → IsAcyclic d → (k j : ItemKind) → kind_of (stated_of c k) ≡ IsComponent → IsCopy c d k j → ((w : WorldId) → j ≡ ItemKind.Component w → ⊥) → ⊥
not_other c d acyclic k j kind copy other = not_component j other (sym (kind_stated d acyclic j copy.stands) ∙ ap (λ o. kind_of (stated_in o)) copy.same ∙ kind)

-- ---- imports, one after another

pub import_next : (xs : List (Name × ItemKind)) → AreDistinct (names_of xs) → (i count : ℕ) → count ≡ length xs → i < count → (old new : List (Name × ItemKind)) → new ≡ with_import (slice_get xs i) old → old ≡ take i xs → new ≡ take (i + 1) xs
import_next xs distinct i count len lt old new is before =
    let e = there_is xs i (omega (arith, lt, len)) in
    one_more_copied xs i e.0.0 e.0.1 e.1 e.0.0 old new before refl
    (is ∙ ap (λ o. with_import o old) e.1 ∙ put_entry-new old e.0.0 e.0.1 (new_in_copy xs i e.0.0 e.0.1 e.1 e.0.0 old distinct before refl))
