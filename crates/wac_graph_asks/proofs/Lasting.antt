-- Outer imports stay while the collection grows.
use Rattle.std.proofs.Common.{◌≡◌, ℕ, List, Some, slice_get, sym, ap, subst, ◌∙◌}
use Rattle.wac_types_base.specs.declared.ids.WorldId.{WorldId}
use Rattle.wac_types_base.specs.declared.item.ItemKind.{ItemKind}
use Rattle.wac_types_base.specs.Record.{Collection}
use Rattle.wac_types_base.specs.Entries.{Name, AreDistinct, names_of, with_values}
use Rattle.wac_types_base.specs.Collection.{Stands, IsAcyclic, Grows}
use Rattle.wac_types_base.specs.Stated.{Stated, stated_of, imports_of as stated_imports}
use Rattle.wac_types_base.proofs.Loops.{map-get, names-with_values}
use Rattle.wac_types_base.proofs.Standing.{world_found}
use Rattle.wac_types_base.proofs.Stating.{imports_stated, stated_kept}
use Rattle.wac_types_base.proofs.Lists.{from_place}
use Rattle.wac_types_written.specs.Forms.{stated_items}
use Rattle.wac_types_parts.specs.Parts.{imports_of}
use Rattle.wac_types_parts.proofs.PartLaws.{imports_there}
use Rattle.wac_composition.specs.Asks.{Ask}
use Rattle.wac_composition.specs.Classes.{spelling}
use Rattle.wac_graph_asks.specs.Outers.{IsSpelledAt, AreOuters}

-- what the imports of a world state is what the world states of them
world_imports : (c : Collection) → IsAcyclic c → (w : WorldId) → Stands c (ItemKind.Component w) → stated_items c (imports_of c w) ≡ stated_imports (stated_of c (ItemKind.Component w))
world_imports c acyclic w stands =
    let v = world_found c w stands in
    ap (with_values (stated_of c)) (imports_there c w v.value v.at v.own) ∙ sym (imports_stated c acyclic w v.value v.at v.own)

module _ (asks : List (Ask ℕ)) (c d : Collection) (acyclic : IsAcyclic c) (g : Grows c d) (world : WorldId) (places : List (Name × ℕ)) (h : AreOuters asks c world places) where
  stands : Stands d (ItemKind.Component world)
  stands = g.stand (ItemKind.Component world) h.stands

  same : stated_items d (imports_of d world) ≡ stated_items c (imports_of c world)
  same = world_imports d g.acyclic world stands ∙ ap stated_imports (stated_kept c d g (ItemKind.Component world) h.stands) ∙ sym (world_imports c acyclic world h.stands)

  same_names : names_of (imports_of d world) ≡ names_of (imports_of c world)
  same_names = sym (names-with_values (stated_of d) (imports_of d world)) ∙ ap names_of same ∙ names-with_values (stated_of c) (imports_of c world)

  still_spelled : (n : Name) (at : ℕ) → IsSpelledAt asks c world n at → IsSpelledAt asks d world n at
  still_spelled n at k =
      let is = ap (λ es. slice_get es at) same ∙ map-get (λ (x : Name × ItemKind). (x.0, stated_of c x.1)) (imports_of c world) at (spelling asks n, k.0) k.1 in
      let x = from_place (λ (x : Name × ItemKind). (x.0, stated_of d x.1)) (imports_of d world) at (spelling asks n, stated_of c k.0) is in
      (x.0.1, x.1 ∙ ap (λ (p : Name × Stated). Some (p.0, x.0.1)) x.2)

  pub outers_stay : AreOuters asks d world places
  outers_stay = record {
    stands = stands;
    imports = same ∙ h.imports;
    distinct = subst AreDistinct (sym same_names) h.distinct;
    met = h.met;
    placed = λ n at v. still_spelled n at (h.placed n at v);
    named = h.named;
  }
