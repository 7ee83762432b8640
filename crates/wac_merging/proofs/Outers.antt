-- The outer imports of what is kept of each label.
use Rattle.std.proofs.Common.{◌≡◌, ℕ, zero, suc, ◌<◌, List, [], ◌∷◌, Option, Some, refl, sym, ap, subst, ◌∙◌, inl, inr, ◌⊎◌, arith}
use Rattle.std.specs.Prelude.{filter_map, slice_get}
use Rattle.std.specs.List.{cons_option}
use Rattle.std.specs.Option.{option_map}
use Rattle.std.proofs.lemmas.Option.{same_Some}
use Rattle.wac_types_base.specs.declared.item.ItemKind.{ItemKind}
use Rattle.wac_types_base.specs.Record.{Collection}
use Rattle.wac_types_base.specs.Entries.{Name, names_of, values_of, with_values}
use Rattle.wac_types_base.specs.Graph.{Among}
use Rattle.wac_types_base.specs.Stated.{Stated, stated_of}
use Rattle.wac_types_base.proofs.Looked.{among-get}
use Rattle.wac_composition.specs.Asks.{Ask}
use Rattle.wac_composition.specs.Classes.{Linked, spelled}
use Rattle.wac_composition.specs.Merging.{identified}
use Rattle.wac_composition.specs.OuterImports.{asked_in, outer_of}
use Rattle.wac_composition.proofs.ClassLaws.{links_turn, links_go_on}
use Rattle.wac_merging.specs.Labelled.{labelled, Labels_are_of_classes}
use Rattle.wac_merging.specs.Outers.{IsOuter, Spelled_is_outer, Outers_are_stated}
use Rattle.wac_merging.proofs.Labels.{outers_are_labelled}

-- ---- labels of first asks

apart : (i j : ℕ) → (i ≡ j) ⊎ ((i < j) ⊎ (j < i))
apart zero zero = inl refl
apart zero (suc j) = inr (inl (omega arith))
apart (suc i) zero = inr (inr (omega arith))
apart (suc i) (suc j) = elim (apart i j) [
  | inl e ↦ inl (ap suc e)
  | inr (inl l) ↦ inr (inl (omega (arith, l)))
  | inr (inr l) ↦ inr (inr (omega (arith, l)))
]

pub labels_are_of_classes : {A : Type 0} → Labels_are_of_classes A
labels_are_of_classes {A} asks labels h = record { as_many = h.as_many; one_label = λ i j a b p q. (same i j a b p q, linked i j a b p q) }
  where
    same : (i j : ℕ) (a b : Ask A) → slice_get asks i ≡ Some a → slice_get asks j ≡ Some b → slice_get labels i ≡ slice_get labels j → Linked asks a b
    same i j a b p q e =
        let f = h.each i a p in
        let g = h.each j b q in
        let one : g.0 ≡ f.0 = same_Some _ _ (sym g.1 ∙ sym e ∙ f.1) in
        let ask : g.2.ask ≡ f.2.ask = same_Some _ _ (sym g.2.there ∙ ap (slice_get asks) one ∙ f.2.there) in
        links_go_on asks a f.2.ask b f.2.linked (subst (λ x. Linked asks x b) ask (links_turn asks b g.2.ask (among-get asks j b q) g.2.linked))

    linked : (i j : ℕ) (a b : Ask A) → slice_get asks i ≡ Some a → slice_get asks j ≡ Some b → Linked asks a b → slice_get labels i ≡ slice_get labels j
    linked i j a b p q l =
        let f = h.each i a p in
        let g = h.each j b q in
        f.1 ∙ ap Some (elim (apart f.0 g.0) [
          | inl e ↦ e
          | inr (inl lt) ↦ absurd (g.2.none_before f.0 f.2.ask lt f.2.there (links_go_on asks b a f.2.ask (links_turn asks a b (among-get asks i a p) l) f.2.linked))
          | inr (inr lt) ↦ absurd (f.2.none_before g.0 g.2.ask lt g.2.there (links_go_on asks a b g.2.ask l g.2.linked))
        ]) ∙ sym g.1

-- ---- outer imports

pub spelled_is_outer : {A : Type 0} → Spelled_is_outer A
spelled_is_outer c d asks k item keeps spells =
    ap (option_map (λ x. (spelled asks, identified (spelled asks) (asked_in asks) x))) keeps.kept ∙ ap (λ x. Some (spelled asks, x)) (sym (spells (asked_in asks) keeps))

module _ {A : Type 0} (d : Collection) (asks : List (Ask A)) (labels : List ℕ) where
  abbrev outer_at : ℕ → Option (Name × Stated)
  outer_at l = outer_of (labelled l asks labels)

  stated_in_turn : (outers : List (ℕ × (Name × ItemKind))) → ((l : ℕ) (e : Name × ItemKind) → Among (l, e) outers → IsOuter d (labelled l asks labels) e) → filter_map outer_at (names_of outers) ≡ with_values (stated_of d) (values_of outers)
  stated_in_turn [] h = refl
  stated_in_turn (o ∷ outers) h =
      ap (λ p. cons_option p (filter_map outer_at (names_of outers))) (h o.0 o.1 (inl refl))
      ∙ ap (λ l. (o.1.0, stated_of d o.1.1) ∷ l) (stated_in_turn outers (λ l e m. h l e (inr m)))

pub outers_are_stated : {A : Type 0} → Outers_are_stated A
outers_are_stated d asks labels outers c names h =
    outers_are_labelled asks labels c ∙ ap (filter_map (outer_at d asks labels)) (sym names) ∙ stated_in_turn d asks labels outers h
