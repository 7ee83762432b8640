-- All that is asked is what the composition of the graph asks.
use Rattle.std.specs.List.{flat_map}
use Rattle.std.specs.Map.{keys_of}
use Rattle.std.proofs.Common.{◌≡◌, ℕ, false, true≢false, List, [], ◌∷◌, ◌++◌, map, Option, Some, None, IfSome, refl, sym, ap, subst, ◌∙◌, inl, inr}
use Rattle.std.proofs.lemmas.List.{append-nil}
use Rattle.wac_types_base.specs.declared.item.ItemKind.{ItemKind}
use Rattle.wac_types_base.specs.declared.item.«Type».{«Type» as TypeKind}
use Rattle.wac_types_base.specs.Record.{Collection}
use Rattle.wac_types_base.specs.Graph.{Among}
use Rattle.wac_types_base.specs.Collection.{Stands, IsAcyclic, Grows}
use Rattle.wac_types_base.specs.Stated.{IsInterface, IsWorld, stated_in, stated_of}
use Rattle.wac_types_base.proofs.Telling.{item_kind}
use Rattle.wac_graph_core.specs.Graph.{Graph}
use Rattle.wac_composition.specs.Composition.{Placed}
use Rattle.wac_composition.specs.Asks.{Ask, used_by_definition, asked_for, named_asks, asks_to_use}
use Rattle.wac_graph_asks.specs.declared.asks.Ask.{Ask as HeldAsk}
use Rattle.wac_graph_asks.specs.declared.asks.Definition.{Definition}
use Rattle.wac_graph_asks.specs.declared.asks.Asked.{Asked}
use Rattle.wac_graph_asks.specs.Graphs.{composition_of}
use Rattle.wac_graph_asks.specs.AsksIn.{asks_in}
use Rattle.wac_graph_asks.specs.Asked.{IsAskedBehind, package_ids, with_ids, placed_in, uses_others, HasCopy, IsHeld, Adds, IsAsked}
use Rattle.wac_graph_asks.specs.AskedUses.{uses_of_asks, uses_of_copy, uses_of_copies, CopiesStand, AreUses}
use Rattle.wac_graph_asks.proofs.Asking.{adds_asks}
use Rattle.wac_graph_asks.proofs.Repeating.{behind_more}
use Rattle.wac_graph_asks.proofs.Using.{other_definition_uses}

-- what a definition asks for what it uses
abbrev uses_of : Placed ℕ → List (Ask ℕ)
uses_of d = asked_for d.by (used_by_definition d.item)

-- ---- copies use what the definitions use

module _ (c d : Collection) (acyclic : IsAcyclic c) where
  no_uses : (t : TypeKind) → uses_others t ≡ false → Stands c (ItemKind.Ty t) → used_by_definition (stated_of c (ItemKind.Ty t)) ≡ []
  no_uses t e stands = other_definition_uses c acyclic (ItemKind.Ty t) stands (not_interface t e) (not_world t e)
    where
      not_interface : (t : TypeKind) → uses_others t ≡ false → item_kind (ItemKind.Ty t) ≡ IsInterface → ⊥
      not_interface (TypeKind.Interface i) e k = true≢false e
      not_interface (TypeKind.Resource i) e k = absurd (cc k)
      not_interface (TypeKind.Func i) e k = absurd (cc k)
      not_interface (TypeKind.Value i) e k = absurd (cc k)
      not_interface (TypeKind.World i) e k = absurd (cc k)
      not_interface (TypeKind.Module i) e k = absurd (cc k)

      not_world : (t : TypeKind) → uses_others t ≡ false → item_kind (ItemKind.Ty t) ≡ IsWorld → ⊥
      not_world (TypeKind.World i) e k = true≢false e
      not_world (TypeKind.Resource i) e k = absurd (cc k)
      not_world (TypeKind.Func i) e k = absurd (cc k)
      not_world (TypeKind.Value i) e k = absurd (cc k)
      not_world (TypeKind.Interface i) e k = absurd (cc k)
      not_world (TypeKind.Module i) e k = absurd (cc k)

  copy_uses : (by : ℕ) (t : TypeKind) (o : Option ItemKind) → HasCopy c d t o → uses_of_copy d by o ≡ asked_for by (used_by_definition (stated_of c (ItemKind.Ty t)))
  copy_uses by t None h = sym (ap (asked_for by) (no_uses t h.0 h.1))
  copy_uses by t (Some k) h = ap (λ o. asked_for by (used_by_definition (stated_in o))) h.1.same

  copies_use : (ds : List Definition) → ((x : Definition) → Among x ds → HasCopy c d x.ty x.copy) → uses_of_copies d ds ≡ flat_map uses_of (map (placed_in c) ds)
  copies_use [] h = refl
  copies_use (x ∷ ds) h =
      ap (λ l. l ++ uses_of_copies d ds) (copy_uses x.node x.ty x.copy (h x (inl refl)))
      ∙ ap (λ l. uses_of (placed_in c x) ++ l) (copies_use ds (λ y m. h y (inr m)))

  pub copies_stand : (ds : List Definition) → ((x : Definition) → Among x ds → HasCopy c d x.ty x.copy) → CopiesStand d ds
  copies_stand ds h x m = go x.copy (h x m)
    where
      go : (o : Option ItemKind) → HasCopy c d x.ty o → IfSome o (Stands d)
      go None h = tt
      go (Some k) h = h.1.stands

-- ---- all together

module _ (g : Graph) where
  pub held_empty : (a : Asked) → IsAcyclic a.types → a.asks.items ≡ [] → a.packages.entries ≡ [] → a.definitions.items ≡ [] → IsHeld g a
  held_empty a acyclic asks packages definitions = record {
    acyclic = acyclic;
    items = λ x m. absurd (subst (λ l. Among x l) asks m);
    worlds = λ id w m. absurd (subst (λ l. Among (id, w) l) packages m);
    copies = λ d m. absurd (subst (λ l. Among d l) definitions m);
  }

  module _ (finite_types : IsAcyclic g.types) (a b d : Asked) (no_asks : a.asks.items ≡ []) (no_packages : a.packages.entries ≡ []) (no_definitions : a.definitions.items ≡ [])
      (adds : Adds g a b (named_asks (composition_of g)) (package_ids g) ((composition_of g).definitions)) (uses : List HeldAsk) (are : AreUses b uses)
      (same : d.types ≡ b.types) (grows : Grows b.types d.types) (behind : d.asks.items ≡ b.asks.items ++ uses) (same_packages : d.packages.entries ≡ b.packages.entries) (same_definitions : d.definitions.items ≡ b.definitions.items) where
    named : asks_in b.types b.asks.items ≡ named_asks (composition_of g)
    named = adds.asked ∙ ap (λ l. asks_in a.types l ++ named_asks (composition_of g)) no_asks

    definitions : map (placed_in g.types) b.definitions.items ≡ (composition_of g).definitions
    definitions = adds.definitions ∙ ap (λ l. map (placed_in g.types) l ++ (composition_of g).definitions) no_definitions

    last : Adds g b d (asks_in d.types uses) [] []
    last = adds_asks g b d adds.held grows uses (λ x m. subst (λ c. Stands c x.item) (sym same) (are.stand x m)) behind same_packages same_definitions

    all_uses : uses_of_asks (asks_in b.types b.asks.items) ++ uses_of_copies b.types b.definitions.items
        ≡ uses_of_asks (named_asks (composition_of g)) ++ flat_map uses_of (composition_of g).definitions
    all_uses =
        ap (λ l. uses_of_asks l ++ uses_of_copies b.types b.definitions.items) named
        ∙ ap (λ l. uses_of_asks (named_asks (composition_of g)) ++ l)
        (copies_use g.types b.types finite_types b.definitions.items adds.held.copies ∙ ap (flat_map uses_of) definitions)

    once : IsAskedBehind (named_asks (composition_of g)) (asks_to_use (composition_of g)) (asks_in d.types uses)
    once =
        subst (λ l. IsAskedBehind l (asks_to_use (composition_of g)) (asks_in d.types uses)) (append-nil (named_asks (composition_of g)))
        (behind_more (named_asks (composition_of g))
        (subst (λ l. IsAskedBehind [] l (asks_in d.types uses)) all_uses
        (subst (λ c. IsAskedBehind [] (uses_of_asks (asks_in b.types b.asks.items) ++ uses_of_copies b.types b.definitions.items) (asks_in c uses)) (sym same) are.once)))

    pub is_asked : IsAsked g d
    is_asked = record {
      held = last.held;
      uses = asks_in d.types uses;
      asks = last.asked ∙ ap (λ l. l ++ asks_in d.types uses) named;
      once = once;
      packages = last.packages ∙ adds.packages ∙ ap (λ l. with_ids (keys_of l) (package_ids g)) no_packages;
      definitions = last.definitions ∙ append-nil (map (placed_in g.types) b.definitions.items) ∙ definitions;
    }
