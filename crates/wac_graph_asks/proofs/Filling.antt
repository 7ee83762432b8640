-- What an instance leaves is what its composition says.
use Rattle.std.proofs.Common.{◌≡◌, ℕ, ◌+◌, Bool, true, false, true≢false, cond, not, is_some, List, [], ◌∷◌, ◌++◌, append_assoc, map, filter, take, slice_get, Option, Some, None, refl, sym, ap, subst, ◌∙◌, inl, inr}
use Rattle.std.proofs.lemmas.List.{map-append, append-nil}
use Rattle.std.proofs.lemmas.List.Elements.{filter-append}
use Rattle.wac_types_base.specs.declared.ids.WorldId.{WorldId}
use Rattle.wac_types_base.specs.declared.item.ItemKind.{ItemKind}
use Rattle.wac_types_base.specs.Record.{Collection}
use Rattle.wac_types_base.specs.Entries.{Name, value_at, with_values}
use Rattle.wac_types_base.specs.Graph.{Among}
use Rattle.wac_types_base.specs.Collection.{Stands, IsAcyclic}
use Rattle.wac_types_base.specs.Copying.{IsCopy}
use Rattle.wac_types_base.specs.Stated.{Stated, stated_in, stated_of, imports_of}
use Rattle.wac_types_base.proofs.Standing.{world_found, is_some-option_map}
use Rattle.wac_types_base.proofs.Stating.{imports_stated}
use Rattle.wac_types_base.proofs.Looked.{take-one_more}
use Rattle.wac_types_fit.proofs.Items.{world_imports_inside}
use Rattle.wac_types_names.specs.Packaged.{Packaged}
use Rattle.wac_graph_core.specs.Graph.{Graph, IsGraph}
use Rattle.wac_types_parts.specs.Parts.{imports_of as imports_at}
use Rattle.wac_types_parts.proofs.PartLaws.{imports_there}
use Rattle.wac_composition.specs.Composition.{Origin}
use Rattle.wac_composition.specs.Asks.{ToFill, Ask, filled_asks}
use Rattle.wac_graph_asks.specs.declared.asks.Asking.{Asking as HeldAsking}
use Rattle.wac_graph_asks.specs.declared.asks.Ask.{Ask as HeldAsk}
use Rattle.wac_graph_asks.specs.Graphs.{arguments_to, origin_of}
use Rattle.wac_graph_asks.specs.Reads.{AreArguments}
use Rattle.wac_graph_asks.specs.AsksIn.{asks_in}
use Rattle.wac_graph_asks.specs.AskedNodes.{unbound_asks}
use Rattle.wac_graph_asks.proofs.Origins.{argument_is, made_of}

abbrev unbound_with : ℕ → List (Name × ℕ) → Bool → Name × ItemKind → List (Name × ItemKind) → List HeldAsk
unbound_with k given b x xs = map (λ e. record { asking = HeldAsking.ToFill; by = k; name = e.0; item = e.1 })
    (cond (not b) (x ∷ filter (λ e. not (is_some (value_at given e.0))) xs) (filter (λ e. not (is_some (value_at given e.0))) xs))

-- what is asked of imports stands where the imports do
pub unbound_stands : (c : Collection) (k : ℕ) (given : List (Name × ℕ)) (xs : List (Name × ItemKind)) → ((n : Name) (j : ItemKind) → Among (n, j) xs → Stands c j) → (a : HeldAsk) → Among a (unbound_asks k given xs) → Stands c a.item
unbound_stands c k given [] h a m = absurd m
unbound_stands c k given (x ∷ xs) h a m = go (is_some (value_at given x.0)) m (unbound_stands c k given xs (λ n j i. h n j (inr i)) a)
  where
    go : (b : Bool) → Among a (unbound_with k given b x xs) → (Among a (unbound_asks k given xs) → Stands c a.item) → Stands c a.item
    go true n later = later n
    go false (inl s) later = subst (Stands c) (ap (λ (b : HeldAsk). b.item) (sym s)) (h x.0 x.1 (inl refl))
    go false (inr n) later = later n

-- ---- import by import

module _ (k : ℕ) (given : List (Name × ℕ)) where
  unbound_append : (xs ys : List (Name × ItemKind)) → unbound_asks k given (xs ++ ys) ≡ unbound_asks k given xs ++ unbound_asks k given ys
  unbound_append xs ys =
      ap (map (λ e. record { asking = HeldAsking.ToFill; by = k; name = e.0; item = e.1 })) (filter-append (λ (e : Name × ItemKind). not (is_some (value_at given e.0))) xs ys)
      ∙ map-append (λ e. record { asking = HeldAsking.ToFill; by = k; name = e.0; item = e.1 }) (filter (λ e. not (is_some (value_at given e.0))) xs) (filter (λ e. not (is_some (value_at given e.0))) ys)

  unbound_next : (xs : List (Name × ItemKind)) (i : ℕ) (x : Name × ItemKind) → slice_get xs i ≡ Some x → unbound_asks k given (take (i + 1) xs) ≡ unbound_asks k given (take i xs) ++ unbound_asks k given (x ∷ [])
  unbound_next xs i x at = ap (unbound_asks k given) (take-one_more xs i x at) ∙ unbound_append (take i xs) (x ∷ [])

  module _ (n : Name) (j : ItemKind) where
    abbrev its_ask : HeldAsk
    its_ask = record { asking = HeldAsking.ToFill; by = k; name = n; item = j }

    not_given : is_some (value_at given n) ≡ false → unbound_asks k given ((n, j) ∷ []) ≡ its_ask ∷ []
    not_given h = go (value_at given n) h
      where
        go : (o : Option ℕ) → is_some o ≡ false → unbound_with k given (is_some o) (n, j) [] ≡ its_ask ∷ []
        go None e = refl
        go (Some a) e = absurd (true≢false e)

    is_given : is_some (value_at given n) ≡ true → unbound_asks k given ((n, j) ∷ []) ≡ []
    is_given h = go (value_at given n) h
      where
        go : (o : Option ℕ) → is_some o ≡ true → unbound_with k given (is_some o) (n, j) [] ≡ []
        go None e = absurd (true≢false (sym e))
        go (Some a) e = refl

    module _ (old now new : List HeldAsk) (xs : List (Name × ItemKind)) (i : ℕ) (so_far : now ≡ old ++ unbound_asks k given (take i xs)) (at : slice_get xs i ≡ Some (n, j)) where
      pub unbound_pushed : is_some (value_at given n) ≡ false → new ≡ now ++ its_ask ∷ [] → new ≡ old ++ unbound_asks k given (take (i + 1) xs)
      unbound_pushed h is =
          is ∙ ap (λ l. l ++ its_ask ∷ []) so_far ∙ append_assoc old (unbound_asks k given (take i xs)) (its_ask ∷ [])
          ∙ ap (λ l. old ++ l) (sym (unbound_next xs i (n, j) at ∙ ap (λ l. unbound_asks k given (take i xs) ++ l) (not_given h)))

      pub unbound_passed : is_some (value_at given n) ≡ true → new ≡ now → new ≡ old ++ unbound_asks k given (take (i + 1) xs)
      unbound_passed h is =
          is ∙ so_far ∙ ap (λ l. old ++ l) (sym (unbound_next xs i (n, j) at ∙ ap (λ l. unbound_asks k given (take i xs) ++ l) (is_given h) ∙ append-nil (unbound_asks k given (take i xs))))

module _ (g : Graph) (sound : IsGraph g) (finite_types : IsAcyclic g.types) (k : ℕ) (given : List (Name × ℕ)) (are : AreArguments g k given) where
  abbrev arguments : List (Name × Origin ℕ)
  arguments = map (λ a. (a.0, origin_of g a.1)) (arguments_to g.edges k)

  abbrev to_fill : Name × Stated → Ask ℕ
  to_fill e = record { asking = ToFill; by = k; name = e.0; item = e.1 }

  tested : (n : Name) → is_some (value_at arguments n) ≡ is_some (value_at given n)
  tested n = ap is_some (argument_is g sound finite_types k n) ∙ is_some-option_map (origin_of g) _ ∙ ap is_some (sym (are n))

  filled : (c : Collection) (xs : List (Name × ItemKind)) → map to_fill (filter (λ e. not (is_some (value_at arguments e.0))) (with_values (stated_of c) xs)) ≡ asks_in c (unbound_asks k given xs)
  filled c [] = refl
  filled c (x ∷ xs) = go (is_some (value_at arguments x.0)) (is_some (value_at given x.0)) (tested x.0) (filled c xs)
    where
      go : (a b : Bool) → a ≡ b → map to_fill (filter (λ e. not (is_some (value_at arguments e.0))) (with_values (stated_of c) xs)) ≡ asks_in c (unbound_asks k given xs)
          → map to_fill (cond (not a) ((x.0, stated_of c x.1) ∷ filter (λ e. not (is_some (value_at arguments e.0))) (with_values (stated_of c) xs)) (filter (λ e. not (is_some (value_at arguments e.0))) (with_values (stated_of c) xs)))
          ≡ asks_in c (unbound_with k given b x xs)
      go true true q ih = ih
      go false false q ih = ap (λ l. to_fill (x.0, stated_of c x.1) ∷ l) ih
      go true false q ih = absurd (true≢false q)
      go false true q ih = absurd (true≢false (sym q))

  module _ (c : Collection) (acyclic : IsAcyclic c) (p : Packaged) (w : WorldId) (copy : IsCopy g.types c (ItemKind.Component p.ty) (ItemKind.Component w)) where
    pub instance_filled : filled_asks (made_of g sound finite_types k p) ≡ asks_in c (unbound_asks k given (imports_at c w))
    instance_filled =
        let v = world_found c w copy.stands in
        let is : imports_of (stated_of g.types (ItemKind.Component p.ty)) ≡ with_values (stated_of c) v.value.imports = ap (λ o. imports_of (stated_in o)) (sym copy.same) ∙ imports_stated c acyclic w v.value v.at v.own in
        ap (λ l. map to_fill (filter (λ e. not (is_some (value_at arguments e.0))) l)) is
        ∙ filled c v.value.imports ∙ ap (λ l. asks_in c (unbound_asks k given l)) (sym (imports_there c w v.value v.at v.own))

    pub filled_stands : (a : HeldAsk) → Among a (unbound_asks k given (imports_at c w)) → Stands c a.item
    filled_stands =
        let v = world_found c w copy.stands in
        unbound_stands c k given (imports_at c w)
        (λ n j m. (world_imports_inside c acyclic w v.value copy.stands v.at v.own n j (subst (λ l. Among (n, j) l) (imports_there c w v.value v.at v.own) m)).0)
