-- What nodes ask and define, one after another by their ids.
use Rattle.std.specs.Prelude.{filter_map, option_map, option_to_list}
use Rattle.std.specs.List.{flat_map, cons_option}
use Rattle.std.specs.FinMap as finite
use Rattle.std.specs.FinMap.{FinMap, find}
use Rattle.std.specs.FinMap.Entries.{is_sorted, below_all}
use Rattle.std.specs.declared.cmp.Ordering.{Ordering}
use Rattle.std.specs.Ordering.{nat_cmp, eq_by_cmp, is_lt, is_eq}
use Rattle.std.specs.Cmp.{unsigned_tied}
use Rattle.std.proofs.Common.{◌≡◌, ℕ, Bool, true, false, true≢false, cond, T, List, [], ◌∷◌, ◌++◌, map, Option, Some, None, refl, sym, ap, ◌∙◌, inl, inr}
use Rattle.wac_types_base.specs.Graph.{Among}
use Rattle.wac_types_base.proofs.Replacing.{same_number}
use Rattle.wac_graph_core.proofs.NodeMap.{tied}
use Rattle.wac_graph_core.specs.Nodes.{NodeData}
use Rattle.wac_graph_core.specs.Graph.{Graph, package_if}
use Rattle.wac_composition.specs.Composition.{Made}
use Rattle.wac_composition.specs.Asks.{explicit_ask, filled_asks}
use Rattle.wac_graph_asks.specs.Graphs.{nodes_of, import_by, made_with, definition_by, composition_of}
use Rattle.wac_graph_asks.specs.Reads.{package_id_of}
use Rattle.wac_graph_asks.specs.Asked.{package_ids}
use Rattle.wac_graph_asks.specs.AskedNodes.{filled_by, imported_at, made_at, defined_at, import_asks, instance_asks, instance_ids, definitions_at}
use Rattle.wac_graph_core.proofs.Listed.{both_parts}

-- ---- an entry is found under its key

not_both : (r : Ordering) → T (is_lt r) → is_eq r ≡ true → ⊥
not_both Ordering.Less p e = absurd (true≢false (sym e))
not_both Ordering.Equal p e = p
not_both Ordering.Greater p e = p

module _ {X : Type 0} where
  other_key : (k : ℕ) (es : List (ℕ × X)) → T (below_all nat_cmp k es) → (e : ℕ × X) → Among e es → eq_by_cmp nat_cmp e.0 k ≡ false
  other_key k [] b e m = absurd m
  other_key k (x ∷ es) b e (inl same) = go (eq_by_cmp nat_cmp e.0 k) refl
    where
      go : (t : Bool) → eq_by_cmp nat_cmp e.0 k ≡ t → t ≡ false
      go false q = refl
      go true q =
          let is : k ≡ x.0 = sym (same_number e.0 k (sym (unsigned_tied e.0 k) ∙ q)) ∙ ap (λ p. p.0) same in
          absurd (not_both (nat_cmp k x.0) (both_parts _ _ b).0 (ap (λ n. eq_by_cmp nat_cmp k n) (sym is) ∙ tied k))
  other_key k (x ∷ es) b e (inr m) = other_key k es (both_parts _ _ b).1 e m

  entry_found : (es : List (ℕ × X)) → T (is_sorted nat_cmp es) → (e : ℕ × X) → Among e es → find nat_cmp e.0 es ≡ Some e.1
  entry_found [] s e m = absurd m
  entry_found (x ∷ es) s e (inl same) =
      ap (λ b. cond b (Some x.1) (find nat_cmp e.0 es)) (ap (λ p. eq_by_cmp nat_cmp p.0 x.0) same ∙ tied x.0) ∙ ap (λ p. Some p.1) (sym same)
  entry_found (x ∷ es) s e (inr m) =
      ap (λ b. cond b (Some x.1) (find nat_cmp e.0 es)) (other_key x.0 es (both_parts _ _ s).0 e m) ∙ entry_found es (both_parts _ _ s).1 e m

  pub entry_there : (m : FinMap nat_cmp X) (e : ℕ × X) → Among e (finite.entries m) → finite.get m e.0 ≡ Some e.1
  entry_there m e a = finite.get-entries m e.0 ∙ entry_found (finite.entries m) (finite.entries_sorted m) e a

  -- key by key, and entry by entry
  by_keys : {Y : Type 0} (f : ℕ → Option X → List Y) (m : FinMap nat_cmp X) → flat_map (λ k. f k (finite.get m k)) (finite.keys m) ≡ flat_map (λ e. f e.0 (Some e.1)) (finite.entries m)
  by_keys f m = go (finite.entries m) (entry_there m)
    where
      go : (es : List (ℕ × X)) → ((e : ℕ × X) → Among e es → finite.get m e.0 ≡ Some e.1) → flat_map (λ k. f k (finite.get m k)) (map (λ e. e.0) es) ≡ flat_map (λ e. f e.0 (Some e.1)) es
      go [] h = refl
      go (e ∷ es) h =
          ap (λ o. f e.0 o ++ flat_map (λ k. f k (finite.get m k)) (map (λ e. e.0) es)) (h e (inl refl))
          ∙ ap (λ l. f e.0 (Some e.1) ++ l) (go es (λ d a. h d (inr a)))

-- ---- lists of what there is

module _ {X Y : Type 0} (p : X → Option Y) where
  mapped_options : {Z : Type 0} (h : Y → Z) (xs : List X) → flat_map (λ x. option_to_list (option_map h (p x))) xs ≡ map h (filter_map p xs)
  mapped_options h [] = refl
  mapped_options {Z} h (x ∷ xs) = go (p x) (mapped_options h xs)
    where
      go : (o : Option Y) → flat_map (λ x. option_to_list (option_map h (p x))) xs ≡ map h (filter_map p xs)
          → option_to_list (option_map h o) ++ flat_map (λ x. option_to_list (option_map h (p x))) xs ≡ map h (cons_option o (filter_map p xs))
      go None ih = ih
      go (Some y) ih = ap (λ l. h y ∷ l) ih

  listed_options : (xs : List X) → flat_map (λ x. option_to_list (p x)) xs ≡ filter_map p xs
  listed_options [] = refl
  listed_options (x ∷ xs) = go (p x) (listed_options xs)
    where
      go : (o : Option Y) → flat_map (λ x. option_to_list (p x)) xs ≡ filter_map p xs → option_to_list o ++ flat_map (λ x. option_to_list (p x)) xs ≡ cons_option o (filter_map p xs)
      go None ih = ih
      go (Some y) ih = ap (λ l. y ∷ l) ih

module _ (g : Graph) where
  -- ---- what all nodes ask and define is what the composition does

  pub imports_are : flat_map (import_asks g) (finite.keys g.nodes) ≡ map explicit_ask (composition_of g).imports
  imports_are =
      by_keys (λ k o. option_to_list (option_map explicit_ask (imported_at g k o))) g.nodes
      ∙ mapped_options (λ e. import_by g e.0 e.1 e.1.role) explicit_ask (nodes_of g)

  filled_are : (es : List (ℕ × NodeData)) → flat_map (λ e. filled_by (made_with g e.0 (package_if g e.1.of))) es ≡ flat_map filled_asks (filter_map (λ e. made_with g e.0 (package_if g e.1.of)) es)
  filled_are [] = refl
  filled_are (e ∷ es) = go (made_with g e.0 (package_if g e.1.of)) (filled_are es)
    where
      go : (o : Option (Made ℕ ℕ)) → flat_map (λ e. filled_by (made_with g e.0 (package_if g e.1.of))) es ≡ flat_map filled_asks (filter_map (λ e. made_with g e.0 (package_if g e.1.of)) es)
          → filled_by o ++ flat_map (λ e. filled_by (made_with g e.0 (package_if g e.1.of))) es ≡ flat_map filled_asks (cons_option o (filter_map (λ e. made_with g e.0 (package_if g e.1.of)) es))
      go None ih = ih
      go (Some m) ih = ap (λ l. filled_asks m ++ l) ih

  pub instances_are : flat_map (instance_asks g) (finite.keys g.nodes) ≡ flat_map filled_asks (composition_of g).made
  instances_are = by_keys (λ k o. filled_by (made_at g k o)) g.nodes ∙ filled_are (nodes_of g)

  pub ids_are : flat_map (instance_ids g) (finite.keys g.nodes) ≡ package_ids g
  ids_are = by_keys (λ k o. option_to_list (package_id_of o)) g.nodes ∙ listed_options (λ e. e.1.of) (nodes_of g)

  pub definitions_are : flat_map (definitions_at g) (finite.keys g.nodes) ≡ (composition_of g).definitions
  definitions_are = by_keys (λ k o. option_to_list (defined_at g k o)) g.nodes ∙ listed_options (λ e. definition_by g e.0 e.1 e.1.role) (nodes_of g)

-- nothing from each is nothing
pub flat_nothing : {X Y : Type 0} (f : X → List Y) → ((x : X) → f x ≡ []) → (xs : List X) → flat_map f xs ≡ []
flat_nothing f h [] = refl
flat_nothing f h (x ∷ xs) = ap (λ l. l ++ flat_map f xs) (h x) ∙ flat_nothing f h xs
