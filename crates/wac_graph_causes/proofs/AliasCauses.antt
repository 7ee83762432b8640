-- Aliases of value items, in a graph's composition.
use Rattle.std.specs.Prelude.{filter_map, option_map}
use Rattle.std.specs.List.{cons_option}
use Rattle.std.specs.FinMap as finite
use Rattle.std.proofs.Common.{◌≡◌, ℕ, Bool, true, false, List, [], ◌∷◌, map, Option, Some, None, refl, sym, ap, ◌∙◌, inl, inr}
use Rattle.wac_types_base.specs.declared.item.«Type».{«Type» as TypeKind}
use Rattle.wac_types_base.specs.declared.item.ItemKind.{ItemKind}
use Rattle.wac_types_base.specs.Entries.{Name}
use Rattle.wac_types_base.specs.Graph.{Among}
use Rattle.wac_types_base.specs.Collection.{IsAcyclic}
use Rattle.wac_types_base.specs.Stated.{Stated, kind_of}
use Rattle.wac_types_base.proofs.Telling.{item_kind, kind_stated}
use Rattle.wac_graph_core.specs.Nodes.{NodeData}
use Rattle.wac_graph_core.specs.Edges.{HasAlias}
use Rattle.wac_graph_core.specs.Walking.{first_source}
use Rattle.wac_graph_core.specs.Graph.{Graph, IsGraph, node_at}
use Rattle.wac_graph_core.proofs.Found.{source_found, no_source}
use Rattle.wac_composition.specs.Writable.{is_value, alias_unwritable}
use Rattle.std.specs.Option.{option_or}
use Rattle.wac_graph_asks.specs.Graphs.{nodes_of, item_of, alias_with}
use Rattle.wac_graph_asks.proofs.ByNode.{entry_there}
use Rattle.wac_graph_causes.specs.declared.error.Unwritten.{Unwritten}
use Rattle.wac_graph_causes.specs.Unwritable.{TellsName, TellsUnwritable, first_unwritable, is_value_item, is_value_in, is_value_at, alias_cause_by, alias_cause_at, first_alias_cause, alias_cause}
use Rattle.wac_graph_causes.proofs.FirstCauses.{named_if, tells_named}

-- ---- one node

module _ (g : Graph) (k : ℕ) where
  pub no_value : is_value_at g k ≡ false → alias_cause_at g k ≡ None
  no_value other = go (first_source g.edges k)
    where
      go : (o : Option (ℕ × Name)) → alias_cause_by (is_value_at g k) o ≡ None
      go None = refl
      go (Some x) = ap (λ b. alias_cause_by b (Some x)) other

  pub no_alias : ((i : ℕ) (n : Name) → HasAlias g.edges i n k → ⊥) → alias_cause_at g k ≡ None
  no_alias none = go (first_source g.edges k) refl
    where
      go : (o : Option (ℕ × Name)) → first_source g.edges k ≡ o → alias_cause_by (is_value_at g k) o ≡ None
      go None q = refl
      go (Some x) q = absurd (none x.0 x.1 (source_found g.edges k x.0 x.1 q))

  pub alias_told : IsGraph g → (i : ℕ) (n : Name) (e : Unwritten) → HasAlias g.edges i n k → is_value_at g k ≡ true → TellsName n e → TellsUnwritable (alias_cause_at g k) e
  alias_told sound i n e has value t = tells_named n (alias_cause_at g k) e (caused (first_source g.edges k) refl) t
    where
      caused : (o : Option (ℕ × Name)) → first_source g.edges k ≡ o → alias_cause_by (is_value_at g k) o ≡ named_if true n
      caused None q = absurd (no_source g.edges k i n q has)
      caused (Some x) q = ap (λ b. alias_cause_by b (Some x)) value ∙ ap (named_if true) (sound.keyed.one_source x.0 i k x.1 n (source_found g.edges k x.0 x.1 q) has).1

-- ---- all nodes

value_kind : (k : ItemKind) → is_value_item k ≡ is_value (item_kind k)
value_kind (ItemKind.Ty (TypeKind.Resource r)) = refl
value_kind (ItemKind.Ty (TypeKind.Func f)) = refl
value_kind (ItemKind.Ty (TypeKind.Value v)) = refl
value_kind (ItemKind.Ty (TypeKind.Interface i)) = refl
value_kind (ItemKind.Ty (TypeKind.World w)) = refl
value_kind (ItemKind.Ty (TypeKind.Module m)) = refl
value_kind (ItemKind.Func f) = refl
value_kind (ItemKind.Instance i) = refl
value_kind (ItemKind.Component w) = refl
value_kind (ItemKind.Module m) = refl
value_kind (ItemKind.Value v) = refl

module _ (g : Graph) (sound : IsGraph g) (acyclic : IsAcyclic g.types) where
  node_value : (k : ℕ) (x : NodeData) → node_at g k ≡ Some x → is_value_at g k ≡ is_value (kind_of (item_of g x))
  node_value k x at =
      ap (λ (o : Option NodeData). is_value_in (option_map (λ (y : NodeData). y.item_kind) o)) at ∙ value_kind x.item_kind
      ∙ ap is_value (sym (kind_stated g.types acyclic x.item_kind (sound.nodes k x at).item))

  one_node : (x : NodeData) (s : Option (ℕ × Name)) (ks : List ℕ) (more : List (Name × Stated)) (b : Bool) → b ≡ is_value (kind_of (item_of g x)) → first_alias_cause g ks ≡ first_unwritable alias_unwritable more
      → option_or (alias_cause_by b s) (first_alias_cause g ks) ≡ first_unwritable alias_unwritable (cons_option (alias_with g x s) more)
  one_node x None ks more b q ih = ih
  one_node x (Some e) ks more b q ih =
      ap (λ v. option_or (named_if v e.1) (first_alias_cause g ks)) q ∙ ap (option_or (named_if (is_value (kind_of (item_of g x))) e.1)) ih

  all_nodes : (es : List (ℕ × NodeData)) → ((e : ℕ × NodeData) → Among e es → node_at g e.0 ≡ Some e.1)
      → first_alias_cause g (map (λ e. e.0) es) ≡ first_unwritable alias_unwritable (filter_map (λ e. alias_with g e.1 (first_source g.edges e.0)) es)
  all_nodes [] h = refl
  all_nodes (e ∷ es) h =
      one_node e.1 (first_source g.edges e.0) (map (λ e. e.0) es) (filter_map (λ e. alias_with g e.1 (first_source g.edges e.0)) es) (is_value_at g e.0) (node_value e.0 e.1 (h e (inl refl)))
      (all_nodes es (λ d m. h d (inr m)))

  pub aliases_are : first_alias_cause g (finite.keys g.nodes) ≡ alias_cause g
  aliases_are = all_nodes (nodes_of g) (entry_there g.nodes)
