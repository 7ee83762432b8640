-- A document of which nothing is said yet.
use Rattle.std.proofs.Common.{◌≡◌, ℕ, List, [], Option, Some, None, IsSome, refl, sym, ap, subst, ◌∙◌}
use Rattle.std.specs.FinMap as map
use Rattle.std.specs.Ordering.{nat_cmp}
use Rattle.wac_types_base.specs.Record.{Collection}
use Rattle.wac_types_base.specs.Entries.{Name, names_of}
use Rattle.wac_types_base.specs.Stated.{Stated}
use Rattle.wac_types_names.specs.Keys.{Key}
use Rattle.wac_graph_core.specs.Nodes.{NodeData}
use Rattle.wac_graph_core.specs.Graph.{Graph, instantiated, node_at, package_made, with_types}
use Rattle.wac_parser_tree.specs.Trees as t
use Rattle.wac_parser_tree.specs.Trees.{Span}
use Rattle.wac_parser_declare.specs.Packages.{Content}
use Rattle.wac_parser_declare.specs.Holding.{NamesStand, scope_of}
use Rattle.wac_parser_declare.specs.Scope.{package_under}
use Rattle.wac_parser_declare.specs.declared.scope.Binding.{Binding}
use Rattle.wac_parser_resolve.specs.declared.state.State.{State as Held}
use Rattle.wac_parser_resolve.specs.Ascribing.{start}
use Rattle.wac_parser_resolve.specs.Holding.{Says}
use Rattle.wac_parser_resolve.specs.Knowing.{handed_keys, handed_under, known_in}
use Rattle.wac_parser_resolve.specs.Said.{AreAsked, AreDeclared, AreExported, IsSaid}

module _ (c : Collection) where
  abbrev bare : Graph
  bare = with_types c

  no_node : (k : ℕ) (x : NodeData) → node_at bare k ≡ Some x → ⊥
  no_node k x e = absurd (cc (e, map.get-empty nat_cmp k))

  no_instance : (k : ℕ) → IsSome (instantiated bare k) → ⊥
  no_instance k s = let none : IsSome (package_made bare None) = subst (λ (o : Option NodeData). IsSome (package_made bare o)) (map.get-empty nat_cmp k) s in absurd (cc none)

  pub nothing_said : (names : List (Name × ℕ)) (d : t.Document) (ps : List (Key × Content)) → names ≡ [] → Says bare [] names (start d ps)
  nothing_said names d ps none = subst (λ (ns : List (Name × ℕ)). Says bare [] ns (start d ps)) (sym none) (record {
    rising = tt;
    made = tt;
    all = λ k x. absurd (no_instance k x);
    aliases = record { nodes = []; rising = tt; only = λ k m. absurd m; are = tt; all = λ k x at r. absurd (no_node k x at); exports = λ i k n x. absurd x };
    root = tt;
  })

  pub nothing_asked : (ids : List (ℕ × Span)) → AreAsked bare [] ids []
  nothing_asked ids = record { rising = tt; are = tt; all = λ k n i. absurd (no_node k i.node i.there) }

  pub nothing_declared : AreDeclared bare []
  nothing_declared = record { nodes = []; rising = tt; are = tt; all = λ k x at r. absurd (no_node k x at) }

  pub nothing_exported : AreExported bare [] [] []
  nothing_exported = record { are = tt; noted = tt }

-- the state of the code that is new
pub starts_bare : (b : Held) (c : Collection) (d : t.Document) (ps : List (Key × Content)) → b.board.types.graph ≡ with_types c → b.board.instances.noted.items ≡ [] → b.names ≡ [] → b.nodes ≡ []
    → b.imports.noted.items ≡ [] → b.exports.noted.items ≡ [] → ((k : Key) → handed_under b.board.types k ≡ package_under ps k) → handed_keys b.board.types ≡ names_of ps → IsSaid d.directive.«package» b (start d ps)
starts_bare b c d ps graph instances names nodes imports exports handed keys = record {
  board = record {
    says = subst (λ (g : Graph). Says g b.board.instances.noted.items b.nodes (start d ps)) (sym graph)
        (subst (λ (xs : List (ℕ × Span)). Says (with_types c) xs b.nodes (start d ps)) (sym instances) (nothing_said c b.nodes d ps nodes));
    known = λ k. ap (λ (g : Graph). known_in (record { graph = g; packages = b.board.types.packages }) k) graph ∙ handed k;
    handed = keys;
    own = refl;
  };
  own = refl;
  stand = subst (λ (ns : List (Name × Binding)). NamesStand b.board.types.graph.types ns) (sym names) tt;
  scope = ap (scope_of b.board.types.graph.types) names;
  imports = subst (λ (g : Graph). AreAsked g b.imports.noted.items b.ids.noted.items []) (sym graph)
      (subst (λ (xs : List (ℕ × Span)). AreAsked (with_types c) xs b.ids.noted.items []) (sym imports) (nothing_asked c b.ids.noted.items));
  definitions = subst (λ (g : Graph). AreDeclared g []) (sym graph) (nothing_declared c);
  exports = subst (λ (g : Graph). AreExported g (names_of b.board.instances.noted.items) b.exports.noted.items []) (sym graph)
      (subst (λ (xs : List (ℕ × Span)). AreExported (with_types c) (names_of xs) b.exports.noted.items []) (sym instances)
      (subst (λ (xs : List (ℕ × Span)). AreExported (with_types c) [] xs []) (sym exports) (nothing_exported c)));
}
