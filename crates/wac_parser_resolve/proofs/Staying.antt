-- What was said stays said where no instance, alias or argument is new.
use Rattle.std.proofs.Common.{◌≡◌, ℕ, List, Option, Some, None, IsSome, refl, sym, ap, subst, ◌∙◌}
use Rattle.std.specs.FinMap as map
use Rattle.wac_types_base.specs.declared.item.ItemKind.{ItemKind}
use Rattle.wac_types_base.specs.Entries.{Name, names_of}
use Rattle.wac_types_base.specs.Graph.{Among}
use Rattle.wac_graph_core.specs.declared.ids.PackageId.{PackageId}
use Rattle.wac_graph_core.specs.Nodes.{NodeData}
use Rattle.wac_graph_core.specs.Edges.{HasArgument, alias_edge, argument_edge}
use Rattle.wac_graph_core.specs.Graph.{Graph, IsGraph, node_at, package_if, package_made}
use Rattle.wac_parser_tree.specs.Trees.{Span}
use Rattle.wac_parser_resolve.specs.declared.arguments.Given.{Given}
use Rattle.wac_parser_resolve.specs.Ascribing.{Denoted, Made, State}
use Rattle.wac_parser_resolve.specs.Denoting as stated
use Rattle.wac_parser_resolve.specs.Holding.{AreGiven, ArePassed, Denotes, IsGiven, IsMade, Says}
use Rattle.wac_parser_resolve.specs.Keeping.{Keeps}
use Rattle.wac_parser_resolve.specs.Later.{AddsNone, IsMore, Later}
use Rattle.wac_parser_resolve.proofs.Growing.{as_it_was}
use Rattle.wac_parser_resolve.proofs.Nodes.{denotes_stays, exported_stays, holds_stays, made_stays, names_stay}
use Rattle.wac_parser_resolve.proofs.Turns.{turn_map}

-- ---- an instance keeps what is passed to it

module _ (g h : Graph) (l : Later g h) (ms ns : List ℕ) (more : IsMore ms ns) where
  pub passed_stays : (i : ℕ) (as_ : List (Name × Denoted)) → ((a : ℕ) (n : Name) → HasArgument h.edges i n a → HasArgument g.edges i n a) → ArePassed g ms i as_ → ArePassed h ns i as_
  passed_stays i as_ back p = record {
    passed = λ n d v. let q = p.passed n d v in (q.0, (as_it_was g h l.stays).edges (argument_edge q.0 i n) q.1, denotes_stays g h l ms ns more d q.0 q.2);
    only = λ n b x. p.only n b (back b n x);
  }

  pub made_on : (m : Made) (e : ℕ × Span) → ((a : ℕ) (n : Name) → HasArgument h.edges e.0 n a → HasArgument g.edges e.0 n a) → IsMade g ms m e → IsMade h ns m e
  made_on m e back a = record {
    of = a.of;
    is = made_stays g h l e.0 a.of a.is;
    key = a.key;
    world = holds_stays g h l m.world (ItemKind.Component a.of.ty) a.world;
    arguments = passed_stays e.0 m.arguments back a.arguments;
    span = a.span;
  }

-- ---- graphs to which no instance, alias or argument comes

module _ (g h : Graph) (l : Later g h) (none : AddsNone g h) where
  pub says_stay : (noted : List (ℕ × Span)) (names : List (Name × ℕ)) (s : State) → Says g noted names s → Says h noted names s
  says_stay noted names s says =
      let ms = names_of noted in
      record {
        rising = says.rising;
        made = turn_map (IsMade g ms) (IsMade h ms) (λ m e a. made_on g h l ms ms (λ i k x. x) m e (λ b n x. none.arguments e.0 b n x) a) s.made noted says.made;
        all = λ k x. says.all k (none.instances k x);
        aliases = record {
          nodes = says.aliases.nodes;
          rising = says.aliases.rising;
          only = λ k m. let a = says.aliases.only k m in (a.0, a.1, (as_it_was g h l.stays).edges (alias_edge a.0 k a.1) a.2);
          are = turn_map (Denotes g ms) (Denotes h ms) (denotes_stays g h l ms ms (λ i k x. x)) s.aliases says.aliases.nodes says.aliases.are;
          all = λ k x at r. let y = none.aliased k x at r in says.aliases.all k y.0 y.1 y.2;
          exports = λ i k n x. exported_stays g h l i k n (says.aliases.exports i k n (none.aliases i k n x));
        };
        root = names_stay g h l ms ms (λ i k x. x) s.root names says.root;
      }

-- ---- arguments that are given

module _ (g h : Graph) (l : Later g h) (ms ns : List ℕ) (more : IsMore ms ns) where
  pub given_stays : (a : stated.Given) (one : Given) → IsGiven g ms a one → IsGiven h ns a one
  given_stays a one is = record { name = is.name; denotes = denotes_stays g h l ms ns more a.denoted one.node is.denotes; span = is.span }

  pub given_stay : (as_ : List stated.Given) (xs : List Given) → AreGiven g ms as_ xs → AreGiven h ns as_ xs
  given_stay as_ xs all = record { are = turn_map (IsGiven g ms) (IsGiven h ns) given_stays as_ xs all.are; apart = all.apart }

-- ---- packages that come in

module _ (g h : Graph) (is : IsGraph g) (keeps : Keeps g h) where
  package_back : (k : ℕ) (x : NodeData) (o : Option PackageId) → node_at g k ≡ Some x → x.of ≡ o → IsSome (package_if h o) → IsSome (package_if g o)
  package_back k x None at e s = s
  package_back k x (Some id) at e s = (is.nodes k x at).of id e

  instance_back : (k : ℕ) (o : Option NodeData) → node_at g k ≡ o → IsSome (package_made h o) → IsSome (package_made g o)
  instance_back k None at s = s
  instance_back k (Some x) at s = package_back k x x.of at refl s

  same_node : (k : ℕ) → node_at h k ≡ node_at g k
  same_node k = ap (λ m. map.get m k) keeps.nodes

  pub keeps_none : AddsNone g h
  keeps_none = record {
    instances = λ k s. instance_back k (node_at g k) refl (subst (λ (o : Option NodeData). IsSome (package_made h o)) (same_node k) s);
    aliased = λ k x at r. (x, sym (same_node k) ∙ at, r);
    aliases = λ i k n x. subst (Among (alias_edge i k n)) keeps.edges x;
    arguments = λ i a n x. subst (Among (argument_edge a i n)) keeps.edges x;
  }
