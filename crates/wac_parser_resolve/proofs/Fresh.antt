-- An instance that is new can be given arguments: it is an instance of a package, and nothing leads out of it.
use Rattle.std.proofs.Common.{◌≡◌, ◌≢◌, ℕ, Bool, true, false, ◌==◌, cond, List, [], ◌∷◌, Some, None, IsSome, refl, sym, ap, subst, ◌∙◌, inl, inr}
use Rattle.wac_types_base.specs.declared.item.ItemKind.{ItemKind}
use Rattle.wac_types_base.specs.Entries.{Name}
use Rattle.wac_types_base.specs.Graph.{Among}
use Rattle.wac_graph_core.specs.declared.ids.PackageId.{PackageId}
use Rattle.wac_graph_core.specs.declared.edge.Edge.{Edge}
use Rattle.wac_graph_core.specs.declared.edge.Follow.{Follow}
use Rattle.wac_graph_core.specs.Nodes.{Role, plain_node}
use Rattle.wac_graph_core.specs.Edges.{Reaches, at_start, along}
use Rattle.wac_graph_core.specs.Graph.{Graph, node_at, ContainsNode, package_of, package_made, instantiated, IsGraph}
use Rattle.wac_graph_core.specs.declared.error.InstantiationArgumentError.{InstantiationArgumentError}
use Rattle.wac_graph_core.specs.Refusals.{ArgumentRefused}
use Rattle.wac_graph_core.specs.Steps.{Instantiates, SetsArgument}
use Rattle.wac_graph_core.proofs.NodeMap.{get-insert_same}
use Rattle.wac_parser_resolve.specs.declared.arguments.Given.{Given}
use Rattle.wac_parser_resolve.specs.Standing.{AreThere, IsFresh, AreApart}
use Rattle.wac_types_base.proofs.Replacing.{same_number, only_one}

module _ (es : List Edge) (s : ℕ) (quiet : (e : Edge) → Among e es → e.from ≡ s → ⊥) where
  pub only_start : {j : ℕ} → Reaches Follow.Flow es (s ∷ []) j → j ≡ s
  only_start (at_start {k = k} h) = only_one s k (s == k) refl h
  only_start (along {j = i} {k = k} e r at f from to) = absurd (quiet e at (from ∙ only_start r))

-- the argument makes no cycle
pub no_cycle : (g : Graph) (i a : ℕ) → IsFresh g i → a ≢ i → Reaches Follow.Flow g.edges (i ∷ []) a → ⊥
no_cycle g i a fresh apart r = apart (only_start g.edges i fresh.quiet r)

pub no_instance : (g : Graph) (i : ℕ) → IsFresh g i → instantiated g i ≡ None → ⊥
no_instance g i fresh none = absurd (cc (fresh.made, none))

absent : (g : Graph) (k j : ℕ) → node_at g k ≡ None → ContainsNode g j → j ≡ k → ⊥
absent g k j free there e = absurd (cc (free, there, ap (node_at g) e))

pub apart_from : (g : Graph) (k : ℕ) (xs : List Given) → node_at g k ≡ None → AreThere g xs → AreApart xs k
apart_from g k xs free there = record { nodes = λ one m e. absent g k one.node free (there.nodes one m) e }

-- ---- a new instance

pub fresh_instance : (g h : Graph) (id : PackageId) (k : ℕ) → IsGraph g → Instantiates g h id k → IsFresh h k
fresh_instance g h id k is s =
    let node : node_at h k ≡ Some (plain_node Role.Instance (Some id) (ItemKind.Instance s.of.instance_type)) =
    ap (λ (x : Graph). node_at x k) s.made ∙ get-insert_same g.nodes k (plain_node Role.Instance (Some id) (ItemKind.Instance s.of.instance_type)) in
    let held : package_of h id ≡ Some s.of = ap (λ (x : Graph). package_of x id) s.made ∙ s.is in
    record {
      made = subst IsSome (sym (ap (package_made h) node ∙ held)) refl;
      quiet = λ e m from. absent g k e.from s.free (is.wired.edges e (subst (Among e) (ap (λ (x : Graph). x.edges) s.made) m)).from from;
    }

pub fresh_free : (g h : Graph) (id : PackageId) (k : ℕ) → Instantiates g h id k → node_at g k ≡ None
fresh_free g h id k s = s.free

-- ---- an argument more

pub fresh_set : (g h : Graph) (i : ℕ) (n : Name) (a : ℕ) → a ≢ i → SetsArgument g h i n a → IsFresh g i → IsFresh h i
fresh_set g h i n a apart s fresh = elim s.step [
  | inl keep ↦ subst (λ x. IsFresh x i) (sym keep.same) fresh
  | inr add ↦
      record {
        made = subst IsSome (sym (ap (λ (x : Graph). instantiated x i) add.made)) fresh.made;
        quiet = λ e m from. elim ((add.edges e).0 m) [
          | inl old ↦ fresh.quiet e old from
          | inr is ↦ apart (sym (ap (λ (d : Edge). d.from) is) ∙ from)
        ];
      }
]

-- what the refusal of a cycle says
pub cycle_refused : (g : Graph) (i : ℕ) (n : Name) (a k : ℕ) → ArgumentRefused g i n a (InstantiationArgumentError.WouldFormCycle k) → Reaches Follow.Flow g.edges (i ∷ []) a
cycle_refused g i n a k r = r.4
