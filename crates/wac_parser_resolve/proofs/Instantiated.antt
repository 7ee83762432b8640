-- The instances of a graph that holds what a document says are those that were said.
use Rattle.std.proofs.Common.{◌≡◌, ℕ, List, Some, IsSome, refl, sym, ap, subst, ◌∙◌}
use Rattle.std.proofs.lemmas.Option.{same_Some}
use Rattle.wac_types_base.specs.Entries.{names_of}
use Rattle.wac_types_base.specs.Graph.{Among}
use Rattle.wac_types_names.specs.Packaged.{Packaged}
use Rattle.wac_graph_core.specs.Graph.{Graph, instantiated}
use Rattle.wac_parser_tree.specs.Trees.{Span}
use Rattle.wac_parser_resolve.specs.Ascribing.{Made, State}
use Rattle.wac_parser_resolve.specs.Holding.{IsMade}
use Rattle.wac_parser_resolve.specs.InDocuments.{IsBuilt}
use Rattle.wac_parser_resolve.specs.Resolved.{Places}
use Rattle.wac_parser_resolve.proofs.Instances.{among_named}
use Rattle.wac_parser_resolve.proofs.Turns.{turn_back}

-- an instance of the package was said
pub record IsSaid (g : Graph) (ms : List ℕ) (s : State) (p : Packaged) : Type 0 where
  pub made : Made
  pub among : Among made s.made
  pub place : ℕ × Span
  pub is : IsMade g ms made place
  pub of : is.of ≡ p

-- so it was of each package that a node is an instance of
pub said_at : (g : Graph) (places : Places) (s : State) → IsBuilt g places s → (k : ℕ) (p : Packaged) → instantiated g k ≡ Some p → IsSaid g (names_of places.instances) s p
said_at g places s b k p e =
    let n = among_named places.instances k (b.says.all k (subst IsSome (sym e) refl)) in
    let m = turn_back (IsMade g (names_of places.instances)) s.made places.instances n.0 b.says.made n.1 in
    record { made = m.0; among = m.1; place = n.0; is = m.2; of = same_Some _ _ (sym m.2.is ∙ ap (instantiated g) n.2 ∙ e) }
