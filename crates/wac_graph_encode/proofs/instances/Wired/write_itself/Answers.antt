use Rattle.std.proofs.Common.{◌≡◌, ◌++◌, ◌∙◌, ℕ, List, [], ◌∷◌, ap, sym, subst}
use Rattle.indexmap.specs.IndexMap.{insert_entry}
use Rattle.wac_types_base.specs.Entries.{names_of}
use Rattle.wac_types_base.specs.Graph.{Among}
use Rattle.wac_graph_core.specs.contracts.ids.NodeIdPartialEq.TheImpl as node
use Rattle.wac_graph_core.proofs.Found.{Among-front}
use Rattle.wac_graph_scopes.specs.declared.imports.SortIndex.{SortIndex}
use Rattle.wac_graph_encode.specs.Writing.{WrittenWith, noted}
use Rattle.wac_graph_encode.proofs.Entries.{same_node, inserted_new}
use Rattle.wac_graph_encode.proofs.StandingSteps.{named_end, named_split}
use Rattle.wac_graph_encode.proofs.instances.Wired.write_itself.Goals as goal

added : (c : goal.In_ok-insert) → c.insert.new.self.entries ≡ noted c.args.self.now ++ (c.args.node, c.in_ok-place.place) ∷ []
added c =
    c.in_ok-insert.ensures.entries
    ∙ ap (λ m. insert_entry node.eq-value.it m.entries c.args.node c.in_ok-place.place) c.in_ok-place.ensures.nodes
    ∙ inserted_new node.eq-value.it same_node (noted c.args.self.now) c.args.node c.in_ok-place.place c.requires.new

pub returns-clause-writes : goal.returns-clause-writes
returns-clause-writes c define worlds asked h =
    let old = c.args.self.now in
    let mid = c.written.new.self in
    let with_node = c.in_ok-place.ensures.writes define worlds asked h c.requires.new in
    subst (λ (xs : List (ℕ × SortIndex)). WrittenWith define worlds asked mid xs) (sym (added c)) with_node

pub returns-clause-keeps : goal.returns-clause-keeps
returns-clause-keeps c =
    let same = c.in_ok-place.ensures.same in
    record {
      same = record { graph = same.graph; places = same.places; imports = same.imports; packages = same.packages; exported = same.exported; nested = same.nested };
      kept = λ k p m. subst (λ (xs : List (ℕ × SortIndex)). Among {R = ℕ × SortIndex} (k, p) xs) (sym (added c)) (Among-front (noted c.args.self.now) (c.args.node, c.in_ok-place.place) (k, p) m);
    }

pub returns-clause-only : goal.returns-clause-only
returns-clause-only c rank is k m =
    named_split (noted c.args.self.now) (c.args.node, c.in_ok-place.place) k (subst (λ (xs : List (ℕ × SortIndex)). Among k (names_of xs)) (added c) m)

pub returns-clause-stands : goal.returns-clause-stands
returns-clause-stands c = subst (λ (xs : List (ℕ × SortIndex)). Among c.args.node (names_of xs)) (sym (added c)) (named_end (noted c.args.self.now) (c.args.node, c.in_ok-place.place))
