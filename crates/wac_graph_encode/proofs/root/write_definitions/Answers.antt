use Rattle.std.proofs.Common.{ℕ, List, inr, sym, ap, subst}
use Rattle.wac_types_base.specs.Entries.{names_of}
use Rattle.wac_types_base.specs.Graph.{Among}
use Rattle.wac_types_base.proofs.Lists.{among_mapped}
use Rattle.wac_graph_scopes.specs.declared.imports.SortIndex.{SortIndex}
use Rattle.wac_graph_encode.specs.declared.declarations.Early.{Early}
use Rattle.wac_graph_encode.specs.Defining.{HoldsDefined, HoldsDefinitions}
use Rattle.wac_graph_encode.proofs.RootedDefinitions.{none_held}
use Rattle.wac_graph_encode.proofs.root.write_definitions.Goals as goal

pub returns : goal.returns
returns c sound to w i imported h =
    let g = c.args.graph.now in
    let a = c.args.all in
    let first = none_held g w a.types.now a.world i imported c.args.scope.now c.new-defined.result.known c.new-defined.result.nodes.entries c.new-defined.result.early.entries h (c.new-defined.ensures.known w _ _) c.new-defined.ensures.nodes c.new-defined.ensures.early in
    let added = c.in_ok-add_definitions.ensures sound to w i imported first in
    let last : HoldsDefined g w a i imported c.add_definitions.new.scope c.add_definitions.new.defined = added.0 in
    let nodes_are = sym (ap (λ m. m.entries) c.into_parts.ensures.nodes) in
    let early_are = sym (ap (λ m. m.entries) c.into_parts.ensures.early) in
    record {
      known = c.add_definitions.new.defined.known;
      holds = subst (λ (es : List (ℕ × Early)). HoldsDefinitions g w a.types.now a.world i imported c.add_definitions.new.scope c.add_definitions.new.defined.known c.into_parts.result.0.entries es) early_are
          (subst (λ (es : List (ℕ × SortIndex)). HoldsDefinitions g w a.types.now a.world i imported c.add_definitions.new.scope c.add_definitions.new.defined.known es c.add_definitions.new.defined.early.entries) nodes_are last);
      all = λ x m. subst (λ (es : List (ℕ × SortIndex)). Among x.node (names_of es)) nodes_are (added.1 x.node (inr (among_mapped (λ y. y.node) c.args.definitions.now x m)));
    }
