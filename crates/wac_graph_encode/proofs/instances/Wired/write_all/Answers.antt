use Rattle.std.proofs.Common.{List, Option, IsSome, Vec, Global, subst, sym, ap, ◌∙◌}
use Rattle.wac_types_base.specs.Entries.{names_of}
use Rattle.wac_graph_core.specs.Graph.{IsGraph}
use Rattle.wac_graph_scopes.specs.declared.imports.SortIndex.{SortIndex}
use Rattle.wac_graph_encode.specs.Standing.{IsFinished, IsWritten, written_under}
use Rattle.wac_graph_encode.specs.Writing.{noted, outer_of}
use Rattle.wac_graph_encode.specs.Ready.{ArePlacedAt, HasPlace}
use Rattle.wac_graph_encode.proofs.Nested.{exports_nest_none}
use Rattle.wac_graph_encode.proofs.Readying.{provided_more, written_there}
use Rattle.wac_graph_encode.proofs.StandingExports.{exports_finished}
use Rattle.wac_graph_encode.proofs.WritingSteps.{begun_outers}
use Rattle.wac_graph_encode.proofs.instances.Wired.write_all.Goals as goal

pub write_nodes-requires : goal.write_nodes-requires
write_nodes-requires c =
    let w = c.args.self.now in
    let ids = names_of w.root.packages.entries in
    let nodes = names_of (noted w) in
    let taken = ap (λ (v : Vec (Option SortIndex) Global). v.items) c.replace.ensures.value in
    provided_more w.graph.now (HasPlace w.places.now) (λ n. IsSome (written_under w.places.now c.replace.result.items n)) ids ids nodes nodes
    (written_there w.places.now c.replace.result.items (subst (λ (xs : List (Option SortIndex)). ArePlacedAt xs w.places.now) (sym taken) c.requires.placed)) (λ id m. m) (λ k m. m) c.requires.ready

pub push_exports-requires : goal.push_exports-requires
push_exports-requires c = c.in_ok-write_nodes.ensures.all

pub returns-clause-finishes : goal.returns-clause-finishes
returns-clause-finishes c = λ define worlds asked begun.
    let old = c.args.self.now in
    let w = c.write_nodes.new.self in
    let taken = ap (λ (v : Vec (Option SortIndex) Global). v.items) c.replace.ensures.value in
    let r = old.root in
    let first = subst (λ (xs : List (Option SortIndex)). IsWritten old.graph.now worlds define asked (written_under old.places.now xs) r.packages.entries r.exported r.entries.items r.counts r.nodes.entries) (sym taken)
    (begun_outers define worlds asked old.places.now old.graph.now r begun) in
    let h = c.in_ok-write_nodes.ensures.writes define worlds asked first in
    let same = c.in_ok-write_nodes.ensures.keeps.same.graph in
    subst (λ g. IsFinished g worlds define asked c.push_exports.new.entries.items) (ap (λ r. r.now) same)
    (exports_finished w.graph.now (subst (λ r. IsGraph r.now) (sym same) c.see_sound.ensures) worlds define asked (outer_of w) w.root.packages.entries w.root.exported w.root.entries.items w.root.counts (noted w) h
    c.push_exports.new.entries.items c.in_ok-write_nodes.ensures.all c.in_ok-push_exports.ensures)

pub returns-clause-nests : goal.returns-clause-nests
returns-clause-nests c =
    let w = c.write_nodes.new.self in
    exports_nest_none (noted w) c.in_ok-push_exports.ensures.listing w.root.entries.items c.push_exports.new.entries.items c.in_ok-push_exports.ensures.adds ∙ c.in_ok-write_nodes.ensures.keeps.same.nested
