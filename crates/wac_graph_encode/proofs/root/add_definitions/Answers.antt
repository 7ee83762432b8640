use Rattle.std.proofs.Common.{List, subst}
use Rattle.wac_types_base.specs.Entries.{names_of}
use Rattle.wac_types_base.proofs.Loops.{get-place, take-all}
use Rattle.wac_types_base.proofs.Looked.{among-get}
use Rattle.wac_graph_asks.specs.declared.asks.Definition.{Definition}
use Rattle.wac_graph_encode.specs.Defining.{NotesAll}
use Rattle.wac_graph_encode.proofs.Readying.{mapped_first, mapped_more}
use Rattle.wac_graph_encode.proofs.RootedDefinitions.{one_to_write}
use Rattle.wac_graph_encode.proofs.root.add_definitions.Goals as goal

pub loop-definition-init : goal.loop-definition-init
loop-definition-init c sound to w i imported holds = (holds, mapped_first (λ x. x.node) c.args.definitions.now (names_of c.args.defined.now.nodes.entries))

pub loop-definition-preserved : goal.loop-definition-preserved
loop-definition-preserved c sound to w i imported holds =
    let xs = c.args.definitions.now in
    let x = c.definition-item.result in
    let at = get-place xs c.loop-definition.definition-index x c.loop-definition-test.true c.definition-item.is in
    let one = one_to_write c.args.graph.now c.args.all.types.now xs x (among-get xs c.loop-definition.definition-index x at) to in
    let before = c.loop-definition.invariant sound to w i imported holds in
    let more = c.in_ok-add_definition.ensures sound one w i imported before.0 in
    (more.0, mapped_more (λ y. y.node) xs c.loop-definition.definition-index x at (names_of c.args.defined.now.nodes.entries) (names_of c.loop-definition.defined.nodes.entries) (names_of c.add_definition.new.defined.nodes.entries) before.1 more.1)

pub returns : goal.returns
returns c sound to w i imported holds =
    let all = c.loop-definition.invariant sound to w i imported holds in
    (all.0, subst (λ (xs : List Definition). NotesAll xs c.args.defined.now.nodes.entries c.loop-definition.defined.nodes.entries) (take-all c.args.definitions.now c.loop-definition.definition-index c.loop-definition-test.false) all.1)
