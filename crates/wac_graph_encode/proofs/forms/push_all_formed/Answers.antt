use Rattle.wac_types_base.proofs.Loops.{get-place}
use Rattle.wac_graph_encode.proofs.Forming.{next_formed, next_stands}
use Rattle.wac_graph_encode.proofs.forms.push_all_formed.Goals as goal

pub push_formed-requires : goal.push_formed-requires
push_formed-requires c =
    let x = c.definition-item.result in
    let i = c.loop-definition.definition-index in
    let at = get-place c.args.definitions.now i x c.loop-definition-test.true c.definition-item.is in
    next_stands c.args.types.now c.loop-definition.types c.args.definitions.now i x at c.loop-definition.invariant.grows c.requires

pub loop-definition-preserved : goal.loop-definition-preserved
loop-definition-preserved c =
    let x = c.definition-item.result in
    let i = c.loop-definition.definition-index in
    let at = get-place c.args.definitions.now i x c.loop-definition-test.true c.definition-item.is in
    next_formed c.args.types.now c.loop-definition.types c.push_formed.new.types c.args.definitions.now c.args.written.now.items c.loop-definition.written.items c.push_formed.new.written.items i x at
    c.loop-definition.invariant c.in_ok-push_formed.ensures.grows c.in_ok-push_formed.ensures.stand c.in_ok-push_formed.ensures.forms

pub returns-clause-stand : goal.returns-clause-stand
returns-clause-stand c = c.loop-definition.invariant.stand
