use Rattle.wac_graph_asks.specs.Asked.{IsAsked}
use Rattle.wac_graph_asks.proofs.TakingMore.{again_err}
use Rattle.wac_graph_causes.specs.Refusals.{unwritten_refusal}
use Rattle.wac_graph_encode.specs.Refused.{IsRefusedFor}
use Rattle.wac_graph_encode.proofs.Preparing.{whole}
use Rattle.wac_graph_encode.proofs.Refusing.{writable_refused}
use Rattle.wac_graph_encode.proofs.encode.outers_checked.Goals as goal

pub returns-clause-written : goal.returns-clause-written
returns-clause-written c = λ asked.
    c.in_ok-check_writable.ensures.none
    (whole c.args.graph.now c.args.asked.now c.outers_of.new.asked c.in_ok-outers.outers asked c.outers_of.ensures.keeps c.in_ok-outers.ensures.outers c.in_ok-outers.ensures.alone)

pub returns-in_err-check_writable-clause-refused : goal.returns-in_err-check_writable-clause-refused
returns-in_err-check_writable-clause-refused c =
    again_err c.from_residual-in_err-check_writable.result (λ e. IsAsked c.args.graph.now c.args.asked.now → IsRefusedFor c.args.options.now c.args.graph.now e) (unwritten_refusal c.in_err-check_writable.field-0.0)
    c.from_residual-in_err-check_writable.ensures.1
    (λ asked. writable_refused c.args.options.now c.args.graph.now c.in_err-check_writable.field-0.0 (c.in_ok-check_implicit.ensures.none asked) (c.in_ok-outers.ensures.free c.args.graph.now asked)
    (c.in_err-check_writable.ensures.cause (whole c.args.graph.now c.args.asked.now c.outers_of.new.asked c.in_ok-outers.outers asked c.outers_of.ensures.keeps c.in_ok-outers.ensures.outers c.in_ok-outers.ensures.alone)))
