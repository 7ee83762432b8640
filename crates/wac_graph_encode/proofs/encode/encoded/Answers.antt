use Rattle.wac_graph_encode.specs.Refused.{HasNoneFound}
use Rattle.wac_graph_encode.proofs.Forming.{copies_stand}
use Rattle.wac_graph_encode.proofs.Preparing.{prepared}
use Rattle.wac_graph_encode.proofs.Refusing.{is_free, no_alias}
use Rattle.wac_graph_scopes.proofs.RefusedLaws.{if_err_map}
use Rattle.wac_graph_encode.proofs.encode.encoded.Goals as goal

pub outers_checked-requires : goal.outers_checked-requires
outers_checked-requires c = c.in_ok-asked.ensures.held.items

pub encoded_asked-requires-clause-aliases : goal.encoded_asked-requires-clause-aliases
encoded_asked-requires-clause-aliases c = no_alias c.args.options.now c.args.graph.now (c.in_ok-outers.ensures.written c.in_ok-asked.ensures)

pub encoded_asked-requires-clause-copies : goal.encoded_asked-requires-clause-copies
encoded_asked-requires-clause-copies c = copies_stand c.args.graph.now c.in_ok-asked.asked c.outers_checked.new.asked c.in_ok-asked.ensures.held c.in_ok-outers.ensures.keeps

pub encoded_asked-requires-clause-prepared : goal.encoded_asked-requires-clause-prepared
encoded_asked-requires-clause-prepared c = prepared c.args.graph.now c.in_ok-asked.asked c.outers_checked.new.asked c.in_ok-outers.outers c.in_ok-asked.ensures c.in_ok-outers.ensures.keeps c.in_ok-outers.ensures.outers

pub returns-clause-free : goal.returns-clause-free
returns-clause-free c =
    let found : HasNoneFound c.args.options.now c.args.graph.now = record { clashing = c.in_ok-outers.ensures.free c.in_ok-asked.ensures; written = c.in_ok-outers.ensures.written c.in_ok-asked.ensures } in
    is_free c.args.options.now c.args.graph.now c.encoded_asked.result found c.encoded_asked.ensures.waits c.encoded_asked.ensures.apart

pub returns-clause-refused : goal.returns-clause-refused
returns-clause-refused c = if_err_map c.encoded_asked.result (λ e h. h (record { clashing = c.in_ok-outers.ensures.free c.in_ok-asked.ensures; written = c.in_ok-outers.ensures.written c.in_ok-asked.ensures })) c.encoded_asked.ensures.refused
