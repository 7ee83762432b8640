use Rattle.std.proofs.Common.{ap, ◌∙◌}
use Rattle.wac_types_base.specs.Record.{Collection}
use Rattle.wac_types_base.specs.Stated.{desc, stated_of}
use Rattle.wac_parser_declare.specs.Holding.{Holds}
use Rattle.wac_parser_resolve.proofs.Items.{of_item}
use Rattle.wac_parser_resolve.proofs.board.word_of.Goals as goal

pub returns : goal.returns
returns c t h =
    let held = of_item c.args.graph.now c.args.node c.item_of.result (Holds c.args.graph.now.types t) h c.item_of.ensures.own in
    c.desc.ensures ∙ ap (λ (x : Collection). desc (stated_of x c.item_of.result)) c.types.ensures ∙ ap desc held.same
