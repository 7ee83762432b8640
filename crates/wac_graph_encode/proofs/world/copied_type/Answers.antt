use Rattle.std.proofs.Common.{◌∙◌, subst, sym}
use Rattle.wac_types_base.specs.Record.{Collection}
use Rattle.wac_types_base.specs.Copying.{IsCopy}
use Rattle.wac_graph_encode.proofs.Finals.{copied_item, no_item}
use Rattle.wac_graph_encode.proofs.world.copied_type.Goals as goal

pub returns-in_ok-copy-in-Some-clause-copied : goal.returns-in_ok-copy-in-Some-clause-copied
returns-in_ok-copy-in-Some-clause-copied c = copied_item c.args.graph.now c.item.new.to c.args.node c.in-Some.kind c.in_ok-copy-in-Some.copy (sym c.in-Some.is ∙ c.kind_of.ensures.kind) (subst (λ (x : Collection). IsCopy x c.item.new.to c.in-Some.kind c.in_ok-copy-in-Some.copy) c.types-in-Some.ensures c.in_ok-copy-in-Some.ensures.copied)

pub returns-in-None-clause-copied : goal.returns-in-None-clause-copied
returns-in-None-clause-copied c = no_item c.args.graph.now c.args.node (sym c.in-None.is ∙ c.kind_of.ensures.kind)
