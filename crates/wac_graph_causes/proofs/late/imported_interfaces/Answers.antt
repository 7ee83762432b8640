use Rattle.std.proofs.Common.{sym, ap, ◌∙◌}
use Rattle.wac_types_parts.proofs.PartLaws.{imports_missing}
use Rattle.wac_graph_causes.specs.Late.{interface_items}
use Rattle.wac_graph_causes.proofs.late.imported_interfaces.Goals as goal

pub returns-then-not-has : goal.returns-then-not-has
returns-then-not-has c = c.new.ensures ∙ sym (ap interface_items (imports_missing c.args.types.now c.args.world (λ s. absurd (cc (c.if-not-has.ensures.1 s)))))
