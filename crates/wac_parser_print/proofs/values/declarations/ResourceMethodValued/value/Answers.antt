use Rattle.wac_parser_print.specs.Values.{resource_method}
use Rattle.wac_parser_print.proofs.values.declarations.ResourceMethodValued.value.Goals as goal

pub returns-in-Constructor : goal.returns-in-Constructor
unfolding resource_method
returns-in-Constructor c = rw c.in-Constructor.is (c.variant.ensures _ c.constructor.ensures)
