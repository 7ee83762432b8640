use Rattle.std.proofs.Common.{◌≡◌, arith}
use Rattle.wac_graph_bytes.specs.declared.error.SizeError.TheVariants.{Memory}
use Rattle.wac_graph_bytes.proofs.Texts.{component_name_fits, memory_alone}
use Rattle.wac_graph_bytes.proofs.component.push_debug_inside.Goals as goal

pub returns-in_err-push_name : goal.returns-in_err-push_name
returns-in_err-push_name c =
    let memory : c.in_err-push_name.field-0.0 ≡ Memory = memory_alone c.in_err-push_name.field-0.0 _ _ _ _ component_name_fits c.in_err-push_name.ensures in
    grind (arith, memory)
