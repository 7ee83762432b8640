use Rattle.std.proofs.Common.{arith}
use Rattle.std.proofs.lemmas.Grind.{common_steps}
use Rattle.wac_graph_bytes.proofs.Loops.{unfit_item}
use Rattle.wac_graph_bytes.proofs.text.push_names.Goals as goal

pub returns-in_err-push_name : goal.returns-in_err-push_name
returns-in_err-push_name c = grind (arith, common_steps, unfit_item)
