use Rattle.std.proofs.Common.{arith}
use Rattle.std.proofs.lemmas.Grind.{common_steps}
use Rattle.std.proofs.lemmas.Str.{is_utf8-from_IsUtf8}
use Rattle.wac_graph_bytes.proofs.text.push_name.Goals as goal

pub returns : goal.returns
returns c =
    let text = is_utf8-from_IsUtf8 c.args.text.now c.utf8.text in
    grind (arith, common_steps, text)
