use Rattle.std.proofs.Common.{◌∙◌, ap, sym}
use Rattle.std.proofs.lemmas.Result.{on_ok_weaker}
use Rattle.wac_graph_encode.specs.Worlds.{with_import}
use Rattle.wac_graph_encode.proofs.world.add_import.Goals as goal

pub returns-in-Some : goal.returns-in-Some
returns-in-Some c = on_ok_weaker c.insert_under.result (λ e. e ∙ sym (ap (λ o. with_import o c.args.imports.now) c.in-Some.ensures.entry)) c.insert_under.ensures
