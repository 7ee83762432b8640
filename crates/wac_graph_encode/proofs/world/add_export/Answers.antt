use Rattle.std.proofs.Common.{◌∙◌, ap, sym, subst, true≢false}
use Rattle.std.proofs.lemmas.Result.{on_ok_weaker}
use Rattle.std.specs.Prelude.{is_some}
use Rattle.wac_graph_encode.specs.Worlds.{TellsExported}
use Rattle.wac_graph_encode.proofs.world.add_export.Goals as goal

pub returns-in-Some-clause-adds : goal.returns-in-Some-clause-adds
returns-in-Some-clause-adds c = on_ok_weaker c.insert_under.result (λ e. (c.in-Some.item, e, subst (TellsExported c.args.graph.now c.exported_type.new.types c.args.export.1) c.in-Some.is c.in_ok-told.ensures.exported)) c.insert_under.ensures

pub returns-in-None-clause-adds : goal.returns-in-None-clause-adds
returns-in-None-clause-adds c = absurd (true≢false (sym c.requires.there ∙ ap is_some (subst (TellsExported c.args.graph.now c.exported_type.new.types c.args.export.1) c.in-None.is c.in_ok-told.ensures.exported)))
