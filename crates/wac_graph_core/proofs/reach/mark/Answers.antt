use Rattle.std.proofs.Common.{sym, subst}
use Rattle.indexmap.proofs.MapLemmas.{OnOk-map}
use Rattle.wac_graph_core.specs.Reaching.{Marks}
use Rattle.wac_graph_core.proofs.Reached.{marks_own}
use Rattle.wac_graph_core.proofs.reach.mark.Goals as goal

pub returns-in-Some : goal.returns-in-Some
returns-in-Some c = OnOk-map c.insert.result _ _ (λ added. subst (λ o. Marks o c.args.marks.now c.insert.new.self) (sym c.in-Some.is) (marks_own c.in-Some.id c.args.marks.now c.insert.new.self added)) c.insert.ensures
