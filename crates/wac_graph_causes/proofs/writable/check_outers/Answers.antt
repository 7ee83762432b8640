use Rattle.std.proofs.lemmas.Result.{on_ok_weaker, IfErr-weaker}
use Rattle.wac_graph_causes.proofs.OuterCauses.{outers_pass, outer_within, outer_told}
use Rattle.wac_graph_causes.proofs.writable.check_outers.Goals as goal

pub returns-in-Some-clause-none : goal.returns-in-Some-clause-none
returns-in-Some-clause-none c =
    on_ok_weaker c.refused_import.result
    (λ past knows bare. outer_within c.args.asked.now.types c.see_acyclic.ensures c.args.outers.now.world bare c.in_ok-found.found (c.in_ok-found.ensures knows) c.in-Some.at c.in-Some.is past) c.refused_import.ensures.past

pub returns-in-Some-clause-cause : goal.returns-in-Some-clause-cause
returns-in-Some-clause-cause c =
    IfErr-weaker c.refused_import.result _ _
    (λ e told knows bare. outer_told c.args.asked.now.types c.see_acyclic.ensures c.args.outers.now.world bare c.in_ok-found.found (c.in_ok-found.ensures knows) c.in-Some.at c.in-Some.is e told) c.refused_import.ensures.told

pub returns-in-None-clause-none : goal.returns-in-None-clause-none
returns-in-None-clause-none c = λ knows bare. outers_pass c.args.asked.now.types c.see_acyclic.ensures c.args.outers.now.world bare c.in_ok-found.found (c.in_ok-found.ensures knows) c.in-None.is
