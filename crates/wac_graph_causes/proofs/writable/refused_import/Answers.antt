use Rattle.wac_graph_causes.proofs.OuterCauses.{import_told}
use Rattle.wac_graph_causes.proofs.writable.refused_import.Goals as goal

pub returns-in-Some-clause-told : goal.returns-in-Some-clause-told
returns-in-Some-clause-told c =
    import_told c.args.types.now c.args.world c.args.at c.in-Some.import.name.now c.in-Some.import.kind c.unwritable.result c.in-Some.ensures.entry c.unwritable.ensures
