use Rattle.wac_graph_encode.proofs.root.write_type.Goals as goal

pub returns-clause-own : goal.returns-clause-own
returns-clause-own c has w outer i imported exported h =
    let p = c.in_ok-prepare.ensures.keeps w outer i imported exported h in
    c.describe.ensures.own has w outer p.goes.writing.inside p.goes.writing.stands
