use Rattle.std.proofs.Common.{◌+◌, ◌<◌, arith}
use Rattle.wac_graph_plug.specs.Lookups.{IsNext}
use Rattle.wac_graph_plug.proofs.Near.{contained, not_contained, finds_none, finds_two, finds_one}
use Rattle.wac_graph_plug.proofs.matching.find_import.Goals as goal

pub returns-then-contains-clause-found : goal.returns-then-contains-clause-found
returns-then-contains-clause-found c = contained c.args.imports.now c.args.name.now c.contains.result c.if-contains.true c.contains.ensures

pub returns-in-None-clause-none : goal.returns-in-None-clause-none
returns-in-None-clause-none c =
    finds_none c.args.imports.now c.args.name.now (not_contained c.args.imports.now c.args.name.now c.contains.result c.if-contains.false c.contains.ensures)
    (rw c.in-None.is at c.in_ok-next_near.ensures.none)

pub returns-in-Some-2-clause-none : goal.returns-in-Some-2-clause-none
returns-in-Some-2-clause-none c =
    let first : IsNext c.args.imports.now c.args.name.now 0 c.in-Some.at = rw c.in-Some.is at c.in_ok-next_near.ensures.found in
    let second : IsNext c.args.imports.now c.args.name.now (c.in-Some.at + 1) c.in-Some-2.field-0 = rw c.in-Some-2.is at c.in_ok-next_near-in-Some.ensures.found in
    let less : c.in-Some.at < c.in-Some-2.field-0 = omega (arith, second.above) in
    finds_two c.args.imports.now c.args.name.now (not_contained c.args.imports.now c.args.name.now c.contains.result c.if-contains.false c.contains.ensures)
    c.in-Some.at c.in-Some-2.field-0 c.len-count.ensures.distinct first.near second.near less

pub returns-in-None-2-clause-found : goal.returns-in-None-2-clause-found
returns-in-None-2-clause-found c =
    finds_one c.args.imports.now c.args.name.now (not_contained c.args.imports.now c.args.name.now c.contains.result c.if-contains.false c.contains.ensures)
    c.in-Some.at c.entry.result.0.now c.entry.result.1.now (rw c.in-Some.is at c.in_ok-next_near.ensures.found) (rw c.in-None-2.is at c.in_ok-next_near-in-Some.ensures.none) c.entry.ensures
