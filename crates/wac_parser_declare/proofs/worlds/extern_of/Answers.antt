use Rattle.std.proofs.Common.{subst}
use Rattle.wac_types_base.specs.Entries.{Name}
use Rattle.wac_parser_tree.specs.Views.{view_ident}
use Rattle.wac_parser_refusals.specs.Causes.{NotFuncOrInterface}
use Rattle.wac_parser_refusals.specs.Outcomes.{Refuses}
use Rattle.wac_parser_declare.proofs.Making.{no_thing, thing_found}
use Rattle.wac_parser_declare.proofs.worlds.extern_of.Goals as goal

pub returns-in-Some-clause-outcome : goal.returns-in-Some-clause-outcome
returns-in-Some-clause-outcome c =
    thing_found c.args.types.now c.see_acyclic.ensures (view_ident c.args.id.now) c.args.kind c.thing_of.result c.in-Some.thing c.in-Some.is c.thing_of.ensures.some c.requires

pub returns-in-None-clause-outcome : goal.returns-in-None-clause-outcome
returns-in-None-clause-outcome c =
    let e = c.not_func_or_interface.result in
    let i = view_ident c.args.id.now in
    no_thing c.args.types.now c.see_acyclic.ensures i c.args.kind c.requires (c.thing_of.ensures.none c.in-None.is) e
    (subst (λ (w : Name). Refuses e (NotFuncOrInterface i.string w) i.span) c.desc.ensures c.not_func_or_interface.ensures)
