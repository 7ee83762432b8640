use Rattle.std.proofs.Common.{Some, sym, ap, ◌∙◌, true≢false}
use Rattle.wac_types_base.specs.declared.item.ItemKind.{ItemKind}
use Rattle.wac_graph_asks.proofs.Identified.{no_identifier, identifier_is}
use Rattle.wac_graph_asks.proofs.classes.identifier.Goals as goal

pub returns-then-not-has : goal.returns-then-not-has
returns-then-not-has c = sym (no_identifier c.args.types.now (ItemKind.Instance c.args.id) (λ s. true≢false (sym (c.if-not-has.ensures.1 s))))

pub returns-in-Some : goal.returns-in-Some
returns-in-Some c =
    let i = c.interface.ensures in
    sym (identifier_is c.args.types.now i.acyclic c.args.id c.interface.result.now i.entry i.own ∙ c.in-Some.is ∙ ap Some (sym c.as_str.ensures))

pub returns-in-None : goal.returns-in-None
returns-in-None c =
    let i = c.interface.ensures in
    sym (identifier_is c.args.types.now i.acyclic c.args.id c.interface.result.now i.entry i.own ∙ c.in-None.is)
