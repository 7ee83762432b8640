use Rattle.std.proofs.Common.{subst, sym}
use Rattle.wac_types_base.specs.Record.{Collection}
use Rattle.wac_types_base.specs.Collection.{IsAcyclic}
use Rattle.wac_types_base.proofs.Adding.{Grows-refl}
use Rattle.wac_parser_tree.specs.Views.{view_ident}
use Rattle.wac_parser_declare.specs.ValueTypes.{borrow_named}
use Rattle.wac_parser_refusals.specs.Outcomes.{IsOutcome}
use Rattle.wac_parser_declare.specs.Holding.{IsValue, NamesStand, scope_of}
use Rattle.wac_parser_declare.proofs.value_types.borrow_at.Goals as goal

pub borrow_named-requires : goal.borrow_named-requires
borrow_named-requires g c = subst (λ (x : Collection). NamesStand x c.args.names.now) (sym c.types-collection.ensures) c.requires

pub returns-clause-outcome : goal.returns-clause-outcome
returns-clause-outcome g c =
    subst (λ (x : Collection). IsOutcome (IsValue x) (borrow_named (scope_of x c.args.names.now) (view_ident c.args.id.now)) c.borrow_named.result) c.types-collection.ensures c.borrow_named.ensures

pub returns-clause-grows : goal.returns-clause-grows
returns-clause-grows g c = Grows-refl (g.T.GrowingTypes.collection c.args.types.now) (subst IsAcyclic c.types-collection.ensures c.see_acyclic.ensures)
