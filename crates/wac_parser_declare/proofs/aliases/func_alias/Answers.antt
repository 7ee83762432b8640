use Rattle.std.proofs.Common.{◌≡◌, Some, subst}
use Rattle.wac_types_base.specs.declared.item.ItemKind.{ItemKind}
use Rattle.wac_types_base.specs.Record.{Collection}
use Rattle.wac_types_base.specs.Collection.{IsAcyclic, item_node, func_entry}
use Rattle.wac_parser_declare.proofs.Aliasing.{func_alias_held}
use Rattle.wac_parser_declare.proofs.Standing.{node_children}
use Rattle.wac_parser_declare.proofs.Fresh.{func_new}
use Rattle.wac_parser_declare.proofs.aliases.func_alias.Goals as goal

pub add_func_type-requires : goal.add_func_type-requires
add_func_type-requires g c =
    node_children (g.T.GrowingTypes.collection c.args.types.now) (subst IsAcyclic c.types.ensures c.see_acyclic.ensures) (ItemKind.Func c.args.func) (func_entry c.in_ok-copy.copy)
    (subst (λ (x : Collection). item_node x (ItemKind.Func c.args.func) ≡ Some (func_entry c.in_ok-copy.copy)) c.types-2.ensures c.in_ok-copy.ensures)

pub returns-clause-outcome : goal.returns-clause-outcome
returns-clause-outcome g c =
    func_alias_held (g.T.GrowingTypes.collection c.args.types.now) (g.T.GrowingTypes.collection c.add_func_type.new.self) (subst IsAcyclic c.types.ensures c.see_acyclic.ensures) c.in_ok-id.ensures.grows
    c.args.func c.in_ok-id.id (func_entry c.in_ok-copy.copy)
    (subst (λ (x : Collection). item_node x (ItemKind.Func c.args.func) ≡ Some (func_entry c.in_ok-copy.copy)) c.types-2.ensures c.in_ok-copy.ensures) c.in_ok-id.ensures.node

pub returns-clause-fresh : goal.returns-clause-fresh
returns-clause-fresh g c = func_new (g.T.GrowingTypes.collection c.args.types.now) c.in_ok-id.id c.in_ok-id.ensures.fresh
