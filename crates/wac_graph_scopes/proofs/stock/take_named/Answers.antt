use Rattle.std.proofs.Common.{[], inl, subst}
use Rattle.wac_types_parts.specs.Parts.{exports_of}
use Rattle.wac_graph_scopes.specs.Items.{MayExport}
use Rattle.wac_graph_scopes.proofs.WritingLaws.{writes_on, writes_more, grows_by}
use Rattle.wac_graph_scopes.proofs.StockLaws.{exports_named, exports_on}
use Rattle.wac_graph_scopes.proofs.stock.take_named.Goals as goal

pub returns-in_ok-add_name-clause-takes : goal.returns-in_ok-add_name-clause-takes
returns-in_ok-add_name-clause-takes c w outer around k fresh =
    let types = c.args.all.types.now in
    let es = exports_of types c.args.all.id in
    let n = c.args.used.name.now in
    let a = subst (MayExport w types outer k.inside es n c.take_use.new.scope) c.if-is_exported.true (c.in_ok-is_exported.ensures.takes w outer k.inside k.stands (around k.inside.here)) in (
      writes_more w types outer [] es [] c.args.given.now c.args.scope.now c.take_use.new.scope k n a.0 c.add_name.new.names a.1 a.2 fresh c.in_ok-add_name.ensures,
      grows_by n c.args.given.now c.add_name.new.names fresh c.in_ok-add_name.ensures,
    )

pub returns-else-is_exported-clause-takes : goal.returns-else-is_exported-clause-takes
returns-else-is_exported-clause-takes c w outer around k fresh =
    let types = c.args.all.types.now in
    let es = exports_of types c.args.all.id in
    let n = c.args.used.name.now in
    let a = subst (MayExport w types outer k.inside es n c.take_use.new.scope) c.if-is_exported.false (c.in_ok-is_exported.ensures.takes w outer k.inside k.stands (around k.inside.here)) in
    (writes_on w types outer [] es [] c.args.given.now c.args.scope.now c.take_use.new.scope k a.0 a.1, λ m among. inl among)

pub returns-in_ok-add_name-clause-given : goal.returns-in_ok-add_name-clause-given
returns-in_ok-add_name-clause-given c h =
    exports_named c.args.all.types.now c.args.all.id c.args.scope.now.types c.take_use.new.scope.types c.in_ok-is_exported.ensures.keeps c.args.given.now c.add_name.new.names c.args.used.name.now c.in_ok-add_name.ensures h
    (c.in_ok-is_exported.ensures.given c.if-is_exported.true)

pub returns-else-is_exported-clause-given : goal.returns-else-is_exported-clause-given
returns-else-is_exported-clause-given c h = exports_on c.args.all.types.now c.args.all.id c.args.given.now c.args.scope.now.types c.take_use.new.scope.types c.in_ok-is_exported.ensures.keeps h
