use Rattle.std.proofs.lemmas.Result.{on_ok_weaker}
use Rattle.wac_graph_encode.proofs.Beginning.{begins_imported, begins_nested, holds_imported, holds_nested}
use Rattle.wac_graph_encode.proofs.Nested.{nests_imported, nests_nested}
use Rattle.wac_graph_encode.proofs.root.write_packages.Goals as goal

pub returns-then-writing-clause-begins : goal.returns-then-writing-clause-begins
returns-then-writing-clause-begins c = begins_nested c.args.writing c.args.scope.now c.args.root.now c.nest_behind.new.root c.nest_behind.result c.if-writing.true c.nest_behind.ensures

pub returns-then-writing-clause-nests : goal.returns-then-writing-clause-nests
returns-then-writing-clause-nests c = nests_nested c.args.writing c.args.scope.now c.args.root.now c.nest_behind.new.root c.nest_behind.result c.if-writing.true c.nest_behind.ensures

pub returns-else-writing-clause-begins : goal.returns-else-writing-clause-begins
returns-else-writing-clause-begins c = begins_imported c.args.writing c.args.scope.now c.args.root.now c.import_before.new.root c.import_before.result c.if-writing.false c.import_before.ensures

pub returns-else-writing-clause-nests : goal.returns-else-writing-clause-nests
returns-else-writing-clause-nests c = nests_imported c.args.writing c.args.scope.now c.args.root.now c.import_before.new.root c.import_before.result c.if-writing.false c.import_before.ensures

pub returns-then-writing-clause-holds : goal.returns-then-writing-clause-holds
returns-then-writing-clause-holds c = on_ok_weaker c.nest_behind.result (holds_nested c.args.writing c.args.scope.now c.args.root.now c.nest_behind.new.root) c.nest_behind.ensures

pub returns-else-writing-clause-holds : goal.returns-else-writing-clause-holds
returns-else-writing-clause-holds c = on_ok_weaker c.import_before.result (holds_imported c.args.writing c.args.scope.now c.args.root.now c.import_before.new.root) c.import_before.ensures
