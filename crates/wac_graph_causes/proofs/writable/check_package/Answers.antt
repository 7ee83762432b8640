use Rattle.std.proofs.Common.{string_bytes}
use Rattle.wac_graph_causes.proofs.PackageCauses.{package_passes, package_named}
use Rattle.wac_graph_causes.proofs.writable.check_package.Goals as goal

pub returns-then-not-fails-clause-none : goal.returns-then-not-fails-clause-none
returns-then-not-fails-clause-none c = λ knows own.
    package_passes c.args.graph.now c.args.asked.now.types c.args.id c.args.world own c.in_ok-fails.fails (c.in_ok-fails.ensures knows) c.if-not-fails.true

pub returns-clause-cause : goal.returns-clause-cause
returns-clause-cause c = λ knows own.
    package_named c.args.graph.now c.args.asked.now.types c.args.id c.args.world own c.in_ok-fails.fails (c.in_ok-fails.ensures knows) (string_bytes c.in_ok-name.name) c.if-not-fails.false c.in_ok-name.ensures
