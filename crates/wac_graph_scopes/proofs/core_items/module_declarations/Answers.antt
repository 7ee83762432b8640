use Rattle.std.proofs.Common.{refl}
use Rattle.wac_graph_scopes.proofs.CoreLaws.{module_reads}
use Rattle.wac_graph_scopes.proofs.core_items.module_declarations.Goals as goal

pub returns-clause-written : goal.returns-clause-written
returns-clause-written c =
    module_reads (record { declarations = c.new.result; signatures = 0 }) c.import_all.new.self c.export_all.new.self c.args.«module».now.imports c.args.«module».now.exports c.new.ensures.items refl
    c.in_ok-import_all.ensures.adds c.in_ok-export_all.ensures.adds c.in_ok-import_all.ensures.distinct c.in_ok-export_all.ensures.distinct
