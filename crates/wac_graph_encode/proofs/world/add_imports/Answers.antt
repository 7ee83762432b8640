use Rattle.std.proofs.Common.{arith}
use Rattle.wac_types_base.proofs.Again.{all_copied}
use Rattle.wac_types_parts.specs.Parts.{imports_of}
use Rattle.wac_graph_encode.proofs.Exported.{import_next}
use Rattle.wac_graph_encode.proofs.world.add_imports.Goals as goal

pub loop-at-preserved : goal.loop-at-preserved
loop-at-preserved c =
    import_next (imports_of c.args.types.now c.args.world) c.import_count-at-end.ensures.distinct c.loop-at.at c.import_count-at-end.result c.import_count-at-end.ensures.len c.loop-at-test.true c.loop-at.imports c.add_import.new.imports
    c.in_ok-add_import.ensures c.loop-at.invariant

pub returns : goal.returns
returns c = all_copied (imports_of c.args.types.now c.args.world) c.loop-at.imports c.loop-at.at c.loop-at.invariant (omega (arith, c.loop-at-test.false, c.import_count-at-end.ensures.len))
