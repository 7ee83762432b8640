use Rattle.wac_parser_resolve.proofs.TargetMet.{export_stands}
use Rattle.wac_parser_resolve.proofs.targets.exported.Goals as goal

pub returns-clause-stands : goal.returns-clause-stands
returns-clause-stands c = export_stands c.args.graph.now c.get_export.result c.args.name.now c.see_sound.ensures c.get_export.ensures
