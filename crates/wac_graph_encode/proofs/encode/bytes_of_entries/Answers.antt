use Rattle.std.proofs.Common.{map}
use Rattle.wac_graph_bytes.specs.Views.{view}
use Rattle.wac_graph_encode.proofs.Finishing.{spelled_so, tells_so}
use Rattle.wac_graph_encode.proofs.encode.bytes_of_entries.Goals as goal

pub returns-clause-spelled : goal.returns-clause-spelled
returns-clause-spelled c = spelled_so (map view c.args.entries.now) _ _ c.new-bytes.result.items c.push_component.new.out.items c.new-bytes.ensures.items c.in_ok-push_component.ensures

pub returns-clause-processor : goal.returns-clause-processor
returns-clause-processor c = tells_so _ _ c.as_ref-processor.ensures.value (map view c.args.entries.now) _ c.new-bytes.result.items c.push_component.new.out.items c.new-bytes.ensures.items c.in_ok-push_component.ensures.0
