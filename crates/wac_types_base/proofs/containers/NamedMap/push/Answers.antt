use Rattle.std.proofs.Common.{◌∙◌}
use Rattle.std.specs.Prelude.{string_bytes}
use Rattle.wac_types_base.proofs.Looked.{put_entry-new}
use Rattle.wac_types_base.proofs.containers.NamedMap.push.Goals as goal

pub returns-clause-ok : goal.returns-clause-ok
returns-clause-ok g c = c.in_ok-insert.ensures.ok ∙ put_entry-new c.args.self.now (string_bytes c.args.name) c.args.value c.requires
