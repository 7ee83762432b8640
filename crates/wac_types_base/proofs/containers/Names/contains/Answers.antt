use Rattle.std.proofs.Common.{◌∙◌, ap}
use Rattle.wac_types_base.specs.Entries.{has_name}
use Rattle.wac_types_base.proofs.Looked.{any-texts}
use Rattle.wac_types_base.proofs.containers.Names.contains.Goals as goal

pub returns : goal.returns
returns c = c.contains.ensures ∙ any-texts c.args.name.now c.self.inside.set.keys ∙ ap (λ l. has_name l c.args.name.now) c.self.view_is
