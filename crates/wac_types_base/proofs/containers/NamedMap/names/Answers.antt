use Rattle.std.proofs.Common.{◌∙◌, ap}
use Rattle.wac_types_base.specs.Entries.{texts_of, names_of}
use Rattle.wac_types_base.proofs.Looked.{names-entries}
use Rattle.wac_types_base.proofs.containers.NamedMap.names.Goals as goal

pub returns : goal.returns
returns g c = ap texts_of (c.as_slice.ensures ∙ c.keys.ensures.rest) ∙ names-entries c.self.inside.map.entries ∙ ap names_of c.self.view_is
