use Rattle.std.proofs.Common.{◌∙◌, ap}
use Rattle.std.specs.Prelude.{string_bytes}
use Rattle.wac_types_base.specs.Entries.{entries_of, put_entry}
use Rattle.wac_types_base.proofs.Looked.{inserted}
use Rattle.wac_types_base.proofs.containers.NamedMap.insert.Goals as goal

pub returns-clause-ok : goal.returns-clause-ok
returns-clause-ok g c = ap entries_of c.in_ok-old.ensures.entries ∙ inserted c.self.inside.map.entries c.args.name c.args.value ∙ ap (λ l. put_entry l (string_bytes c.args.name) c.args.value) c.self.view_is
