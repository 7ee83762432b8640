use Rattle.std.proofs.Common.{IsTrue, ◌↔◌, List, subst}
use Rattle.std.specs.Option.{option_copied, option_map}
use Rattle.semver.specs.Identifiers.{parts_of}
use Rattle.wac_workspace.specs.declared.entries.Entry.{Entry}
use Rattle.wac_types_names.specs.Keys.{Key}
use Rattle.wac_workspace.specs.Packages.{HasKey}
use Rattle.wac_workspace.proofs.workspace.Workspace.has_key.Goals as goal

pub returns : goal.returns
returns c =
    let key : Key = (c.args.name.now, option_map parts_of (option_copied c.args.version)) in
    rw (← c.self.view_is) (subst (λ (es : List Entry). IsTrue c.holds_key.result ↔ HasKey es key) c.deref.ensures.value c.holds_key.ensures)
