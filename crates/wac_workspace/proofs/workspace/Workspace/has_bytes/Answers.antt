use Rattle.std.proofs.Common.{IsTrue, ◌↔◌, List, subst}
use Rattle.wac_workspace.specs.declared.entries.Entry.{Entry}
use Rattle.wac_workspace.specs.Packages.{HasBytes}
use Rattle.wac_workspace.proofs.workspace.Workspace.has_bytes.Goals as goal

pub returns : goal.returns
returns c = rw (← c.self.view_is) (subst (λ (es : List Entry). IsTrue c.holds_bytes.result ↔ HasBytes es c.args.bytes.now) c.deref.ensures.value c.holds_bytes.ensures)
