use Rattle.std.proofs.Common.{subst, List}
use Rattle.wac_types_base.specs.Graph.{Among}
use Rattle.wac_workspace.specs.declared.entries.Entry.{Entry}
use Rattle.wac_workspace.specs.View.{HasWorld}
use Rattle.wac_workspace.proofs.workspace.Workspace.get.Goals as goal
use Rattle.wac_types_base.proofs.Adding.{All-among}

pub returns-in-Some : goal.returns-in-Some
returns-in-Some c =
    let entry : Entry = c.in-Some.entry.now in
    let there : Among entry c.self.inside.entries.items = subst (λ (es : List Entry). Among entry es) c.deref.ensures.value c.in-Some.ensures.found.0 in
    rw (← c.self.view_is) (entry, there, c.in-Some.ensures.found.1, record { «package» = c.refer.ensures.«package»; types = c.refer.ensures.types }, All-among HasWorld c.self.inside.entries.items entry c.self.invariant.0 there)
