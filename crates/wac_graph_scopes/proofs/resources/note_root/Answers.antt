use Rattle.std.proofs.Common.{◌∷◌, sym, subst}
use Rattle.wac_types_base.specs.Entries.{Name}
use Rattle.wac_graph_scopes.specs.Scopes.{IsResource}
use Rattle.wac_graph_scopes.proofs.resources.note_root.Goals as goal

pub returns-in_ok-add_resource-in-None-clause-notes : goal.returns-in_ok-add_resource-in-None-clause-notes
returns-in_ok-add_resource-in-None-clause-notes c w types outer i h r =
    c.in_ok-add_resource-in-None.ensures.notes w types outer i h (subst (λ (n : Name). IsResource w (i.here ∷ outer) n c.args.index) (sym c.in_ok-name-in-None.ensures.ok) r)
