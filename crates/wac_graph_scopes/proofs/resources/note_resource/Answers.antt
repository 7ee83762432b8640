use Rattle.std.proofs.Common.{Some, sym, ap, ◌∙◌}
use Rattle.wac_types_base.specs.declared.item.ItemKind.{ItemKind}
use Rattle.wac_types_base.specs.declared.item.«Type».{«Type» as TypeKind}
use Rattle.wac_types_fit.proofs.Unfolded.{same_tree}
use Rattle.wac_graph_scopes.proofs.resources.note_resource.Goals as goal

pub returns-clause-notes : goal.returns-clause-notes
returns-clause-notes c stands w outer i h e =
    let types = c.args.types.now in
    let root = c.resolve_resource.ensures in
    let same = same_tree types c.see_acyclic.ensures (ItemKind.Ty (TypeKind.Resource c.resolve_resource.result)) (ItemKind.Ty (TypeKind.Resource c.args.id)) root.stands stands root.tree in
    let own = c.in_ok-add_entry.ensures.notes types w outer i h e in
    let both = c.in_ok-add_entry-2.ensures.notes types w outer i own (record { reads = e.reads ∙ ap Some (sym same) }) in
    c.note_root.ensures.notes w types outer i both (record { reads = e.reads ∙ ap Some (c.root_name.ensures stands) })
