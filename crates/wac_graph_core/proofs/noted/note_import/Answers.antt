use Rattle.std.proofs.Common.{◌≡◌, false, sym, ap, ◌∙◌}
use Rattle.std.specs.Prelude.{is_some, string_bytes}
use Rattle.wac_types_base.specs.Entries.{value_at}
use Rattle.wac_types_base.proofs.Lists.{no_value}
use Rattle.wac_graph_core.specs.Nodes.{role_of}
use Rattle.wac_graph_core.proofs.Noting.{import_noted, succeeded}
use Rattle.wac_graph_core.proofs.noted.note_import.Goals as goal

pub push_import-requires : goal.push_import-requires
push_import-requires c =
    let none : is_some (value_at c.args.imports.now.items (string_bytes c.in-Import.name)) ≡ false = cc (c.get.ensures, c.as_str.ensures.value, c.is_some.ensures, c.if-is_some.false) in
    no_value c.args.imports.now.items (string_bytes c.in-Import.name) none

pub returns-else-is_some : goal.returns-else-is_some
returns-else-is_some c = λ h.
    import_noted c.args.imports.now.items c.push_import.new.imports.items (string_bytes c.in-Import.name) c.args.node.now c.args.id
    (succeeded c.push_import.result _ c.push_import.ensures (sym c.is_ok.ensures.value ∙ h)) (sym c.kind.ensures ∙ ap role_of c.in-Import.is)
