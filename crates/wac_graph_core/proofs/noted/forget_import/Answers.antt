use Rattle.std.proofs.Common.{◌≡◌, Some, refl, sym, ap, ◌∙◌}
use Rattle.std.specs.Prelude.{string_bytes}
use Rattle.wac_graph_core.specs.Nodes.{role_of}
use Rattle.wac_graph_core.specs.Exporting.{place_of}
use Rattle.wac_graph_core.proofs.ExportSteps.{place_found}
use Rattle.wac_graph_core.proofs.Noting.{import_forgotten}
use Rattle.wac_graph_core.proofs.noted.forget_import.Goals as goal

pub returns-in-Some : goal.returns-in-Some
returns-in-Some c =
    let n = string_bytes c.in-Import.name in
    let place : place_of c.args.imports.now.items n ≡ Some c.in-Some.at = cc (c.place_of.ensures, c.as_str.ensures.value, c.in-Some.is) in
    let e = place_found c.args.imports.now.items n c.in-Some.at place in
    import_forgotten c.args.imports.now.items c.swap_remove.new.self.items c.args.node.now n (n, e.0) c.in-Some.at c.len.ensures.distinct (sym c.kind.ensures ∙ ap role_of c.in-Import.is) refl e.1
    (c.swap_remove.ensures (n, e.0) e.1)
