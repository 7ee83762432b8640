use Rattle.std.proofs.Common.{◌≡◌, ◌∷◌, refl, sym, ap, ◌∙◌, subst, string_bytes}
use Rattle.wac_types_base.specs.Entries.{Name}
use Rattle.wac_types_base.specs.Tree.{Tree}
use Rattle.wac_types_fit.specs.Trees.{tree_in}
use Rattle.wac_graph_bytes.specs.declared.value.Sort.{Sort}
use Rattle.wac_graph_bytes.specs.Counting.{description_sort}
use Rattle.wac_graph_bytes.specs.Typing.{Item, imports_inside, described}
use Rattle.wac_graph_scopes.specs.declared.imports.SortIndex.{SortIndex}
use Rattle.wac_graph_scopes.specs.Imports.{ImportsItem}
use Rattle.wac_graph_scopes.proofs.WritingLaws.{noted_import}
use Rattle.wac_graph_scopes.proofs.ImportLaws.{import_declared, imported_item}
use Rattle.wac_graph_scopes.proofs.imports.ImportScope.import.Goals as goal

pub returns-clause-imports : goal.returns-clause-imports
returns-clause-imports c w outer i h stands sorted e =
    let types = c.args.types.now in
    let t = tree_in types c.args.import.kind in
    let d = c.args.description in
    let n = c.args.import.name.now in
    let m = string_bytes c.in_ok-text.text in
    let same : m ≡ n = c.in_ok-text.ensures.ok in
    let x : Sort × Tree = (description_sort d, t) in
    let reads = ap (λ (p : Name). described w (i.here ∷ outer) p d) same ∙ e in
    let a = c.in_ok-index.ensures.adds w types outer i (imports_inside m x i) (Item m (description_sort d) t) h (import_declared w types outer i c.in_ok-text.text d x reads) refl in
    let s = c.in_ok-note.ensures.notes w outer (imports_inside m x i) a.stands (noted_import w types outer i m c.args.import.kind d c.in_ok-index.index stands sorted a.index) in
    let sorted_as = ap (λ (z : Sort). let p : SortIndex = record { sort = z; index = c.in_ok-index.index } in p) (sym c.sort_of.ensures) in
    subst (λ (p : SortIndex). ImportsItem w types outer i n t d c.note.new.self p) sorted_as (imported_item w types outer i m n t d c.note.new.self c.in_ok-index.index same s a.index)
