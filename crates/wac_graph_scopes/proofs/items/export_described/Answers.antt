use Rattle.std.proofs.Common.{◌≡◌, ◌∷◌, refl, ap, ◌∙◌, string_bytes}
use Rattle.wac_types_base.specs.Entries.{Name}
use Rattle.wac_types_base.specs.Tree.{Tree}
use Rattle.wac_graph_bytes.specs.declared.value.Sort.{Sort}
use Rattle.wac_types_fit.specs.Trees.{tree_in}
use Rattle.wac_graph_bytes.specs.Counting.{description_sort}
use Rattle.wac_graph_bytes.specs.Typing.{Item, exports_inside, described}
use Rattle.wac_graph_scopes.proofs.WritingLaws.{export_declared, exported_index, noted_item}
use Rattle.wac_graph_scopes.proofs.StockLaws.{KeepsTypes-trans, keeps_same}
use Rattle.wac_graph_scopes.proofs.items.export_described.Goals as goal

pub returns-clause-exports : goal.returns-clause-exports
returns-clause-exports c w outer i h stands sorted e =
    let types = c.args.types.now in
    let t = tree_in types c.args.item.kind in
    let d = c.args.description in
    let n = c.args.item.name.now in
    let m = string_bytes c.in_ok-text.text in
    let same : m ≡ n = c.in_ok-text.ensures.ok in
    let x : Sort × Tree = (description_sort d, t) in
    let reads = ap (λ (p : Name). described w (i.here ∷ outer) p d) same ∙ e in
    let a = c.in_ok-index.ensures.adds w types outer i (exports_inside m x i) (Item m (description_sort d) t) h (export_declared w types outer i c.in_ok-text.text d x reads) refl in
    exported_index w types outer i m n c.args.item.kind d c.note.new.self c.in_ok-index.index same sorted a.index
    (c.in_ok-note.ensures.notes w outer (exports_inside m x i) a.stands (noted_item w types outer i m c.args.item.kind d c.in_ok-index.index stands sorted a.index))

pub returns-clause-keeps : goal.returns-clause-keeps
returns-clause-keeps c =
    let s = c.args.scope.now.types in
    let m = c.add_item.new.self.types in
    KeepsTypes-trans s m c.note.new.self.types (keeps_same s m c.add_item.ensures.known c.add_item.ensures.resources) c.in_ok-note.ensures.keeps
