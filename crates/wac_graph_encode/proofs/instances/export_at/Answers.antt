use Rattle.std.proofs.Common.{◌≡◌, ℕ, List, [], ◌++◌, Some, None, slice_get, sym, ap, ◌∙◌, subst}
use Rattle.std.specs.Prelude.{Option, option_to_list}
use Rattle.std.proofs.lemmas.Result.{IfOk-weaker}
use Rattle.wac_types_base.specs.Entries.{Name}
use Rattle.wac_types_base.proofs.Looked.{among-get}
use Rattle.wac_graph_encode.specs.Writing.{AddsExports, other_exports}
use Rattle.wac_graph_encode.proofs.Rearranging.{adds_none}
use Rattle.wac_graph_encode.proofs.instances.export_at.Goals as goal

pub export_other-requires : goal.export_other-requires
export_other-requires c =
    let e : Name × ℕ = (c.in-Some.export.0.now, c.in-Some.export.1) in
    let at : slice_get c.args.graph.now.exports c.args.at ≡ Some e = ap (λ (xs : List (Name × ℕ)). slice_get xs c.args.at) (sym c.exports.ensures) ∙ sym c.in-Some.ensures in
    c.requires e.1 (c.see_sound.ensures.exported.stand e.0 e.1 (among-get c.args.graph.now.exports c.args.at e at))

pub returns-in-Some : goal.returns-in-Some
returns-in-Some c =
    let e : Name × ℕ = (c.in-Some.export.0.now, c.in-Some.export.1) in
    let given = c.args.exported.now in
    let nodes = c.args.nodes.now.entries in
    let at : slice_get c.args.graph.now.exports c.args.at ≡ Some e = ap (λ (xs : List (Name × ℕ)). slice_get xs c.args.at) (sym c.exports.ensures) ∙ sym c.in-Some.ensures in
    IfOk-weaker c.export_other.result _ _
    (λ u a. subst (λ (o : Option (Name × ℕ)). AddsExports nodes (other_exports given (option_to_list o ++ [])) c.args.entries.now.items c.export_other.new.entries.items) (sym at) a) c.export_other.ensures

pub returns-in-None : goal.returns-in-None
returns-in-None c =
    let at : slice_get c.args.graph.now.exports c.args.at ≡ None = ap (λ (xs : List (Name × ℕ)). slice_get xs c.args.at) (sym c.exports.ensures) ∙ sym c.in-None.ensures in
    subst (λ (o : Option (Name × ℕ)). AddsExports c.args.nodes.now.entries (other_exports c.args.exported.now (option_to_list o ++ [])) c.args.entries.now.items c.args.entries.now.items) (sym at) (adds_none c.args.nodes.now.entries c.args.entries.now.items)
