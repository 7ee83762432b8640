use Rattle.std.proofs.Common.{List, [], ◌∷◌, ◌++◌, map, ap, subst, ◌∙◌}
use Rattle.std.proofs.lemmas.List.{map-append}
use Rattle.std.proofs.lemmas.Result.{on_ok_weaker}
use Rattle.wac_types_base.specs.Entries.{Name, names_of}
use Rattle.wac_types_base.specs.Graph.{Among}
use Rattle.wac_types_base.proofs.Lists.{not_among}
use Rattle.wac_graph_bytes.specs.declared.entry.Entry.{Entry as CodeEntry}
use Rattle.wac_graph_bytes.specs.Entries.{Entry}
use Rattle.wac_graph_bytes.specs.Views.{view}
use Rattle.wac_graph_encode.specs.Standing.{type_place}
use Rattle.wac_graph_encode.specs.Writing.{exported_as}
use Rattle.wac_graph_encode.proofs.declarations.add_export.Goals as goal

pub push-requires : goal.push-requires
push-requires c m =
    not_among (names_of c.args.exported.now) c.args.one.now.name c.requires (subst (λ (n : Name). Among n (names_of c.args.exported.now)) (c.in_ok-name.ensures.ok ∙ c.as_str.ensures) m)

pub returns : goal.returns
returns c =
    let a = c.in_ok-push_export.ensures in
    let old = c.args.entries.now.items in
    let reads =
    ap (λ (l : List CodeEntry). map view l) a.added ∙ map-append view old (a.entry ∷ [])
    ∙ ap (λ (e : Entry). map view old ++ e ∷ []) (a.is ∙ ap (λ (n : Name). exported_as n (type_place c.args.index)) c.as_str-2.ensures) in
    on_ok_weaker c.push.result (λ e. (reads, e ∙ ap (λ (n : Name). c.args.exported.now ++ (n, c.args.one.now.node) ∷ []) (c.in_ok-name.ensures.ok ∙ c.as_str.ensures))) c.push.ensures.ok
