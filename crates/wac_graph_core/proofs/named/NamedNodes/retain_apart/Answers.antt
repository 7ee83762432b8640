use Rattle.std.proofs.Common.{◌≡◌, ◌∙◌, ap, not, filter, rules}
use Rattle.std.proofs.lemmas.Map.Made.{filter_same_pairs}
use Rattle.wac_types_base.specs.Entries.{entries_of}
use Rattle.wac_graph_core.specs.Edges.{has}
use Rattle.wac_graph_core.specs.Named.{Named}
use Rattle.wac_graph_core.proofs.NamedLists.{kept_apart}
use Rattle.wac_graph_core.proofs.named.NamedNodes.retain_apart.Goals as goal

pub returns : goal.returns
returns c =
    let es = c.self.inside.map.entries in
    let gone = c.args.gone.now in
    let kept : c.retain.new.self.entries ≡ filter (λ e. not (has gone e.1)) es = filter_same_pairs _ _ _ (λ k v b w f' h. search rules) es c.retain.new.self.entries c.retain.ensures.filtered in
    ap entries_of kept ∙ kept_apart gone es ∙ ap (λ (v : Named). filter (λ e. not (has gone e.1)) v.items) c.self.view_is
