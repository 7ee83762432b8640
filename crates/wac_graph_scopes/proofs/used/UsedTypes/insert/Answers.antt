use Rattle.std.proofs.Common.{◌∙◌, ap, string_bytes}
use Rattle.wac_types_base.specs.Entries.{imports_in}
use Rattle.wac_graph_scopes.specs.Used.{put_used}
use Rattle.wac_graph_scopes.proofs.UsedNames.{used_put}
use Rattle.wac_graph_scopes.proofs.used.UsedTypes.insert.Goals as goal

pub returns : goal.returns
returns c =
    let u = c.args.used in
    let i = c.in_ok-identifier.identifier in
    let n = c.in_ok-own.own in
    ap imports_in c.in_ok-insert.ensures.entries
    ∙ used_put c.self.inside.found.entries (i, n) u
    ∙ ap (λ us. put_used us (string_bytes i) (string_bytes n) u) c.self.view_is
    ∙ (λ j. put_used c.args.self.now (c.in_ok-identifier.ensures.ok j) (c.in_ok-own.ensures.ok j) u)
