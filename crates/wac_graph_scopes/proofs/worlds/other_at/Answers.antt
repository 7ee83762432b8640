use Rattle.std.proofs.Common.{◌≡◌, sym, ap, ◌∙◌}
use Rattle.wac_types_base.specs.Entries.{Name, has_name}
use Rattle.wac_types_parts.specs.Parts.{world_exports_of}
use Rattle.wac_types_parts.proofs.PartLaws.{name_at}
use Rattle.wac_graph_scopes.proofs.WritingLaws.{past_names}
use Rattle.wac_graph_scopes.proofs.worlds.other_at.Goals as goal

pub returns-then-contains-clause-none : goal.returns-then-contains-clause-none
returns-then-contains-clause-none c n at =
    let item = c.in-Some.item in
    let there = name_at (world_exports_of c.args.all.types.now c.args.all.world) c.args.at item.name.now item.kind c.in-Some.ensures.entry in
    let same : n ≡ item.name.now = cc (at, there) in
    ap (λ (m : Name). has_name c.args.exported.now m) same ∙ sym c.if-contains.ensures

pub returns-in-None-clause-none : goal.returns-in-None-clause-none
returns-in-None-clause-none c n at = absurd (past_names (world_exports_of c.args.all.types.now c.args.all.world) c.args.at n c.in-None.ensures.none at)
