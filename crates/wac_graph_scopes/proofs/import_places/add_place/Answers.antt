use Rattle.std.proofs.Common.{sym, subst, ◌∙◌}
use Rattle.wac_types_base.specs.Entries.{Name, IsNew}
use Rattle.wac_types_base.proofs.Lists.{no_value}
use Rattle.wac_graph_scopes.proofs.FoundLaws.{first_kept}
use Rattle.wac_graph_scopes.proofs.import_places.add_place.Goals as goal

pub push-requires : goal.push-requires
push-requires c =
    let found = c.args.found.now in
    subst (λ (n : Name). IsNew n found) (sym c.in_ok-name.ensures.ok) (no_value found c.args.name.now (sym c.contains.ensures ∙ c.if-not-contains.true))

pub returns-else-not-contains : goal.returns-else-not-contains
returns-else-not-contains c = first_kept c.args.found.now c.args.name.now c.args.at (sym c.contains.ensures ∙ c.if-not-contains.false)
