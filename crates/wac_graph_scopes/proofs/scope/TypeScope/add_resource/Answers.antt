use Rattle.std.proofs.Common.{refl, ap, ◌∙◌, string_bytes}
use Rattle.wac_types_base.specs.Entries.{value_at}
use Rattle.wac_types_base.proofs.Lists.{put_is}
use Rattle.wac_graph_scopes.proofs.ScopeLaws.{scope_has_resource}
use Rattle.wac_graph_scopes.proofs.StockLaws.{resource_put}
use Rattle.wac_graph_scopes.proofs.scope.TypeScope.add_resource.Goals as goal

pub returns-clause-notes : goal.returns-clause-notes
returns-clause-notes c w cc outer i h r =
    let s = c.args.self.now in
    scope_has_resource w cc outer i s (record s { resources = c.insert.new.self }) _ c.args.index h r refl refl refl c.in_ok-insert.ensures.ok

pub returns-clause-own : goal.returns-clause-own
returns-clause-own c =
    let n = string_bytes c.args.name in
    ap (λ rs. value_at rs n) c.in_ok-insert.ensures.ok ∙ put_is c.args.self.now.resources n c.args.index

pub returns-clause-keeps : goal.returns-clause-keeps
returns-clause-keeps c = record {
  known = λ k m. m;
  resources = resource_put c.args.self.now.resources c.insert.new.self (string_bytes c.args.name) c.args.index c.in_ok-insert.ensures.ok;
}
