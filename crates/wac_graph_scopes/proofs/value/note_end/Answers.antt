use Rattle.std.proofs.Common.{Some, ap, ◌∙◌}
use Rattle.wac_types_base.specs.declared.item.ItemKind.{ItemKind}
use Rattle.wac_types_fit.specs.Trees.{tree_in}
use Rattle.wac_graph_scopes.proofs.PlaceLaws.{known_pushed}
use Rattle.wac_graph_scopes.proofs.StockLaws.{keeps_listed}
use Rattle.wac_graph_scopes.proofs.value.note_end.Goals as goal

pub returns-in_ok-remember-in-None-clause-remembers : goal.returns-in_ok-remember-in-None-clause-remembers
returns-in_ok-remember-in-None-clause-remembers c types w outer i h e =
    c.in_ok-remember-in-None.ensures.known w types outer i h (record { reads = e ∙ ap (λ v. Some (tree_in types (ItemKind.Value v))) c.in-Defined.is }) (λ is. absurd (cc is))

pub returns-in_ok-remember-in-None-clause-keeps : goal.returns-in_ok-remember-in-None-clause-keeps
returns-in_ok-remember-in-None-clause-keeps c =
    keeps_listed c.args.scope.now c.remember.new.self (known_pushed c.args.scope.now.known.all.items c.remember.new.self.known.all.items _ c.in_ok-remember-in-None.ensures.all) c.remember.ensures.resources
