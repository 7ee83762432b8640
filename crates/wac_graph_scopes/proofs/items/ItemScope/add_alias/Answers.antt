use Rattle.std.proofs.Common.{ap, ◌∙◌}
use Rattle.wac_types_base.specs.Entries.{Name}
use Rattle.wac_graph_bytes.specs.Typing.{export_named}
use Rattle.wac_graph_scopes.proofs.ItemLaws.{export_aliased}
use Rattle.wac_graph_scopes.proofs.items.ItemScope.add_alias.Goals as goal

pub returns-clause-aliases : goal.returns-clause-aliases
returns-clause-aliases c w cc outer i t u x h a named is of =
    export_aliased w cc outer i c.args.instance c.in_ok-name.name t u x c.add_type.new.self c.add_type.result a (ap (λ (n : Name). export_named n t) c.in_ok-name.ensures.ok ∙ named) is of (λ m e. c.add_type.ensures.adds w cc outer i m h e)
