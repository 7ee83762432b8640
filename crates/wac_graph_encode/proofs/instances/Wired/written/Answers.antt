use Rattle.std.specs.Option.{option_copied}
use Rattle.std.proofs.Common.{List, Option, Some, IsSome, ap, sym, subst, ◌∙◌}
use Rattle.wac_graph_scopes.specs.declared.imports.SortIndex.{SortIndex}
use Rattle.wac_graph_encode.specs.Standing.{written_under}
use Rattle.wac_graph_encode.proofs.Readying.{alias_there, passed_there}
use Rattle.wac_graph_encode.proofs.WritingSteps.{import_wired}
use Rattle.wac_graph_encode.proofs.instances.Wired.written.Goals as goal

pub place_under-requires : goal.place_under-requires
place_under-requires c =
    subst (λ (xs : List (Option SortIndex)). IsSome (written_under c.args.self.now.places.now xs c.in-Some.name.now)) (sym c.deref.ensures.value)
    (c.requires.ready.imports c.args.node c.in-Some.name.now (sym c.import_name.ensures ∙ ap option_copied c.in-Some.is))

pub returns-in-Some-clause-writes : goal.returns-in-Some-clause-writes
returns-in-Some-clause-writes c define worlds asked h new =
    import_wired c.args.self.now c.see_sound.ensures c.args.node c.in-Some.name.now (sym c.import_name.ensures ∙ ap option_copied c.in-Some.is) (Some c.place_under.result)
    (sym c.place_under.ensures ∙ ap (λ (xs : List (Option SortIndex)). written_under c.args.self.now.places.now xs c.in-Some.name.now) c.deref.ensures.value) define worlds asked h

pub instance-requires-clause-held : goal.instance-requires-clause-held
instance-requires-clause-held c = c.requires.ready.packages c.args.node c.in-Some-package_of.id (sym c.package_of.ensures ∙ c.in-Some-package_of.is)

pub instance-requires-clause-passed : goal.instance-requires-clause-passed
instance-requires-clause-passed c = passed_there c.args.self.now c.see_sound.ensures c.args.node c.in-Some-package_of.id c.args.bound.now (sym c.package_of.ensures ∙ c.in-Some-package_of.is) c.requires.bound c.requires.ready c.requires.needed

pub alias-requires : goal.alias-requires
alias-requires c =
    alias_there c.args.self.now c.see_sound.ensures c.args.node c.requires.there c.requires.ready c.requires.needed (sym c.import_name.ensures ∙ ap option_copied c.in_default.is) (sym c.package_of.ensures ∙ c.in-None.is) c.requires.new
