-- What is known of packages stays, and so does where a document stands.
use Rattle.std.proofs.Common.{refl, sym, ap, ◌∙◌}
use Rattle.wac_types_base.specs.Record.{Collection}
use Rattle.wac_types_base.specs.Collection.{Grows}
use Rattle.wac_parser_declare.specs.declared.scope.Context.{Context as Place}
use Rattle.wac_parser_declare.specs.Holding.{NamesStand}
use Rattle.wac_parser_declare.specs.InPaths.{StandsIn}
use Rattle.wac_parser_declare.specs.Packages.{Known, SamePackages, world_if}
use Rattle.wac_parser_declare.specs.Scope.{Context}
use Rattle.wac_parser_declare.proofs.Kept.{scope-kept}

pub same_refl : (f : Known) → SamePackages f f
same_refl f = record { same = λ k. refl; rest = λ k. refl }

pub same_trans : (f g h : Known) → SamePackages f g → SamePackages g h → SamePackages f h
same_trans f g h p q = record { same = λ k. q.same k ∙ p.same k; rest = λ k. q.rest k ∙ p.rest k }

-- a document stands where it stood while its collection grows
pub stands_in_stays : (x : Context) (at : Place) (c d : Collection) (f g : Known) → Grows c d → SamePackages f g → NamesStand c at.root.now → StandsIn x at c f → StandsIn x at d g
stands_in_stays x at c d f g grows same names s =
    record { own = s.own; root = s.root ∙ sym (scope-kept c d grows at.root.now names); packages = λ k. s.packages k ∙ ap world_if (sym (same.same k)) }
