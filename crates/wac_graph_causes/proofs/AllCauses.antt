-- What cannot be written, in the words of a graph's composition.
use Rattle.std.proofs.Common.{◌≡◌, ℕ, Bool, true, false, Option, None, refl, sym, ap, subst, ◌∙◌}
use Rattle.wac_types_base.proofs.Loops.{map-map}
use Rattle.wac_graph_core.specs.Graph.{Graph, IsGraph}
use Rattle.wac_composition.specs.Composition.{Placed}
use Rattle.wac_composition.specs.Writable.{definition_unwritable, package_unwritable}
use Rattle.std.specs.Option.{option_or}
use Rattle.wac_composition.specs.Conflicts.{Cause, dependencies_of, placed}
use Rattle.wac_graph_asks.specs.declared.asks.Asked.{Asked}
use Rattle.wac_graph_asks.specs.declared.outers.Outers.{Outers}
use Rattle.wac_graph_asks.specs.Asked.{placed_in}
use Rattle.wac_graph_asks.specs.Graphs.{composition_of}
use Rattle.wac_graph_causes.specs.declared.error.Unwritten.{Unwritten}
use Rattle.wac_graph_causes.specs.Unwritable.{TellsUnwritable, TellsUnwritten, first_unwritable, alias_cause, outer_cause, outers_in, outers_of, defined_in, dependencies_at, packages_unless, types_cause, IsWhole, unwritten_cause}
use Rattle.wac_graph_causes.proofs.FirstCauses.{told_first, told_after, none_after}
use Rattle.wac_graph_causes.proofs.Dependencies.{packages_listed}

-- all but the aliases, in the composition
abbrev rest_cause : (define : Bool) → Graph → Option (Cause ℕ)
rest_cause define g =
    option_or (outer_cause (outers_of g)) (option_or (first_unwritable (definition_unwritable (outers_of g)) (placed (composition_of g).definitions)) (first_unwritable package_unwritable (dependencies_of define (composition_of g))))

module _ (g : Graph) (sound : IsGraph g) (asked : Asked) (outers : Outers) (h : IsWhole g asked outers) where
  outers_are : outers_in asked outers ≡ outers_of g
  outers_are = h.all.imports.imports

  definitions_are : defined_in g.types asked.definitions.items ≡ placed (composition_of g).definitions
  definitions_are = sym (map-map (λ (d : Placed ℕ). (d.name, d.item)) (placed_in g.types) asked.definitions.items) ∙ ap placed h.definitions

  packages_are : (define : Bool) → packages_unless define g asked ≡ first_unwritable package_unwritable (dependencies_of define (composition_of g))
  packages_are true = refl
  packages_are false = ap (first_unwritable package_unwritable) (ap (dependencies_at g) h.all.packages ∙ packages_listed g sound)

  module _ (define : Bool) where
    types_are : types_cause define g asked outers ≡ rest_cause define g
    types_are = λ i. option_or (outer_cause (outers_are i)) (option_or (first_unwritable (definition_unwritable (outers_are i)) (definitions_are i)) (packages_are define i))

    pub none_unwritten : alias_cause g ≡ None → types_cause define g asked outers ≡ None → unwritten_cause define g ≡ None
    none_unwritten aliases types = none_after (alias_cause g) (rest_cause define g) aliases (sym types_are ∙ types)

    pub types_told : (e : Unwritten) → alias_cause g ≡ None → TellsUnwritable (types_cause define g asked outers) e → TellsUnwritten define g e
    types_told e aliases t = told_after (alias_cause g) (rest_cause define g) e aliases (subst (λ o. TellsUnwritable o e) types_are t)

pub aliases_told : (define : Bool) (g : Graph) (e : Unwritten) → TellsUnwritable (alias_cause g) e → TellsUnwritten define g e
aliases_told define g e t = told_first (alias_cause g) (rest_cause define g) e t
