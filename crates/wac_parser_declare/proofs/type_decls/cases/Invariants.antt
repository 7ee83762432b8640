use Rattle.std.proofs.Common.{◌≡◌, [], map, drop}
use Rattle.wac_types_base.specs.Collection.{Grows, StandsIf}
use Rattle.wac_types_base.specs.Entries.{with_values}
use Rattle.wac_parser_tree.specs.Views.{view_variant_case}
use Rattle.wac_parser_refusals.specs.Causes.{each}
use Rattle.wac_parser_declare.specs.Declarations.{case_of}
use Rattle.wac_parser_declare.specs.Holding.{EachStands, scope_of, stated_if}
use Rattle.wac_parser_declare.specs.Packages.{SamePackages}
use Rattle.wac_parser_declare.proofs.type_decls.cases.Given as goal

-- what is left over what was found gives the same as all
abbrev pub invariant-loop-case : goal.invariant-loop-case
invariant-loop-case g l = record {
  grows : Grows (g.T.GrowingTypes.collection l.initial.types) (g.T.GrowingTypes.collection l.types);
  packages : SamePackages (g.T.GrowingTypes.packages l.initial.types) (g.T.GrowingTypes.packages l.types);
  stand : EachStands (StandsIf (g.T.GrowingTypes.collection l.types)) l.found;
  rest : each (case_of l.decl.id.string.now (scope_of (g.T.GrowingTypes.collection l.initial.types) l.names)) [] (map view_variant_case l.decl.cases.items)
      ≡ each (case_of l.decl.id.string.now (scope_of (g.T.GrowingTypes.collection l.initial.types) l.names)) (with_values (stated_if (g.T.GrowingTypes.collection l.types)) l.found) (map view_variant_case (drop l.case-index l.case-items));
}
