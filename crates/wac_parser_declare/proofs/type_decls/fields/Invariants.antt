use Rattle.std.proofs.Common.{◌≡◌, [], map, drop}
use Rattle.wac_types_base.specs.Collection.{Grows}
use Rattle.wac_types_base.specs.Entries.{with_values}
use Rattle.wac_parser_tree.specs.Views.{view_field}
use Rattle.wac_parser_refusals.specs.Causes.{each}
use Rattle.wac_parser_declare.specs.Declarations.{field_of}
use Rattle.wac_parser_declare.specs.Holding.{EachStands, ValueStands, scope_of, stated_value}
use Rattle.wac_parser_declare.specs.Packages.{SamePackages}
use Rattle.wac_parser_declare.proofs.type_decls.fields.Given as goal

-- what is left over what was found gives the same as all
abbrev pub invariant-loop-field : goal.invariant-loop-field
invariant-loop-field g l = record {
  grows : Grows (g.T.GrowingTypes.collection l.initial.types) (g.T.GrowingTypes.collection l.types);
  packages : SamePackages (g.T.GrowingTypes.packages l.initial.types) (g.T.GrowingTypes.packages l.types);
  stand : EachStands (ValueStands (g.T.GrowingTypes.collection l.types)) l.found;
  rest : each (field_of l.decl.id.string.now (scope_of (g.T.GrowingTypes.collection l.initial.types) l.names)) [] (map view_field l.decl.fields.items)
      ≡ each (field_of l.decl.id.string.now (scope_of (g.T.GrowingTypes.collection l.initial.types) l.names)) (with_values (stated_value (g.T.GrowingTypes.collection l.types)) l.found) (map view_field (drop l.field-index l.field-items));
}
