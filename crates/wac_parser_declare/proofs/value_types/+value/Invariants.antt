use Rattle.std.proofs.Common.{◌≡◌, List, [], Option, map, drop}
use Rattle.wac_types_base.specs.Collection.{Grows}
use Rattle.wac_types_base.specs.Stated.{Stated}
use Rattle.wac_parser_tree.specs.Trees as t
use Rattle.wac_parser_tree.specs.Views.{view_ty}
use Rattle.wac_parser_declare.specs.Packages.{SamePackages}
use Rattle.wac_parser_declare.specs.ValueTypes.{values}
use Rattle.wac_parser_declare.specs.Holding.{AreValues, NamesStand, scope_of}
use Rattle.wac_parser_declare.proofs.value_types.+value.Given as goal

abbrev pub invariant-member_types-loop-member : goal.invariant-member_types-loop-member
invariant-member_types-loop-member g l = record {
  grows : Grows (g.T.GrowingTypes.collection l.initial.types) (g.T.GrowingTypes.collection l.types);
  packages : SamePackages (g.T.GrowingTypes.packages l.initial.types) (g.T.GrowingTypes.packages l.types);
  names : NamesStand (g.T.GrowingTypes.collection l.types) l.names;
  os : List (Option Stated);
  held : AreValues (g.T.GrowingTypes.collection l.types) os l.found;
  rest : values (scope_of (g.T.GrowingTypes.collection l.initial.types) l.names) [] (t.tys (map view_ty l.members.items))
      ≡ values (scope_of (g.T.GrowingTypes.collection l.initial.types) l.names) os (t.tys (map view_ty (drop l.member-index l.member-items)));
}
