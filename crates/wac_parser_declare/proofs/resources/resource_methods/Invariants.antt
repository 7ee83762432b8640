use Rattle.std.proofs.Common.{◌≡◌, map, drop}
use Rattle.wac_types_base.specs.Collection.{Grows}
use Rattle.wac_parser_tree.specs.Views.{view_resource_method}
use Rattle.wac_parser_refusals.specs.Causes.{each}
use Rattle.wac_parser_declare.specs.Aliases.{stated_resource}
use Rattle.wac_parser_declare.specs.Bodies.{resource_method}
use Rattle.wac_parser_declare.specs.Held.{BodyStands, stated_body}
use Rattle.wac_parser_declare.specs.Packages.{SamePackages}
use Rattle.wac_parser_declare.proofs.resources.resource_methods.Given as goal

-- what is left over what was found gives the same as all
abbrev pub invariant-loop-method : goal.invariant-loop-method
invariant-loop-method g l = record {
  grows : Grows (g.T.GrowingTypes.collection l.initial.types) (g.T.GrowingTypes.collection l.types);
  packages : SamePackages (g.T.GrowingTypes.packages l.initial.types) (g.T.GrowingTypes.packages l.types);
  body : BodyStands (g.T.GrowingTypes.collection l.types) l.body;
  rest : each (resource_method l.owner.name.now (stated_resource (g.T.GrowingTypes.collection l.initial.types) l.owner.id)) (stated_body (g.T.GrowingTypes.collection l.initial.types) l.initial.body) (map view_resource_method l.methods.items)
      ≡ each (resource_method l.owner.name.now (stated_resource (g.T.GrowingTypes.collection l.initial.types) l.owner.id)) (stated_body (g.T.GrowingTypes.collection l.types) l.body) (map view_resource_method (drop l.method-index l.method-items));
}
