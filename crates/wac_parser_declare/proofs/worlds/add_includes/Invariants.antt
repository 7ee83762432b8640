use Rattle.std.proofs.Common.{map, drop}
use Rattle.wac_types_base.specs.Collection.{Grows}
use Rattle.wac_parser_tree.specs.Views.{view_world_item}
use Rattle.wac_parser_refusals.specs.Causes.{each}
use Rattle.wac_parser_declare.specs.Held.{BodyStands, stated_body}
use Rattle.wac_parser_declare.specs.Packages.{SamePackages}
use Rattle.wac_parser_declare.specs.Worlds.{world_include}
use Rattle.wac_parser_declare.proofs.BodyLoops.{Leaves}
use Rattle.wac_parser_declare.proofs.worlds.add_includes.Given as goal

-- what is left over what was found gives the same as all
abbrev pub invariant-loop-part : goal.invariant-loop-part
invariant-loop-part g l =
    let old = g.T.GrowingTypes.collection l.initial.types in
    let now = g.T.GrowingTypes.collection l.types in
    let known = g.T.GrowingTypes.packages l.initial.types in
    record {
      grows : Grows old now;
      packages : SamePackages known (g.T.GrowingTypes.packages l.types);
      body : BodyStands now l.body;
      rest : Leaves (λ x. world_include x l.world) view_world_item l.context old known
          (λ x. each (world_include x l.world) (stated_body old l.initial.body) (map view_world_item l.parts.items))
          now l.body (drop l.part-index l.part-items);
    }
