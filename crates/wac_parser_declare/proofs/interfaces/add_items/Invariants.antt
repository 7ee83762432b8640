use Rattle.std.proofs.Common.{map, drop}
use Rattle.wac_types_base.specs.Collection.{Grows}
use Rattle.wac_parser_tree.specs.Views.{view_interface_item}
use Rattle.wac_parser_refusals.specs.Causes.{each}
use Rattle.wac_parser_declare.specs.Held.{BodyStands, holder_of, stated_body}
use Rattle.wac_parser_declare.specs.Interfaces.{interface_item}
use Rattle.wac_parser_declare.specs.Packages.{SamePackages}
use Rattle.wac_parser_declare.proofs.BodyLoops.{Leaves}
use Rattle.wac_parser_declare.proofs.interfaces.add_items.Given as goal

-- what is left over what was found gives the same as all
abbrev pub invariant-loop-item : goal.invariant-loop-item
invariant-loop-item g l =
    let old = g.T.GrowingTypes.collection l.initial.types in
    let now = g.T.GrowingTypes.collection l.types in
    let known = g.T.GrowingTypes.packages l.initial.types in
    record {
      grows : Grows old now;
      packages : SamePackages known (g.T.GrowingTypes.packages l.types);
      body : BodyStands now l.body;
      rest : Leaves (λ x. interface_item x (holder_of l.holder)) view_interface_item l.context old known
          (λ x. each (interface_item x (holder_of l.holder)) (stated_body old l.initial.body) (map view_interface_item l.items.items))
          now l.body (drop l.item-index l.item-items);
    }
