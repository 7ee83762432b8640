use Rattle.std.proofs.Common.{◌≡◌, map, drop}
use Rattle.wac_parser_tree.specs.Views.{view_use_item}
use Rattle.wac_parser_refusals.specs.Causes.{each}
use Rattle.wac_parser_declare.specs.Bodies.{use_one}
use Rattle.wac_parser_declare.specs.Held.{BodyStands, holder_of, stated_body}
use Rattle.wac_parser_declare.specs.InUses.{stated_interface}
use Rattle.wac_parser_declare.proofs.uses.use_items.Given as goal

-- what is left over what was found gives the same as all
abbrev pub invariant-loop-item : goal.invariant-loop-item
invariant-loop-item l = record {
  body : BodyStands l.types l.body;
  rest : each (use_one (holder_of l.holder) l.from.path.now (stated_interface l.types l.from.interface)) (stated_body l.types l.initial.body) (map view_use_item l.items.items)
      ≡ each (use_one (holder_of l.holder) l.from.path.now (stated_interface l.types l.from.interface)) (stated_body l.types l.body) (map view_use_item (drop l.item-index l.item-items));
}
