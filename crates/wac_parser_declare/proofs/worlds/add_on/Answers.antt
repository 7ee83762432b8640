use Rattle.wac_parser_refusals.specs.Causes.{DuplicateWorldItem}
use Rattle.wac_parser_declare.specs.InWorlds.{slot_ident}
use Rattle.wac_parser_declare.proofs.InIncludes.{put_there, there_already}
use Rattle.wac_parser_declare.proofs.worlds.add_on.Goals as goal

pub returns-then-branch-clause-outcome : goal.returns-then-branch-clause-outcome
returns-then-branch-clause-outcome c d =
    let s = c.args.slot in
    put_there d (DuplicateWorldItem s.kind s.name.now s.world.now) c.args.stand.now c.add_new.new.entries c.args.item (slot_ident s) c.in_ok-add_new.field-0 c.in_ok-add_new.ensures.added c.if-branch.true

pub returns-else-branch-clause-outcome : goal.returns-else-branch-clause-outcome
returns-else-branch-clause-outcome c d =
    let s = c.args.slot in
    there_already d (DuplicateWorldItem s.kind s.name.now s.world.now) c.args.stand.now c.add_new.new.entries c.args.item (slot_ident s) c.in_ok-add_new.field-0 c.in_ok-add_new.ensures.added c.if-branch.false
    c.duplicate_world_item.result c.duplicate_world_item.ensures
