use Rattle.std.proofs.Common.{◌≡◌, [], drop}
use Rattle.wac_parser_refusals.specs.Causes.{each}
use Rattle.wac_parser_declare.specs.InIncludes.{renamings}
use Rattle.wac_parser_declare.specs.Worlds.{with_name}
use Rattle.wac_parser_declare.proofs.includes.check_with_names.Given as goal

abbrev pub invariant-loop-item : goal.invariant-loop-item
invariant-loop-item l = each with_name [] (renamings l.with.items) ≡ each with_name l.found (renamings (drop l.item-index l.item-items))
