use Rattle.std.proofs.Common.{◌≡◌, drop}
use Rattle.wac_parser_declare.specs.InIncludes.{renamings}
use Rattle.wac_parser_declare.specs.Worlds.{renaming}
use Rattle.wac_parser_declare.proofs.includes.renaming.Given as goal

abbrev pub invariant-loop-item : goal.invariant-loop-item
invariant-loop-item l = renaming (renamings l.with.items) l.name ≡ renaming (renamings (drop l.item-index l.item-items)) l.name
