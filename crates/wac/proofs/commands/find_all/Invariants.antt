use Rattle.std.proofs.Common.{All, take}
use Rattle.std.specs.List.{AllZip}
use Rattle.wac_texts.specs.Worlds.{HasWorld}
use Rattle.wac.specs.Running.{IsFound}
use Rattle.wac.proofs.commands.find_all.Given as goal

-- the packages of the keys so far
abbrev pub invariant-loop-key : goal.invariant-loop-key
invariant-loop-key l = record {
  worlds : All HasWorld l.found.items;
  found : AllZip (IsFound l.workspace.packages) (take l.key-index l.keys) l.found.items;
}
