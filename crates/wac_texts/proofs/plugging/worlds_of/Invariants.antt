use Rattle.std.proofs.Common.{◌≡◌, All, map, take}
use Rattle.wac_graph_plug.specs.Plans.{world_in, WorldStands}
use Rattle.wac_texts.specs.Plugs.{world_of}
use Rattle.wac_texts.proofs.plugging.worlds_of.Given as goal

-- those so far are handed out
abbrev pub invariant-loop-package : goal.invariant-loop-package
invariant-loop-package l = record {
  worlds : map world_in l.worlds.items ≡ map world_of (take l.package-index l.packages);
  stand : All WorldStands l.worlds.items;
}
