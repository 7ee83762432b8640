use Rattle.std.proofs.Common.{All, take}
use Rattle.wac_texts.specs.Plugs.{IsPackageName, IsReadable}
use Rattle.wac_texts.proofs.plugging.test_names.Given as goal

-- those so far are readable
abbrev pub invariant-loop-plug : goal.invariant-loop-plug
invariant-loop-plug l = record {
  document : IsPackageName l.name;
  socket_is : IsReadable l.socket;
  plugs_are : All IsReadable (take l.plug-index l.plugs);
}
