-- Interfaces that are looked at one after another.
use Rattle.std.proofs.Common.{List}
use Rattle.wac_types_base.specs.declared.defined.Interface.{Interface}
use Rattle.wac_types_base.specs.Graph.{Among}
use Rattle.wac_types_base.specs.Entries.{AreDistinct, names_of}

-- none of them exports a name twice
abbrev pub AllNamed : List Interface → Type 0
AllNamed xs = (x : Interface) → Among x xs → AreDistinct (names_of x.exports)
