-- What a map of names ends as, once a reference into it has ended.
use Rattle.std.specs.Prelude.{List, Option}
use Rattle.std.specs.Borrow.{Fml, RattleType, MutBor, LendsIf}
use Rattle.std.specs.HashMap.Lent.{HashMembers}
use Rattle.wac_types_names.specs.NameMaps.{Entry, put_value}
use Rattle.wac_types_names.specs.contracts.names.NameMap.{the_row}

module _ (K V : RattleType) (key : HashMembers K.Denot) where
  -- the key has the last value written through r, and at `None` the map stays as it is
  abbrev pub lends_value : MutBor (List (Entry K.Denot V.Denot)) → K.Denot → Option (MutBor V.Denot) → Fml
  lends_value m k r =
      LendsIf (the_row K V (record { eq = key.eq }) (record { hash_input = key.hash_input })) V m r
      (put_value key.eq m.now k) m.now
