-- Equality of what a module type imports, in order.
use Rattle.std.specs.Prelude.{List, Bool}
use Rattle.std.specs.Cmp.{IsEquivalence, decided}
use Rattle.std.specs.Hash.{HashWrites, Alike, same_Alike}
use Rattle.wac_types_base.specs.Entries.{Name}
use Rattle.wac_types_base.specs.Equal.{same_columns, same_columns_equiv, fed_columns, fed_columns_alike, same_two, same_two_equiv, fed_two, fed_two_alike}
use Rattle.wac_types_base.specs.declared.core_types.CoreExtern.{CoreExtern}
use Rattle.wac_types_base.specs.contracts.core_types.CoreExternPartialEq.TheImpl.{eq-value as extern_eq}
use Rattle.wac_types_base.specs.contracts.core_types.CoreExternHash.TheImpl.{hash_input-value as extern_fed}
use Rattle.wac_types_base.specs.OneCore.{extern_Decides}

abbrev pub same_imports : List ((Name × Name) × CoreExtern) → List ((Name × Name) × CoreExtern) → Bool
same_imports = same_columns same_two extern_eq.it

pub same_imports_equiv : IsEquivalence same_imports
same_imports_equiv = same_columns_equiv same_two_equiv (decided extern_eq.it extern_Decides)

abbrev pub fed_imports : List ((Name × Name) × CoreExtern) → HashWrites
fed_imports = fed_columns fed_two extern_fed.it

pub fed_imports_alike : Alike same_imports fed_imports
fed_imports_alike = fed_columns_alike fed_two_alike (same_Alike extern_fed.it extern_Decides)
