-- What contracts see of `TypeAggregator`.
use Rattle.wac_types_merge.specs.declared.aggregator.TypeAggregator.TheInside.{Inside}
use Rattle.wac_types_merge.specs.Imports.{Imports, AreSound, imports_in}

abbrev pub seen : Inside → Imports
seen a = imports_in a.types a.imports.items

abbrev pub IsSound : Inside → Type 0
IsSound a = AreSound (seen a)
