-- Asks as they are held, read in the collection in which their items stand.
use Rattle.std.specs.Prelude.{ℕ, List, map}
use Rattle.wac_types_base.specs.Record.{Collection}
use Rattle.wac_types_base.specs.Stated.{stated_of}
use Rattle.wac_composition.specs.Asks.{Asking, ByName, ToFill, ToUse, Ask}
use Rattle.wac_graph_asks.specs.declared.asks.Asking.{Asking as HeldAsking}
use Rattle.wac_graph_asks.specs.declared.asks.Ask.{Ask as HeldAsk}

abbrev pub asking_of : HeldAsking → Asking
asking_of HeldAsking.ByName = ByName
asking_of HeldAsking.ToFill = ToFill
asking_of HeldAsking.ToUse = ToUse

abbrev pub ask_in : Collection → HeldAsk → Ask ℕ
ask_in c a = record { asking = asking_of a.asking; by = a.by; name = a.name; item = stated_of c a.item }

abbrev pub asks_in : Collection → List HeldAsk → List (Ask ℕ)
asks_in c asks = map (ask_in c) asks
