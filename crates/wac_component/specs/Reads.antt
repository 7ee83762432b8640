-- What a reader answers: what its rule reads, unless memory ran out.
use Rattle.std.specs.Prelude.{◌≡◌, Result, Ok, Err}
use Rattle.wac_component.specs.declared.fault.Fault.{Fault}
use Rattle.wac_component.specs.declared.fault.Stop.{Stop}
use Rattle.wac_component.specs.declared.fault.Stop.TheVariants as stop

abbrev pub Fails : {Y : Type 0} → Stop → Result Y Fault → Type 0
Fails stop.Memory read = Unit {0}
Fails (stop.Fault f) read = read ≡ Err f

abbrev pub Gives : {X Y : Type 0} → (X → Y) → Result X Stop → Result Y Fault → Type 0
Gives view (Ok x) read = read ≡ Ok (view x)
Gives view (Err e) read = Fails e read
