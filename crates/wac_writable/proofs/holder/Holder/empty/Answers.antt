use Rattle.std.proofs.Common.{[]}
use Rattle.wac_composition.specs.Writable.{holder}
use Rattle.wac_writable.proofs.HolderLaws.{filled_holds, starts_empty}
use Rattle.wac_writable.proofs.holder.Holder.empty.Goals as goal

pub returns : goal.returns
returns c = λ d. filled_holds d c.new.result (holder [] []) (starts_empty d c.new.result c.new.ensures.used c.new.ensures.roots c.new.ensures.tested)
