use Rattle.std.proofs.Common.{arith}
use Rattle.wac_types_names.specs.Tracks.{AreCompatible}
use Rattle.wac_types_merge.proofs.Families.{all_before}
use Rattle.wac_types_merge.proofs.imports.place_on.Goals as goal

pub returns : goal.returns
returns c m a = all_before c.args.imports.now (λ m. AreCompatible m.name c.args.name.now → ⊥) c.loop-at.at (omega arith) c.loop-at.invariant m a
