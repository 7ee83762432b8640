use Rattle.std.proofs.Common.{◌∙◌, ap, sym, length}
use Rattle.wac_types_base.proofs.Keeping.{length_given}
use Rattle.wac_types_base.proofs.entries.EntryIter.len.Goals as goal

pub returns : goal.returns
returns g c = sym (length_given c.self.inside.kept.now c.self.inside.places.now c.self.invariant) ∙ ap (λ l. length l) c.self.view_is
