use Rattle.std.proofs.Common.{◌∙◌, ap, sym, length}
use Rattle.wac_types_base.proofs.Keeping.{length_given}
use Rattle.wac_types_base.proofs.entries.Entries.len.Goals as goal

pub returns : goal.returns
returns g c = c.len.ensures ∙ c.self.inside.places.ok.0 ∙ sym (length_given c.self.inside.kept.keys c.self.inside.places.items c.self.invariant) ∙ ap (λ v. length v.given) c.self.view_is
