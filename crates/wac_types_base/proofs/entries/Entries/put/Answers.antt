use Rattle.std.proofs.Common.{◌∙◌, ap, slice_set}
use Rattle.wac_types_base.proofs.entries.Entries.put.Goals as goal

pub returns-clause-given : goal.returns-clause-given
returns-clause-given g c =
    c.point.ensures.given c.args.entry c.in_ok-place.ensures.place ∙ ap (λ l. slice_set l c.args.at c.args.entry) c.in_ok-place.ensures.given
