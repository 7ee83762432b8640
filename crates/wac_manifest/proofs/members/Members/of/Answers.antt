use Rattle.std.proofs.Common.{rules, ◌∙◌}
use Rattle.wac_manifest.proofs.Reading.{only_those}
use Rattle.wac_manifest.proofs.members.Members.of.Goals as goal

pub loop-name-init : goal.loop-name-init
loop-name-init c =
    (only_those _ _ c.in-Some.object.now.entries _ c.in-Some.ensures (c.into_iter-name-iterator.ensures.into_iter_gives ∙ c.keys-name-items.ensures.rest), search rules, search rules)
