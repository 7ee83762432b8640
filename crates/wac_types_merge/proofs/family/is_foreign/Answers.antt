use Rattle.std.proofs.Common.{sym, ◌∙◌}
use Rattle.wac_types_merge.proofs.Families.{owner_stands}
use Rattle.wac_types_merge.proofs.family.is_foreign.Goals as goal

pub uses_such-requires-clause-target : goal.uses_such-requires-clause-target
uses_such-requires-clause-target c = owner_stands c.args.types.now c.see_acyclic.ensures c.in-Some.owner c.args.kind c.requires.stands (sym c.owner_of.ensures ∙ c.in-Some.is)
