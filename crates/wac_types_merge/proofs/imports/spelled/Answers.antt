use Rattle.std.proofs.Common.{refl}
use Rattle.wac_types_base.proofs.Adding.{Grows-refl}
use Rattle.wac_types_merge.proofs.Renaming.{same_renamed, identified_other}
use Rattle.wac_types_merge.proofs.imports.spelled.Goals as goal

pub returns-in_default : goal.returns-in_default
returns-in_default c = record {
  spelled = record {
    stands = c.requires;
    tree = refl;
    identified = identified_other c.args.own.now c.args.kind c.args.name.now c.in_default.not-Instance;
    stated = same_renamed c.args.own.now c.args.name.now c.see_acyclic.ensures c.args.kind c.requires c.in_default.not-Instance;
  };
  grows = Grows-refl c.args.own.now c.see_acyclic.ensures;
}
