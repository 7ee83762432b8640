use Rattle.wac_types_base.proofs.Adding.{Grows-trans}
use Rattle.wac_types_merge.proofs.Keeping.{spelled_merged}
use Rattle.wac_types_merge.proofs.imports.merged_import.Goals as goal

pub returns-clause-merged : goal.returns-clause-merged
returns-clause-merged c =
    spelled_merged c.args.own.now c.kept_of.new.own c.spelled_import.new.own c.args.before.now c.args.name.now c.as_str.result.now c.args.asked c.args.family c.joint_family-both.result c.in_ok-kept.kept c.in_ok-import.import c.as_str.ensures c.joint_family-both.ensures c.kept_of.ensures.grows c.requires.kept c.requires.asked c.in_ok-kept.ensures.kept c.in_ok-kept.ensures.united c.in_ok-kept.ensures.narrower c.in_ok-import.ensures.import

pub returns-clause-grows : goal.returns-clause-grows
returns-clause-grows c = Grows-trans c.args.own.now c.kept_of.new.own c.spelled_import.new.own c.kept_of.ensures.grows c.spelled_import.ensures.grows
