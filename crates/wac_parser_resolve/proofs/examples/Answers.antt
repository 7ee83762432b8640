use Rattle.std.proofs.Common.{refl}
use Rattle.semver.proofs.OnLiterals.{semver_on_literals}
use Rattle.wac_types_names.specs.Tracks.{read_version, version_of}
use Rattle.wac_types_names.specs.Versions.{version_cmp}
use Rattle.wac_parser_resolve.proofs.examples.Goals as goal

pub returns-clause-merged : goal.returns-clause-merged
unfolding read_version version_of version_cmp semver_on_literals
returns-clause-merged c = refl

pub returns-clause-unmerged : goal.returns-clause-unmerged
unfolding read_version version_of version_cmp semver_on_literals
returns-clause-unmerged c = refl

pub returns-clause-identified : goal.returns-clause-identified
unfolding read_version version_of version_cmp semver_on_literals
returns-clause-identified c = refl
