use Rattle.std.proofs.Common.{refl}
use Rattle.semver.proofs.OnLiterals.{semver_on_literals}
use Rattle.wac_types_names.specs.Tracks.{read_version, version_of}
use Rattle.wac_types_names.specs.Versions.{version_cmp}
use Rattle.wac_composition.proofs.examples.Goals as goal

pub returns-clause-one_instance : goal.returns-clause-one_instance
unfolding read_version version_of version_cmp semver_on_literals
returns-clause-one_instance c = refl

pub returns-clause-its_world : goal.returns-clause-its_world
unfolding read_version version_of version_cmp semver_on_literals
returns-clause-its_world c = refl

pub returns-clause-no_cause : goal.returns-clause-no_cause
unfolding read_version version_of version_cmp semver_on_literals
returns-clause-no_cause c = refl

pub returns-clause-greatest_version : goal.returns-clause-greatest_version
unfolding read_version version_of version_cmp semver_on_literals
returns-clause-greatest_version c = refl

pub returns-clause-types_clash : goal.returns-clause-types_clash
unfolding read_version version_of version_cmp semver_on_literals
returns-clause-types_clash c = refl

pub returns-clause-imports_clash : goal.returns-clause-imports_clash
unfolding read_version version_of version_cmp semver_on_literals
returns-clause-imports_clash c = refl

pub returns-clause-one_identifier : goal.returns-clause-one_identifier
unfolding read_version version_of version_cmp semver_on_literals
returns-clause-one_identifier c = refl

pub returns-clause-used_interface : goal.returns-clause-used_interface
unfolding read_version version_of version_cmp semver_on_literals
returns-clause-used_interface c = refl

pub returns-clause-used_is_writable : goal.returns-clause-used_is_writable
unfolding read_version version_of version_cmp semver_on_literals
returns-clause-used_is_writable c = refl

pub returns-clause-asked_twice : goal.returns-clause-asked_twice
unfolding read_version version_of version_cmp semver_on_literals
returns-clause-asked_twice c = refl

pub returns-clause-alike : goal.returns-clause-alike
unfolding read_version version_of version_cmp semver_on_literals
returns-clause-alike c = refl

pub returns-clause-not_validated : goal.returns-clause-not_validated
unfolding read_version version_of version_cmp semver_on_literals
returns-clause-not_validated c = refl

pub returns-clause-nameless_resource : goal.returns-clause-nameless_resource
unfolding read_version version_of version_cmp semver_on_literals
returns-clause-nameless_resource c = refl

pub returns-clause-asked_value : goal.returns-clause-asked_value
unfolding read_version version_of version_cmp semver_on_literals
returns-clause-asked_value c = refl

pub returns-clause-imported_once : goal.returns-clause-imported_once
unfolding read_version version_of version_cmp semver_on_literals
returns-clause-imported_once c = refl

pub returns-clause-defined_apart : goal.returns-clause-defined_apart
unfolding read_version version_of version_cmp semver_on_literals
returns-clause-defined_apart c = refl

pub returns-clause-lacks_used : goal.returns-clause-lacks_used
unfolding read_version version_of version_cmp semver_on_literals
returns-clause-lacks_used c = refl

pub returns-clause-given_another : goal.returns-clause-given_another
unfolding read_version version_of version_cmp semver_on_literals
returns-clause-given_another c = refl

pub returns-clause-given_renamed : goal.returns-clause-given_renamed
unfolding read_version version_of version_cmp semver_on_literals
returns-clause-given_renamed c = refl

pub returns-clause-circle_in_order : goal.returns-clause-circle_in_order
unfolding read_version version_of version_cmp semver_on_literals
returns-clause-circle_in_order c = refl

pub returns-clause-circle_of_values : goal.returns-clause-circle_of_values
unfolding read_version version_of version_cmp semver_on_literals
returns-clause-circle_of_values c = refl

pub returns-clause-circle_with_resource : goal.returns-clause-circle_with_resource
unfolding read_version version_of version_cmp semver_on_literals
returns-clause-circle_with_resource c = refl

pub returns-clause-circle_inside : goal.returns-clause-circle_inside
unfolding read_version version_of version_cmp semver_on_literals
returns-clause-circle_inside c = refl
