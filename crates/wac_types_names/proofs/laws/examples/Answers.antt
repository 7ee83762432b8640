use Rattle.std.proofs.Common.{ℕ, List, [], ◌++◌, Option, Some, ap, refl, codes, lit<}
use Rattle.std.proofs.lemmas.Fmt.{decimal_digit}
use Rattle.semver.specs.Parse.{Parts}
use Rattle.semver.proofs.OnLiterals.{semver_on_literals}
use Rattle.wac_types_base.specs.Entries.{Name}
use Rattle.wac_types_names.specs.Tracks.{read_version, version_of, lookup_key}
use Rattle.wac_types_names.proofs.laws.examples.Goals as goal

-- a key that ends in these digits
abbrev ending : Name → Parts → List ℕ → Option (Name × Parts)
ending front p digits = Some (front ++ digits, p)

pub returns : goal.returns
unfolding read_version version_of lookup_key semver_on_literals
returns c = record {
  minor = ap (ending (codes "x:y/z@0.") (0, 2, 3, [], codes "abc")) (decimal_digit 2 (lit< tt));
  major = ap (ending (codes "a:b/c@") (1, 3, 4, [], [])) (decimal_digit 1 (lit< tt));
  patch_alone = refl;
  pre_release = refl;
}
