-- The test of names of interfaces is what it tests.
use Rattle.std.proofs.Common.{◌≡◌, true≢false, Result, Ok, Err, refl, sym, ap, ◌∙◌, inl, inr}
use Rattle.std.specs.Prelude.{is_some}
use Rattle.std.specs.Bool.{Decides}
use Rattle.std.specs.Result.{result_ok}
use Rattle.std.proofs.lemmas.Bool.{or_right, or_cases, or_left}
use Rattle.semver.specs.Parse.{Parts, version_parts}
use Rattle.wac_names.specs.ComponentNames.{IsPath, IsVersion, IsInterfaceName}
use Rattle.wac_names.specs.NameTests.{path_test, pair_test}
use Rattle.wac_names.proofs.NameForms.{pair_decides}
use Rattle.wac_names.proofs.NameKinds.{path_decides, path_lacks}
use Rattle.wac_types_base.specs.Entries.{Name}
use Rattle.wac_types_names.specs.Tracks.{read_version}
use Rattle.wac_types_names.specs.InterfaceNames.{version_test, is_interface_name}

version_told : (text : Name) → Decides (version_test text) (IsVersion text)
unfolding read_version
version_told text = go (version_parts text) refl
  where
    go : (r : Result Parts _) → version_parts text ≡ r → Decides (is_some (result_ok (version_parts text))) (IsVersion text)
    go (Ok p) e = (λ h. (p, e), λ h. ap (λ r. is_some (result_ok r)) e)
    go (Err f) e = (λ h. absurd (true≢false (sym h ∙ ap (λ r. is_some (result_ok r)) e)), λ h. absurd (cc (sym e ∙ h.1)))

pub interface_told : (n : Name) → Decides (is_interface_name n) (IsInterfaceName n)
interface_told n =
    let path = path_decides n in
    let pair = pair_decides 64 path_test version_test IsPath IsVersion path_decides version_told path_lacks n in (
      λ e. elim (or_cases (path_test n) (pair_test 64 path_test version_test n) e) [ inl h ↦ inl (path.0 h) | inr h ↦ inr (pair.0 h) ],
      λ h. elim h [
        | inl j ↦ or_left (path_test n) (pair_test 64 path_test version_test n) (path.1 j)
        | inr j ↦ or_right (path_test n) (pair_test 64 path_test version_test n) (pair.1 j)
      ],
    )
