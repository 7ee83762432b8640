-- Keys of packages: a name, and perhaps a version.
use Rattle.std.specs.Prelude.{ℕ, List, ◌∷◌, ◌++◌, Bool, true, false, ◌&&◌, ◌==◌, Option, Some, None, string_bytes}
use Rattle.std.specs.Cmp.Lexicographic.{pointwise}
use Rattle.std.specs.Option.{option_map}
use Rattle.semver.specs.Parse.{Parts}
use Rattle.semver.specs.Identifiers.{parts_of, parts_text}
use Rattle.wac_types_base.specs.Entries.{Name}
use Rattle.wac_types_names.specs.declared.package.PackageKey.{PackageKey}
use Rattle.wac_types_names.specs.declared.package.BorrowedPackageKey.{BorrowedPackageKey}
use Rattle.wac_types_names.specs.Packaged.{Packaged}

-- a name and a version
abbrev pub Key : Type 0
Key = Name × Option Parts

-- a name, and the version behind `@` if there is one
abbrev pub with_version : Name → Option Parts → List ℕ
with_version name None = name
with_version name (Some version) = name ++ 64 ∷ parts_text version

-- a key as a text
abbrev pub key_text : Key → List ℕ
key_text k = with_version k.0 k.1

-- two versions are one
abbrev pub same_version : Option Parts → Option Parts → Bool
same_version None None = true
same_version (Some v) (Some w) =
    (v.0 == w.0) && ((v.1 == w.1) && ((v.2 == w.2) && (pointwise ◌==◌ v.3 w.3 && pointwise ◌==◌ v.4 w.4)))
same_version v w = false

-- two keys are one
abbrev pub same_key : Key → Key → Bool
same_key a b = pointwise ◌==◌ a.0 b.0 && same_version a.1 b.1

abbrev pub owned_key : PackageKey → Key
owned_key k = (string_bytes k.name, option_map parts_of k.version)

abbrev pub borrowed_key : BorrowedPackageKey → Key
borrowed_key k = (k.name.now, option_map (λ v. parts_of v.now) k.version)

abbrev pub package_key : Packaged → Key
package_key p = (p.name, p.version)
