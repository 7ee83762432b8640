-- The test of keys is equality.
use Rattle.std.proofs.Common.{◌≡◌, ◌==◌, ℕ, List, Option, Some, None, refl, subst}
use Rattle.std.specs.Prelude.{true}
use Rattle.std.specs.Bool.{Decides}
use Rattle.std.specs.Cmp.Lexicographic.{pointwise, bytes_decides}
use Rattle.std.proofs.lemmas.Bool.{and_from, and_parts}
use Rattle.std.proofs.lemmas.Bool.Decides.{Decides-eqb}
use Rattle.semver.specs.Parse.{Parts}
use Rattle.wac_types_names.specs.Keys.{Key, same_version, same_key}

version_same : (v w : Option Parts) → same_version v w ≡ true → v ≡ w
version_same None None e = refl
version_same None (Some w) e = absurd (cc e)
version_same (Some v) None e = absurd (cc e)
version_same (Some v) (Some w) e =
    let a = and_parts (v.0 == w.0) _ e in
    let b = and_parts (v.1 == w.1) _ a.1 in
    let c = and_parts (v.2 == w.2) _ b.1 in
    let d = and_parts (pointwise ◌==◌ v.3 w.3) _ c.1 in
    let major : v.0 ≡ w.0 = (Decides-eqb v.0 w.0).0 a.0 in
    let minor : v.1 ≡ w.1 = (Decides-eqb v.1 w.1).0 b.0 in
    let patch : v.2 ≡ w.2 = (Decides-eqb v.2 w.2).0 c.0 in
    let pre : v.3 ≡ w.3 = (bytes_decides v.3 w.3).0 d.0 in
    let build : v.4 ≡ w.4 = (bytes_decides v.4 w.4).0 d.1 in
    λ j. Some (major j, minor j, patch j, pre j, build j)

pub key_same : (a b : Key) → same_key a b ≡ true → a ≡ b
key_same a b e =
    let p = and_parts (pointwise ◌==◌ a.0 b.0) _ e in
    let names : a.0 ≡ b.0 = (bytes_decides a.0 b.0).0 p.0 in
    let versions : a.1 ≡ b.1 = version_same a.1 b.1 p.1 in
    λ j. (names j, versions j)

bytes_same : (xs : List ℕ) → pointwise ◌==◌ xs xs ≡ true
bytes_same xs = (bytes_decides xs xs).1 refl

number_same : (n : ℕ) → (n == n) ≡ true
number_same n = (Decides-eqb n n).1 refl

version_refl : (v : Option Parts) → same_version v v ≡ true
version_refl None = refl
version_refl (Some v) =
    and_from (v.0 == v.0) _ (number_same v.0) (and_from (v.1 == v.1) _ (number_same v.1)
    (and_from (v.2 == v.2) _ (number_same v.2) (and_from (pointwise ◌==◌ v.3 v.3) _ (bytes_same v.3) (bytes_same v.4))))

pub key_refl : (a : Key) → same_key a a ≡ true
key_refl a = and_from (pointwise ◌==◌ a.0 a.0) _ (bytes_same a.0) (version_refl a.1)

pub keys_decide : (a b : Key) → Decides (same_key a b) (a ≡ b)
keys_decide a b = (key_same a b, λ e. subst (λ (x : Key). same_key a x ≡ true) e (key_refl a))
