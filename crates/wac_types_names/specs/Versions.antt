-- The order of versions by their numbers and texts, build metadata included.
use Rattle.std.specs.Ordering.{nat_cmp, on, then_cmp}
use Rattle.std.specs.declared.cmp.Ordering.{Ordering}
use Rattle.semver.specs.Order.{pre_cmp, build_cmp}
use Rattle.semver.specs.Parse.{Parts}

-- the numbers in turn, then the pre-release, then the build metadata
unfoldable pub version_cmp : Parts → Parts → Ordering
version_cmp =
    then_cmp (on (λ (p : Parts). p.0) nat_cmp) (then_cmp (on (λ (p : Parts). p.1) nat_cmp)
    (then_cmp (on (λ (p : Parts). p.2) nat_cmp) (then_cmp (on (λ (p : Parts). p.3) pre_cmp)
    (on (λ (p : Parts). p.4) build_cmp))))
