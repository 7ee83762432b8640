use Rattle.std.proofs.Common.{◌≡◌, Some, map}
use Rattle.serde_json.specs.Data.{Members}
use Rattle.serde_json.specs.Find.{as_object}
use Rattle.serde_json.specs.View.{view}
use Rattle.wac_manifest.specs.Manifests.{only}
use Rattle.wac_manifest.proofs.Reading.{known}
use Rattle.wac_manifest.proofs.members.Members.of.Given as goal

-- all members are of these names where those that are left are
abbrev pub invariant-loop-name : goal.invariant-loop-name
invariant-loop-name l =
    ((ms : Members) → Some ms ≡ as_object (view l.value) → only (map (λ n. n.now) l.names) ms ≡ known (map (λ n. n.now) l.names) l.name-iterator)
    × (goal.iterator-loop-name).can_next l.name-iterator × (goal.iterator-loop-name).is_finite l.name-iterator
