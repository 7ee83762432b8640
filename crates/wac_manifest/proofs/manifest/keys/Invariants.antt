use Rattle.std.proofs.Common.{◌≡◌, drop, map}
use Rattle.serde_json.specs.View.{view}
use Rattle.wac_manifest.specs.Manifests.{key_in, list, must}
use Rattle.wac_manifest.specs.Views.{key_view}
use Rattle.wac_manifest.proofs.Reading.{so_far}
use Rattle.wac_manifest.proofs.manifest.keys.Given as goal

-- those so far are read, and the others are left
abbrev pub invariant-loop-value : goal.invariant-loop-value
invariant-loop-value l = must (list key_in) l.name (view l.members.object.now) ≡ so_far key_in (map key_view l.all.items) (drop l.value-index l.value-items)
