use Rattle.std.proofs.Common.{◌≡◌, codes, drop, map}
use Rattle.serde_json.specs.View.{view}
use Rattle.wac_manifest.specs.Manifests.{source, list, must}
use Rattle.wac_manifest.specs.Views.{source_view}
use Rattle.wac_manifest.proofs.Reading.{so_far}
use Rattle.wac_manifest.proofs.manifest.sources.Given as goal

-- those so far are read, and the others are left
abbrev pub invariant-loop-value : goal.invariant-loop-value
invariant-loop-value l = must (list source) (codes "sources") (view l.members.object.now) ≡ so_far source (map source_view l.all.items) (drop l.value-index l.value-items)
