-- The words of faults.
use Rattle.std.specs.Prelude.{ℕ, List, codes}
use Rattle.wac_manifest.specs.declared.error.ManifestError.{ManifestError}

abbrev pub manifest_words : ManifestError → List ℕ
manifest_words ManifestError.Bad = codes "bad manifest"
manifest_words ManifestError.Memory = codes "out of memory"
