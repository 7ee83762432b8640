-- What is read of a manifest, seen as what the manifest says.
use Rattle.std.specs.Prelude.{◌≡◌, map, Option, Some, None, option_map, Result, Ok, Err, string_bytes, ⊤}
use Rattle.semver.specs.Identifiers.{parts_of}
use Rattle.wac_manifest.specs.declared.data.TextData.{TextData}
use Rattle.wac_manifest.specs.declared.data.BytesData.{BytesData}
use Rattle.wac_manifest.specs.declared.data.Form.{Form as HeldForm}
use Rattle.wac_manifest.specs.declared.error.ManifestError.{ManifestError}
use Rattle.wac_manifest.specs.declared.manifest.Component.{Component as HeldComponent}
use Rattle.wac_manifest.specs.declared.manifest.Source.{Source as HeldSource}
use Rattle.wac_manifest.specs.declared.manifest.Key.{Key as HeldKey}
use Rattle.wac_manifest.specs.declared.manifest.ComposeManifest.{ComposeManifest}
use Rattle.wac_manifest.specs.declared.manifest.PlugManifest.{PlugManifest}
use Rattle.wac_manifest.specs.Manifests.{Form, as_file, as_text, as_digits, Given, in_file, here, Key, Component, Source, Composing, Plugging}

abbrev pub text_view : TextData → Given
text_view (TextData.File s) = in_file (string_bytes s)
text_view (TextData.Text s) = here (string_bytes s)

abbrev pub bytes_view : BytesData → Given
bytes_view (BytesData.File s) = in_file (string_bytes s)
bytes_view (BytesData.Bytes v) = here v.items

abbrev pub form_view : HeldForm → Form
form_view (HeldForm.File s) = as_file s.now
form_view (HeldForm.Text s) = as_text s.now
form_view (HeldForm.Hex s) = as_digits s.now

abbrev pub key_view : HeldKey → Key
key_view k = (string_bytes k.name, option_map parts_of k.version)

abbrev pub component_view : HeldComponent → Component
component_view c = record {
  key = (string_bytes c.name, option_map parts_of c.version);
  bytes = bytes_view c.«bytes»;
  world = text_view c.world;
  select = string_bytes c.select;
}

abbrev pub source_view : HeldSource → Source
source_view s = record { source = text_view s.source; out = option_map string_bytes s.out }

abbrev pub composing_view : ComposeManifest → Composing
composing_view m = record { components = map component_view m.components.items; sources = map source_view m.sources.items; imports = m.«import» }

abbrev pub plugging_view : PlugManifest → Plugging
plugging_view m = record {
  components = map component_view m.components.items;
  name = string_bytes m.name;
  plugs = map key_view m.plugs.items;
  socket = key_view m.socket;
  out = option_map string_bytes m.out;
}

-- what is read, seen so, is what is said; it is refused as bad only where nothing is said
abbrev pub Reads : {A B : Type 0} → (A → B) → Option B → Result A ManifestError → Type 0
Reads v o (Ok x) = o ≡ Some (v x)
Reads v o (Err ManifestError.Bad) = o ≡ None
Reads v o (Err ManifestError.Memory) = ⊤
