-- Loading what manifests name, and why it is not loaded.
use Rattle.std.specs.Prelude.{◌≡◌, ◌⊎◌, ℕ, List, Option, Some, None, string_bytes}
use Rattle.std.specs.Str.{IsUtf8}
use Rattle.wac_types_base.specs.Entries.{Name}
use Rattle.wac_manifest.specs.declared.data.TextData.{TextData}
use Rattle.wac_texts.specs.Files.{Stored, Has}
use Rattle.wac.specs.declared.stop.Stop.{Stop}
use Rattle.wac.specs.Texts.{SaysOf, Told, unread_text}

-- What holds of what is told where a stop is; what stands where a writer failed, and where memory was short.
abbrev pub Ends : (cause : Told → Type 0) → (unwritten short : Type 0) → Stop → Type 0
Ends cause unwritten short (Stop.Refused text span) = cause (record { text = string_bytes text; place = span })
Ends cause unwritten short Stop.Unwritten = unwritten
Ends cause unwritten short Stop.Memory = short

-- a cause is told only where it stands; no writer failed
abbrev pub StopsFor : (cause : Told → Type 0) → Stop → Type 0
StopsFor cause = Ends cause ⊥ (Unit {0})

-- the path has no file
abbrev pub IsUnread : Option Stored → Name → Stop → Type 0
IsUnread files path = StopsFor (SaysOf (Has files path None) (unread_text path))

-- the bytes are no text
abbrev pub IsNoText : (path : Name) → List ℕ → Stop → Type 0
IsNoText path bytes = StopsFor (SaysOf (IsUtf8 bytes → ⊥) (unread_text path))

-- the text that is given, or that a file has
abbrev pub IsTextOf : Option Stored → TextData → List ℕ → Type 0
IsTextOf files (TextData.Text given) text = text ≡ string_bytes given
IsTextOf files (TextData.File path) text = Has files (string_bytes path) (Some text)

-- the path's file has bytes that are no text
pub record HasNoText (files : Option Stored) (path : Name) : Type 0 where
  pub bytes : List ℕ
  pub has : Has files path (Some bytes)
  pub no_text : IsUtf8 bytes → ⊥

-- the path has no file, or one whose bytes are no text
abbrev pub HasNoFileText : Option Stored → Name → Told → Type 0
HasNoFileText files path = SaysOf (Has files path None ⊎ HasNoText files path) (unread_text path)

-- a text that is given is there; that of a file may not be
abbrev pub HasNoTextOf : Option Stored → TextData → Told → Type 0
HasNoTextOf files (TextData.Text given) told = ⊥
HasNoTextOf files (TextData.File path) told = HasNoFileText files (string_bytes path) told

abbrev pub IsTextRefused : Option Stored → TextData → Stop → Type 0
IsTextRefused files «data» = StopsFor (HasNoTextOf files «data»)
