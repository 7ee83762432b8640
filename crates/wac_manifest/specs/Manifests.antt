-- What a JSON text says as a manifest, if it says one.
use Rattle.std.specs.Prelude.{ℕ, Bool, true, false, ◌&&◌, ◌==◌, List, [], ◌∷◌, Option, Some, None, option_map, bytes_eq, codes, if◌then◌else◌}
use Rattle.std.specs.List.{before_first, after_first, list_any}
use Rattle.std.specs.Option.{unwrap_or}
use Rattle.std.specs.Result.{result_ok}
use Rattle.std.specs.Str.{is_utf8}
use Rattle.semver.specs.Parse.{Parts, version_parts}
use Rattle.hex.specs.Hex.{decode_of}
use Rattle.serde_json.specs.Data.{Data, object, Items, no_items, item, Members, no_members, member}
use Rattle.serde_json.specs.Find.{get, as_array, as_bool, as_str}
use Rattle.serde_json.specs.Read.{read}

abbrev pub Text : Type 0
Text = List ℕ

-- a text, or bytes, that stand in the manifest; or the path of the file that has them
pub data Given : Type 0 where
  in_file : Text → Given
  here : List ℕ → Given

abbrev pub Key : Type 0
Key = Text × Option Parts

pub record Component : Type 0 where
  pub key : Key
  pub bytes : Given
  pub world : Given
  pub select : Text

pub record Source : Type 0 where
  pub source : Given
  pub out : Option Text

pub record Composing : Type 0 where
  pub components : List Component
  pub sources : List Source
  pub imports : Bool

pub record Plugging : Type 0 where
  pub components : List Component
  pub name : Text
  pub plugs : List Key
  pub socket : Key
  pub out : Option Text

-- ---- values, members, lists

-- the next value, where there is one
infixl 10 ◌>>=◌
abbrev pub ◌>>=◌ : {A B : Type 0} → Option A → (A → Option B) → Option B
None >>= f = None
(Some x) >>= f = f x

-- each member has one of these names
abbrev pub only : List Text → Members → Bool
only ns no_members = true
only ns (member n d ms) = list_any (bytes_eq n) ns && only ns ms

-- an object with members of these names alone
abbrev pub object_of : List Text → Data → Option Data
object_of ns (object ms) = if only ns ms then Some (object ms) else None
object_of ns d = None

-- what a member says, which has to be there
abbrev pub must : {A : Type 0} → (Data → Option A) → Text → Data → Option A
must f n d = get n d >>= f

abbrev pub where_there : {A : Type 0} → (Data → Option A) → Option Data → Option (Option A)
where_there f None = Some None
where_there f (Some d) = option_map (λ x. Some x) (f d)

-- what a member says, if it is there
abbrev pub may : {A : Type 0} → (Data → Option A) → Text → Data → Option (Option A)
may f n d = where_there f (get n d)

abbrev pub each : {A : Type 0} → (Data → Option A) → Items → Option (List A)
each f no_items = Some []
each f (item d ds) = f d >>= λ x. option_map (λ xs. x ∷ xs) (each f ds)

-- what each value of a list says
abbrev pub list : {A : Type 0} → (Data → Option A) → Data → Option (List A)
list f d = as_array d >>= each f

-- ---- keys, texts and bytes

abbrev pub version : Text → Option Parts
version s = result_ok (version_parts s)

abbrev pub version_in : Data → Option Parts
version_in d = as_str d >>= version

-- the sign between a name and its version
abbrev pub is_at_sign : ℕ → Bool
is_at_sign b = b == 64

-- `name`, or `name@version`
abbrev pub key : Text → Option Key
key s = if list_any is_at_sign s
    then option_map (λ v. (before_first is_at_sign s, Some v)) (version (after_first is_at_sign s)) else Some (s, None)

abbrev pub key_in : Data → Option Key
key_in d = as_str d >>= key

-- an even number of hexadecimal digits
abbrev pub digits : Text → Option (List ℕ)
digits s = result_ok (decode_of s)

abbrev pub digits_of_text : Text → Option Text
digits_of_text s = digits s >>= λ b. if is_utf8 b then Some b else None

-- the ways in which texts and bytes are given
pub data Form : Type 0 where
  as_file : Text → Form
  as_text : Text → Form
  as_digits : Text → Form

abbrev pub named_form : Text → Text → Option Form
named_form n s =
    if bytes_eq n (codes "file") then Some (as_file s)
    else if bytes_eq n (codes "text") then Some (as_text s)
    else if bytes_eq n (codes "hex") then Some (as_digits s) else None

-- an object of one member, whose name is the way
abbrev pub form : Data → Option Form
form (object (member n d no_members)) = as_str d >>= named_form n
form d = None

abbrev pub bytes_of : Form → Option Given
bytes_of (as_file s) = Some (in_file s)
bytes_of (as_text s) = Some (here s)
bytes_of (as_digits s) = option_map here (digits s)

abbrev pub text_of : Form → Option Given
text_of (as_file s) = Some (in_file s)
text_of (as_text s) = Some (here s)
text_of (as_digits s) = option_map here (digits_of_text s)

abbrev pub bytes_in : Data → Option Given
bytes_in d = form d >>= bytes_of

abbrev pub text_in : Data → Option Given
text_in d = form d >>= text_of

-- ---- manifests

abbrev pub component : Data → Option Component
component d = do
  o ← object_of (codes "name" ∷ codes "version" ∷ codes "bytes" ∷ codes "world" ∷ codes "select" ∷ []) d
  n ← must as_str (codes "name") o
  v ← may version_in (codes "version") o
  b ← must bytes_in (codes "bytes") o
  w ← must text_in (codes "world") o
  s ← must as_str (codes "select") o
  Some (record { key = (n, v); bytes = b; world = w; select = s })

abbrev pub source : Data → Option Source
source d = do
  o ← object_of (codes "source" ∷ codes "out" ∷ []) d
  s ← must text_in (codes "source") o
  p ← may as_str (codes "out") o
  Some (record { source = s; out = p })

abbrev pub composing : Data → Option Composing
composing d = do
  o ← object_of (codes "components" ∷ codes "sources" ∷ codes "import" ∷ []) d
  cs ← must (list component) (codes "components") o
  ss ← must (list source) (codes "sources") o
  i ← may as_bool (codes "import") o
  Some (record { components = cs; sources = ss; imports = unwrap_or i false })

abbrev pub plugging : Data → Option Plugging
plugging d = do
  o ← object_of (codes "components" ∷ codes "name" ∷ codes "plugs" ∷ codes "socket" ∷ codes "out" ∷ []) d
  cs ← must (list component) (codes "components") o
  n ← must as_str (codes "name") o
  ps ← must (list key_in) (codes "plugs") o
  s ← must key_in (codes "socket") o
  p ← may as_str (codes "out") o
  Some (record { components = cs; name = n; plugs = ps; socket = s; out = p })

-- what a text says to compose, and to plug
abbrev pub says_composing : Text → Option Composing
says_composing s = read s >>= composing

abbrev pub says_plugging : Text → Option Plugging
says_plugging s = read s >>= plugging
