-- Plugging packages as a text: what is asked of their names, and why there is no text.
use Rattle.std.specs.Prelude.{◌≡◌, ℕ, ◌+◌, List, [], ◌∷◌, ◌++◌, All, Bool, Ok, Option, Some, None, length, slice_get, ◌==◌, codes, false, string_bytes, map}
use Rattle.std.specs.Fmt.{decimal}
use Rattle.std.specs.List.{concat, list_any}
use Rattle.wac_types_base.specs.Entries.{Name}
use Rattle.wac_types_base.specs.Stated.{Stated, exports_of, stated_world}
use Rattle.wac_types_names.specs.Keys.{Key, key_text, package_key}
use Rattle.wac_parser_lexer.specs.declared.token.Token.{Token}
use Rattle.wac_parser_lexer.specs.Items.{input_of, first_item}
use Rattle.wac_parser_lexer.specs.Refused.{first_refused}
use Rattle.wac_graph_plug.specs.declared.plan.Argument.{Argument}
use Rattle.wac_graph_plug.specs.declared.plan.Plan.{Plan}
use Rattle.wac_graph_plug.specs.declared.plan.PlanError.{PlanError}
use Rattle.wac_graph_plug.specs.Plans.{IsPlan, FirstConflicts, NoneMatches}
use Rattle.wac_parser_resolve.specs.declared.packages.PackageRef.{PackageRef}
use Rattle.wac_texts.specs.declared.plugging.PlugTextError.{PlugTextError}

-- why there is no plan, as why there is no text
abbrev pub text_error : PlanError → PlugTextError
text_error (PlanError.PlugConflict i) = PlugTextError.PlugConflict i
text_error PlanError.NoPlugHappened = PlugTextError.NoPlugHappened
text_error PlanError.Memory = PlugTextError.Memory

-- ---- names

-- a text that is one token, the name of a package
pub record IsPackageName (n : Name) : Type 0 where
  pub accepted : first_refused n ≡ None
  pub whole : first_item (input_of n) ≡ Some (Ok Token.PackageName, record { offset = 0; length = length n })

abbrev pub has_byte : ℕ → Name → Bool
has_byte b n = list_any (λ c. c == b) n

-- a text that can stand between two quotes
pub record IsSpellable (n : Name) : Type 0 where
  pub no_quote : has_byte 34 n ≡ false
  pub accepted : first_refused n ≡ None

-- a package's own name is the name of a package, without a version
pub record IsReadable (p : PackageRef) : Type 0 where
  pub name : IsPackageName p.package.now.name
  pub no_version : has_byte 64 p.package.now.name ≡ false

-- the document's name is, and the names of the packages
pub record AreReadable (name : Name) (plugs : List PackageRef) (socket : PackageRef) : Type 0 where
  pub document : IsPackageName name
  pub plugs_are : All IsReadable plugs
  pub socket_is : IsReadable socket

pub record IsSpelled (a : Argument) : Type 0 where
  pub import : IsSpellable a.given.import
  pub export : IsSpellable a.given.export

-- ---- the text

abbrev pub world_of : PackageRef → Stated
world_of p = stated_world p.types.now p.package.now.ty

-- the plugs are planned into the socket so
abbrev pub IsPlanned : List PackageRef → PackageRef → Plan → Type 0
IsPlanned plugs socket plan = IsPlan (map world_of plugs) (world_of socket) plan

abbrev pub key_of : PackageRef → Key
key_of p = package_key p.package.now

-- an instance of a plug, left open
abbrev pub plug_text : (number : ℕ) → Key → List ℕ
plug_text number key = codes "let plug" ++ decimal number ++ codes " = new " ++ key_text key ++ codes " { ... };\n\n"

abbrev pub plug_at : (number : ℕ) → Option PackageRef → List ℕ
plug_at number None = []
plug_at number (Some p) = plug_text number (key_of p)

-- those of the plugs at these places, numbered
abbrev pub plugs_text : (number : ℕ) → (plugs : List PackageRef) → (places : List ℕ) → List ℕ
plugs_text number plugs [] = []
plugs_text number plugs (at ∷ places) =
    plug_at number (slice_get plugs at) ++ plugs_text (number + 1) plugs places

-- an export of a plug for an import of the socket
abbrev pub argument_text : Argument → List ℕ
argument_text a =
    codes "    \"" ++ a.given.import ++ codes "\": plug" ++ decimal a.plug ++ codes "[\"" ++ a.given.export ++ codes "\"],\n"

-- the socket's exports, where it has some
abbrev pub exports_text : {A : Type 0} → List A → List ℕ
exports_text [] = []
exports_text (x ∷ xs) = codes "\nexport socket...;\n"

-- the directive, and the socket's statement up to its arguments
abbrev pub directive_text : (name : Name) → List ℕ
directive_text name = codes "package " ++ name ++ codes ";\n\n"

abbrev pub socket_text : Key → List ℕ
socket_text key = codes "let socket = new " ++ key_text key ++ codes " {\n"

-- the document of a plan
abbrev pub planned_text : (name : Name) → (plugs : List PackageRef) → (socket : PackageRef) → Plan → List ℕ
planned_text name plugs socket plan =
    directive_text name
    ++ plugs_text 0 plugs plan.plugs.items
    ++ socket_text (key_of socket)
    ++ concat (map argument_text plan.arguments.items)
    ++ codes "    ...\n};\n"
    ++ exports_text (exports_of (world_of socket))

-- there is a plan, and all names can be written
pub record CanBePlugged (name : Name) (plugs : List PackageRef) (socket : PackageRef) (plan : Plan) : Type 0 where
  pub readable : AreReadable name plugs socket
  pub planned : IsPlanned plugs socket plan
  pub spelled : All IsSpelled plan.arguments.items

-- the text is the document of such a plan
abbrev pub Plugs : (name : Name) → (plugs : List PackageRef) → (socket : PackageRef) → (text : List ℕ) → Type 0
Plugs name plugs socket text = (plan : Plan) × CanBePlugged name plugs socket plan × (text ≡ planned_text name plugs socket plan)

-- in some plan a name cannot be written
pub record IsUnspelled (plugs : List PackageRef) (socket : PackageRef) : Type 0 where
  pub plan : Plan
  pub planned : IsPlanned plugs socket plan
  pub unspelled : All IsSpelled plan.arguments.items → ⊥

-- why there is no text
abbrev pub PlugTextRefused : Name → List PackageRef → PackageRef → PlugTextError → Type 0
PlugTextRefused name plugs socket PlugTextError.NameNotReadable = AreReadable name plugs socket → ⊥
PlugTextRefused name plugs socket (PlugTextError.PlugConflict i) =
    AreReadable name plugs socket × FirstConflicts (map world_of plugs) (world_of socket) (string_bytes i)
PlugTextRefused name plugs socket PlugTextError.NoPlugHappened =
    AreReadable name plugs socket × NoneMatches (map world_of plugs) (world_of socket)
PlugTextRefused name plugs socket PlugTextError.NameNotSpellable = AreReadable name plugs socket × IsUnspelled plugs socket
PlugTextRefused name plugs socket PlugTextError.Memory = Unit {0}

-- the words of it
abbrev pub plugging_words : PlugTextError → List ℕ
plugging_words PlugTextError.NameNotReadable = codes "package name cannot be read"
plugging_words (PlugTextError.PlugConflict i) = codes "two plugs match import `" ++ string_bytes i ++ codes "`"
plugging_words PlugTextError.NoPlugHappened = codes "no plug matches an import of the socket"
plugging_words PlugTextError.NameNotSpellable = codes "a name cannot be written as a string"
plugging_words PlugTextError.Memory = codes "out of memory"
