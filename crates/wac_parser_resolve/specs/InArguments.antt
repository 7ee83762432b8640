-- What is answered of the arguments of an instantiation: what is given for the imports, over what was said, or the cause.
use Rattle.std.specs.Prelude.{◌≡◌, ℕ, true, false, not, ◌&&◌, List, map, filter, find, Option, Some, None, is_some, Result, ⊤, Bool, String, string_bytes}
use Rattle.wac_types_base.specs.declared.item.ItemKind.{ItemKind}
use Rattle.wac_types_base.specs.declared.ids.InterfaceId.{InterfaceId}
use Rattle.wac_types_base.specs.declared.ids.WorldId.{WorldId}
use Rattle.wac_types_base.specs.Record.{Collection}
use Rattle.wac_types_base.specs.Entries.{AreDistinct, Name, has_name, names_of, value_at}
use Rattle.wac_types_base.specs.Graph.{Among}
use Rattle.wac_types_base.specs.Stated.{exports_of, imports_of, kind_of, stated_of}
use Rattle.wac_composition.specs.Classes.{is_instance_kind}
use Rattle.wac_graph_core.specs.Graph.{Graph}
use Rattle.wac_parser_tree.specs.Trees as t
use Rattle.wac_parser_tree.specs.Trees.{Span}
use Rattle.wac_parser_tree.specs.declared.text.Ident.{Ident}
use Rattle.wac_parser_tree.specs.declared.import.PackageName.{PackageName}
use Rattle.wac_parser_tree.specs.declared.expr.InstantiationArgument.{InstantiationArgument}
use Rattle.wac_parser_tree.specs.declared.expr.InstantiationArgumentName.{InstantiationArgumentName}
use Rattle.wac_parser_tree.specs.Views.{view_ident, view_instantiation_argument, view_instantiation_argument_name, view_package_name}
use Rattle.wac_parser_refusals.specs.declared.refusal.Refusal.{Refusal}
use Rattle.wac_parser_refusals.specs.Causes.{◌>>=◌, each, pure}
use Rattle.wac_parser_refusals.specs.Outcomes.{IsOutcome}
use Rattle.wac_parser_resolve.specs.declared.arguments.Given.{Given}
use Rattle.wac_parser_resolve.specs.Ascribing.{Denoted, State, denoted_by}
use Rattle.wac_parser_resolve.specs.Denoting as stated
use Rattle.wac_parser_resolve.specs.Denoting.{add_given, export_named, given_names, inferred_name, none_missing, spoken, spread_given, spread_one, spreads_of}
use Rattle.wac_parser_resolve.specs.Holding.{AreGiven, AreNamed, Denotes, IsGiven, Says, names_given}

-- the names of a world's imports
abbrev pub imported_by : Collection → WorldId → List Name
imported_by c w = names_of (imports_of (stated_of c (ItemKind.Component w)))

-- the import that an argument's name means
abbrev pub IsArgumentName : {Z : Type 0} → InstantiationArgumentName → List Name → String Z → Type 0
IsArgumentName n ns text = string_bytes text ≡ stated.argument_name ns (view_instantiation_argument_name n)

-- the import that an argument without a name is for, by its text and what it denotes
abbrev pub InfersName : Graph → ℕ → Name → List Name → Name → Type 0
InfersName g k text ns n =
    (ms : List ℕ) (d : Denoted) (i : t.Ident) → Denotes g ms d k → i.string ≡ text → n ≡ inferred_name ns i d

-- nothing is given for the name, and it is exported
abbrev pub is_left_by : List Given → List (Name × ItemKind) → Name → Bool
is_left_by xs es n = not (has_name (names_given xs) n) && is_some (value_at es n)

abbrev pub names_left_by : List Given → List (Name × ItemKind) → List Name → List Name
names_left_by xs es ns = filter (is_left_by xs es) ns

-- one more is given, where its name is new
abbrev pub GivesOne : List Given → Given → List Given → Result ⊤ Refusal → Type 0
GivesOne xs one ys r =
    (g : Graph) (ms : List ℕ) (gs : List stated.Given) (a : stated.Given) → AreGiven g ms gs xs → IsGiven g ms a one
    → IsOutcome (λ hs u. AreGiven g ms hs ys) (add_given gs a) r

-- the argument that a name alone says
abbrev pub inferred_given : List Name → t.Ident → Denoted → stated.Given
inferred_given ns i d = record { name = inferred_name ns i d; denoted = d; span = i.span }

abbrev pub IsInferredGiven : Ident → Graph → List (Name × ℕ) → WorldId → Result Given Refusal → Type 0
IsInferredGiven i g names w r = (ms : List ℕ) (s : State) → AreNamed g ms s.root names
    → IsOutcome (IsGiven g ms) (denoted_by s (view_ident i)
    >>= λ d. pure (inferred_given (imported_by g.types w) (view_ident i) d)) r

-- ---- spreads

-- what was said then, and what is given
abbrev pub SaysGiven : Graph → List (ℕ × Span) → List (Name × ℕ) → List Given → State × List stated.Given → Type 0
SaysGiven g noted names xs q = Says g noted names q.0 × AreGiven g (names_of noted) q.1 xs

-- names of their own, for which nothing is given
pub record AreLeft (gs : List stated.Given) (ns : List Name) : Type 0 where
  pub distinct : AreDistinct ns
  pub left : (n : Name) → Among n ns → has_name (given_names gs) n ≡ false

-- an export, as an argument of its name
abbrev pub IsExportGiven : Name → Graph → ℕ → Span → Graph → Result Given Refusal → Type 0
IsExportGiven n g i at h r = (noted : List (ℕ × Span)) (names : List (Name × ℕ)) (s : State) (d : Denoted) → Says g noted names s
    → Denotes g (names_of noted) d i
    → is_instance_kind (kind_of d.item) ≡ true
    → IsOutcome (λ p one. Says h noted names p.0
    × IsGiven h (names_of noted) (record { name = n; denoted = p.1; span = at }) one) (spoken s (export_named d n at)) r

-- the imports for which nothing is given and that an interface exports
abbrev pub names_left : List Given → Collection → WorldId → InterfaceId → List Name
names_left xs c w i =
    filter (λ n. not (has_name (names_given xs) n) && is_some (value_at (exports_of (stated_of c (ItemKind.Instance i))) n))
    (imported_by c w)

-- the exports of these names
abbrev pub GivesExports : List Name → Graph → ℕ → Span → List Given → Graph → List Given → Result ⊤ Refusal → Type 0
GivesExports ns g i at xs h ys r =
    (noted : List (ℕ × Span)) (names : List (Name × ℕ)) (q : State × List stated.Given) (d : Denoted)
    → SaysGiven g noted names xs q
    → Denotes g (names_of noted) d i → is_instance_kind (kind_of d.item) ≡ true → AreLeft q.1 ns
    → IsOutcome (λ p u. SaysGiven h noted names ys p) (each (spread_given at d) q ns) r

abbrev pub Spreads : Ident → Graph → List (Name × ℕ) → WorldId → List Given → Graph → List Given → Result ⊤ Refusal → Type 0
Spreads i g names w xs h ys r = (noted : List (ℕ × Span)) (q : State × List stated.Given) → SaysGiven g noted names xs q
    → IsOutcome (λ p u. SaysGiven h noted names ys p) (spread_one (imported_by g.types w) q (view_ident i)) r

-- the ident of an argument that is a spread
abbrev pub IsSpreadOf : t.InstantiationArgument → Option Ident → Type 0
IsSpreadOf a (Some i) = a ≡ t.InstantiationArgument.spread (view_ident i)
IsSpreadOf a None = (as_ : t.Arguments) → spreads_of (t.argument a as_) ≡ spreads_of as_

-- the spread that an argument is, if it is one
abbrev pub own_spread : t.InstantiationArgument → List t.Ident
own_spread a = spreads_of (t.argument a t.no_arguments)

abbrev pub TakesSpread : InstantiationArgument → Graph → List (Name × ℕ) → WorldId → List Given → Graph → List Given
    → Result ⊤ Refusal → Type 0
TakesSpread a g names w xs h ys r = (noted : List (ℕ × Span)) (q : State × List stated.Given) → SaysGiven g noted names xs q
    → IsOutcome (λ p u. SaysGiven h noted names ys p) (each (spread_one (imported_by g.types w)) q
    (own_spread (view_instantiation_argument a))) r

abbrev pub AreSpreads : List InstantiationArgument → Graph → List (Name × ℕ) → WorldId → List Given → Graph → List Given
    → Result ⊤ Refusal → Type 0
AreSpreads as_ g names w xs h ys r = (noted : List (ℕ × Span)) (q : State × List stated.Given) → SaysGiven g noted names xs q
    → IsOutcome (λ p u. SaysGiven h noted names ys p) (each (spread_one (imported_by g.types w)) q
    (spreads_of (t.arguments (map view_instantiation_argument as_)))) r

-- ---- what is missing

-- each import needs an argument
abbrev pub IsComplete : PackageName → Collection → WorldId → List Given → Result ⊤ Refusal → Type 0
IsComplete p c w xs r =
    IsOutcome (λ u v. Unit {0}) (none_missing (view_package_name p)
    (find (λ n. not (has_name (names_given xs) n)) (imported_by c w))) r
