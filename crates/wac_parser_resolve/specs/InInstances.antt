-- What is answered of expressions and of new instances, for each state that the code's board holds.
use Rattle.std.specs.Prelude.{◌≡◌, ℕ, Bool, false, List, [], ◌∷◌, ◌++◌, map, ⊤, Option, option_map, Result}
use Rattle.wac_types_base.specs.declared.ids.WorldId.{WorldId}
use Rattle.wac_types_base.specs.Record.{Collection}
use Rattle.wac_types_base.specs.Entries.{Name, has_name, names_of}
use Rattle.wac_types_base.specs.Stated.{Stated, instance_type}
use Rattle.wac_types_names.specs.Keys.{Key}
use Rattle.wac_graph_core.specs.declared.ids.PackageId.{PackageId}
use Rattle.wac_graph_core.specs.Graph.{Graph}
use Rattle.wac_parser_tree.specs.Trees as t
use Rattle.wac_parser_tree.specs.Trees.{Span}
use Rattle.wac_parser_tree.specs.Accessors.{argument_name_span as argument_span}
use Rattle.wac_parser_tree.specs.declared.expr.Expr.{Expr}
use Rattle.wac_parser_tree.specs.declared.expr.PrimaryExpr.{PrimaryExpr}
use Rattle.wac_parser_tree.specs.declared.expr.NewExpr.{NewExpr}
use Rattle.wac_parser_tree.specs.declared.expr.InstantiationArgument.{InstantiationArgument}
use Rattle.wac_parser_tree.specs.declared.expr.NamedInstantiationArgument.{NamedInstantiationArgument}
use Rattle.wac_parser_tree.specs.Views.{view_expr, view_primary_expr, view_new_expr, view_instantiation_argument, view_named_instantiation_argument, view_package_name}
use Rattle.wac_parser_refusals.specs.declared.refusal.Refusal.{Refusal}
use Rattle.wac_parser_refusals.specs.Causes.{Answer, UnknownPackage, ◌>>=◌, each, present, pure}
use Rattle.wac_parser_refusals.specs.Outcomes.{IsOutcome}
use Rattle.wac_parser_resolve.specs.declared.arguments.Given.{Given}
use Rattle.wac_parser_declare.specs.Packages.{world_if}
use Rattle.wac_parser_resolve.specs.declared.board.Board.{Board}
use Rattle.wac_parser_resolve.specs.declared.packages.GraphTypes.{GraphTypes}
use Rattle.wac_parser_resolve.specs.declared.root.Root.{Root}
use Rattle.wac_parser_resolve.specs.Ascribing.{Denoted, Made, State}
use Rattle.wac_parser_resolve.specs.Denoting as stated
use Rattle.wac_parser_resolve.specs.Denoting.{argument_fits, denote, finished, key_named}
use Rattle.wac_parser_resolve.specs.Holding.{AreGiven, HasItem, IsGiven, Says, names_given}
use Rattle.wac_parser_resolve.specs.InArguments.{imported_by}
use Rattle.wac_parser_resolve.specs.Knowing.{IsPackage, handed_keys, known_in}
use Rattle.wac_parser_resolve.specs.Said.{IsDenoted, IsOnBoard}

-- the nodes of the instances that were made
abbrev pub instances_of : Board → List ℕ
instances_of b = names_of b.instances.noted.items

-- what expressions stand on, in a document with these names
abbrev pub IsOn : Root → Board → State → Type 0
IsOn root b s = IsOnBoard root.own.now root.nodes.now b s

-- what an expression denotes
abbrev pub Denoting : Root → Board → State × Denoted → ℕ → Type 0
Denoting root b q k = IsDenoted root.own.now root.nodes.now b q k

abbrev pub IsExpression : Expr → Root → Board → Board → Result ℕ Refusal → Type 0
IsExpression e root b c r = (s : State) → IsOn root b s → IsOutcome (Denoting root c) (denote s (view_expr e)) r

abbrev pub IsPrimary : PrimaryExpr → Root → Board → Board → Result ℕ Refusal → Type 0
IsPrimary e root b c r = (s : State) → IsOn root b s → IsOutcome (Denoting root c) (stated.primary s (view_primary_expr e)) r

-- ---- the package

-- the track that a `new` names
abbrev pub track_of : NewExpr → Option Name
track_of n = option_map (λ t. t.now) n.track

-- a key with the world of its package, among those that are known
abbrev pub known_under : GraphTypes → Span → Key → Answer (Key × Stated)
known_under g s k = present (world_if (known_in g k)) (UnknownPackage k.0) s >>= λ w. pure (k, w)

-- the package that a `new` names, among those
abbrev pub package_named : GraphTypes → t.PackageName → Option Name → Answer (Key × Stated)
package_named g p track = key_named (handed_keys g) p track >>= known_under g p.span

-- a package of this key and this world
abbrev pub HasPackage : Graph → Key × Stated → PackageId → Type 0
HasPackage g x id = IsPackage g x.0 x.1 id

abbrev pub IsPackageNamed : NewExpr → GraphTypes → GraphTypes → Result PackageId Refusal → Type 0
IsPackageNamed n old new r = IsOutcome (HasPackage new.graph) (package_named old (view_package_name n.«package») (track_of n)) r

-- the package that a `new` names
abbrev pub IsNewPackage : NewExpr → Root → Board → Board → Result PackageId Refusal → Type 0
IsNewPackage n root b c r = (s : State) → IsOn root b s
    → IsOutcome (λ x id. IsOn root c s × HasPackage c.types.graph x id)
    (stated.new_package s (view_package_name n.«package») (track_of n)) r

-- ---- arguments

-- what was said, and what is given so far
pub record HasGiven (root : Root) (b : Board) (xs : List Given) (q : State × List stated.Given) : Type 0 where
  pub on : IsOn root b q.0
  pub given : AreGiven b.types.graph (instances_of b) q.1 xs

-- an argument with its name
abbrev pub named_given : State → List Name → t.NamedInstantiationArgument → Answer (State × stated.Given)
named_given g ns (t.named_argument n e) =
    denote g e >>= λ r. pure (r.0, record { name = stated.argument_name ns n; denoted = r.1; span = argument_span n })

-- what was said, and one that is given
pub record IsOneGiven (root : Root) (b : Board) (q : State × stated.Given) (one : Given) : Type 0 where
  pub on : IsOn root b q.0
  pub given : IsGiven b.types.graph (instances_of b) q.1 one

abbrev pub IsNamedGiven : NamedInstantiationArgument → Root → Board → WorldId → Board → Result Given Refusal → Type 0
IsNamedGiven a root b w c r = (s : State) → IsOn root b s
    → IsOutcome (IsOneGiven root c) (named_given s (imported_by b.types.graph.types w) (view_named_instantiation_argument a)) r

-- `last`: whether the argument is the last one
abbrev pub TakesArgument : InstantiationArgument → Root → Board → WorldId → (last : Bool) → List Given → Board → List Given
    → Result ⊤ Refusal → Type 0
TakesArgument a root b w last xs c ys r = (q : State × List stated.Given) → HasGiven root b xs q
    → IsOutcome (λ p u. HasGiven root c ys p) (stated.one_argument q.0 (imported_by b.types.graph.types w) q.1
    (view_instantiation_argument a) last) r

abbrev pub TakesArguments : List InstantiationArgument → Root → Board → WorldId → List Given → Board → List Given
    → Result ⊤ Refusal → Type 0
TakesArguments as_ root b w xs c ys r = (q : State × List stated.Given) → HasGiven root b xs q
    → IsOutcome (λ p u. HasGiven root c ys p) (stated.arguments q.0 (imported_by b.types.graph.types w) q.1
    (t.arguments (map view_instantiation_argument as_))) r

-- ---- passing them

-- one instance more
abbrev pub makes : State → Made → State
makes s m = record s { made = s.made ++ m ∷ [] }

-- the instance that was made last, with what is passed to it
abbrev pub SaysMade : Graph → List (ℕ × Span) → ℕ → List (Name × ℕ) → State → Made → Type 0
SaysMade g noted i names s m = Says g (noted ++ (i, m.span) ∷ []) names (makes s m)

abbrev pub with_argument : Made → stated.Given → Made
with_argument m a = record m { arguments = m.arguments ++ (a.name, a.denoted) ∷ [] }

abbrev pub with_arguments : Made → List stated.Given → Made
with_arguments m gs = record m { arguments = map (λ (a : stated.Given). (a.name, a.denoted)) gs }

-- nothing is passed to an instance yet
abbrev pub just_made : Key → Stated → Span → Made
just_made k w at = record { key = k; world = w; arguments = []; span = at }

-- one argument is passed
abbrev pub Passes : Graph → ℕ → Given → Graph → Result ⊤ Refusal → Type 0
Passes g i one h r =
    (noted : List (ℕ × Span)) (names : List (Name × ℕ)) (s : State) (m : Made) (a : stated.Given) → SaysMade g noted i names s m
    → IsGiven g (names_of (noted ++ (i, m.span) ∷ [])) a one → has_name (names_of m.arguments) a.name ≡ false
    → IsOutcome (λ u v. SaysMade h noted i names s (with_argument m a)) (argument_fits m.key m.world tt a) r

-- all that is given is passed
abbrev pub PassesAll : Graph → ℕ → List Given → Graph → Result ⊤ Refusal → Type 0
PassesAll g i xs h r =
    (noted : List (ℕ × Span)) (names : List (Name × ℕ)) (s : State) (k : Key) (w : Stated) (at : Span) (gs : List stated.Given)
    → SaysMade g noted i names s (just_made k w at) → AreGiven g (names_of (noted ++ (i, at) ∷ [])) gs xs
    → IsOutcome (λ u v. SaysMade h noted i names s (with_arguments (just_made k w at) gs)) (each (argument_fits k w) tt gs) r

-- an instance of the package is made
abbrev pub Instantiated : Graph → PackageId → Graph → ℕ → Type 0
Instantiated g id h i = (noted : List (ℕ × Span)) (names : List (Name × ℕ)) (s : State) (k : Key) (w : Stated) (at : Span)
    → Says g noted names s → IsPackage g k w id
    → SaysMade h noted i names s (just_made k w at) × HasItem h i (instance_type w)

-- ---- the instance

-- each import needs an argument, unless the rest is filled up
abbrev pub IsWhole : NewExpr → Collection → WorldId → List Given → Result ⊤ Refusal → Type 0
IsWhole n c w xs r = (gs : List stated.Given) → names_given xs ≡ stated.given_names gs
    → IsOutcome (λ u v. Unit {0}) (stated.complete (stated.is_filled
    (t.arguments (map view_instantiation_argument n.arguments.items))) (view_package_name n.«package») gs (imported_by c w)) r

abbrev pub IsFinished : NewExpr → Root → Board → PackageId → List Given → Board → Result ℕ Refusal → Type 0
IsFinished n root b id xs c r = (s : State) (k : Key) (w : Stated) (gs : List stated.Given) → IsOn root b s
    → IsPackage b.types.graph k w id
    → AreGiven b.types.graph (instances_of b) gs xs
    → IsOutcome (Denoting root c) (finished s (view_package_name n.«package») k w gs
    (stated.is_filled (t.arguments (map view_instantiation_argument n.arguments.items)))) r

abbrev pub IsNewInstance : NewExpr → Root → Board → Board → Result ℕ Refusal → Type 0
IsNewInstance n root b c r =
    (s : State) → IsOn root b s → IsOutcome (Denoting root c) (stated.new_instance s (view_new_expr n)) r
