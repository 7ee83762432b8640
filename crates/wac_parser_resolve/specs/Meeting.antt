-- The target of a directive, by the types that statements ask.
use Rattle.std.specs.Prelude.{Bool, not, List, [], ◌∷◌, ◌++◌, map, Option, Some, None, is_some, filter, ⊤, Err, if◌then◌else◌}
use Rattle.std.specs.List.{flat_map, list_all}
use Rattle.wac_types_base.specs.declared.item.ExternKind.{ExternKind}
use Rattle.wac_types_base.specs.Entries.{Name, value_at, put_entry}
use Rattle.wac_types_base.specs.Stated.{Stated, Kind, IsWorld, Used, kind_of, desc, promote, untyped, exports_of, imports_of, uses_of, identifier_of}
use Rattle.wac_types_names.specs.Keys.{Key}
use Rattle.wac_types_fit.specs.declared.checker.SubtypeCheck.{SubtypeCheck}
use Rattle.wac_composition.specs.Classes.{is_instance_kind}
use Rattle.wac_parser_tree.specs.Trees as t
use Rattle.wac_parser_tree.specs.Trees.{Span}
use Rattle.wac_parser_refusals.specs.Causes.{Answer, Fault, ◌>>=◌, ◌>>◌, pure, refuse, each, NotWorld, TypeCannotBeWritten, ImportNotInTarget, TargetMismatch, MissingTargetExport, plainly}
use Rattle.wac_parser_declare.specs.Packages.{Content}
use Rattle.wac_parser_declare.specs.Scope.{path_item}
use Rattle.wac_parser_resolve.specs.Ascribing.{Import, Made, Bound, State, context}
use Rattle.wac_parser_resolve.specs.Denoting.{fitting}
use Rattle.std.specs.Option.{option_or}
use Rattle.wac_parser_resolve.specs.Saying.{export_span, statements}

-- ---- what a target gives

-- the uses of a world and of its imported instances
abbrev pub implicit_uses : Stated → List Used
implicit_uses w = uses_of w ++ flat_map (λ e. if is_instance_kind (kind_of e.1) then uses_of e.1 else []) (imports_of w)

abbrev pub put_named : List (Name × Stated) → Stated → Option Name → List (Name × Stated)
put_named es x None = es
put_named es x (Some n) = put_entry es n x

abbrev pub by_identifier : List (Name × Stated) → List Used → List (Name × Stated)
by_identifier es [] = es
by_identifier es (u ∷ us) = by_identifier (put_named es u.interface (identifier_of u.interface)) us

-- the interfaces that they name, under their identifiers: of two under one the last, in the first one's place
abbrev pub implicit_interfaces : Stated → List (Name × Stated)
implicit_interfaces w = by_identifier [] (implicit_uses w)

abbrev pub given_by : Stated → Name → Option Stated
given_by w n = option_or (value_at (implicit_interfaces w) n) (value_at (imports_of w) n)

-- ---- what a document imports

-- a name with its item, and where a statement asks it
pub record Wanted : Type 0 where
  pub name : Name
  pub item : Stated
  pub span : Option Span

abbrev pub wanted_by_statement : Import → Wanted
wanted_by_statement i = record { name = i.name; item = i.item; span = Some i.span }

-- the imports of an instance that no argument is given for, in its world's order
abbrev pub wanted_by_instance : Made → List Wanted
wanted_by_instance m = map (λ e. record { name = e.0; item = e.1; span = None })
    (filter (λ e. not (is_some (value_at m.arguments e.0))) (imports_of m.world))

abbrev pub wanted : State → List Wanted
wanted g = map wanted_by_statement g.imports ++ flat_map wanted_by_instance g.made

-- ---- the target is met: what the target gives fits what is imported, which is checked turned about, and what is exported fits
-- what the target asks

abbrev pub refuse_at : Fault → Option Span → Answer ⊤
refuse_at f s = Err (plainly f s)

abbrev pub import_met : t.PackagePath → Wanted → Option Stated → Answer ⊤
import_met p a None = refuse_at (ImportNotInTarget a.name p.string) a.span
import_met p a (Some x) =
    fitting SubtypeCheck.Contravariant (promote x) a.item (TargetMismatch ExternKind.Import a.name p.string) a.span

abbrev pub export_met : State → t.PackagePath → Name → Stated → Option Bound → Answer ⊤
export_met g p n x None = refuse (MissingTargetExport n (desc x) p.string) p.span
export_met g p n x (Some e) =
    fitting SubtypeCheck.Covariant e.denoted.item (promote x) (TargetMismatch ExternKind.Export n p.string) (Some (export_span g e))

abbrev pub uses_are_named : Stated → Bool
uses_are_named w = list_all (λ (u : Used). is_some (identifier_of u.interface)) (implicit_uses w)

-- its uses are named; each import, then each export is met
abbrev pub target_met : State → t.PackagePath → Stated → Answer ⊤
target_met g p w = do
  if uses_are_named w then pure tt else refuse_at (TypeCannotBeWritten p.string) None
  each (λ u a. import_met p a (given_by w a.name)) tt (wanted g)
  each (λ u e. export_met g p e.0 e.1 (value_at g.exports e.0)) tt (exports_of w)

abbrev pub target_by : Kind → t.PackagePath → Stated → Answer Stated
target_by IsWorld p x = pure (untyped x)
target_by k p x = refuse (NotWorld p.string (desc x)) p.span

abbrev pub target_world : State → t.PackagePath → Answer Stated
target_world g p = path_item (context g) p >>= λ x. target_by (kind_of x) p x

abbrev pub target : State → Option t.PackagePath → Answer (Option Stated)
target g None = pure None
target g (Some p) = target_world g p >>= λ w. target_met g p w >> pure (Some w)

-- ---- a document

-- what the statements say, and the world of the directive, which they meet by the types that they ask
abbrev pub resolved : t.Document → List (Key × Content) → Answer (State × Option Stated)
resolved d ps = statements d ps >>= λ g. target g d.directive.targets >>= λ w. pure (g, w)
