-- What expressions denote. Each makes its instances, in the order in which they are complete.
use Rattle.std.specs.Prelude.{ℕ, Bool, true, false, not, ◌&&◌, List, [], ◌∷◌, ◌++◌, map, length, Option, Some, None, is_some, filter, find, ⊤, bytes_eq, unwrap_or, option_map, if◌then◌else◌}
use Rattle.std.specs.Option.{option_or}
use Rattle.semver.specs.Parse.{Parts}
use Rattle.wac_types_base.specs.Entries.{Name, value_at, names_of, has_name}
use Rattle.wac_types_base.specs.Stated.{Stated, Kind, IsInstance, kind_of, desc, exports_of, imports_of, identifier_of, instance_type}
use Rattle.wac_types_names.specs.Keys.{Key}
use Rattle.wac_types_fit.specs.declared.checker.SubtypeCheck.{SubtypeCheck}
use Rattle.wac_composition.specs.Tests.{fits}
use Rattle.wac_composition.specs.Classes.{is_instance_kind}
use Rattle.wac_types_written.specs.Written.{written_definition}
use Rattle.wac_composition.specs.Composition.{Origin, instance, defined}
use Rattle.wac_parser_tree.specs.Trees as t
use Rattle.wac_parser_tree.specs.Trees.{Span}
use Rattle.wac_parser_tree.specs.Accessors.{argument_name_span as argument_span, postfix_expr_span as postfix_span, primary_expr_span as primary_span}
use Rattle.wac_parser_refusals.specs.declared.error.InstanceOperation.{InstanceOperation}
use Rattle.wac_parser_refusals.specs.Causes.{Answer, Fault, ◌>>=◌, ◌>>◌, pure, refuse, unless_clear, needs, present, each}
use Rattle.wac_parser_refusals.specs.Causes.{UnknownPackage, NotAnInstance, MissingInstanceExport, MissingComponentImport}
use Rattle.wac_parser_refusals.specs.Causes.{MismatchedInstantiationArg, DuplicateInstantiationArg, MissingInstantiationArg, FillArgumentNotLast, SpreadInstantiationNoMatch}
use Rattle.wac_parser_refusals.specs.Sources.{between}
use Rattle.wac_parser_declare.specs.Scope.{world_of_package}
use Rattle.wac_parser_resolve.specs.Choosing.{greatest_on}
use Rattle.wac_parser_resolve.specs.Matching.{matched}
use Rattle.wac_parser_resolve.specs.Ascribing.{Denoted, Made, State, denoted_by, projection, own_name, speak_of, worlds_of}

-- an operation asks for an instance
abbrev pub asks_instance : Stated → InstanceOperation → Span → Answer ⊤
asks_instance x o s = unless_clear (not (is_instance_kind (kind_of x))) (NotAnInstance (desc x) o) s

abbrev pub needs_instance : Denoted → InstanceOperation → Span → Answer ⊤
needs_instance d o s = asks_instance d.item o s

-- ---- accesses

abbrev pub export_by : Denoted → Name → Option Stated → Span → Answer Denoted
export_by d n None s = refuse (MissingInstanceExport n) s
export_by d n (Some x) s = pure (projection d n x)

abbrev pub export_named : Denoted → Name → Span → Answer Denoted
export_named d n s = export_by d n (value_at (exports_of d.item) n) s

-- by the only matching name, or by a text exactly
abbrev pub access_by : Denoted → t.PostfixExpr → Answer Denoted
access_by d (t.PostfixExpr.access a) = export_named d (matched a.id.string (names_of (exports_of d.item))) a.span
access_by d (t.PostfixExpr.named_access a) = export_named d a.string.value a.span

-- what was said, and a thing that is spoken of
abbrev pub spoken : State → Answer Denoted → Answer (State × Denoted)
spoken g q = q >>= λ d. pure (speak_of g d, d)

-- a refusal stands at what is no instance
abbrev pub access : Span → State → Denoted → t.PostfixExpr → Answer (State × Denoted)
access before g d p = needs_instance d InstanceOperation.Access before >> spoken g (access_by d p)

-- one behind the other
abbrev pub accesses : Span → State → Denoted → List t.PostfixExpr → Answer (State × Denoted)
accesses before g d [] = pure (g, d)
accesses before g d (p ∷ ps) = access before g d p >>= λ r. accesses (postfix_span p) r.0 r.1 ps

-- ---- arguments

-- what is given for an import, and where that is written
pub record Given : Type 0 where
  pub name : Name
  pub denoted : Denoted
  pub span : Span

abbrev pub given_names : List Given → List Name
given_names gs = map (λ (g : Given). g.name) gs

abbrev pub add_given : List Given → Given → Answer (List Given)
add_given gs g = unless_clear (has_name (given_names gs) g.name) (DuplicateInstantiationArg g.name) g.span >> pure (gs ++ g ∷ [])

abbrev pub instance_identifier : Kind → Stated → Option Name
instance_identifier IsInstance x = identifier_of x
instance_identifier k x = None

abbrev pub if_among : List Name → Option Name → Option Name
if_among ns None = None
if_among ns (Some n) = if has_name ns n then Some n else None

-- the import that an argument without a name is for
abbrev pub inferred_name : List Name → t.Ident → Denoted → Name
inferred_name ns i d = unwrap_or
    (option_or (if_among ns (instance_identifier (kind_of d.item) d.item)) (if_among ns (own_name d.origin)))
    (matched i.string ns)

abbrev pub argument_name : List Name → t.InstantiationArgumentName → Name
argument_name ns (t.InstantiationArgumentName.ident i) = matched i.string ns
argument_name ns (t.InstantiationArgumentName.string x) = x.value

-- ---- spreads

-- the imports not yet named that the instance exports exactly
abbrev pub left_names : List Given → List Name → Stated → List Name
left_names gs ns x = filter (λ n. not (has_name (given_names gs) n) && is_some (value_at (exports_of x) n)) ns

-- what was said, and what is given: one more, which is spoken of
abbrev pub spread_given : Span → Denoted → State × List Given → Name → Answer (State × List Given)
spread_given s d r n =
    spoken r.0 (export_named d n s) >>= λ q. pure (q.0, r.1 ++ record { name = n; denoted = q.1; span = s } ∷ [])

abbrev pub spread_all : Span → Denoted → State × List Given → List Name → Answer (State × List Given)
spread_all s d r [] = refuse SpreadInstantiationNoMatch s
spread_all s d r (n ∷ ns) = each (spread_given s d) r (n ∷ ns)

abbrev pub spread_one : List Name → State × List Given → t.Ident → Answer (State × List Given)
spread_one ns r i = do
  d ← denoted_by r.0 i
  needs_instance d InstanceOperation.Spread i.span
  spread_all i.span d r (left_names r.1 ns d.item)

abbrev pub spreads_of : t.Arguments → List t.Ident
spreads_of t.no_arguments = []
spreads_of (t.argument (t.InstantiationArgument.spread i) as_) = i ∷ spreads_of as_
spreads_of (t.argument a as_) = spreads_of as_

-- ---- the instance

-- what is given fits what is asked; else the error tells where they disagree, by the direction of the check
abbrev pub fitting : SubtypeCheck → Stated → Stated → Fault → Option Span → Answer ⊤
fitting way given asked f s = needs (fits given asked) (record { fault = f; span = s; source = between way given asked })

-- a definition is compared as it is written
abbrev pub compared_by : Origin ℕ → Stated → Stated
compared_by (defined n y) x = written_definition x
compared_by o x = x

-- an argument is of an import that the world has, and fits it
abbrev pub argument_fits : Key → Stated → ⊤ → Given → Answer ⊤
argument_fits k w u a = do
  x ← present (value_at (imports_of w) a.name) (MissingComponentImport k.0 a.name) a.span
  fitting SubtypeCheck.Covariant (compared_by a.denoted.origin a.denoted.item) x (MismatchedInstantiationArg a.name) (Some a.span)

abbrev pub none_missing : t.PackageName → Option Name → Answer ⊤
none_missing p None = pure tt
none_missing p (Some n) = refuse (MissingInstantiationArg n p.string) p.span

-- without `...` each import needs an argument
abbrev pub complete : Bool → t.PackageName → List Given → List Name → Answer ⊤
complete true p gs ns = pure tt
complete false p gs ns = none_missing p (find (λ n. not (has_name (given_names gs) n)) ns)

abbrev pub is_filled : t.Arguments → Bool
is_filled t.no_arguments = false
is_filled (t.argument (t.InstantiationArgument.fill s) as_) = true
is_filled (t.argument a as_) = is_filled as_

abbrev pub is_last : t.Arguments → Bool
is_last t.no_arguments = true
is_last (t.argument a as_) = false

abbrev pub with_made : State → Made → State × Denoted
with_made g m =
    (record g { made = g.made ++ m ∷ [] }, record { origin = instance (length g.made); item = instance_type m.world })

-- the arguments of a `new` and its spreads are known: the instance of the package of this key
abbrev pub finished : State → t.PackageName → Key → Stated → List Given → Bool → Answer (State × Denoted)
finished g p k w gs filled = do
  each (argument_fits k w) tt gs
  complete filled p gs (names_of (imports_of w))
  pure (with_made g (record {
    key = k;
    world = w;
    arguments = map
        (λ (a : Given). (a.name, a.denoted)) gs;
    span = p.span;
  }))

-- ---- the package

abbrev pub version_key : Name → Parts → Key
version_key n v = (n, Some v)

-- the key that a `new` names: with a track, that of the greatest version on it
abbrev pub key_named : List Key → t.PackageName → Option Name → Answer Key
key_named ks p None = pure (p.name, p.version)
key_named ks p (Some track) =
    present (option_map (version_key p.name) (greatest_on ks p.name track)) (UnknownPackage p.name) p.span

-- a key with the world of its package
abbrev pub under_key : List (Key × Stated) → Span → Key → Answer (Key × Stated)
under_key ws s k = world_of_package ws k s >>= λ w. pure (k, w)

-- the package that a `new` names, with its world: never the document's own
abbrev pub new_package : State → t.PackageName → Option Name → Answer (Key × Stated)
new_package g p track = unless_clear (bytes_eq p.name g.own.name) (UnknownPackage p.name) p.span
    >> (key_named (names_of g.packages) p track >>= under_key (worlds_of g.packages) p.span)

-- ---- expressions

abbrev mutual
  pub denote : State → t.Expr → Answer (State × Denoted)
  denote g (t.expr s p ps) = primary g p >>= λ r. accesses (primary_span p) r.0 r.1 ps

  pub primary : State → t.PrimaryExpr → Answer (State × Denoted)
  primary g (t.PrimaryExpr.ident i) = denoted_by g i >>= λ d. pure (g, d)
  primary g (t.PrimaryExpr.nested n) = nested g n
  primary g (t.PrimaryExpr.new n) = new_instance g n

  pub nested : State → t.NestedExpr → Answer (State × Denoted)
  nested g (t.nested_expr s e) = denote g e

  pub new_instance : State → t.NewExpr → Answer (State × Denoted)
  new_instance g (t.new_expr s p track as_) = do
    x ← new_package g p track
    r ← arguments g (names_of (imports_of x.1)) [] as_
    q ← each (spread_one (names_of (imports_of x.1))) r (spreads_of as_)
    finished q.0 p x.0 x.1 q.1 (is_filled as_)

  -- the arguments that are no spreads
  pub arguments : State → List Name → List Given → t.Arguments → Answer (State × List Given)
  arguments g ns gs t.no_arguments = pure (g, gs)
  arguments g ns gs (t.argument a as_) = one_argument g ns gs a (is_last as_) >>= λ r. arguments r.0 ns r.1 as_

  pub one_argument : State → List Name → List Given → t.InstantiationArgument → Bool → Answer (State × List Given)
  one_argument g ns gs (t.InstantiationArgument.inferred i) last = do
    d ← denoted_by g i
    hs ← add_given gs (record { name = inferred_name ns i d; denoted = d; span = i.span })
    pure (g, hs)
  one_argument g ns gs (t.InstantiationArgument.spread i) last = pure (g, gs)
  one_argument g ns gs (t.InstantiationArgument.fill s) last = unless_clear (not last) FillArgumentNotLast s >> pure (g, gs)
  one_argument g ns gs (t.InstantiationArgument.named a) last = named_argument g ns gs a

  pub named_argument : State → List Name → List Given → t.NamedInstantiationArgument → Answer (State × List Given)
  named_argument g ns gs (t.named_argument n e) = do
    r ← denote g e
    hs ← add_given gs (record { name = argument_name ns n; denoted = r.1; span = argument_span n })
    pure (r.0, hs)
