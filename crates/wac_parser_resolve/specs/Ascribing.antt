-- What the statements of a document have said so far, as plain lists in order.
use Rattle.std.specs.Prelude.{ℕ, Bool, true, false, not, ◌==◌, ◌&&◌, ◌||◌, if◌then◌else◌, List, [], ◌∷◌, ◌++◌, Option, Some, None, option_map, bytes_eq}
use Rattle.std.specs.List.{list_any}
use Rattle.wac_types_base.specs.Entries.{Name, value_at, with_values}
use Rattle.wac_types_base.specs.Stated.{Stated}
use Rattle.wac_types_names.specs.Keys.{Key}
use Rattle.wac_composition.specs.Composition.{Origin, imported, instance, projected, defined}
use Rattle.wac_parser_tree.specs.Trees as t
use Rattle.wac_parser_tree.specs.Trees.{Span}
use Rattle.wac_parser_refusals.specs.Causes.{Answer, ◌>>◌, pure, present, UndefinedName}
use Rattle.wac_parser_declare.specs.Packages.{Content}
use Rattle.wac_parser_declare.specs.Scope.{Scope, Context, Meant, bind}

-- where something comes from, by the names that import statements and declarations have, with the type by which steps go
pub record Denoted : Type 0 where
  pub origin : Origin ℕ
  pub item : Stated

-- a `new`: the package, its world, what its imports are bound to, where its package is named
pub record Made : Type 0 where
  pub key : Key
  pub world : Stated
  pub arguments : List (Name × Denoted)
  pub span : Span

-- an import statement: its name and where that stands, its item, where its identifier stands
pub record Import : Type 0 where
  pub name : Name
  pub item : Stated
  pub span : Span
  pub id_span : Span

-- something under a name, and where the name stands
pub record Bound : Type 0 where
  pub denoted : Denoted
  pub span : Span

-- what the statements so far have said
pub record State : Type 0 where
  pub own : t.PackageName
  pub packages : List (Key × Content)
  pub root : List (Name × Bound)
  pub imports : List Import
  pub made : List Made
  -- the exports of instances that were spoken of, each once
  pub aliases : List Denoted
  pub definitions : List (Name × Stated)
  pub exports : List (Name × Bound)

-- nothing yet
abbrev pub start : t.Document → List (Key × Content) → State
start d ps =
    record {
      own = d.directive.«package»;
      packages = ps;
      root = [];
      imports = [];
      made = [];
      aliases = [];
      definitions = [];
      exports = [];
    }

abbrev pub meant_by : Bound → Meant
meant_by b = record { item = b.denoted.item; span = b.span }

-- the names of the root
abbrev pub root_scope : State → Scope
root_scope g = with_values meant_by g.root

-- the packages with their worlds alone
abbrev pub worlds_of : List (Key × Content) → List (Key × Stated)
worlds_of ps = with_values (λ (x : Content). x.world) ps

abbrev pub context : State → Context
context g = record { own = g.own; packages = worlds_of g.packages; root = root_scope g }

-- what a name of the root denotes
abbrev pub denoted_by : State → t.Ident → Answer Denoted
denoted_by g i = present (option_map (λ b. b.denoted) (value_at g.root i.string)) (UndefinedName i.string) i.span

-- `i` now stands for this
abbrev pub bound : State → t.Ident → Denoted → Answer State
bound g i d =
    bind (root_scope g) i d.item >> pure (record g { root = g.root ++ (i.string, record { denoted = d; span = i.span }) ∷ [] })

-- the projection of an instance
abbrev pub projection : Denoted → Name → Stated → Denoted
projection d n x = record { origin = projected d.origin n; item = x }

-- the name of an import or an alias
abbrev pub own_name : Origin ℕ → Option Name
own_name (imported n) = Some n
own_name (projected o n) = Some n
own_name (instance k) = None
own_name (defined n x) = None

abbrev pub is_own_definition : Origin ℕ → Bool
is_own_definition (defined n x) = true
is_own_definition o = false

-- two are one thing
abbrev pub same_origin : Origin ℕ → Origin ℕ → Bool
same_origin (imported m) (imported n) = bytes_eq m n
same_origin (instance j) (instance k) = j == k
same_origin (projected o m) (projected p n) = same_origin o p && bytes_eq m n
same_origin (defined m x) (defined n y) = bytes_eq m n
same_origin o p = false

abbrev pub is_projection : Origin ℕ → Bool
is_projection (projected o n) = true
is_projection o = false

-- an export of an instance is spoken of: each is listed once, as the graph has one alias of it
abbrev pub speak_of : State → Denoted → State
speak_of g d =
    if not (is_projection d.origin) || list_any (λ (e : Denoted). same_origin e.origin d.origin) g.aliases then g
    else record g { aliases = g.aliases ++ d ∷ [] }
