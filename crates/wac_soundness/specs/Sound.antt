-- When a composition is sound whose instances have numbers of their own and stand in any order, as those of a graph do.
use Rattle.std.specs.Prelude.{◌≡◌, ℕ, true, Some}
use Rattle.wac_types_base.specs.Collection.{IsAcyclic}
use Rattle.wac_types_base.specs.Entries.{Name, value_at}
use Rattle.wac_types_base.specs.Graph.{Among}
use Rattle.wac_types_base.specs.Stated.{Stated, kind_of, imports_of, exports_of, instance_type}
use Rattle.wac_types_base.specs.Tree.{tree}
use Rattle.wac_types_base.specs.Fits.{Fits}
use Rattle.wac_types_written.specs.Written.{is_type, written_definition}
use Rattle.wac_nesting.specs.Given.{IsDefinition}
use Rattle.wac_composition.specs.Composition.{Origin, imported, instance, projected, defined, Placed, Made, Composition}
use Rattle.wac_composition.specs.Asks.{Ask, asks_of}
use Rattle.wac_composition.specs.Classes.{is_instance_kind}
use Rattle.wac_composition.specs.Renaming.{origin_renamed}
use Rattle.wac_composition.specs.Sound.{IsStraight, given_as, IsBefore}
use Rattle.wac_graph_core.specs.Graph.{Graph, IsGraph}
use Rattle.wac_graph_asks.specs.Graphs.{composition_of}

-- an origin, and the type by which steps from it go; an instance is called by its number
pub data IsTyped {A : Type 0} (c : Composition A ℕ) : Origin ℕ → Stated → Type 0 where
  an_import : (i : Placed A) → Among i c.imports → IsTyped c (imported i.name) i.item
  an_instance : (m : Made A ℕ) → Among m c.made → IsTyped c (instance m.number) (instance_type m.world)
  an_export : (o : Origin ℕ) (x : Stated) (n : Name) (y : Stated) → IsTyped c o x → is_instance_kind (kind_of x) ≡ true
      → value_at (exports_of x) n ≡ Some y → IsTyped c (projected o n) y
  a_definition : (n : Name) (x : Stated) → is_type (kind_of x) ≡ true → IsDefinition (tree (written_definition x)) → IsTyped c (defined n x) x

-- an argument of the instance of this number, for an import of this type: it fits, and speaks of instances of lower rank
pub record IsPassed {A : Type 0} (c : Composition A ℕ) (rank : ℕ → ℕ) (k : ℕ) (o : Origin ℕ) (asked : Stated) : Type 0 where
  pub item : Stated
  pub typed : IsTyped c o item
  pub fits : Fits (tree (given_as o item)) (tree asked)
  pub before : IsBefore (rank k) (origin_renamed rank o)

-- `IsSound` of `wac_composition` for numbers in place of places, with a rank in place of the order in which instances stand
pub record IsSoundByNumber {A : Type 0} (c : Composition A ℕ) : Type 0 where
  pub rank : ℕ → ℕ
  -- an instance is known by its number
  pub one : (m n : Made A ℕ) → Among m c.made → Among n c.made → m.number ≡ n.number → m ≡ n
  pub passed : (m : Made A ℕ) (n : Name) (o : Origin ℕ) (x : Stated) → Among m c.made → value_at m.arguments n ≡ Some o
      → value_at (imports_of m.world) n ≡ Some x → IsPassed c rank m.number o x
  pub exported : (n : Name) (o : Origin ℕ) (x : Stated) → Among (n, o, x) c.exports → IsTyped c o x
  pub straight : (a : Ask A) → Among a (asks_of c) → IsStraight a.item

-- the composition of each graph is sound
abbrev pub GraphsAreSound : Type 0
GraphsAreSound = (g : Graph) → IsGraph g → IsAcyclic g.types → IsSoundByNumber (composition_of g)
