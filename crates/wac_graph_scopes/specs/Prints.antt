-- The numbers by which equal value types are found. A number is a function of the type's tree, so equal types have one.
use Rattle.std.specs.Prelude.{◌≡◌, ℕ, List, [], ◌∷◌, Option, None, Some, Result, IfOk}
use Rattle.std.specs.Map.{lookup}
use Rattle.std.specs.Hash.{le_bytes}
use Rattle.std.specs.Hash.FoldHasher.{initial, write, finish}
use Rattle.wac_types_base.specs.contracts.ids.DefinedTypeIdPartialEq.TheImpl.{eq-value}
use Rattle.wac_types_base.specs.declared.ids.DefinedTypeId.{DefinedTypeId}
use Rattle.wac_types_base.specs.declared.item.PrimitiveType.{PrimitiveType}
use Rattle.wac_types_base.specs.declared.item.ValueType.{ValueType}
use Rattle.wac_types_base.specs.declared.item.ItemKind.{ItemKind}
use Rattle.wac_types_base.specs.Record.{Collection}
use Rattle.wac_types_base.specs.Entries.{Name}
use Rattle.wac_types_base.specs.Collection.{Stands, Shape, primitive, tuple, list, fixed_size_list, option, result, variant, record_of, flags, enum, alias, stream, future, resource}
use Rattle.wac_types_base.specs.Tree.{Tree, rigid, handle_own, handle_borrow, Row, end, place, gap}
use Rattle.wac_types_fit.specs.Trees.{tree_in}
use Rattle.wac_graph_scopes.specs.declared.prints.Prints.{Prints}

-- the number of a text, which ends in a byte that no text has
unfoldable pub text_print : Name → ℕ
text_print n = finish (write (write initial n) (255 ∷ []))

-- the number of a list behind one more
unfoldable pub joined : ℕ → ℕ → ℕ
joined before next = finish (write (write initial (le_bytes 8 before)) (le_bytes 8 next))

-- the number of names behind others
abbrev pub names_print : ℕ → List Name → ℕ
names_print before [] = before
names_print before (n ∷ ns) = names_print (joined before (text_print n)) ns

abbrev pub primitive_print : PrimitiveType → ℕ
primitive_print PrimitiveType.U8 = 16
primitive_print PrimitiveType.S8 = 17
primitive_print PrimitiveType.U16 = 18
primitive_print PrimitiveType.S16 = 19
primitive_print PrimitiveType.U32 = 20
primitive_print PrimitiveType.S32 = 21
primitive_print PrimitiveType.U64 = 22
primitive_print PrimitiveType.S64 = 23
primitive_print PrimitiveType.F32 = 24
primitive_print PrimitiveType.F64 = 25
primitive_print PrimitiveType.Char = 26
primitive_print PrimitiveType.Bool = 27
primitive_print PrimitiveType.String = 28
primitive_print PrimitiveType.ErrorContext = 29

-- the number of what stands beside the places
abbrev pub label_print : Shape → ℕ
label_print tuple = 1
label_print list = 2
label_print (fixed_size_list n) = joined 3 n
label_print option = 4
label_print result = 5
label_print (variant ns) = names_print 6 ns
label_print (record_of ns) = names_print 7 ns
label_print (flags ns) = names_print 8 ns
label_print (enum ns) = names_print 9 ns
label_print alias = 10
label_print stream = 11
label_print future = 12
label_print (primitive p) = primitive_print p
label_print _ = 0

abbrev pub resource_print : Tree → ℕ
resource_print (rigid (resource n) r) = text_print n
resource_print t = 0

abbrev mutual
  -- the number of a value type with that tree
  pub tree_print : Tree → ℕ
  tree_print (rigid s r) = row_print (label_print s) r
  tree_print (handle_own t) = joined 13 (resource_print t)
  tree_print (handle_borrow t) = joined 14 (resource_print t)
  tree_print _ = 0

  -- the number of places behind what there is
  pub row_print : ℕ → Row → ℕ
  row_print before end = before
  row_print before (gap r) = row_print (joined before 1) r
  row_print before (place t r) = row_print (joined (joined before 2) (tree_print t)) r

-- the number of what stands in a place, behind what there is
abbrev pub place_print : ℕ → Option Tree → ℕ
place_print before None = joined before 1
place_print before (Some t) = joined (joined before 2) (tree_print t)

abbrev pub places_print : ℕ → List (Option Tree) → ℕ
places_print before [] = before
places_print before (o ∷ os) = places_print (place_print before o) os

-- the number of a value type, and of a defined type
abbrev pub value_print : Collection → ValueType → ℕ
value_print c v = tree_print (tree_in c (ItemKind.Value v))

abbrev pub type_print : Collection → DefinedTypeId → ℕ
type_print c id = value_print c (ValueType.Defined id)

-- each number that is found is that of the type's tree
pub record ArePrints (c : Collection) (p : Prints) : Type 0 where
  pub numbers : (id : DefinedTypeId) (n : ℕ) → lookup (eq-value.it id) p.found.entries ≡ Some n
      → Stands c (ItemKind.Value (ValueType.Defined id)) → n ≡ type_print c id

-- true numbers stay true, and the answer is this number
abbrev pub Answers : {E : Type 0} → Collection → ℕ → Prints → Prints → Result ℕ E → Type 0
Answers c n old new r = ArePrints c old → ArePrints c new × IfOk r (λ k. k ≡ n)

abbrev pub GivesPrint : {E : Type 0} → Collection → Tree → Prints → Prints → Result ℕ E → Type 0
GivesPrint c t old new r = Answers c (tree_print t) old new r

abbrev pub GivesPlace : {E : Type 0} → Collection → ℕ → Option Tree → Prints → Prints → Result ℕ E → Type 0
GivesPlace c before o old new r = Answers c (place_print before o) old new r

abbrev pub GivesRow : {E : Type 0} → Collection → ℕ → List (Option Tree) → Prints → Prints → Result ℕ E → Type 0
GivesRow c before os old new r = Answers c (places_print before os) old new r
