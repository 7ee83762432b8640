-- The tree of an id: aliases peeled, a resource under its root name, exports and imports as finite maps.
use Rattle.std.specs.Prelude.{List, [], ◌∷◌, Option}
use Rattle.std.specs.Ordering.{nat_cmp}
use Rattle.std.specs.Cmp.Lexicographic.{slice_cmp}
use Rattle.std.specs.Option.{option_map}
use Rattle.std.specs.declared.cmp.Ordering.{Ordering}
use Rattle.wac_types_base.specs.declared.core_types.CoreExtern.{CoreExtern}
use Rattle.wac_types_base.specs.declared.item.ItemKind.{ItemKind}
use Rattle.wac_types_base.specs.Record.{Collection}
use Rattle.wac_types_base.specs.Graph.{Whole, Wholes, node, no_more, more, hole}
use Rattle.wac_types_base.specs.Entries.{Name}
use Rattle.wac_types_base.specs.Collection.{Shape, alias, resource_alias, interface, world, module_type, type_of, borrow_of, own_of, unfolding_of}

mutual
  pub data Tree : Type 0 where
    -- functions, values and resources: a label and its places
    rigid : Shape → Row → Tree
    instance : Fields → Tree
    -- the imports, the exports
    component : Fields → Fields → Tree
    -- the imports by two names and the exports of a core module, each by ascending names
    core_module : List ((Name × Name) × CoreExtern) → List (Name × CoreExtern) → Tree
    handle_own : Tree → Tree
    handle_borrow : Tree → Tree
    type_item : Tree → Tree
    deriving Discrete as Tree-discrete

  pub data Row : Type 0 where
    end : Row
    place : Tree → Row → Row
    gap : Row → Row
    deriving Discrete as Row-discrete

  -- a finite map from names, by ascending names
  pub data Fields : Type 0 where
    no_fields : Fields
    field : Name → Tree → Fields → Fields
    deriving Discrete as Fields-discrete

-- xs, with n at t, ahead of the first name that is not below n
abbrev pub put_at : Ordering → Name → Tree → Name → Tree → Fields → Fields → Fields
put_at Ordering.Less n t m u xs rest = field n t (field m u xs)
put_at Ordering.Equal n t m u xs rest = field n t xs
put_at Ordering.Greater n t m u xs rest = field m u rest

abbrev pub put : Name → Tree → Fields → Fields
put n t no_fields = field n t no_fields
put n t (field m u xs) = put_at (slice_cmp nat_cmp n m) n t m u xs (put n t xs)

-- the map from these names to what is in these places
abbrev pub fields : List Name → Row → Fields
fields [] r = no_fields
fields (n ∷ ns) end = no_fields
fields (n ∷ ns) (gap r) = fields ns r
fields (n ∷ ns) (place t r) = put n t (fields ns r)

abbrev pub past : {A : Type 0} → List A → Row → Row
past [] r = r
past (x ∷ xs) end = end
past (x ∷ xs) (gap r) = past xs r
past (x ∷ xs) (place t r) = past xs r

-- what is in the first place
abbrev pub first : Shape → Row → Tree
first s (place t r) = t
first s r = rigid s end

-- xs, with v under k, ahead of the first key that is not below k
abbrev pub put_core_at : {K V : Type 0} → Ordering → K × V → K × V → List (K × V) → List (K × V) → List (K × V)
put_core_at Ordering.Less e x xs rest = e ∷ x ∷ xs
put_core_at Ordering.Equal e x xs rest = e ∷ xs
put_core_at Ordering.Greater e x xs rest = x ∷ rest

abbrev pub put_core : {K V : Type 0} → (K → K → Ordering) → K × V → List (K × V) → List (K × V)
put_core cmp e [] = e ∷ []
put_core cmp e (x ∷ xs) = put_core_at (cmp e.0 x.0) e x xs (put_core cmp e xs)

-- the entries by ascending keys
abbrev pub ascending : {K V : Type 0} → (K → K → Ordering) → List (K × V) → List (K × V)
ascending cmp [] = []
ascending cmp (e ∷ es) = put_core cmp e (ascending cmp es)

abbrev pub name_cmp : Name → Name → Ordering
name_cmp = slice_cmp nat_cmp

-- pairs of names by the first, then by the second
abbrev pub pair_cmp_at : Ordering → Ordering → Ordering
pair_cmp_at Ordering.Equal o = o
pair_cmp_at o p = o

abbrev pub pair_cmp : Name × Name → Name × Name → Ordering
pair_cmp a b = pair_cmp_at (name_cmp a.0 b.0) (name_cmp a.1 b.1)

-- a label over its places' trees
abbrev pub tree_at : Shape → Row → Tree
tree_at alias r = first alias r
tree_at (resource_alias n) r = first (resource_alias n) r
tree_at (interface i us ns) r = instance (fields ns (past us r))
tree_at (world i us is es) r = component (fields is (past us r)) (fields es (past is (past us r)))
tree_at (module_type m) r = core_module (ascending pair_cmp m.imports) (ascending name_cmp m.exports)
tree_at (type_of s) r = type_item (tree_at s r)
tree_at (borrow_of s) r = handle_borrow (tree_at s r)
tree_at (own_of s) r = handle_own (tree_at s r)
tree_at s r = rigid s r

abbrev mutual
  pub tree : Whole Shape → Tree
  tree (node s ts) = tree_at s (trees ts)

  pub trees : Wholes Shape → Row
  trees no_more = end
  trees (more t ts) = place (tree t) (trees ts)
  trees (hole ts) = gap (trees ts)

-- the tree of what a kind names
abbrev pub tree_of : Collection → ItemKind → Option Tree
tree_of c k = option_map tree (unfolding_of c k)
