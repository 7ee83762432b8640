-- A small collection, and the trees in it, by computation.
use Rattle.std.proofs.Common.{◌≡◌, [], ◌∷◌, Some, None, false, refl}
use Rattle.wac_types_base.specs.declared.item.PrimitiveType.{PrimitiveType}
use Rattle.wac_types_base.specs.declared.item.ValueType.{ValueType}
use Rattle.wac_types_base.specs.declared.item.ItemKind.{ItemKind}
use Rattle.wac_types_base.specs.declared.defined.FuncType.{FuncType}
use Rattle.wac_types_base.specs.declared.defined.Interface.{Interface}
use Rattle.wac_types_base.specs.Record.{Collection}
use Rattle.wac_types_base.specs.Graph.{whole}
use Rattle.wac_types_base.specs.Collection.{empty, item_node, rows, unfolding_of, func, primitive}
use Rattle.wac_types_base.specs.Tree.{Tree, tree_of, rigid, instance, place, gap, end, field, no_fields}

-- func(x: u32), and an interface that exports it as b and then as a
f : FuncType
f = record { params = (120 ∷ [], ValueType.Primitive PrimitiveType.U32) ∷ []; result = None; is_async = false }

i : Interface
i = record { id = None; uses = []; exports = (98 ∷ [], ItemKind.Func (record { collection = 7; index = 0 })) ∷ (97 ∷ [], ItemKind.Func (record { collection = 7; index = 0 })) ∷ [] }

c : Collection
c = record (empty 7) { func_types = f ∷ []; interfaces = i ∷ [] }

f_tree : Tree
f_tree = rigid (func ((120 ∷ []) ∷ []) false) (place (rigid (primitive PrimitiveType.U32) end) (gap end))

-- in the tree the exports are by ascending names
example : tree_of c (ItemKind.Instance (record { collection = 7; index = 0 })) ≡ Some (instance (field (97 ∷ []) f_tree (field (98 ∷ []) f_tree no_fields)))
unfolding f i c f_tree whole rows item_node unfolding_of
example = refl

-- under another number nothing stands
example_other : tree_of c (ItemKind.Instance (record { collection = 8; index = 0 })) ≡ None
unfolding f i c f_tree whole rows item_node unfolding_of
example_other = refl
