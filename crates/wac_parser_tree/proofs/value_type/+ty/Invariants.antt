use Rattle.std.proofs.Common.{◌≡◌, map, take}
use Rattle.wac_parser_tree.specs.Views.{view_ty}
use Rattle.wac_parser_tree.proofs.value_type.+ty.Given as goal

abbrev pub invariant-clone_types-loop-ty : goal.invariant-clone_types-loop-ty
invariant-clone_types-loop-ty l = map view_ty l.copies.items ≡ map view_ty (take l.ty-index l.ty-items)
