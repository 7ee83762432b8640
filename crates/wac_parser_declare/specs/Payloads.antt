-- Optional types of the code's trees.
use Rattle.std.specs.Prelude.{Option, Some, None}
use Rattle.std.specs.declared.alloc.Global.{Global}
use Rattle.std.specs.declared.boxed.Box.{Box}
use Rattle.wac_parser_tree.specs.declared.value_type.«Type».{«Type»}
use Rattle.wac_parser_tree.specs.Trees as t
use Rattle.wac_parser_tree.specs.Views.{view_ty}

abbrev pub boxed_payload : Option (Box «Type» Global) → t.MaybeTy
boxed_payload None = t.MaybeTy.no_ty
boxed_payload (Some b) = t.MaybeTy.some_ty (view_ty b.value)
