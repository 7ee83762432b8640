-- What the answers of parsers of parts say, without where they lie in memory.
use Rattle.std.specs.Prelude.{ℕ, List, map, Option, Some, None}
use Rattle.std.specs.Borrow.{Bor}
use Rattle.std.specs.Option.{option_map}
use Rattle.std.specs.declared.alloc.Global.{Global}
use Rattle.std.specs.declared.boxed.Box.{Box}
use Rattle.std.specs.declared.vec.Vec.{Vec}
use Rattle.wac_parser_lexer.specs.declared.span.SourceSpan.{SourceSpan}
use Rattle.wac_parser_tree.specs.declared.value_type.«Type».{«Type»}
use Rattle.wac_parser_tree.specs.declared.import.PackageName.{PackageName}
use Rattle.wac_parser_tree.specs.Trees as t
use Rattle.wac_parser_tree.specs.Views.{view_ty, view_package_name}

-- the views of a list
abbrev pub view_all : {T X : Type 0} → (T → X) → Vec T Global → List X
view_all view v = map view v.items

-- a text that is lent, where there is one
abbrev pub view_text : Option (Bor (List ℕ)) → Option (List ℕ)
view_text = option_map (λ z. z.now)

-- the package of a `new`, with its track
abbrev pub view_new_package : PackageName × Option (Bor (List ℕ)) → t.PackageName × Option (List ℕ)
view_new_package p = (view_package_name p.0, view_text p.1)

abbrev pub view_maybe : Option (Box «Type» Global) → t.MaybeTy
view_maybe None = t.no_ty
view_maybe (Some b) = t.some_ty (view_ty b.value)

abbrev pub view_payload : Option (Box «Type» Global) × SourceSpan → t.MaybeTy × SourceSpan
view_payload p = (view_maybe p.0, p.1)
