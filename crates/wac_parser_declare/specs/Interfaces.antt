-- The interface that a body states, or its cause.
use Rattle.std.specs.Prelude.{List, Option, Some, None}
use Rattle.wac_types_base.specs.declared.item.ExternKind.{ExternKind}
use Rattle.wac_types_base.specs.Entries.{Name}
use Rattle.wac_types_base.specs.Stated.{Stated, interface_of}
use Rattle.wac_parser_tree.specs.Trees as t
use Rattle.wac_parser_declare.specs.Scope.{Context, has, identifier}
use Rattle.wac_parser_declare.specs.Declarations.{func_ref}
use Rattle.wac_parser_declare.specs.Bodies.{Body, Holder, no_body, with_item, use_types, item_type}
use Rattle.wac_parser_refusals.specs.Causes.{Answer, ◌>>=◌, ◌>>◌, pure, unless_clear, each, DuplicateInterfaceExport}

-- one more function: its type, then its name
abbrev pub export_item : Holder → Body → t.InterfaceExport → Answer Body
export_item h b e = do
  f ← func_ref b.names e.ty
  unless_clear (has b.items e.id.string) (h.duplicate e.id.string) e.id.span
  pure (with_item b e.id.string f)

abbrev pub interface_item : Context → Holder → Body → t.InterfaceItem → Answer Body
interface_item c h b (t.InterfaceItem.use_ u) = use_types c h b u
interface_item c h b (t.InterfaceItem.ty d) = item_type h b d
interface_item c h b (t.InterfaceItem.export e) = export_item h b e

-- the items of an interface are exports
abbrev pub exporting : Option Name → Holder
exporting name = record { duplicate = λ n. DuplicateInterfaceExport n name; kind = ExternKind.Export }

-- the interface that a body states, under an identifier if it has a name
abbrev pub interface_body : Context → Option Name → Option Name → List t.InterfaceItem → Answer Stated
interface_body c name id items =
    each (interface_item c (exporting name)) no_body items >>= λ b. pure (interface_of id b.uses b.items)

abbrev pub inline_interface : Context → t.InlineInterface → Answer Stated
inline_interface c d = interface_body c None None d.items

abbrev pub interface_decl : Context → t.InterfaceDecl → Answer Stated
interface_decl c d = interface_body c (Some d.id.string) (Some (identifier c.own d.id.string)) d.items
