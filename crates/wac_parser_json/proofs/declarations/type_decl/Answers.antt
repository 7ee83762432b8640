use Rattle.std.proofs.Common.{ap}
use Rattle.json.specs.Print.{escape_byte}
use Rattle.wac_parser_tree.specs.Views.{view_type_decl}
use Rattle.wac_parser_print.specs.Values.{type_decl}
use Rattle.wac_parser_json.proofs.Writing.{then, of_tree}
use Rattle.wac_parser_json.proofs.declarations.type_decl.Goals as goal

pub returns-in-Variant : goal.returns-in-Variant
unfolding type_decl escape_byte
returns-in-Variant g c = of_tree type_decl (ap view_type_decl c.in-Variant.is) (then c.word.ensures (then c.variant_decl.ensures c.word-in-Variant.ensures))

pub returns-in-Record : goal.returns-in-Record
unfolding type_decl escape_byte
returns-in-Record g c = of_tree type_decl (ap view_type_decl c.in-Record.is) (then c.word-in-Record.ensures (then c.record_decl.ensures c.word-in-Record-2.ensures))

pub returns-in-Flags : goal.returns-in-Flags
unfolding type_decl escape_byte
returns-in-Flags g c = of_tree type_decl (ap view_type_decl c.in-Flags.is) (then c.word-in-Flags.ensures (then c.flags_decl.ensures c.word-in-Flags-2.ensures))

pub returns-in-Enum : goal.returns-in-Enum
unfolding type_decl escape_byte
returns-in-Enum g c = of_tree type_decl (ap view_type_decl c.in-Enum.is) (then c.word-in-Enum.ensures (then c.enum_decl.ensures c.word-in-Enum-2.ensures))

pub returns-in-Alias : goal.returns-in-Alias
unfolding type_decl escape_byte
returns-in-Alias g c = of_tree type_decl (ap view_type_decl c.in-Alias.is) (then c.word-in-Alias.ensures (then c.type_alias.ensures c.word-in-Alias-2.ensures))
