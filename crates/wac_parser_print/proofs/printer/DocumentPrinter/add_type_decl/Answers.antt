use Rattle.std.proofs.Common.{ap}
use Rattle.wac_parser_tree.specs.Views.{view_type_decl}
use Rattle.wac_parser_print.specs.Printing.{type_decl}
use Rattle.wac_parser_print.proofs.Adding.{and_then, of_view, adds_nothing}
use Rattle.wac_parser_print.proofs.printer.DocumentPrinter.add_type_decl.Goals as goal

pub returns-in-Variant : goal.returns-in-Variant
unfolding type_decl
returns-in-Variant g c = of_view (type_decl c.args.level) (ap view_type_decl c.in-Variant.is) (c.add_variant_decl.ensures)

pub returns-in-Record : goal.returns-in-Record
unfolding type_decl
returns-in-Record g c = of_view (type_decl c.args.level) (ap view_type_decl c.in-Record.is) (c.add_record_decl.ensures)

pub returns-in-Flags : goal.returns-in-Flags
unfolding type_decl
returns-in-Flags g c = of_view (type_decl c.args.level) (ap view_type_decl c.in-Flags.is) (c.add_flags_decl.ensures)

pub returns-in-Enum : goal.returns-in-Enum
unfolding type_decl
returns-in-Enum g c = of_view (type_decl c.args.level) (ap view_type_decl c.in-Enum.is) (c.add_enum_decl.ensures)

pub returns-in-Alias : goal.returns-in-Alias
unfolding type_decl
returns-in-Alias g c = of_view (type_decl c.args.level) (ap view_type_decl c.in-Alias.is) (c.add_type_alias.ensures)
