use Rattle.std.proofs.Common.{◌≡◌, ◌<◌, map, length, sym, ◌∙◌, arith}
use Rattle.std.proofs.lemmas.Bool.Decides.{nat_tests}
use Rattle.std.proofs.lemmas.List.{length-map}
use Rattle.wac_parser_tree.specs.Views.{view_world_include_item}
use Rattle.wac_parser_print.proofs.Adding.{and_then, equal_text, adds_nothing}
use Rattle.wac_parser_print.proofs.FormLaws.{no_names_change, names_change}
use Rattle.wac_parser_print.proofs.printer.DocumentPrinter.add_with_items.Goals as goal

pub returns-then-is_empty : goal.returns-then-is_empty
returns-then-is_empty g c =
    let none : length c.args.items.now.items ≡ 0 = grind (arith, nat_tests) in
    equal_text _ _ (sym (no_names_change c.args.level (map view_world_include_item c.args.items.now.items) (length-map c.args.items.now.items view_world_include_item ∙ none))) (adds_nothing _)

pub returns : goal.returns
returns g c =
    let some : 0 < length c.args.items.now.items = grind (arith, nat_tests) in
    let many : 0 < length (map view_world_include_item c.args.items.now.items) = omega (arith, some, length-map c.args.items.now.items view_world_include_item) in
    equal_text _ _ (sym (names_change c.args.level (map view_world_include_item c.args.items.now.items) many))
    (rw (← c.saturating_add.ensures) (and_then c.word.ensures (and_then c.open_body.ensures (and_then c.add_lines.ensures c.close_body.ensures))))
