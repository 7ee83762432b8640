use Rattle.std.proofs.Common.{◌≤◌, length, arith, ◌∙◌}
use Rattle.std.proofs.lemmas.List.{take_all, length-map}
use Rattle.wac_types_base.specs.Entries.{names_of}
use Rattle.wac_types_parts.specs.Parts.{imports_of}
use Rattle.wac_graph_causes.proofs.late.import_names.Goals as goal

pub returns : goal.returns
returns c =
    let is = imports_of c.args.types.now c.args.world in
    let past : length (names_of is) ≤ c.loop-at.at = omega (arith, c.loop-at-test.false, c.import_count-at-end.ensures.len, length-map is (λ e. e.0)) in
    c.loop-at.invariant ∙ take_all c.loop-at.at (names_of is) past
