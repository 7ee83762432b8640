use Rattle.std.proofs.Common.{◌≡◌, length, arith, sym, ◌∙◌, true≢false}
use Rattle.wac_types_names.proofs.Defining.{one_entry, meaning_is, no_meaning-name}
use Rattle.wac_types_names.proofs.InterfaceTests.{interface_told}
use Rattle.wac_types_names.proofs.definitions.definition_of_world.Goals as goal

pub returns-then-not-branch : goal.returns-then-not-branch
returns-then-not-branch c =
    let one : length c.world.result.now.exports ≡ 1 = omega (arith, c.len.ensures.len) in
    no_meaning-name c.args.types.now c.args.id c.world.result.now c.entry.result.0.now c.entry.result.1.now c.world.ensures.entry (one_entry c.world.result.now.exports _ one c.entry.ensures)
    (λ p. true≢false (sym ((interface_told c.entry.result.0.now).1 p) ∙ sym c.in_ok-is_interface_name.ensures ∙ c.if-not-branch.true))

pub returns : goal.returns
returns c =
    let one : length c.world.result.now.exports ≡ 1 = omega (arith, c.len.ensures.len) in
    meaning_is c.args.types.now c.args.id c.world.result.now c.entry.result.0.now c.entry.result.1.now c.meaning_of.result c.world.ensures.entry (one_entry c.world.result.now.exports _ one c.entry.ensures)
    ((interface_told c.entry.result.0.now).0 (sym c.in_ok-is_interface_name.ensures ∙ c.if-not-branch.false)) c.meaning_of.ensures
