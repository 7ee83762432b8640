use Rattle.std.proofs.Common.{◌++◌, ◌∙◌, ap}
use Rattle.wac_types_written.specs.Forms.{stated_found}
use Rattle.wac_types_written.specs.Walked.{below_items, below_uses}
use Rattle.wac_types_written.specs.Written.{with_firsts}
use Rattle.wac_types_written.proofs.Walking.{walks_then}
use Rattle.wac_types_written.proofs.uses.used_by.Goals as goal

pub returns : goal.returns
returns c =
    let types = c.args.types.now in
    let us = below_uses types c.args.uses.now in
    let is = below_items types c.args.imports.now in
    let es = below_items types c.args.exports.now in
    let w = walks_then types us (is ++ es) (record { found = c.new.result; walked = c.new-2.result }) c.add_uses.new.walk c.add_items-2.new.walk c.in_ok-add_uses.ensures
    (walks_then types is es c.add_uses.new.walk c.add_items.new.walk c.add_items-2.new.walk c.in_ok-add_items.ensures c.in_ok-add_items-2.ensures) in
    record { stand = w.is.stand; are = w.found ∙ ap (λ fs. with_firsts (stated_found types fs) (us ++ (is ++ es))) c.new.ensures }
