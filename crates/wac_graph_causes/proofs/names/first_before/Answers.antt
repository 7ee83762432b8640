use Rattle.std.proofs.Common.{◌≡◌, ap, is_some, None, string_bytes}
use Rattle.wac_types_base.specs.Entries.{value_at}
use Rattle.wac_graph_causes.proofs.Firsts.{first_put}
use Rattle.wac_graph_causes.proofs.names.first_before.Goals as goal

pub returns-in_ok-insert-in-None-clause-firsts : goal.returns-in_ok-insert-in-None-clause-firsts
returns-in_ok-insert-in-None-clause-firsts c =
    let at = c.as_str.ensures.value in
    let got = c.get.ensures in
    let copied = c.copied.ensures in
    let none = c.in-None.is in
    let free : value_at c.args.firsts.now (string_bytes c.args.shared) ≡ None = cc (at, got, copied, none) in
    first_put c.args.firsts.now c.insert.new.self (string_bytes c.args.shared) c.args.at (ap is_some free) c.in_ok-insert-in-None.ensures.ok
