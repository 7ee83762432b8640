use Rattle.std.proofs.Common.{◌∙◌, ap, sym, Some, get_or}
use Rattle.std.specs.Prelude.{string_bytes}
use Rattle.wac_types_base.proofs.Looked.{entry-place}
use Rattle.wac_types_base.proofs.containers.NamedMap.entry.Goals as goal

pub returns : goal.returns
returns g c =
    let n = ap string_bytes (sym c.index-names-at.is) ∙ sym c.as_str.ensures.value in
    entry-place c.args.self.now c.names.result.now c.values.result.now c.args.at c.index-names-at.result c.index-values-at.result c.names.ensures c.values.ensures c.requires
    ∙ ap (λ a. Some (a, get_or c.values.result.now c.args.at c.index-values-at.result)) n ∙ ap (λ b. Some (c.as_str.result.now, b)) (sym c.index-values-at.is)
