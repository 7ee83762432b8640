use Rattle.std.proofs.Common.{◌∙◌, ap}
use Rattle.std.specs.Cmp.Lexicographic.{pointwise}
use Rattle.wac_types_base.specs.Entries.{texts_of}
use Rattle.wac_types_base.specs.Equal.{same_text}
use Rattle.wac_types_base.proofs.Sameness.{texts_same}
use Rattle.wac_types_base.proofs.equal.NamesPartialEq.eq.Goals as goal

pub returns : goal.returns
returns c =
    c.eq.ensures ∙ texts_same c.as_slice.result.now c.as_slice-2.result.now ∙ ap (λ l. pointwise same_text l (texts_of c.as_slice-2.result.now)) c.as_slice.ensures
    ∙ ap (pointwise same_text c.args.self.now) c.as_slice-2.ensures
