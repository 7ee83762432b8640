use Rattle.std.proofs.Common.{◌∙◌, subst, sym}
use Rattle.std.specs.Str.{IsUtf8}
use Rattle.wac_manifest.proofs.Reading.{no_text, text_there}
use Rattle.wac_manifest.proofs.data.digits_text.Goals as goal

pub returns-in-Ok : goal.returns-in-Ok
returns-in-Ok c =
    text_there c.args.text.now c.in_ok-bytes.bytes.items _ c.in_ok-bytes.ensures (c.in_ok-from_str-in-Ok.ensures.ok ∙ c.in-Ok.ensures.cases.0 ∙ c.deref.ensures.value)
    (subst IsUtf8 c.deref.ensures.value c.in-Ok.ensures.cases.1)

pub returns : goal.returns
returns c = no_text c.args.text.now c.in_ok-bytes.bytes.items c.in_ok-bytes.ensures (λ u. c.in-Err.ensures.cases.0 (subst IsUtf8 (sym c.deref.ensures.value) u))
