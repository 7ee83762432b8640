use Rattle.std.proofs.Common.{rules, subst, sym, arith}
use Rattle.wac_manifest.specs.Views.{form_view, Reads}
use Rattle.wac_manifest.proofs.Reading.{its_form, no_form}
use Rattle.wac_manifest.proofs.data.form_of.Goals as goal

pub returns-then-len-ne1 : goal.returns-then-len-ne1
returns-then-len-ne1 c = no_form _ c.in-Some.object.now.entries c.in-Some.ensures (λ q. omega (arith, q, c.len.ensures.len))

pub returns-in_err-text_of : goal.returns-in_err-text_of
returns-in_err-text_of c =
    subst (λ o. Reads form_view o c.from_residual.result)
    (sym (its_form _ c.in-Some.object.now.entries c.in-Some-first_key_value.name.now c.in-Some-first_key_value.value.now c.in-Some.ensures (omega (arith, c.len.ensures.len)) c.in-Some-first_key_value.ensures.first))
    (search rules)

pub returns : goal.returns
returns c =
    subst (λ o. Reads form_view o c.named_form.result)
    (sym (its_form _ c.in-Some.object.now.entries c.in-Some-first_key_value.name.now c.in-Some-first_key_value.value.now c.in-Some.ensures (omega (arith, c.len.ensures.len)) c.in-Some-first_key_value.ensures.first))
    (search rules)
