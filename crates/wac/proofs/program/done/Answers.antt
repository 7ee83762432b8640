use Rattle.std.proofs.Common.{◌≡◌, ℕ, List, Option, Result, Ok, Err, OnOk, ap, inl, inr, refl, subst}
use Rattle.wac_types_base.specs.Entries.{Name}
use Rattle.wac.specs.Refusing.{ComposesNot, FailsToPrint, PlugsNot, StopsAt}
use Rattle.wac.specs.Running.{Does, DoesAt, IsTextAt, Outside, outside}
use Rattle.wac.specs.Words.{word_of}
use Rattle.wac.proofs.Refusing.{again, err_more, stops_at_text}
use Rattle.wac.proofs.program.done.Goals as goal

-- what is done with the text that stands there
does_at : {T E P : Type 0} {word path : Name} {had left : Option (List ℕ)} {before after : Outside} {text source : List ℕ} (r : Result T E) → IsTextAt had left before.files path source → text ≡ source
    → (P → Does word text before after) → OnOk r P → OnOk r (DoesAt word had left path before after)
does_at {word = word} {before = before} {after = after} {source = source} (Ok x) at same more h = (source, at, subst (λ (y : List ℕ). Does word y before after) same (more h))
does_at (Err e) at same more h = tt

pub returns-in_err-text-clause-refused : goal.returns-in_err-text-clause-refused
returns-in_err-text-clause-refused g c =
    let before = outside (g.F.Files.stored c.args.files.now) (g.F.Files.failures c.args.files.now) (g.O.Write.contents c.args.out.now) (g.O.ByteSink.calls c.args.out.now) in
    again (StopsAt (word_of c.args.command) _ _ _ _ c.args.path.now before before) c.from_residual.result c.in_err-text.field-0.0 c.from_residual.ensures.1 (inl (c.in_err-text.ensures.refused, refl))

pub returns-in-Compose-clause-refused : goal.returns-in-Compose-clause-refused
returns-in-Compose-clause-refused g c =
    err_more (ComposesNot c.as_str.result.now _ _) (StopsAt (word_of c.args.command) _ _ _ _ c.args.path.now _ _) c.compose.result
    (λ stop h. stops_at_text _ _ stop c.in_ok-text.ensures.text c.as_str.ensures.value (inl (ap word_of c.in-Compose.is, h))) c.compose.ensures.refused

pub returns-in-Format-clause-refused : goal.returns-in-Format-clause-refused
returns-in-Format-clause-refused g c =
    err_more (FailsToPrint c.as_str-in-Format.result.now _ _ _ _) (StopsAt (word_of c.args.command) _ _ _ _ c.args.path.now _ _) c.format.result
    (λ stop h. stops_at_text _ _ stop c.in_ok-text.ensures.text c.as_str-in-Format.ensures.value (inr (inl (ap word_of c.in-Format.is, record { fails = h; files = refl; failures = refl })))) c.format.ensures.refused

pub returns-clause-refused : goal.returns-clause-refused
returns-clause-refused g c =
    err_more (PlugsNot c.as_str-in-Plug.result.now _ _) (StopsAt (word_of c.args.command) _ _ _ _ c.args.path.now _ _) c.plug.result
    (λ stop h. stops_at_text _ _ stop c.in_ok-text.ensures.text c.as_str-in-Plug.ensures.value (inr (inr (ap word_of c.in-Plug.is, h)))) c.plug.ensures.refused

pub returns-clause-done : goal.returns-clause-done
returns-clause-done g c =
    does_at c.plug.result c.in_ok-text.ensures.text c.as_str-in-Plug.ensures.value (λ plugs. inr (inr (ap word_of c.in-Plug.is, plugs))) c.plug.ensures.plugs
