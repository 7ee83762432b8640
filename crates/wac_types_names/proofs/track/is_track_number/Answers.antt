use Rattle.std.proofs.Common.{slice_get, sym, ap, ◌∙◌, arith}
use Rattle.std.specs.Option.{option_copied}
use Rattle.wac_types_names.proofs.TrackNames.{first_is, none_begins, begins_above_zero, read_number}
use Rattle.wac_types_names.proofs.track.is_track_number.Goals as goal

pub returns-in-Some : goal.returns-in-Some
returns-in-Some c =
    let text = c.args.text.now in
    let first = first_is text c.in-Some.first.now (ap (λ t. slice_get t 0) (sym c.as_bytes.ensures.value) ∙ sym c.first.ensures.value ∙ ap (λ o. option_copied o) c.in-Some.is) in
    let both = read_number text c.parse.result c.parse.ensures.value.0 (omega (arith, first, c.if-first-gt48.true)) in
    (λ e. both.0 (sym c.is_ok.ensures.value ∙ e), λ m. c.is_ok.ensures.value ∙ both.1 m)

pub returns-in_default : goal.returns-in_default
returns-in_default c =
    let text = c.args.text.now in
    let first = first_is text c.in-Some.first.now (ap (λ t. slice_get t 0) (sym c.as_bytes.ensures.value) ∙ sym c.first.ensures.value ∙ ap (λ o. option_copied o) c.in-Some.is) in
    (λ e. absurd (cc e), λ m. absurd (omega (arith, first, c.if-first-gt48.false, begins_above_zero text m)))

pub returns-in_default-2 : goal.returns-in_default-2
returns-in_default-2 c =
    let text = c.args.text.now in
    (λ e. absurd (cc e), λ m. absurd (none_begins text (ap (λ t. slice_get t 0) (sym c.as_bytes.ensures.value) ∙ sym c.first.ensures.value ∙ ap (λ o. option_copied o) c.in_default.is) (begins_above_zero text m)))
