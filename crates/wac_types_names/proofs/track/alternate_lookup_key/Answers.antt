use Rattle.std.proofs.Common.{◌∙◌, sym, ap, lit<, List, ℕ, take, Some, None}
use Rattle.std.specs.Option.{option_map}
use Rattle.std.proofs.lemmas.Str.Pattern.{split_once_first}
use Rattle.semver.specs.Identifiers.{parts_of}
use Rattle.wac_names.proofs.Parts.{some_of}
use Rattle.wac_types_names.proofs.TrackTexts.{no_at, no_key, no_track, on_track}
use Rattle.wac_types_names.proofs.track.alternate_lookup_key.Goals as goal

pub returns-in-None : goal.returns-in-None
returns-in-None c = sym (no_at c.args.name.now (split_once_first 64 c.args.name.now None c.in-None.ensures.cases (lit< tt)))

pub returns-in-None-2 : goal.returns-in-None-2
returns-in-None-2 c =
    let split = split_once_first 64 c.args.name.now (Some (c.in-Some.front, c.in-Some.text)) c.in-Some.ensures.cases (lit< tt) in
    sym (no_key c.args.name.now c.in-Some.front.now c.in-Some.text.now split (sym c.in_ok-read_version-in-Some.ensures ∙ ap (option_map parts_of) c.in-None-2.is))

pub returns-in-None-track_len : goal.returns-in-None-track_len
returns-in-None-track_len c =
    let split = split_once_first 64 c.args.name.now (Some (c.in-Some.front, c.in-Some.text)) c.in-Some.ensures.cases (lit< tt) in
    sym (no_track c.args.name.now c.in-Some.front.now c.in-Some.text.now (parts_of c.in-Some-2.version) split (sym c.in_ok-read_version-in-Some.ensures ∙ ap (option_map parts_of) c.in-Some-2.is) c.in-None-track_len.ensures)

pub returns : goal.returns
returns c =
    let split = split_once_first 64 c.args.name.now (Some (c.in-Some.front, c.in-Some.text)) c.in-Some.ensures.cases (lit< tt) in
    sym (on_track c.args.name.now c.in-Some.front.now c.in-Some.text.now c.range.result.now (parts_of c.in-Some-2.version) c.in-Some-track_len.len split (sym c.in_ok-read_version-in-Some.ensures ∙ ap (option_map parts_of) c.in-Some-2.is) (c.in-Some-track_len.ensures.2 ∙ ap (λ (t : List ℕ). some_of (take c.in-Some-track_len.len t)) c.as_bytes.ensures.value) c.range.ensures.value)
