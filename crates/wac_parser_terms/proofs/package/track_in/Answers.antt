use Rattle.std.proofs.Common.{◌≡◌, true, false, ap, sym, ◌∙◌}
use Rattle.wac_parser_grammar.specs.Tracks.{track_in}
use Rattle.wac_parser_grammar.proofs.TrackTests.{track_taken, other_left}
use Rattle.wac_parser_terms.specs.Views.{view_text}
use Rattle.wac_parser_terms.proofs.package.track_in.Goals as goal

pub returns-then-is_track : goal.returns-then-is_track
returns-then-is_track c = sym (ap (λ o. track_in (view_text o)) c.in-Some.is ∙ track_taken c.in-Some.text.now (c.is_track.ensures.0 c.if-is_track.true))

pub returns-else-is_track : goal.returns-else-is_track
returns-else-is_track c = sym (ap (λ o. track_in (view_text o)) c.in-Some.is ∙ other_left c.in-Some.text.now (λ t. not_both (sym (c.is_track.ensures.1 t) ∙ c.if-is_track.false)))
  where
    not_both : true ≡ false → ⊥
    not_both e = cc
