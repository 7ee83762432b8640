use Rattle.std.proofs.Common.{◌≡◌, ◌+◌, [], refl, None, sym, ap, ◌∙◌, arith}
use Rattle.wac_parser_lexer.specs.Pieces.{pieces_at}
use Rattle.wac_parser_lexer.specs.Items.{ahead, behind}
use Rattle.wac_parser_lexer.proofs.PieceLaws.{no_pieces, blank_cut, blank_place, items_ahead, item_behind_some, skip_ahead_some, skip_behind_some, skip_ahead, skip_behind}
use Rattle.wac_parser_lexer.proofs.DocLaws.{docs_stop, docs_end}
use Rattle.wac_parser_lexer.proofs.StopLaws.{docs_blank}
use Rattle.wac_parser_lexer.proofs.lexer.item_behind.Goals as goal

pub returns-then-is_some-clause-found : goal.returns-then-is_some-clause-found
returns-then-is_some-clause-found c =
    sym (items_ahead c.args.source.now c.pieces.at _ c.piece_at-token.result _ c.piece_at-token.ensures.cut (sym c.is_some.ensures ∙ c.if-is_some.true)) ∙ c.pieces.invariant.found

pub returns-then-is_some-clause-rest : goal.returns-then-is_some-clause-rest
returns-then-is_some-clause-rest c =
    sym (item_behind_some c.args.source.now c.pieces.at _ c.piece_at-token.result _ c.piece_at-token.ensures.cut (sym c.is_some.ensures ∙ c.if-is_some.true)) ∙ c.pieces.invariant.rest

pub returns-then-is_some-clause-within : goal.returns-then-is_some-clause-within
returns-then-is_some-clause-within c = record {
  small = omega arith;
  within = c.piece_at-token.ensures.ends.0;
  begins = c.pieces.invariant.place;
  ends = c.piece_at-token.ensures.ends;
}

pub returns-then-is_some-clause-bare : goal.returns-then-is_some-clause-bare
returns-then-is_some-clause-bare c = λ h.
    sym (c.pieces.invariant.bare h) ∙ docs_stop c.args.source.now c.pieces.at _ c.piece_at-token.result _ c.piece_at-token.ensures.cut [] (sym c.is_some.ensures ∙ c.if-is_some.true)

pub pieces-preserved : goal.pieces-preserved
pieces-preserved c =
    let none = sym c.is_some.ensures ∙ c.if-is_some.false in
    record {
      found = sym (skip_ahead_some c.args.source.now c.pieces.at _ c.piece_at-token.result _ c.piece_at-token.ensures.cut none) ∙ c.pieces.invariant.found;
      rest = sym (skip_behind_some c.args.source.now c.pieces.at _ c.piece_at-token.result _ c.piece_at-token.ensures.cut none) ∙ c.pieces.invariant.rest;
      place = c.piece_at-token.ensures.ends;
      bare = λ h. cc;
    }

pub pieces-preserved-then-is_blank : goal.pieces-preserved-then-is_blank
pieces-preserved-then-is_blank c =
    let blank = rw c.as_bytes-bytes.ensures.value at (sym c.is_blank.ensures ∙ c.if-is_blank.true) in
    let cut = blank_cut c.args.source.now c.pieces.at c.pieces-test.true blank in
    record {
      found = sym (skip_ahead c.args.source.now c.pieces.at _ (None, 1) _ cut refl) ∙ c.pieces.invariant.found;
      rest = sym (skip_behind c.args.source.now c.pieces.at _ (None, 1) _ cut refl) ∙ c.pieces.invariant.rest;
      place = blank_place c.args.source.now c.pieces.at c.pieces-test.true blank c.utf8.source c.pieces.invariant.place;
      bare = λ h. sym (docs_blank c.args.source.now c.pieces.at c.pieces-test.true [] blank) ∙ c.pieces.invariant.bare h;
    }

pub returns : goal.returns
returns c =
    let source = c.args.source.now in
    let none = no_pieces source c.pieces.at c.pieces-test.false in
    let here : c.pieces.at + 0 ≡ c.pieces.at = omega arith in
    record {
      found = sym (ap ahead none) ∙ c.pieces.invariant.found;
      rest = ap (pieces_at source) here ∙ none ∙ sym (ap behind none) ∙ c.pieces.invariant.rest;
      within = record { small = omega arith; within = omega (arith, c.pieces.invariant.place.0); begins = c.pieces.invariant.place; ends = rw here c.pieces.invariant.place };
      bare = λ h. sym (c.pieces.invariant.bare h) ∙ docs_end source c.pieces.at [] c.pieces-test.false;
    }
