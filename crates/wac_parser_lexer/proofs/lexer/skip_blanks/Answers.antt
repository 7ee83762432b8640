use Rattle.std.proofs.Common.{[], None, refl, sym, ◌∙◌}
use Rattle.wac_parser_lexer.proofs.PieceLaws.{blank_cut, blank_place, skip_ahead, skip_behind}
use Rattle.wac_parser_lexer.proofs.StopLaws.{docs_blank}
use Rattle.wac_parser_lexer.proofs.lexer.skip_blanks.Goals as goal

pub blanks-preserved : goal.blanks-preserved
blanks-preserved c =
    let blank = rw c.as_bytes-bytes.ensures.value at (sym c.is_blank.ensures ∙ c.if-is_blank.true) in
    let cut = blank_cut c.args.source.now c.blanks.at c.blanks-test.true blank in
    record {
      first = sym (skip_ahead c.args.source.now c.blanks.at _ (None, 1) _ cut refl) ∙ c.blanks.invariant.first;
      rest = sym (skip_behind c.args.source.now c.blanks.at _ (None, 1) _ cut refl) ∙ c.blanks.invariant.rest;
      docs = sym (docs_blank c.args.source.now c.blanks.at c.blanks-test.true [] blank) ∙ c.blanks.invariant.docs;
      place = blank_place c.args.source.now c.blanks.at c.blanks-test.true blank c.utf8.source c.blanks.invariant.place;
    }
