use Rattle.std.proofs.Common.{ℕ, Bor, List, Some, ap, ◌∙◌}
use Rattle.std.specs.Option.{option_map}
use Rattle.wac_parser_lexer.proofs.DocLaws.{line_doc, no_doc, open_doc, block_doc}
use Rattle.wac_parser_lexer.proofs.docs.doc_text.Goals as goal

pub returns-in-Some : goal.returns-in-Some
returns-in-Some c = ap (λ (y : List ℕ). Some y) c.trim.ensures.trim ∙ line_doc c.args.comment.now c.in-Some.line.now c.in-Some.ensures.cases

pub returns-in_err-inner : goal.returns-in_err-inner
returns-in_err-inner c =
    ap (option_map (λ (text : Bor (List ℕ)). text.now)) c.from_residual.ensures ∙ no_doc c.args.comment.now c.in_default.ensures.cases c.in_err-inner.ensures.cases

pub returns-in_err-inner-2 : goal.returns-in_err-inner-2
returns-in_err-inner-2 c =
    ap (option_map (λ (text : Bor (List ℕ)). text.now)) c.from_residual-in_err-inner-2.ensures
    ∙ open_doc c.args.comment.now c.in_ok-inner.inner.now c.in_default.ensures.cases c.in_ok-inner.ensures.cases c.in_err-inner-2.ensures.cases

pub returns : goal.returns
returns c =
    ap (λ (y : List ℕ). Some y) c.trim-2.ensures.trim
    ∙ block_doc c.args.comment.now c.in_ok-inner.inner.now c.in_ok-inner-2.inner.now c.in_default.ensures.cases c.in_ok-inner.ensures.cases c.in_ok-inner-2.ensures.cases
