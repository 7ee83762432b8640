use Rattle.std.proofs.Common.{◌≡◌, ◌+◌, ◌-◌, ◌++◌, ℕ, List, map, take, drop, sym, ap, ◌∙◌, arith}
use Rattle.wac_parser_lexer.specs.declared.span.SourceSpan.{SourceSpan}
use Rattle.wac_parser_lexer.specs.Pieces.{pieces_at}
use Rattle.wac_parser_lexer.specs.Items.{Doc, doc_in, docs_before}
use Rattle.wac_parser_lexer.specs.Docs.{doc_of}
use Rattle.wac_parser_lexer.proofs.DocLaws.{docs_go, docs_end}
use Rattle.wac_parser_lexer.proofs.PieceLaws.{blank_place}
use Rattle.wac_parser_lexer.proofs.StopLaws.{docs_blank, docs_item}
use Rattle.wac_parser_lexer.proofs.lexer.docs_from.Goals as goal

pub pieces-preserved : goal.pieces-preserved
pieces-preserved c =
    let source = c.args.source.now in
    let old = map doc_of c.pieces.docs.items in
    let n = c.piece_at-token.result.1 in
    let span : SourceSpan = record { offset = c.pieces.at; length = n } in
    let size : c.pieces.at + n - c.pieces.at ≡ n = omega arith in
    let text : c.range-comment.result.now ≡ take n (drop c.pieces.at source) = c.range-comment.ensures.value ∙ ap (λ k. take k (drop c.pieces.at source)) size in
    let added : map doc_of c.add_doc.new.docs.items ≡ old ++ doc_in span (take n (drop c.pieces.at source)) = c.in_ok-add_doc.ensures ∙ ap (λ (t : List ℕ). old ++ doc_in span t) text in
    record {
      value = ap (λ (ds : List Doc). docs_before ds (pieces_at source (c.pieces.at + n))) added
          ∙ sym (docs_go source c.pieces.at _ c.piece_at-token.result _ c.piece_at-token.ensures.cut old (sym c.is_some.ensures ∙ c.if-is_some.false))
          ∙ c.pieces.invariant.value;
      place = c.piece_at-token.ensures.ends;
    }

pub returns : goal.returns
returns c = sym (docs_end c.args.source.now c.pieces.at (map doc_of c.pieces.docs.items) c.pieces-test.false) ∙ c.pieces.invariant.value

pub pieces-preserved-then-is_blank : goal.pieces-preserved-then-is_blank
pieces-preserved-then-is_blank c =
    let blank = rw c.as_bytes-bytes.ensures.value at (sym c.is_blank.ensures ∙ c.if-is_blank.true) in
    record {
      value = sym (docs_blank c.args.source.now c.pieces.at c.pieces-test.true (map doc_of c.pieces.docs.items) blank) ∙ c.pieces.invariant.value;
      place = blank_place c.args.source.now c.pieces.at c.pieces-test.true blank c.utf8.source c.pieces.invariant.place;
    }

pub returns-then-bytes-at-ne47 : goal.returns-then-bytes-at-ne47
returns-then-bytes-at-ne47 c =
    let plain = rw c.as_bytes-bytes.ensures.value at (sym c.is_blank.ensures ∙ c.if-is_blank.false) in
    let other = rw c.as_bytes-bytes.ensures.value at c.if-bytes-at-ne47.true in
    sym (docs_item c.args.source.now c.pieces.at c.pieces-test.true (map doc_of c.pieces.docs.items) plain other) ∙ c.pieces.invariant.value
