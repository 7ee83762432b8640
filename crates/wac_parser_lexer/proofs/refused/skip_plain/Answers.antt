use Rattle.std.proofs.Common.{◌≡◌, ℕ, List, ◌+◌, ◌≤◌, length, drop, ap, sym, subst, ◌∙◌, arith, length-drop}
use Rattle.std.specs.List.{prefix_len}
use Rattle.std.specs.Str.{chars, IsUtf8}
use Rattle.std.proofs.lemmas.List.{take_rest, drop-drop}
use Rattle.std.proofs.lemmas.Str.{IsUtf8-drop, IsCharBoundary-from_drop}
use Rattle.wac_parser_lexer.specs.Plain.{is_plain}
use Rattle.wac_parser_lexer.specs.Refused.{refused_from}
use Rattle.wac_parser_lexer.proofs.PlainLaws.{passes_plain}
use Rattle.wac_parser_lexer.proofs.refused.skip_plain.Goals as goal

pub returns : goal.returns
returns c =
    let source = c.args.source.now in
    let at = c.args.at in
    let n = c.plain_len.result in
    let size : n ≡ prefix_len is_plain (drop at source) = rw (c.as_bytes.ensures.value, take_rest) at c.plain_len.ensures.value in
    let fits : n ≤ length (drop at source) = rw (c.as_bytes.ensures.value, take_rest) at c.plain_len.ensures.fits in
    let passes = passes_plain at (drop at source) (IsUtf8-drop source at c.utf8.source c.requires) in
    let P : List ℕ → Type 0 = IsUtf8 in
    record {
      place = IsCharBoundary-from_drop source (at + n) (omega (arith, length-drop at source, c.requires.0)) (subst P (ap (λ k. drop k (drop at source)) (sym size) ∙ drop-drop n at source) passes.1);
      same = ap (λ (y : List ℕ). refused_from (at + n) (chars y)) (sym (drop-drop n at source)) ∙ ap (λ k. refused_from (at + k) (chars (drop k (drop at source)))) size ∙ passes.0;
      behind = omega arith;
    }
