use Rattle.std.proofs.Common.{◌≡◌, ℕ, ◌+◌, length, drop, sym, ap, subst, ◌∙◌, arith, Some, refl, length-drop}
use Rattle.std.specs.Str.{chars, IsCharBoundary}
use Rattle.std.proofs.lemmas.Str.{IsUtf8-drop, IsCharBoundary-start, IsCharBoundary-past_char}
use Rattle.wac_parser_lexer.specs.Refused.{refused_from}
use Rattle.wac_parser_lexer.proofs.RefusedLaws.{refused_end, refused_here, refused_later}
use Rattle.wac_parser_lexer.proofs.refused.first_refused.Goals as goal

pub text-init : goal.text-init
text-init c = record { same = refl; place = IsCharBoundary-start c.args.source.now c.utf8.source }

pub returns-in_default : goal.returns-in_default
returns-in_default c =
    let none : length (drop c.skip_plain-odd.result c.args.source.now) ≡ 0 = ap length (sym (c.chars.ensures.rest ∙ c.range_from.ensures.value)) ∙ c.in_default.ensures.steps.0.0 in
    sym (refused_end c.skip_plain-odd.result (drop c.skip_plain-odd.result c.args.source.now) none) ∙ c.skip_plain-odd.ensures.same ∙ c.text.invariant.same

pub returns-in-Some-refusal : goal.returns-in-Some-refusal
returns-in-Some-refusal c =
    let odd = c.skip_plain-odd.result in
    let rest = IsUtf8-drop c.args.source.now odd c.utf8.source c.skip_plain-odd.ensures.place in
    let split = sym (c.chars.ensures.rest ∙ c.range_from.ensures.value) ∙ c.in-Some.ensures.steps.0 in
    ap (λ n. Some (c.in-Some-refusal.error, record { offset = odd; length = n })) c.len_utf8-length.ensures.value
    ∙ sym (refused_here c.args.source.now odd c.in-Some.c c.next.new.self.rest.now rest split c.in-Some-refusal.error (sym c.refusal.ensures ∙ c.in-Some-refusal.is))
    ∙ c.skip_plain-odd.ensures.same ∙ c.text.invariant.same

pub text-preserved : goal.text-preserved
text-preserved c =
    let source = c.args.source.now in
    let odd = c.skip_plain-odd.result in
    let rest = IsUtf8-drop source odd c.utf8.source c.skip_plain-odd.ensures.place in
    let split = sym (c.chars.ensures.rest ∙ c.range_from.ensures.value) ∙ c.in-Some.ensures.steps.0 in
    let P : ℕ → Type 0 = λ (n : ℕ). IsCharBoundary source (odd + n) in
    record {
      same = ap (λ n. refused_from (odd + n) (chars (drop (odd + n) source))) c.len_utf8-length.ensures.value
          ∙ sym (refused_later source odd c.in-Some.c c.next.new.self.rest.now rest split (sym c.refusal.ensures ∙ c.in_default-refusal.is))
          ∙ c.skip_plain-odd.ensures.same ∙ c.text.invariant.same;
      place = subst P (sym c.len_utf8-length.ensures.value) (IsCharBoundary-past_char source c.next.new.self.rest.now odd c.in-Some.c c.skip_plain-odd.ensures.place.0 rest split);
    }

pub returns : goal.returns
returns c = sym (refused_end c.text.at (drop c.text.at c.args.source.now) (omega (arith, length-drop c.text.at c.args.source.now))) ∙ c.text.invariant.same
