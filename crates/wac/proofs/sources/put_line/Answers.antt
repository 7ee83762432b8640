use Rattle.std.proofs.Common.{None, ◌++◌, ◌∷◌, [], List, ℕ, ap, sym, append_assoc, string_bytes, ◌∙◌}
use Rattle.hex.specs.Hex.{encode_lower}
use Rattle.wac.specs.Running.{head_of, line_of}
use Rattle.wac.proofs.Refusing.{unwritten}
use Rattle.wac.proofs.sources.put_line.Goals as goal

pub returns-clause-refused : goal.returns-clause-refused
returns-clause-refused g c =
    let o = c.args.output.now in
    let digits = c.in_ok-digits.ensures ∙ ap encode_lower c.as_slice.ensures.value in
    let apart = sym (append_assoc (string_bytes c.in_ok-head.head) (32 ∷ string_bytes c.in_ok-digits.digits) (10 ∷ [])) in
    let same = c.as_str.ensures.value ∙ c.in_ok-line.ensures.ok ∙ apart ∙ ap (λ (h : List ℕ). h ++ 32 ∷ string_bytes c.in_ok-digits.digits ++ 10 ∷ []) c.in_ok-head.ensures ∙ ap (λ (d : List ℕ). head_of o ++ 32 ∷ d ++ 10 ∷ []) digits in
    unwritten c.put.result (line_of None o) c.as_str.result.now _ _ _ _ same c.put.ensures.front c.put.ensures.failed c.put.ensures.refused
