-- Strings as keys of their own texts.
use Rattle.std.specs.Prelude.{◌≡◌, ◌↔◌, ℕ, List, Some, true, String, string_bytes}
use Rattle.std.specs.String.{string_eq}
use Rattle.std.proofs.Common.{sym, ap, ◌∙◌}
use Rattle.std.proofs.lemmas.Slice.Eq.{bytes_eq-Decides}

text_in : (x y : List ℕ) → Some x ≡ Some y → x ≡ y
text_in x y e = cc e

-- two strings are equal exactly where their texts are
pub one_text : {Z : Type 0} (k l : String Z) (s t : List ℕ) → Some (string_bytes k) ≡ Some s → Some (string_bytes l) ≡ Some t
    → (string_eq k l ≡ true) ↔ (s ≡ t)
one_text k l s t e f =
    let d = bytes_eq-Decides (string_bytes k) (string_bytes l) in
    let a = text_in (string_bytes k) s e in
    let b = text_in (string_bytes l) t f in
    (λ h. sym a ∙ d.0 h ∙ b, λ h. d.1 (a ∙ h ∙ sym b))

pub clone_text : {Z : Type 0} (k l : String Z) → string_bytes l ≡ string_bytes k → Some (string_bytes l) ≡ Some (string_bytes k)
clone_text k l e = ap (λ (t : List ℕ). Some t) e
