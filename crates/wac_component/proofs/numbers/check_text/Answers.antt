use Rattle.std.proofs.Common.{◌≡◌, ℕ, Bool, true, false, List, refl}
use Rattle.std.specs.Str.{is_utf8, IsUtf8}
use Rattle.std.proofs.lemmas.Str.{is_utf8-from_IsUtf8, IsUtf8-from_is_utf8}
use Rattle.wac_component.proofs.numbers.check_text.Goals as goal

not_utf8 : (s : List ℕ) → (IsUtf8 s → ⊥) → is_utf8 s ≡ false
not_utf8 s n = by_case (is_utf8 s) refl
  where
    by_case : (b : Bool) → is_utf8 s ≡ b → is_utf8 s ≡ false
    by_case true e = absurd (n (IsUtf8-from_is_utf8 s e))
    by_case false e = e

pub returns-in_ok-from_str-in-Ok : goal.returns-in_ok-from_str-in-Ok
returns-in_ok-from_str-in-Ok c = rw (is_utf8-from_IsUtf8 c.args.text.now c.in-Ok.ensures.cases.1, c.in_ok-from_str-in-Ok.ensures.ok, c.in-Ok.ensures.cases.0) refl

pub returns-in-Err : goal.returns-in-Err
returns-in-Err c = rw (not_utf8 c.args.text.now c.in-Err.ensures.cases.0, c.refuse.ensures) refl
