-- What the scan gives is the longest token.
use Rattle.std.proofs.Common.{◌≡◌, ℕ, ◌<◌, ◌≤◌, ◌⊎◌, inl, inr, Bool, true, false, ◌&&◌, not, cond, ltb, List, [], ◌∷◌, ◌++◌, length, drop, Option, Some, None, refl, ap, sym, subst, ◌∙◌, arith}
use Rattle.std.proofs.lemmas.Bool.{and_parts}
use Rattle.std.proofs.lemmas.Option.{same_Some}
use Rattle.std.specs.Prelude.{nat_eq}
use Rattle.std.specs.List.{starts_with, list_all}
use Rattle.std.specs.Str.{IsUtf8, IsCharBoundary}
use Rattle.std.proofs.lemmas.Slice.Eq.{starts_is}
use Rattle.std.proofs.lemmas.Bool.Decides.{nat_tests, Decides-eqb}
use Rattle.wac_parser_lexer.specs.declared.token.Token.{Token}
use Rattle.wac_parser_lexer.specs.declared.token.Token.TheVariants as k
use Rattle.wac_parser_lexer.specs.Longest.{IsLongest}
use Rattle.wac_parser_lexer.specs.Words.{IsIdent, IsPackageName, IsPackagePath, IsString, IsLineComment, IsBlockComment}
use Rattle.wac_parser_lexer.specs.Scan.{ident_len, package_name_len, package_path_len, string_len, line_comment_len, block_comment_len}
use Rattle.wac_parser_lexer.specs.Spellings.{Spells, spellings}
use Rattle.wac_parser_lexer.specs.Tokens.{IsToken, comment, block_comment, ident, string, package_name, package_path, spelled, IsNext}
use Rattle.wac_parser_lexer.specs.Front.{longer, spelled_from, spelled_at, longest_at, token_at}
use Rattle.wac_parser_lexer.proofs.WordLaws.{ident_longest, package_name_longest, package_path_longest}
use Rattle.wac_parser_lexer.proofs.TextLaws.{string_longest, line_longest, line_place, less}
use Rattle.wac_parser_lexer.proofs.BlockLaws.{block_longest}
use Rattle.wac_parser_lexer.proofs.AsciiLaws.{Ascii, Ends, is_ascii, ascii_ends, ident_ascii, package_name_ascii, package_path_ascii, string_ends, block_ends, place_behind}
use Rattle.wac_parser_lexer.proofs.Joins.{is_above}

none_of : (n : ℕ) → ltb 0 n ≡ false → n ≡ 0
none_of n h = grind arith

pub not_less : (a b : ℕ) → ltb a b ≡ false → b ≤ a
not_less a b h = grind (arith, nat_tests)

-- a front of the text that is a token of this kind and length
abbrev Front : List ℕ → Token → ℕ → Type 0
Front z kind n = (w : List ℕ) × (rest : List ℕ) × (z ≡ w ++ rest) × (length w ≡ n) × IsToken kind w

-- a candidate: where it has a length, it is such a front
abbrev Sound : List ℕ → Token × ℕ → Type 0
Sound z a = 0 < a.1 → Front z a.0 a.1

-- ---- the longer of two

longer_by : (P : Token × ℕ → Type 0) (a b : Token × ℕ) → P a → P b → (t : Bool) → P (cond t b a)
longer_by P a b h k true = k
longer_by P a b h k false = h

longer_sound : (z : List ℕ) (a b : Token × ℕ) → Sound z a → Sound z b → Sound z (longer a b)
longer_sound z a b h k = longer_by (Sound z) a b h k (ltb a.1 b.1)

size_by : (a b : Token × ℕ) (t : Bool) → ltb a.1 b.1 ≡ t → (a.1 ≤ (cond t b a).1) × (b.1 ≤ (cond t b a).1)
size_by a b true e = (omega (arith, less a.1 b.1 e), omega arith)
size_by a b false e = (omega arith, not_less a.1 b.1 e)

pub longer_size : (a b : Token × ℕ) → (a.1 ≤ (longer a b).1) × (b.1 ≤ (longer a b).1)
longer_size a b = size_by a b (ltb a.1 b.1) refl

first_by : (a b : Token × ℕ) (t : Bool) → ltb a.1 b.1 ≡ t → b.1 ≤ a.1 → cond t b a ≡ a
first_by a b true e h = absurd (omega (arith, less a.1 b.1 e))
first_by a b false e h = refl

pub first_wins : (a b : Token × ℕ) → b.1 ≤ a.1 → longer a b ≡ a
first_wins a b h = first_by a b (ltb a.1 b.1) refl h

-- ---- the table

begins : (z p : List ℕ) → starts_with nat_eq z p ≡ true → z ≡ p ++ drop (length p) z
begins z p h = (starts_is Decides-eqb z p (starts_with nat_eq z p) refl).0 h

begins_back : (z p rest : List ℕ) → z ≡ p ++ rest → starts_with nat_eq z p ≡ true
begins_back z p rest h = (starts_is Decides-eqb z p (starts_with nat_eq z p) refl).1 rest h

-- an entry of a table, where it has a length
abbrev pub Listed : List (List ℕ × Token) → List ℕ → Token × ℕ → Type 0
Listed table z a = 0 < a.1 → (w : List ℕ) × (rest : List ℕ) × (z ≡ w ++ rest) × (length w ≡ a.1) × Spells table a.0 w

abbrev Within : List (List ℕ × Token) → List (List ℕ × Token) → Type 0
Within part table = (kind : Token) (w : List ℕ) → Spells part kind w → Spells table kind w

entry_listed : (table part : List (List ℕ × Token)) (entry : List ℕ × Token) (z : List ℕ) → Within (entry ∷ part) table → starts_with nat_eq z entry.0 ≡ true → Listed table z (entry.1, length entry.0)
entry_listed table part entry z within h = λ some. (entry.0, drop (length entry.0) z, begins z entry.0 h, refl, within entry.1 entry.0 (inl (refl, refl)))

step_listed : (table part : List (List ℕ × Token)) (entry : List ℕ × Token) (best : Token × ℕ) (z : List ℕ) → Within (entry ∷ part) table → Listed table z best → (t : Bool) → starts_with nat_eq z entry.0 ≡ t
    → Listed table z (cond t (longer best (entry.1, length entry.0)) best)
step_listed table part entry best z within h true e = longer_by (Listed table z) best (entry.1, length entry.0) h (entry_listed table part entry z within e) (ltb best.1 (length entry.0))
step_listed table part entry best z within h false e = h

from_listed : (table part : List (List ℕ × Token)) (best : Token × ℕ) (z : List ℕ) → Within part table → Listed table z best → Listed table z (spelled_from best part z)
from_listed table [] best z within h = h
from_listed table (entry ∷ part) best z within h =
    from_listed table part (cond (starts_with nat_eq z entry.0) (longer best (entry.1, length entry.0)) best) z (λ kind w s. within kind w (inr s))
    (step_listed table part entry best z within h (starts_with nat_eq z entry.0) refl)

step_size : (entry : List ℕ × Token) (best : Token × ℕ) (t : Bool) → best.1 ≤ (cond t (longer best (entry.1, length entry.0)) best).1
step_size entry best true = (longer_size best (entry.1, length entry.0)).0
step_size entry best false = omega arith

from_size : (part : List (List ℕ × Token)) (best : Token × ℕ) (z : List ℕ) → best.1 ≤ (spelled_from best part z).1
from_size [] best z = omega arith
from_size (entry ∷ part) best z =
    let next = cond (starts_with nat_eq z entry.0) (longer best (entry.1, length entry.0)) best in
    let a = step_size entry best (starts_with nat_eq z entry.0) in
    let b = from_size part next z in
    omega (arith, a, b)

from_most : (part : List (List ℕ × Token)) (best : Token × ℕ) (z : List ℕ) (kind : Token) (w rest : List ℕ) → z ≡ w ++ rest → Spells part kind w → length w ≤ (spelled_from best part z).1
from_most [] best z kind w rest e s = absurd s
from_most (entry ∷ part) best z kind w rest e (inl s) =
    let test : starts_with nat_eq z entry.0 ≡ true = begins_back z entry.0 rest (e ∙ ap (λ (y : List ℕ). y ++ rest) s.0) in
    let most = (longer_size best (entry.1, length entry.0)).1 in
    let goes = from_size part (longer best (entry.1, length entry.0)) z in
    let next : spelled_from (cond (starts_with nat_eq z entry.0) (longer best (entry.1, length entry.0)) best) part z ≡ spelled_from (longer best (entry.1, length entry.0)) part z =
    ap (λ t. spelled_from (cond t (longer best (entry.1, length entry.0)) best) part z) test in
    omega (arith, most, goes, ap length s.0, ap (λ (a : Token × ℕ). a.1) next)
from_most (entry ∷ part) best z kind w rest e (inr s) =
    from_most part (cond (starts_with nat_eq z entry.0) (longer best (entry.1, length entry.0)) best) z kind w rest e s

pub spelled_listed : (z : List ℕ) → Listed spellings z (spelled_at z)
unfolding spelled_at
spelled_listed z = from_listed spellings spellings (k.Ident, 0) z (λ kind w s. s) (λ some. absurd (omega arith))

pub spelled_most : (z : List ℕ) (kind : Token) (w rest : List ℕ) → z ≡ w ++ rest → Spells spellings kind w → length w ≤ (spelled_at z).1
unfolding spelled_at
spelled_most z kind w rest e s = from_most spellings (k.Ident, 0) z kind w rest e s

-- no keyword and no symbol is an identifier's kind
is_ident : Token → Bool
is_ident k.Ident = true
is_ident _ = false

no_ident : (table : List (List ℕ × Token)) → list_all (λ entry. not (is_ident entry.1)) table ≡ true → (w : List ℕ) → Spells table k.Ident w → ⊥
unfolding is_ident
no_ident [] h w s = s
no_ident (entry ∷ table) h w (inl s) = let e : not (is_ident entry.1) ≡ false = rw (← s.1) refl in absurd (let t = and_parts (not (is_ident entry.1)) _ h in (let u = t.0 in cc))
  where
    and_parts : (a b : Bool) → (a && b) ≡ true → (a ≡ true) × (b ≡ true)
    and_parts true b h = (refl, h)
    and_parts false b h = cc
no_ident (entry ∷ table) h w (inr s) = no_ident table (second (not (is_ident entry.1)) _ h) w s
  where
    second : (a b : Bool) → (a && b) ≡ true → b ≡ true
    second true b h = h
    second false b h = cc

no_ident_spelled : (w : List ℕ) → Spells spellings k.Ident w → ⊥
unfolding spellings is_ident
no_ident_spelled = no_ident spellings refl

-- each text of a table has a byte, and is ASCII
is_text : List ℕ → Bool
is_text w = ltb 0 (length w) && list_all is_ascii w

all_ascii : (w : List ℕ) → list_all is_ascii w ≡ true → Ascii w
all_ascii [] h = tt
all_ascii (b ∷ w) h = let t = and_parts (is_ascii b) (list_all is_ascii w) h in (t.0, all_ascii w t.1)

table_text : (table : List (List ℕ × Token)) → list_all (λ entry. is_text entry.0) table ≡ true → (kind : Token) (w : List ℕ) → Spells table kind w → is_text w ≡ true
table_text [] h kind w s = absurd s
table_text (entry ∷ table) h kind w (inl s) = ap is_text s.0 ∙ (and_parts (is_text entry.0) _ h).0
table_text (entry ∷ table) h kind w (inr s) = table_text table (and_parts (is_text entry.0) _ h).1 kind w s

spelled_text : (kind : Token) (w : List ℕ) → Spells spellings kind w → is_text w ≡ true
unfolding spellings is_text
spelled_text = table_text spellings refl

spelled_some : (kind : Token) (w : List ℕ) → Spells spellings kind w → 0 < length w
unfolding is_text
spelled_some kind w s = is_above (length w) (and_parts (ltb 0 (length w)) (list_all is_ascii w) (spelled_text kind w s)).0

spelled_ends : (kind : Token) (w : List ℕ) → Spells spellings kind w → Ends w
unfolding is_text
spelled_ends kind w s = ascii_ends w (spelled_some kind w s) (all_ascii w (and_parts (ltb 0 (length w)) (list_all is_ascii w) (spelled_text kind w s)).1)

ident_ends : (w : List ℕ) → IsIdent w → Ends w
ident_ends w h = ascii_ends w (ident_longest.some w h) (ident_ascii w h)

package_name_ends : (w : List ℕ) → IsPackageName w → Ends w
package_name_ends w h = ascii_ends w (package_name_longest.some w h) (package_name_ascii w h)

package_path_ends : (w : List ℕ) → IsPackagePath w → Ends w
package_path_ends w h = ascii_ends w (package_path_longest.some w h) (package_path_ascii w h)

-- ---- all candidates

class_sound : (z : List ℕ) (kind : Token) (L : List ℕ → Type 0) (len : List ℕ → ℕ) → IsLongest L len → ((w : List ℕ) → L w → IsToken kind w) → Sound z (kind, len z)
class_sound z kind L len longest is = λ some. (let f = longest.found z some in (f.0, f.1, f.2, f.3, is f.0 f.4))

class_most : (z : List ℕ) (L : List ℕ → Type 0) (len : List ℕ → ℕ) → IsLongest L len → (w rest : List ℕ) → z ≡ w ++ rest → L w → length w ≤ len z
class_most z L len longest w rest e h = let g = longest.greatest w rest h in omega (arith, g, ap len e)

spelled_sound : (z : List ℕ) → Sound z (spelled_at z)
spelled_sound z = λ some. (let f = spelled_listed z some in (f.0, f.1, f.2, f.3, spelled f.4))

pub longest_sound : (z : List ℕ) → Sound z (longest_at z)
unfolding longest_at
longest_sound z =
    let a = longer_sound z (spelled_at z) (k.Ident, ident_len z) (spelled_sound z) (class_sound z k.Ident IsIdent ident_len ident_longest (λ w h. ident h)) in
    let b = longer_sound z _ (k.PackageName, package_name_len z) a (class_sound z k.PackageName IsPackageName package_name_len package_name_longest (λ w h. package_name h)) in
    let c = longer_sound z _ (k.PackagePath, package_path_len z) b (class_sound z k.PackagePath IsPackagePath package_path_len package_path_longest (λ w h. package_path h)) in
    let d = longer_sound z _ (k.String, string_len z) c (class_sound z k.String IsString string_len string_longest (λ w h. string h)) in
    let e = longer_sound z _ (k.Comment, line_comment_len z) d (class_sound z k.Comment IsLineComment line_comment_len line_longest (λ w h. comment h)) in
    longer_sound z _ (k.BlockComment, block_comment_len z) e (class_sound z k.BlockComment IsBlockComment block_comment_len block_longest (λ w h. block_comment h))

-- every token at the front is no longer than the longest
pub longest_parts : (z : List ℕ) → ((spelled_at z).1 ≤ (longest_at z).1) × (ident_len z ≤ (longest_at z).1) × (package_name_len z ≤ (longest_at z).1) × (package_path_len z ≤ (longest_at z).1)
    × (string_len z ≤ (longest_at z).1) × (line_comment_len z ≤ (longest_at z).1) × (block_comment_len z ≤ (longest_at z).1)
unfolding longest_at
longest_parts z =
    let a = longer (spelled_at z) (k.Ident, ident_len z) in
    let b = longer a (k.PackageName, package_name_len z) in
    let c = longer b (k.PackagePath, package_path_len z) in
    let d = longer c (k.String, string_len z) in
    let e = longer d (k.Comment, line_comment_len z) in
    let p = longer_size (spelled_at z) (k.Ident, ident_len z) in
    let q = longer_size a (k.PackageName, package_name_len z) in
    let r = longer_size b (k.PackagePath, package_path_len z) in
    let s = longer_size c (k.String, string_len z) in
    let t = longer_size d (k.Comment, line_comment_len z) in
    let u = longer_size e (k.BlockComment, block_comment_len z) in (
      omega (arith, p.0, q.0, r.0, s.0, t.0, u.0),
      omega (arith, p.1, q.0, r.0, s.0, t.0, u.0),
      omega (arith, q.1, r.0, s.0, t.0, u.0),
      omega (arith, r.1, s.0, t.0, u.0),
      omega (arith, s.1, t.0, u.0),
      omega (arith, t.1, u.0),
      u.1,
    )

longest_most : (z : List ℕ) (kind : Token) (w rest : List ℕ) → z ≡ w ++ rest → IsToken kind w → length w ≤ (longest_at z).1
longest_most z _ w rest e (comment h) = let a = class_most z IsLineComment line_comment_len line_longest w rest e h in let b = longest_parts z in omega (arith, a, b.5)
longest_most z _ w rest e (block_comment h) = let a = class_most z IsBlockComment block_comment_len block_longest w rest e h in let b = longest_parts z in omega (arith, a, b.6)
longest_most z _ w rest e (ident h) = let a = class_most z IsIdent ident_len ident_longest w rest e h in let b = longest_parts z in omega (arith, a, b.1)
longest_most z _ w rest e (string h) = let a = class_most z IsString string_len string_longest w rest e h in let b = longest_parts z in omega (arith, a, b.4)
longest_most z _ w rest e (package_name h) = let a = class_most z IsPackageName package_name_len package_name_longest w rest e h in let b = longest_parts z in omega (arith, a, b.2)
longest_most z _ w rest e (package_path h) = let a = class_most z IsPackagePath package_path_len package_path_longest w rest e h in let b = longest_parts z in omega (arith, a, b.3)
longest_most z kind w rest e (spelled h) = let a = spelled_most z kind w rest e h in let b = longest_parts z in omega (arith, a, b.0)

-- where a keyword or a symbol is as long as any token, it is the longest
spelled_wins : (z : List ℕ) → (longest_at z).1 ≤ (spelled_at z).1 → longest_at z ≡ spelled_at z
unfolding longest_at
spelled_wins z h =
    let s = spelled_at z in
    let n = longest_parts z in
    let a : longer s (k.Ident, ident_len z) ≡ s = first_wins s (k.Ident, ident_len z) (omega (arith, n.1, h)) in
    let b : longer s (k.PackageName, package_name_len z) ≡ s = first_wins s (k.PackageName, package_name_len z) (omega (arith, n.2, h)) in
    let c : longer s (k.PackagePath, package_path_len z) ≡ s = first_wins s (k.PackagePath, package_path_len z) (omega (arith, n.3, h)) in
    let d : longer s (k.String, string_len z) ≡ s = first_wins s (k.String, string_len z) (omega (arith, n.4, h)) in
    let e : longer s (k.Comment, line_comment_len z) ≡ s = first_wins s (k.Comment, line_comment_len z) (omega (arith, n.5, h)) in
    let f : longer s (k.BlockComment, block_comment_len z) ≡ s = first_wins s (k.BlockComment, block_comment_len z) (omega (arith, n.6, h)) in
    let with_name : Token × ℕ → Token × ℕ = λ (x : Token × ℕ). longer x (k.PackageName, package_name_len z) in
    let with_path : Token × ℕ → Token × ℕ = λ (x : Token × ℕ). longer x (k.PackagePath, package_path_len z) in
    let with_string : Token × ℕ → Token × ℕ = λ (x : Token × ℕ). longer x (k.String, string_len z) in
    let with_line : Token × ℕ → Token × ℕ = λ (x : Token × ℕ). longer x (k.Comment, line_comment_len z) in
    let with_block : Token × ℕ → Token × ℕ = λ (x : Token × ℕ). longer x (k.BlockComment, block_comment_len z) in
    ap (λ (x : Token × ℕ). with_block (with_line (with_string (with_path (with_name x))))) a
    ∙ ap (λ (x : Token × ℕ). with_block (with_line (with_string (with_path x)))) b
    ∙ ap (λ (x : Token × ℕ). with_block (with_line (with_string x))) c
    ∙ ap (λ (x : Token × ℕ). with_block (with_line x)) d
    ∙ ap with_block e
    ∙ f

keyword_wins : (z : List ℕ) (w rest : List ℕ) → z ≡ w ++ rest → length w ≡ (longest_at z).1 → 0 < length w → (longest_at z).0 ≡ k.Ident → (other : Token) → Spells spellings other w → ⊥
keyword_wins z w rest e size some is other h =
    let most = spelled_most z other w rest e h in
    let same = spelled_wins z (omega (arith, most, size)) in
    let f = spelled_listed z (omega (arith, most, some)) in
    let P : Token → Type 0 = λ (t : Token). Spells spellings t f.0 in
    no_ident_spelled f.0 (subst P (sym (ap (λ (a : Token × ℕ). a.0) same) ∙ is) f.4)

-- ---- the token at the front

pub either : {A : Type 0} (b : Bool) (x y z : A) → cond b x y ≡ z → ((b ≡ true) × (x ≡ z)) ⊎ ((b ≡ false) × (y ≡ z))
either true x y z e = inl (refl, e)
either false x y z e = inr (refl, e)

Next : List ℕ → Token → ℕ → Type 0
Next z kind n = (word : List ℕ) × (rest : List ℕ) × (length word ≡ n) × IsNext z kind word rest

longest_next : (z : List ℕ) → 0 < (longest_at z).1 → Next z (longest_at z).0 (longest_at z).1
unfolding Next
longest_next z some =
    let f = longest_sound z some in (
      f.0,
      f.1,
      f.3,
      record {
        split = f.2;
        is = f.4;
        longest = λ other v tail e h. (let m = longest_most z other v tail e h in omega (arith, m, f.3));
        keyword = λ is. keyword_wins z f.0 f.1 f.2 f.3 (omega (arith, some, f.3)) is;
      },
    )

pub token_next : (z : List ℕ) (kind : Token) (n : ℕ) → token_at z ≡ Some (kind, n) → (word : List ℕ) × (rest : List ℕ) × (length word ≡ n) × IsNext z kind word rest
unfolding token_at Next
token_next z kind n e =
    elim (either {A = Option (Token × ℕ)} (ltb 0 (longest_at z).1) (Some (longest_at z)) None (Some (kind, n)) e) [
      | inl w ↦ (let P : Token × ℕ → Type 0 = λ (p : Token × ℕ). Next z p.0 p.1 in subst P (same_Some _ _ w.1) (longest_next z (is_above (longest_at z).1 w.0)))
      | inr w ↦ (let r = w.1 in cc)
    ]

pub token_some : (kind : Token) (w : List ℕ) → IsToken kind w → 0 < length w
token_some _ w (comment h) = line_longest.some w h
token_some _ w (block_comment h) = block_longest.some w h
token_some _ w (ident h) = ident_longest.some w h
token_some _ w (string h) = string_longest.some w h
token_some _ w (package_name h) = package_name_longest.some w h
token_some _ w (package_path h) = package_path_longest.some w h
token_some kind w (spelled h) = spelled_some kind w h

-- where it finds none, no front is a token
pub token_none : (z : List ℕ) → token_at z ≡ None → (kind : Token) (word rest : List ℕ) → z ≡ word ++ rest → IsToken kind word → ⊥
unfolding token_at
token_none z e kind word rest split h =
    elim (either {A = Option (Token × ℕ)} (ltb 0 (longest_at z).1) (Some (longest_at z)) None None e) [
      | inl w ↦ (let r = w.1 in cc)
      | inr w ↦ (let m = longest_most z kind word rest split h in let s = token_some kind word h in let n = none_of (longest_at z).1 w.0 in absurd (omega (arith, m, s, n)))
    ]

-- ---- where it ends

abbrev Place : List ℕ → Token × ℕ → Type 0
Place z a = 0 < a.1 → IsUtf8 z → IsCharBoundary z a.1

ends_place : (z w rest : List ℕ) (n : ℕ) → z ≡ w ++ rest → length w ≡ n → Ends w → IsUtf8 z → IsCharBoundary z n
ends_place z w rest n e size ends u =
    let P : List ℕ → Type 0 = λ (y : List ℕ). IsCharBoundary y n in
    subst P (sym e) (subst (IsCharBoundary (w ++ rest)) size (place_behind w rest ends (subst IsUtf8 e u)))

class_place : (z : List ℕ) (kind : Token) (L : List ℕ → Type 0) (len : List ℕ → ℕ) → IsLongest L len → ((w : List ℕ) → L w → Ends w) → Place z (kind, len z)
class_place z kind L len longest ends = λ some u. (let f = longest.found z some in ends_place z f.0 f.1 (len z) f.2 f.3 (ends f.0 f.4) u)

spelled_place : (z : List ℕ) → Place z (spelled_at z)
spelled_place z = λ some u. (let f = spelled_listed z some in ends_place z f.0 f.1 (spelled_at z).1 f.2 f.3 (spelled_ends (spelled_at z).0 f.0 f.4) u)

longest_place : (z : List ℕ) → Place z (longest_at z)
unfolding longest_at
longest_place z =
    let a0 = longer (spelled_at z) (k.Ident, ident_len z) in
    let b0 = longer a0 (k.PackageName, package_name_len z) in
    let c0 = longer b0 (k.PackagePath, package_path_len z) in
    let d0 = longer c0 (k.String, string_len z) in
    let e0 = longer d0 (k.Comment, line_comment_len z) in
    let P : Token × ℕ → Type 0 = λ (x : Token × ℕ). Place z x in
    let a : P a0 = longer_by P (spelled_at z) (k.Ident, ident_len z) (spelled_place z) (class_place z k.Ident IsIdent ident_len ident_longest ident_ends) _ in
    let b : P b0 = longer_by P a0 (k.PackageName, package_name_len z) a (class_place z k.PackageName IsPackageName package_name_len package_name_longest package_name_ends) _ in
    let c : P c0 = longer_by P b0 (k.PackagePath, package_path_len z) b (class_place z k.PackagePath IsPackagePath package_path_len package_path_longest package_path_ends) _ in
    let d : P d0 = longer_by P c0 (k.String, string_len z) c (class_place z k.String IsString string_len string_longest string_ends) _ in
    let e : P e0 = longer_by P d0 (k.Comment, line_comment_len z) d (λ some u. line_place z some) _ in
    longer_by P e0 (k.BlockComment, block_comment_len z) e (class_place z k.BlockComment IsBlockComment block_comment_len block_longest block_ends) _

-- behind a token a character begins, or the text ends
pub token_place : (z : List ℕ) (t : Token × ℕ) → token_at z ≡ Some t → IsUtf8 z → IsCharBoundary z t.1
unfolding token_at
token_place z t e u =
    elim (either {A = Option (Token × ℕ)} (ltb 0 (longest_at z).1) (Some (longest_at z)) None (Some t) e) [
      | inl w ↦ (let P : Token × ℕ → Type 0 = λ (p : Token × ℕ). IsCharBoundary z p.1 in subst P (same_Some _ _ w.1) (longest_place z (is_above (longest_at z).1 w.0) u))
      | inr w ↦ (let r = w.1 in cc)
    ]
