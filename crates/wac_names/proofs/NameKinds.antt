-- Which kinds of names there are: each form's test, and that no text has two kinds.
use Rattle.std.proofs.Common.{◌≡◌, ℕ, Bool, true, false, cond, List, [], ◌∷◌, ◌++◌, length, take, drop, get_or, ◌+◌, ◌<◌, codes, length-append, append_assoc, refl, sym, ap, ◌∙◌, subst, arith, inl, inr}
use Rattle.std.specs.Prelude.{◌≢◌, ◌==◌, ◌&&◌, ◌||◌, ◌⊎◌, not, Option, Some, None, Result, Ok, Err, IfOk}
use Rattle.std.specs.Bool.{Decides}
use Rattle.std.specs.List.{AllByRecursion, list_all, join_with_byte, position_or_len, before_first, after_first}
use Rattle.std.specs.Cmp.Lexicographic.{pointwise}
use Rattle.std.proofs.lemmas.Slice.Eq.{bytes_eq-Decides}
use Rattle.std.proofs.lemmas.List.Sums.{passes_at_first, split_at_first}
use Rattle.std.proofs.lemmas.List.{take-append-drop, append_cancel_left}
use Rattle.std.proofs.Math.Seq.{take-append_seam}
use Rattle.std.specs.Char.{is_ascii_lowercase, is_ascii_uppercase, is_ascii_digit}
use Rattle.std.proofs.lemmas.Bool.{and_from, and_parts, or_cases, or_left, or_right}
use Rattle.std.proofs.lemmas.List.{append-nil}
use Rattle.std.proofs.lemmas.List.Folds.{list_all-append}
use Rattle.std.proofs.lemmas.Bool.Decides.{Decides-eqb}
use Rattle.std.proofs.lemmas.Result.{IfOk-weaker}
use Rattle.wac_names.specs.declared.names.NameKind.{NameKind}
use Rattle.wac_names.specs.declared.names.NameKind.TheVariants as kind
use Rattle.wac_names.specs.ComponentNames.{lower_or_digit, upper_or_digit, lower_word, upper_word, word_test, IsWord, IsJoined, IsPair, IsBehind, IsLabel, IsInside, IsPlainName, IsPath, IsVersion, IsInterfaceName, IsDependency, IsName}
use Rattle.wac_names.specs.NameTests.{label_test, member_test, plain_test, package_test, path_test, is_full, unbroken_test, joined_test}
use Rattle.wac_names.proofs.Parts.{cons_head, cons_tail}
use Rattle.wac_names.proofs.NameForms.{first_place, no_place, dropped, joined_decides, pair_decides, behind_decides}

-- ---- which bytes stand in which names

-- a byte of a label
abbrev label_byte : ℕ → Bool
label_byte b = lower_or_digit b || (upper_or_digit b || (b == 45))

all_weaker : (p q : ℕ → Bool) → ((b : ℕ) → p b ≡ true → q b ≡ true) → (text : List ℕ) → list_all p text ≡ true → list_all q text ≡ true
all_weaker p q h [] e = refl
all_weaker p q h (b ∷ text) e = let a = and_parts (p b) (list_all p text) e in and_from _ _ (h b a.0) (all_weaker p q h text a.1)

lower_label : (b : ℕ) → lower_or_digit b ≡ true → label_byte b ≡ true
lower_label b e = or_left (lower_or_digit b) (upper_or_digit b || (b == 45)) e

upper_label : (b : ℕ) → upper_or_digit b ≡ true → label_byte b ≡ true
upper_label b e = or_right (lower_or_digit b) (upper_or_digit b || (b == 45)) (or_left (upper_or_digit b) (b == 45) e)

lower_bytes : (w : List ℕ) → lower_word w ≡ true → list_all label_byte w ≡ true
lower_bytes [] e = absurd cc
lower_bytes (b ∷ bs) e =
    let a = and_parts (is_ascii_lowercase b) (list_all lower_or_digit bs) e in
    and_from _ _ (lower_label b (or_left (is_ascii_lowercase b) (is_ascii_digit b) a.0)) (all_weaker lower_or_digit label_byte lower_label bs a.1)

upper_bytes : (w : List ℕ) → upper_word w ≡ true → list_all label_byte w ≡ true
upper_bytes [] e = absurd cc
upper_bytes (b ∷ bs) e =
    let a = and_parts (is_ascii_uppercase b) (list_all upper_or_digit bs) e in
    and_from _ _ (upper_label b (or_left (is_ascii_uppercase b) (is_ascii_digit b) a.0)) (all_weaker upper_or_digit label_byte upper_label bs a.1)

word_bytes : (w : List ℕ) → IsWord w → list_all label_byte w ≡ true
word_bytes w e = elim (or_cases (lower_word w) (upper_word w) e) [ inl a ↦ lower_bytes w a | inr a ↦ upper_bytes w a ]

both_bytes : (q : ℕ → Bool) (a b : List ℕ) → list_all q a ≡ true → list_all q b ≡ true → list_all q (a ++ b) ≡ true
both_bytes q a b e f = list_all-append q a b ∙ and_from _ _ e f

joined_bytes : (q : ℕ → Bool) (c : ℕ) (P : List ℕ → Type 0) → q c ≡ true → ((w : List ℕ) → P w → list_all q w ≡ true) → (parts : List (List ℕ)) → AllByRecursion P parts → list_all q (join_with_byte c parts) ≡ true
joined_bytes q c P at each [] a = refl
joined_bytes q c P at each (w ∷ []) a = each w a.0
joined_bytes q c P at each (w ∷ v ∷ parts) a = both_bytes q w (c ∷ join_with_byte c (v ∷ parts)) (each w a.0) (and_from _ _ at (joined_bytes q c P at each (v ∷ parts) a.1))

are_bytes : (q : ℕ → Bool) (c : ℕ) (P : List ℕ → Type 0) → q c ≡ true → ((w : List ℕ) → P w → list_all q w ≡ true) → (text : List ℕ) → IsJoined c P text → list_all q text ≡ true
are_bytes q c P at each text j = ap (λ (t : List ℕ). list_all q t) j.is ∙ joined_bytes q c P at each j.parts j.each

pair_bytes : (q : ℕ → Bool) (c : ℕ) (P Q : List ℕ → Type 0) → q c ≡ true → ((w : List ℕ) → P w → list_all q w ≡ true) → ((w : List ℕ) → Q w → list_all q w ≡ true) → (text : List ℕ) → IsPair c P Q text → list_all q text ≡ true
pair_bytes q c P Q at left right text j = ap (λ (t : List ℕ). list_all q t) j.is ∙ both_bytes q j.first (c ∷ j.second) (left j.first j.left) (and_from _ _ at (right j.second j.right))

label_bytes : (text : List ℕ) → IsLabel text → list_all label_byte text ≡ true
label_bytes text j = are_bytes label_byte 45 IsWord refl word_bytes text j

-- a label's byte, or one more
abbrev label_or : ℕ → ℕ → Bool
label_or c b = label_byte b || (b == c)

label_in : (c : ℕ) (text : List ℕ) → IsLabel text → list_all (label_or c) text ≡ true
label_in c text j = all_weaker label_byte (label_or c) (λ b e. or_left (label_byte b) (b == c) e) text (label_bytes text j)

package_bytes : (text : List ℕ) → IsPair 58 IsLabel (IsJoined 58 IsLabel) text → list_all (label_or 58) text ≡ true
package_bytes text j = pair_bytes (label_or 58) 58 IsLabel (IsJoined 58 IsLabel) refl (label_in 58) (are_bytes (label_or 58) 58 IsLabel refl (label_in 58)) text j

abbrev path_byte : ℕ → Bool
path_byte b = label_or 58 b || (b == 47)

path_bytes : (text : List ℕ) → IsPath text → list_all path_byte text ≡ true
path_bytes text j =
    pair_bytes path_byte 47 (IsPair 58 IsLabel (IsJoined 58 IsLabel)) (IsJoined 47 IsLabel) refl
    (λ w h. all_weaker (label_or 58) path_byte (λ b e. or_left (label_or 58 b) (b == 47) e) w (package_bytes w h))
    (are_bytes path_byte 47 IsLabel refl (λ w h. all_weaker (label_or 58) path_byte (λ b e. or_left (label_or 58 b) (b == 47) e) w (label_in 58 w h))) text j

-- a byte of another kind stands nowhere
not_that : (q : ℕ → Bool) (c b : ℕ) (t : Bool) → (b == c) ≡ t → q c ≡ false → q b ≡ true → t ≡ false
not_that q c b false e f g = refl
not_that q c b true e f g = let h = (Decides-eqb b c).0 e in absurd (true_false (sym g ∙ ap q h ∙ f))
  where
    true_false : true ≡ false → ⊥
    true_false e = cc

lacks : (q : ℕ → Bool) (c : ℕ) → q c ≡ false → (text : List ℕ) → list_all q text ≡ true → AllByRecursion (λ b. (b == c) ≡ false) text
lacks q c f [] e = tt
lacks q c f (b ∷ text) e = let a = and_parts (q b) (list_all q text) e in (not_that q c b (b == c) refl f a.0, lacks q c f text a.1)

-- ---- the tests decide

word_decides : (w : List ℕ) → Decides (word_test w) (IsWord w)
word_decides w = (λ e. e, λ e. e)

pub label_decides : (text : List ℕ) → Decides (label_test text) (IsLabel text)
label_decides text = joined_decides 45 word_test IsWord word_decides (λ w e. lacks_dash w e) text
  where
    lower_not : (b : ℕ) (t : Bool) → (b == 45) ≡ t → lower_or_digit b ≡ true → t ≡ false
    lower_not b t e f = not_that lower_or_digit 45 b t e refl f

    upper_not : (b : ℕ) (t : Bool) → (b == 45) ≡ t → upper_or_digit b ≡ true → t ≡ false
    upper_not b t e f = not_that upper_or_digit 45 b t e refl f

    lacks_lower : (w : List ℕ) → lower_word w ≡ true → AllByRecursion (λ b. (b == 45) ≡ false) w
    lacks_lower [] e = tt
    lacks_lower (b ∷ bs) e =
        let a = and_parts (is_ascii_lowercase b) (list_all lower_or_digit bs) e in
        (lower_not b (b == 45) refl (or_left (is_ascii_lowercase b) (is_ascii_digit b) a.0), lacks lower_or_digit 45 refl bs a.1)

    lacks_upper : (w : List ℕ) → upper_word w ≡ true → AllByRecursion (λ b. (b == 45) ≡ false) w
    lacks_upper [] e = tt
    lacks_upper (b ∷ bs) e =
        let a = and_parts (is_ascii_uppercase b) (list_all upper_or_digit bs) e in
        (upper_not b (b == 45) refl (or_left (is_ascii_uppercase b) (is_ascii_digit b) a.0), lacks upper_or_digit 45 refl bs a.1)

    lacks_dash : (w : List ℕ) → IsWord w → AllByRecursion (λ b. (b == 45) ≡ false) w
    lacks_dash w e = elim (or_cases (lower_word w) (upper_word w) e) [ inl a ↦ lacks_lower w a | inr a ↦ lacks_upper w a ]

labels_decide : (c : ℕ) → label_byte c ≡ false → (text : List ℕ) → Decides (joined_test c label_test text) (IsJoined c IsLabel text)
labels_decide c f text = joined_decides c label_test IsLabel label_decides (λ w j. lacks label_byte c f w (label_bytes w j)) text

member_decides : (text : List ℕ) → Decides (member_test text) (IsPair 46 IsLabel IsLabel text)
member_decides text = pair_decides 46 label_test label_test IsLabel IsLabel label_decides label_decides (λ w j. lacks label_byte 46 refl w (label_bytes w j)) text

package_decides : (text : List ℕ) → Decides (package_test text) (IsPair 58 IsLabel (IsJoined 58 IsLabel) text)
package_decides text = pair_decides 58 label_test (joined_test 58 label_test) IsLabel (IsJoined 58 IsLabel) label_decides (labels_decide 58 refl) (λ w j. lacks label_byte 58 refl w (label_bytes w j)) text

pub path_decides : (text : List ℕ) → Decides (path_test text) (IsPath text)
path_decides text =
    pair_decides 47 package_test (joined_test 47 label_test) (IsPair 58 IsLabel (IsJoined 58 IsLabel)) (IsJoined 47 IsLabel) package_decides (labels_decide 47 refl) (λ w j. lacks (label_or 58) 47 refl w (package_bytes w j)) text

pub path_lacks : (text : List ℕ) → IsPath text → AllByRecursion (λ b. (b == 64) ≡ false) text
path_lacks text j = lacks path_byte 64 refl text (path_bytes text j)

pub either : (a b : Bool) (P Q : Type 0) → Decides a P → Decides b Q → Decides (a || b) (P ⊎ Q)
either a b P Q d e = (
  λ h. elim (or_cases a b h) [ inl x ↦ inl (d.0 x) | inr y ↦ inr (e.0 y) ],
  λ h. elim h [ inl x ↦ or_left a b (d.1 x) | inr y ↦ or_right a b (e.1 y) ],
)

pub plain_decides : (text : List ℕ) → Decides (plain_test text) (IsPlainName text)
plain_decides text =
    either _ _ _ _ (label_decides text) (either _ _ _ _ (behind_decides (codes "[constructor]") label_test IsLabel label_decides text)
    (either _ _ _ _ (behind_decides (codes "[method]") member_test (IsPair 46 IsLabel IsLabel) member_decides text) (behind_decides (codes "[static]") member_test (IsPair 46 IsLabel IsLabel) member_decides text)))

-- ---- no text has two kinds: its first byte that is none of a label's tells

abbrev first_other : List ℕ → Option ℕ
first_other [] = None
first_other (b ∷ bs) = cond (label_byte b) (first_other bs) (Some b)

none_other : (text : List ℕ) → list_all label_byte text ≡ true → first_other text ≡ None
none_other [] e = refl
none_other (b ∷ text) e = let a = and_parts (label_byte b) (list_all label_byte text) e in ap (λ (t : Bool). cond t (first_other text) (Some b)) a.0 ∙ none_other text a.1

this_other : (f s : List ℕ) (c : ℕ) → list_all label_byte f ≡ true → label_byte c ≡ false → first_other (f ++ c ∷ s) ≡ Some c
this_other [] s c e n = ap (λ (t : Bool). cond t (first_other s) (Some c)) n
this_other (b ∷ f) s c e n = let a = and_parts (label_byte b) (list_all label_byte f) e in ap (λ (t : Bool). cond t (first_other (f ++ c ∷ s)) (Some b)) a.0 ∙ this_other f s c a.1 n

plain_other : (text : List ℕ) → IsPlainName text → (first_other text ≡ None) ⊎ (first_other text ≡ Some 91)
plain_other text p = elim p [
  | inl j ↦ inl (none_other text (label_bytes text j))
  | inr q ↦ elim q [
    | inl j ↦ inr (ap first_other j.is)
    | inr r ↦ elim r [ inl j ↦ inr (ap first_other j.is) | inr j ↦ inr (ap first_other j.is) ]
  ]
]

path_other : (text s : List ℕ) → IsPath text → first_other (text ++ s) ≡ Some 58
path_other text s j =
    let k = j.left in
    let e : text ++ s ≡ k.first ++ 58 ∷ ((k.second ++ 47 ∷ j.second) ++ s) =
    ap (λ (t : List ℕ). t ++ s) (j.is ∙ ap (λ (t : List ℕ). t ++ 47 ∷ j.second) k.is) ∙ simp append_assoc in
    ap first_other e ∙ this_other k.first ((k.second ++ 47 ∷ j.second) ++ s) 58 (label_bytes k.first k.left) refl

interface_other : (text : List ℕ) → IsInterfaceName text → first_other text ≡ Some 58
interface_other text p = elim p [
  | inl j ↦ ap first_other (sym (append-nil text)) ∙ path_other text [] j
  | inr j ↦ ap first_other j.is ∙ path_other j.first (64 ∷ j.second) j.left
]

dependency_other : (text : List ℕ) → IsDependency text → first_other text ≡ Some 61
dependency_other text p = elim p [ inl j ↦ ap first_other j.is | inr j ↦ ap first_other j.is ]

not_same : (a b : ℕ) (o : Option ℕ) → (a == b) ≡ false → o ≡ Some a → o ≡ Some b → ⊥
not_same a b o n e f = true_false (sym ((Decides-eqb a b).1 (some_is (sym e ∙ f))) ∙ n)
  where
    true_false : true ≡ false → ⊥
    true_false e = cc

    some_is : {x y : ℕ} → Some x ≡ Some y → x ≡ y
    some_is e = cc

plain_not : (b : ℕ) (text : List ℕ) → (91 == b) ≡ false → IsPlainName text → first_other text ≡ Some b → ⊥
plain_not b text n p f = elim (plain_other text p) [ inl e ↦ none_some (sym e ∙ f) | inr e ↦ not_same 91 b (first_other text) n e f ]
  where
    none_some : None ≡ Some b → ⊥
    none_some e = cc

url_other : (text : List ℕ) → IsName kind.Url text → first_other text ≡ Some 61
url_other text j = ap first_other j.is

hash_other : (text : List ℕ) → IsName kind.Hash text → first_other text ≡ Some 61
hash_other text j = ap first_other j.is

url_hash : (text : List ℕ) → IsName kind.Url text → IsName kind.Hash text → ⊥
url_hash text j k = omega (arith, cons_head _ _ _ _ (sym j.is ∙ k.is))

dependency_url : (text : List ℕ) → IsName kind.Dependency text → IsName kind.Url text → ⊥
dependency_url text p k = elim p [ inl j ↦ omega (arith, cons_head _ _ _ _ (cons_tail _ _ _ _ (sym j.is ∙ k.is))) | inr j ↦ omega (arith, cons_head _ _ _ _ (sym j.is ∙ k.is)) ]

dependency_hash : (text : List ℕ) → IsName kind.Dependency text → IsName kind.Hash text → ⊥
dependency_hash text p k = elim p [ inl j ↦ omega (arith, cons_head _ _ _ _ (sym j.is ∙ k.is)) | inr j ↦ omega (arith, cons_head _ _ _ _ (sym j.is ∙ k.is)) ]

pub one_kind : (k j : NameKind) (text : List ℕ) → IsName k text → IsName j text → k ≡ j
one_kind kind.Plain kind.Plain text p q = refl
one_kind kind.Interface kind.Interface text p q = refl
one_kind kind.Dependency kind.Dependency text p q = refl
one_kind kind.Url kind.Url text p q = refl
one_kind kind.Hash kind.Hash text p q = refl
one_kind kind.Plain kind.Interface text p q = absurd (plain_not 58 text refl p (interface_other text q))
one_kind kind.Plain kind.Dependency text p q = absurd (plain_not 61 text refl p (dependency_other text q))
one_kind kind.Plain kind.Url text p q = absurd (plain_not 61 text refl p (url_other text q))
one_kind kind.Plain kind.Hash text p q = absurd (plain_not 61 text refl p (hash_other text q))
one_kind kind.Interface kind.Plain text p q = absurd (plain_not 58 text refl q (interface_other text p))
one_kind kind.Dependency kind.Plain text p q = absurd (plain_not 61 text refl q (dependency_other text p))
one_kind kind.Url kind.Plain text p q = absurd (plain_not 61 text refl q (url_other text p))
one_kind kind.Hash kind.Plain text p q = absurd (plain_not 61 text refl q (hash_other text p))
one_kind kind.Interface kind.Dependency text p q = absurd (not_same 58 61 (first_other text) refl (interface_other text p) (dependency_other text q))
one_kind kind.Interface kind.Url text p q = absurd (not_same 58 61 (first_other text) refl (interface_other text p) (url_other text q))
one_kind kind.Interface kind.Hash text p q = absurd (not_same 58 61 (first_other text) refl (interface_other text p) (hash_other text q))
one_kind kind.Dependency kind.Interface text p q = absurd (not_same 58 61 (first_other text) refl (interface_other text q) (dependency_other text p))
one_kind kind.Url kind.Interface text p q = absurd (not_same 58 61 (first_other text) refl (interface_other text q) (url_other text p))
one_kind kind.Hash kind.Interface text p q = absurd (not_same 58 61 (first_other text) refl (interface_other text q) (hash_other text p))
one_kind kind.Dependency kind.Url text p q = absurd (dependency_url text p q)
one_kind kind.Url kind.Dependency text p q = absurd (dependency_url text q p)
one_kind kind.Dependency kind.Hash text p q = absurd (dependency_hash text p q)
one_kind kind.Hash kind.Dependency text p q = absurd (dependency_hash text q p)
one_kind kind.Url kind.Hash text p q = absurd (url_hash text p q)
one_kind kind.Hash kind.Url text p q = absurd (url_hash text q p)

abbrev pub some_kind : NameKind → Option NameKind
some_kind k = Some k

-- a text of a kind has no other
pub kind_is : (k : NameKind) (text : List ℕ) → IsName k text → (j : NameKind) → (some_kind k ≡ Some j → IsName j text) × (IsName j text → some_kind k ≡ Some j)
kind_is k text p j = (λ e. subst (λ (j : NameKind). IsName j text) (kind_in e) p, λ q. ap Some (one_kind k j text p q))
  where
    kind_in : {x y : NameKind} → some_kind x ≡ Some y → x ≡ y
    kind_in e = cc

abbrev pub none_kind : Option NameKind
none_kind = None

pub no_kind : (text : List ℕ) → ((k : NameKind) → IsName k text → ⊥) → (j : NameKind) → (none_kind ≡ Some j → IsName j text) × (IsName j text → none_kind ≡ Some j)
no_kind text h j = (λ e. absurd (none_is e), λ q. absurd (h j q))
  where
    none_is : none_kind ≡ Some j → ⊥
    none_is e = cc

-- ---- texts in brackets

pub inside_decides : (text inside : List ℕ) (last : ℕ) → text ≡ inside ++ last ∷ [] → Decides ((last == 62) && unbroken_test inside) (IsInside text)
inside_decides text inside last is = (
  λ e.
      let a = and_parts (last == 62) (unbroken_test inside) e in
      let b = and_parts (is_full inside) (list_all (λ b. not (b == 60)) inside) a.1 in
      record {
        inside = inside;
        is = is ∙ ap (λ (x : ℕ). inside ++ x ∷ []) ((Decides-eqb last 62).0 a.0);
        some = λ e. true_false (sym b.0 ∙ ap is_full e);
        unbroken = none_there inside b.1;
      },
  λ j.
      let s = last_same inside j.inside last 62 (sym is ∙ j.is) in
      let full : is_full inside ≡ true = ap is_full s.0 ∙ full_is j.inside j.some in
      and_from _ _ ((Decides-eqb last 62).1 s.1) (and_from _ _ full (ap (λ (t : List ℕ). list_all (λ b. not (b == 60)) t) s.0 ∙ none_test j.inside j.unbroken)),
)
  where
    true_false : true ≡ false → ⊥
    true_false e = cc

    not_true : (b : Bool) → not b ≡ true → b ≡ false
    not_true false e = refl
    not_true true e = absurd cc

    none_there : (xs : List ℕ) → list_all (λ b. not (b == 60)) xs ≡ true → AllByRecursion (λ b. (b == 60) ≡ false) xs
    none_there [] e = tt
    none_there (x ∷ xs) e = let a = and_parts (not (x == 60)) (list_all (λ b. not (b == 60)) xs) e in (not_true (x == 60) a.0, none_there xs a.1)

    none_test : (xs : List ℕ) → AllByRecursion (λ b. (b == 60) ≡ false) xs → list_all (λ b. not (b == 60)) xs ≡ true
    none_test [] a = refl
    none_test (x ∷ xs) a = and_from _ _ (ap not a.0) (none_test xs a.1)

    full_is : (xs : List ℕ) → xs ≢ [] → is_full xs ≡ true
    full_is [] n = absurd (n refl)
    full_is (x ∷ xs) n = refl

    last_same : (xs ys : List ℕ) (x y : ℕ) → xs ++ x ∷ [] ≡ ys ++ y ∷ [] → (xs ≡ ys) × (x ≡ y)
    last_same [] [] x y e = (refl, cons_head x y [] [] e)
    last_same [] (b ∷ ys) x y e = absurd (omega (arith, ap length e, length-append ys (y ∷ [])))
    last_same (a ∷ xs) [] x y e = absurd (omega (arith, ap length e, length-append xs (x ∷ [])))
    last_same (a ∷ xs) (b ∷ ys) x y e =
        let r = last_same xs ys x y (cons_tail a b _ _ e) in
        let h = cons_head a b _ _ e in
        let k = r.0 in
        (cc, r.1)

-- ---- a part behind others, and an interface's version

pub behind_some : (front text rest : List ℕ) (b : Bool) (P : List ℕ → Type 0) → pointwise ◌==◌ (take (length front) text) front ≡ true → rest ≡ drop (length front) text → Decides b (P rest) → Decides b (IsBehind front P text)
behind_some front text rest b P same is d =
    let at : text ≡ front ++ rest = sym (take-append-drop (length front) text) ∙ ap (λ (x : List ℕ). x ++ drop (length front) text) ((bytes_eq-Decides (take (length front) text) front).0 same) ∙ ap (λ (x : List ℕ). front ++ x) (sym is) in
    (λ e. record { rest = rest; is = at; form = d.0 e }, λ j. d.1 (subst P (append_cancel_left front j.rest rest (sym j.is ∙ at)) j.form))

pub behind_none : (front text : List ℕ) (P : List ℕ → Type 0) → pointwise ◌==◌ (take (length front) text) front ≡ false → Decides false (IsBehind front P text)
behind_none front text P other = (
  λ e. absurd cc,
  λ j.
      let same : pointwise ◌==◌ (take (length front) text) front ≡ true = (bytes_eq-Decides (take (length front) text) front).1 (ap (take (length front)) j.is ∙ take-append_seam front j.rest) in
      sym other ∙ same,
)

-- without `@`
pub path_alone : (text : List ℕ) (b : Bool) → position_or_len (λ b. b == 64) text ≡ length text → Decides b (IsPath text) → Decides b (IsInterfaceName text)
path_alone text b none d = (
  λ e. inl (d.0 e),
  λ p. elim p [
    | inl j ↦ d.1 j
    | inr j ↦ absurd (omega (arith, ap (λ (t : List ℕ). position_or_len (λ b. b == 64) t) (sym j.is), ap (λ (t : List ℕ). length t) j.is, none, first_place 64 j.first j.second (path_lacks j.first j.left), length-append j.first (64 ∷ j.second)))
  ],
)

-- with one
module _ (text : List ℕ) (lt : position_or_len (λ b. b == 64) text < length text) where
  abbrev front : List ℕ
  front = before_first (λ b. b == 64) text

  abbrev behind : List ℕ
  behind = after_first (λ b. b == 64) text

  around : text ≡ front ++ 64 ∷ behind
  around = split_at_first (λ b. b == 64) text 0 lt ∙ ap (λ (x : ℕ). front ++ x ∷ behind) ((Decides-eqb (get_or text (position_or_len (λ b. b == 64) text) 0) 64).0 (passes_at_first (λ b. b == 64) text 0 lt))

  no_path : IsPath text → ⊥
  no_path p = omega (arith, lt, no_place 64 text (path_lacks text p))

  parts_are : (j : IsPair 64 IsPath IsVersion text) → (j.first ≡ front) × (j.second ≡ behind)
  parts_are j =
      let place = ap (λ (t : List ℕ). position_or_len (λ b. b == 64) t) j.is ∙ first_place 64 j.first j.second (path_lacks j.first j.left) in (
        sym (ap (λ (n : ℕ). take n text) place ∙ ap (take (length j.first)) j.is ∙ take-append_seam j.first (64 ∷ j.second)),
        sym (ap (λ (n : ℕ). drop (n + 1) text) place ∙ ap (drop (length j.first + 1)) j.is ∙ dropped j.first j.second 64),
      )

  pub version_decides : (b : Bool) → IsPath front → Decides b (IsVersion behind) → Decides b (IsInterfaceName text)
  version_decides b p d = (
    λ e. inr (record { first = front; second = behind; is = around; left = p; right = d.0 e }),
    λ q. elim q [ inl j ↦ absurd (no_path j) | inr j ↦ d.1 (subst IsVersion (parts_are j).1 j.right) ],
  )

  pub no_version : (IsPath front → ⊥) → Decides false (IsInterfaceName text)
  no_version h = (λ e. absurd cc, λ q. elim q [ inl j ↦ absurd (no_path j) | inr j ↦ absurd (h (subst IsPath (parts_are j).0 j.left)) ])

-- a path and a version
pub with_version : {E : Type 0} (text path bytes version : List ℕ) (b : Bool) (r : Result Bool E) → (position_or_len (λ b. b == 64) text < length text) × (path ≡ before_first (λ b. b == 64) text) × (version ≡ after_first (λ b. b == 64) text)
    → bytes ≡ path → b ≡ path_test bytes → b ≡ true → IfOk r (λ b. Decides b (IsVersion version)) → IfOk r (λ b. Decides b (IsInterfaceName text))
with_version text path bytes version b r p same test holds v =
    let at : IsPath (before_first (λ b. b == 64) text) = (path_decides (before_first (λ b. b == 64) text)).0 (ap path_test (sym (same ∙ p.1)) ∙ sym test ∙ holds) in
    IfOk-weaker r _ _ (λ b d. version_decides text p.0 b at (subst (λ (t : List ℕ). Decides b (IsVersion t)) p.2 d)) v

pub without_path : (text path bytes version : List ℕ) (b : Bool) → (position_or_len (λ b. b == 64) text < length text) × (path ≡ before_first (λ b. b == 64) text) × (version ≡ after_first (λ b. b == 64) text)
    → bytes ≡ path → b ≡ path_test bytes → b ≡ false → Decides false (IsInterfaceName text)
without_path text path bytes version b p same test none =
    no_version text p.0 (λ j. true_false (sym ((path_decides (before_first (λ b. b == 64) text)).1 j) ∙ ap path_test (sym (same ∙ p.1)) ∙ sym test ∙ none))
  where
    true_false : true ≡ false → ⊥
    true_false e = cc

pub path_only : (text bytes : List ℕ) (b : Bool) → position_or_len (λ b. b == 64) text ≡ length text → bytes ≡ text → b ≡ path_test bytes → Decides b (IsInterfaceName text)
path_only text bytes b none same test =
    let e : b ≡ path_test text = test ∙ ap path_test same in
    path_alone text b none (subst (λ (b : Bool). Decides b (IsPath text)) (sym e) (path_decides text))

pub plain_name : (text : List ℕ) (b : Bool) → b ≡ plain_test text → Decides b (IsPlainName text)
plain_name text b e = subst (λ (b : Bool). Decides b (IsPlainName text)) (sym e) (plain_decides text)

-- the answer where a form's test says so
pub kind_at : (k : NameKind) (text bytes : List ℕ) (b : Bool) → bytes ≡ text → Decides b (IsName k bytes) → b ≡ true → (j : NameKind) → (some_kind k ≡ Some j → IsName j text) × (IsName j text → some_kind k ≡ Some j)
kind_at k text bytes b e d t = kind_is k text (subst (λ (x : List ℕ). IsName k x) e (d.0 t))

true_not_false : true ≡ false → ⊥
true_not_false e = cc

refused : (k : NameKind) (text bytes : List ℕ) (b : Bool) → bytes ≡ text → Decides b (IsName k bytes) → b ≡ false → IsName k text → ⊥
refused k text bytes b e d f p = true_not_false (sym (d.1 (subst (λ (x : List ℕ). IsName k x) (sym e) p)) ∙ f)

-- and where none does
pub none_at : (text p1 p2 p3 p4 p5 : List ℕ) (b1 b2 b3 b4 b5 : Bool) → p1 ≡ text → p2 ≡ text → p3 ≡ text → p4 ≡ text → p5 ≡ text
    → Decides b1 (IsName kind.Plain p1) → Decides b2 (IsName kind.Dependency p2) → Decides b3 (IsName kind.Url p3) → Decides b4 (IsName kind.Hash p4) → Decides b5 (IsName kind.Interface p5)
    → b1 ≡ false → b2 ≡ false → b3 ≡ false → b4 ≡ false → b5 ≡ false → (j : NameKind) → (none_kind ≡ Some j → IsName j text) × (IsName j text → none_kind ≡ Some j)
none_at text p1 p2 p3 p4 p5 b1 b2 b3 b4 b5 e1 e2 e3 e4 e5 d1 d2 d3 d4 d5 f1 f2 f3 f4 f5 = no_kind text each
  where
    each : (k : NameKind) → IsName k text → ⊥
    each kind.Plain = refused kind.Plain text p1 b1 e1 d1 f1
    each kind.Dependency = refused kind.Dependency text p2 b2 e2 d2 f2
    each kind.Url = refused kind.Url text p3 b3 e3 d3 f3
    each kind.Hash = refused kind.Hash text p4 b4 e4 d4 f4
    each kind.Interface = refused kind.Interface text p5 b5 e5 d5 f5
