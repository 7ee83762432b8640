-- The name that a shorter one means, step by step.
use Rattle.std.proofs.Common.{◌≡◌, ◌≢◌, ne_eqb, lit<, ℕ, suc, ◌+◌, ◌<◌, ◌≤◌, List, [], ◌∷◌, ◌++◌, filter, take, drop, length, get_or, Bool, true, false, ◌==◌, ◌||◌, if◌then◌else◌, Option, Some, None, is_some, refl, sym, ap, subst, ◌∙◌, arith}
use Rattle.std.specs.Prelude.{slice_get, option_map, string_bytes, String, MatchOption}
use Rattle.std.specs.List.{before_first, position_or_len}
use Rattle.std.specs.Cmp.Lexicographic.{pointwise}
use Rattle.std.specs.Borrow.{Bor}
use Rattle.std.specs.Str.Pattern.{RFindsChar}
use Rattle.std.proofs.lemmas.Str.{len_utf8_ascii}
use Rattle.std.proofs.lemmas.Str.Pattern.{NoCharPasses-char}
use Rattle.std.proofs.lemmas.List.{drop_more, drop_all, take_all, length-map, take-append-drop}
use Rattle.std.proofs.lemmas.Option.{get_or_from_slice_get}
use Rattle.wac_types_base.specs.Entries.{Name, names_of, texts_of, has_name, value_at}
use Rattle.wac_types_base.proofs.Looked.{text-place}
use Rattle.wac_parser_resolve.specs.Matching.{behind_this, behind_last, last_segment, has_segment, only, matched, IsNextOf}

-- ---- the last slash

no_slash : (c : ℕ) (cs : List ℕ) (o : Option Name) → o ≡ None → c ≢ 47 → behind_this c cs o ≡ None
no_slash c cs (Some r) e n = absurd (cc e)
no_slash c cs None e n = by_test (c == 47) (ne_eqb c 47 n)
  where
    by_test : (b : Bool) → b ≡ false → (if b then Some cs else None) ≡ None
    by_test true t = absurd (cc t)
    by_test false t = refl

a_slash : (cs : List ℕ) (o : Option Name) → o ≡ None → behind_this 47 cs o ≡ Some cs
a_slash cs (Some r) e = absurd (cc e)
a_slash cs None e = refl

abbrev Unbroken : List ℕ → Type 0
Unbroken n = (i : ℕ) → i < length n → get_or n i 0 ≢ 47

behind_none : (n : List ℕ) → Unbroken n → behind_last n ≡ None
behind_none [] h = refl
behind_none (c ∷ cs) h = no_slash c cs (behind_last cs) (behind_none cs (λ i l. h (suc i) (omega (arith, l)))) (h 0 (omega arith))

behind_some : (front last : List ℕ) → Unbroken last → behind_last (front ++ 47 ∷ last) ≡ Some last
behind_some [] last h = a_slash last (behind_last last) (behind_none last h)
behind_some (c ∷ front) last h = ap (behind_this c (front ++ 47 ∷ last)) (behind_some front last h)

-- a split at the last slash
pub split_last : (text : List ℕ) (r : Option (Bor (List ℕ) × Bor (List ℕ)))
    → MatchOption r (RFindsChar 47 text None) (λ x. (i : ℕ) × (j : ℕ) × RFindsChar 47 text (Some (i, j)) × (x.0.now ≡ take i text) × (x.1.now ≡ drop j text) × (i ≤ j) × (length x.0.now ≡ i) × (length x.1.now + j ≡ length text))
    → MatchOption r (behind_last text ≡ None) (λ x. behind_last text ≡ Some x.1.now)
split_last text None h = behind_none text (λ i l. NoCharPasses-char 47 text i h (lit< tt) l)
split_last text (Some x) h =
    let i = h.0 in
    let next : h.1 ≡ i + 1 = omega (arith, h.2.1.ends, len_utf8_ascii 47 (lit< tt)) in
    let within : i < length text = omega (arith, h.7, next) in
    let rest : drop i text ≡ 47 ∷ x.1.now =
    drop_more text i 0 within ∙ ap (λ (c : ℕ). c ∷ drop (i + 1) text) (h.2.1.byte (lit< tt)) ∙ ap (λ (k : ℕ). 47 ∷ drop k text) (sym next) ∙ ap (λ (l : List ℕ). 47 ∷ l) (sym h.4) in
    let whole : text ≡ take i text ++ 47 ∷ x.1.now = sym (take-append-drop i text) ∙ ap (λ (l : List ℕ). take i text ++ l) rest in
    let free : Unbroken x.1.now = subst Unbroken (sym h.4) (λ m l. NoCharPasses-char 47 (drop h.1 text) m h.2.0 (lit< tt) l) in
    ap behind_last whole ∙ behind_some (take i text) x.1.now free

pub segment_some : (n last part : List ℕ) → behind_last n ≡ Some last → part ≡ before_first (λ c. c == 64) last → Some part ≡ last_segment n
segment_some n last part split e = ap Some e ∙ sym (ap (option_map (before_first (λ c. c == 64))) split)

pub segment_none : (n : List ℕ) → behind_last n ≡ None → None ≡ last_segment n
segment_none n split = sym (ap (option_map (before_first (λ c. c == 64))) split)

-- a text without the mark
pub no_mark : (n : List ℕ) → position_or_len (λ c. c == 64) n ≡ length n → n ≡ before_first (λ c. c == 64) n
no_mark n e = sym (ap (λ k. take k n) e ∙ take_all (length n) n (omega arith))

-- ---- the next name that passes

module _ (p : Name → Bool) (ns : List Name) where
  passed_by : (b : Bool) (n : Name) (rest : List Name) → b ≡ true → (if b then n ∷ rest else rest) ≡ n ∷ rest
  passed_by true n rest e = refl
  passed_by false n rest e = absurd (cc e)

  failed_by : (b : Bool) (n : Name) (rest : List Name) → b ≡ false → (if b then n ∷ rest else rest) ≡ rest
  failed_by true n rest e = absurd (cc e)
  failed_by false n rest e = refl

  -- it passes at this place
  pub next_here : (i : ℕ) (n : Name) → i < length ns → slice_get ns i ≡ Some n → n ≡ get_or ns i n → p n ≡ true → filter p (drop i ns) ≡ n ∷ filter p (drop (i + 1) ns)
  next_here i n lt at is e =
      ap (filter p) (drop_more ns i n lt ∙ ap (λ (m : Name). m ∷ drop (i + 1) ns) (sym is)) ∙ passed_by (p n) n (filter p (drop (i + 1) ns)) e

  -- it does not
  pub next_later : (i : ℕ) (n : Name) → i < length ns → n ≡ get_or ns i n → p n ≡ false → filter p (drop i ns) ≡ filter p (drop (i + 1) ns)
  next_later i n lt is e =
      ap (filter p) (drop_more ns i n lt ∙ ap (λ (m : Name). m ∷ drop (i + 1) ns) (sym is)) ∙ failed_by (p n) n (filter p (drop (i + 1) ns)) e

  pub next_none : (i : ℕ) → length ns ≤ i → filter p (drop i ns) ≡ []
  next_none i h = ap (filter p) (drop_all i ns h)

module _ {Z : Type 0} (p : Name → Bool) (ts : List (String Z)) (low i : ℕ) (t : String Z) (so_far : filter p (drop i (texts_of ts)) ≡ filter p (drop low (texts_of ts))) (lt : i < length ts) (is : t ≡ get_or ts i t) where
  text_at : slice_get (texts_of ts) i ≡ Some (string_bytes t)
  text_at = text-place ts (texts_of ts) i t refl (subst (λ (n : ℕ). i < n) (sym (length-map ts string_bytes)) lt) ∙ ap (λ (u : String Z). Some (string_bytes u)) (sym is)

  text_lt : i < length (texts_of ts)
  text_lt = subst (λ (n : ℕ). i < n) (sym (length-map ts string_bytes)) lt

  text_here : string_bytes t ≡ get_or (texts_of ts) i (string_bytes t)
  text_here = sym (get_or_from_slice_get (texts_of ts) i (string_bytes t) (string_bytes t) text_at)

  pub next_text : p (string_bytes t) ≡ true → IsNextOf p (texts_of ts) low (Some i)
  next_text e = (string_bytes t, text_at, sym so_far ∙ next_here p (texts_of ts) i (string_bytes t) text_lt text_at text_here e)

  pub next_past : p (string_bytes t) ≡ false → filter p (drop (i + 1) (texts_of ts)) ≡ filter p (drop low (texts_of ts))
  next_past e = sym (next_later p (texts_of ts) i (string_bytes t) text_lt text_here e) ∙ so_far

pub next_ends : {Z : Type 0} (p : Name → Bool) (ts : List (String Z)) (low i : ℕ) → filter p (drop i (texts_of ts)) ≡ filter p (drop low (texts_of ts)) → length ts ≤ i → IsNextOf p (texts_of ts) low None
next_ends p ts low i so_far h = sym so_far ∙ next_none p (texts_of ts) i (subst (λ (n : ℕ). n ≤ i) (sym (length-map ts string_bytes)) h)

-- the name at a place
pub named_at : {Z : Type 0} (ts : List (String Z)) (ns : List Name) (i : ℕ) (t : String Z) (m : Name) → texts_of ts ≡ ns → i < length ts → t ≡ get_or ts i t → m ≡ string_bytes t → slice_get ns i ≡ Some m
named_at ts ns i t m same lt is e =
    text-place ts ns i t same (subst (λ (k : ℕ). i < k) (sym (length-map ts string_bytes) ∙ ap length same) lt) ∙ ap Some (ap string_bytes (sym is) ∙ sym e)

-- ---- which name is meant

module _ {T : Type 0} where
  has_by : (b : Bool) (t : T) (h : Bool) (o : Option T) → h ≡ is_some o → (b || h) ≡ is_some (if b then Some t else o)
  has_by true t h o e = refl
  has_by false t h o e = e

  pub has_value : (xs : List (Name × T)) (n : Name) → has_name (names_of xs) n ≡ is_some (value_at xs n)
  has_value [] n = refl
  has_value (x ∷ xs) n = has_by (pointwise ◌==◌ n x.0) x.1 (has_name (names_of xs) n) (value_at xs n) (has_value xs n)

module _ (i : Name) (ns : List Name) where
  meant_by : (b : Bool) (m : Name) → b ≡ false → (if b then i else m) ≡ m
  meant_by true m e = absurd (cc e)
  meant_by false m e = refl

  itself_by : (b : Bool) (m : Name) → b ≡ true → (if b then i else m) ≡ i
  itself_by true m e = refl
  itself_by false m e = absurd (cc e)

  pub meant_itself : has_name ns i ≡ true → i ≡ matched i ns
  meant_itself e = sym (itself_by (has_name ns i) (only i (filter (has_segment i) ns)) e)

  pub meant_only : (m : Name) → has_name ns i ≡ false → only i (filter (has_segment i) ns) ≡ m → m ≡ matched i ns
  meant_only m e h = sym (meant_by (has_name ns i) (only i (filter (has_segment i) ns)) e ∙ h)

  -- none, one, more than one
  pub none_meant : has_name ns i ≡ false → IsNextOf (has_segment i) ns 0 None → i ≡ matched i ns
  none_meant e h = meant_only i e (ap (only i) h)

  pub one_meant : (at : ℕ) (m : Name) → has_name ns i ≡ false → slice_get ns at ≡ Some m → IsNextOf (has_segment i) ns 0 (Some at) → IsNextOf (has_segment i) ns (at + 1) None → m ≡ matched i ns
  one_meant at m e g h k =
      let same : Some h.0 ≡ Some m = sym h.1 ∙ g in
      let is : h.0 ≡ m = cc same in
      meant_only m e (ap (only i) (h.2 ∙ ap (λ (rest : List Name). h.0 ∷ rest) k) ∙ is)

  pub more_meant : (at later : ℕ) → has_name ns i ≡ false → IsNextOf (has_segment i) ns 0 (Some at) → IsNextOf (has_segment i) ns (at + 1) (Some later) → i ≡ matched i ns
  more_meant at later e h k = meant_only i e (ap (only i) (h.2 ∙ ap (λ (rest : List Name). h.0 ∷ rest) k.2))
