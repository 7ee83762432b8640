-- Members of objects, lists and texts, as they are read.
use Rattle.std.proofs.Common.{◌≡◌, ℕ, zero, suc, get_or, ◌+◌, ◌<◌, Bool, true, false, ◌&&◌, List, [], ◌∷◌, ◌++◌, length, map, drop, Option, Some, None, option_map, string_bytes, bytes_eq, String, Global, if◌then◌else◌, cond, not, ◌||◌, refl, sym, ap, ◌∙◌, arith}
use Rattle.std.specs.List.{after_first, before_first, list_any, position_or_len}
use Rattle.std.specs.Map.{keys_of}
use Rattle.std.specs.Option.{unwrap_or}
use Rattle.std.specs.Prelude.{slice_get}
use Rattle.std.specs.Str.{is_utf8, IsUtf8}
use Rattle.std.proofs.lemmas.List.{append_assoc, map-append}
use Rattle.std.proofs.lemmas.Option.{none-some}
use Rattle.std.proofs.lemmas.Str.{IsUtf8-from_is_utf8, is_utf8-from_IsUtf8}
use Rattle.serde_json.specs.Data.{Data, null, boolean, number, string, array, object, Members}
use Rattle.serde_json.specs.Find.{as_array, as_object, as_str, get}
use Rattle.serde_json.specs.View.{items_view, members_view, view}
use Rattle.serde_json.specs.declared.value.Value.{Value}
use Rattle.wac_manifest.specs.Manifests.{Text, ◌>>=◌, digits, digits_of_text, each, form, is_at_sign, key, list, must, named_form, object_of, only, version}

-- ---- objects

abbrev pub known : List Text → List (String Global) → Bool
known ns [] = true
known ns (k ∷ ks) = list_any (bytes_eq (string_bytes k)) ns && known ns ks

pub only_known : (ns : List Text) (es : List (String Global × Value)) → only ns (members_view es) ≡ known ns (keys_of es)
only_known ns [] = refl
only_known ns (e ∷ es) = ap (λ b. list_any (bytes_eq (string_bytes e.0)) ns && b) (only_known ns es)

-- a value with members is an object
pub an_object : (d : Data) (ms : Members) → Some ms ≡ as_object d → d ≡ object ms
an_object null ms e = absurd (none-some ms (sym e))
an_object (boolean b) ms e = absurd (none-some ms (sym e))
an_object (number n) ms e = absurd (none-some ms (sym e))
an_object (string s) ms e = absurd (none-some ms (sym e))
an_object (array ds) ms e = absurd (none-some ms (sym e))
an_object (object xs) ms e = ap (λ o. object (unwrap_or o ms)) (sym e)

pub only_those : (ns : List Text) (d : Data) (es : List (String Global × Value)) (ks : List (String Global)) → Some (members_view es) ≡ as_object d → ks ≡ keys_of es
    → (ms : Members) → Some ms ≡ as_object d → only ns ms ≡ known ns ks
only_those ns d es ks e k ms f = ap (λ o. only ns (unwrap_or o ms)) (f ∙ sym e) ∙ only_known ns es ∙ ap (known ns) (sym k)

pub others_refused : (ns : List Text) (d : Data) (ms : Members) → Some ms ≡ as_object d → only ns ms ≡ false → object_of ns d ≡ None
others_refused ns d ms e f = ap (object_of ns) (an_object d ms e) ∙ ap (λ b. if b then Some (object ms) else None) f

pub no_others : (ns : List Text) (d : Data) (ms : Members) → Some ms ≡ as_object d → only ns ms ≡ true → object_of ns d ≡ Some d
no_others ns d ms e f = ap (object_of ns) (an_object d ms e) ∙ ap (λ b. if b then Some (object ms) else None) f ∙ ap (λ (x : Data). Some x) (sym (an_object d ms e))

not_single : (es : List (String Global × Value)) → (length es ≡ 1 → ⊥) → form (object (members_view es)) ≡ None
not_single [] n = refl
not_single (e ∷ []) n = absurd (n refl)
not_single (e ∷ f ∷ es) n = refl

pub no_form : (d : Data) (es : List (String Global × Value)) → Some (members_view es) ≡ as_object d → (length es ≡ 1 → ⊥) → form d ≡ None
no_form d es e n = ap form (an_object d (members_view es) e) ∙ not_single es n

single : (es : List (String Global × Value)) (n : String Global) (v : Value) → length es ≡ 1 → slice_get es 0 ≡ Some (n, v)
    → form (object (members_view es)) ≡ (as_str (view v) >>= named_form (string_bytes n))
single [] n v l e = absurd (omega (arith, l))
single (x ∷ []) n v l e = ap (λ (o : Option (String Global × Value)). as_str (view (unwrap_or o x).1) >>= named_form (string_bytes (unwrap_or o x).0)) e
single (x ∷ y ∷ es) n v l e = absurd (omega (arith, l))

pub its_form : (d : Data) (es : List (String Global × Value)) (n : String Global) (v : Value) → Some (members_view es) ≡ as_object d → length es ≡ 1 → slice_get es 0 ≡ Some (n, v)
    → form d ≡ (as_str (view v) >>= named_form (string_bytes n))
its_form d es n v e l g = ap form (an_object d (members_view es) e) ∙ single es n v l g

-- ---- texts

pub text_there : (s b t : List ℕ) → digits s ≡ Some b → t ≡ b → IsUtf8 b → digits_of_text s ≡ Some t
text_there s b t d e u = ap (λ o. o >>= λ x. if is_utf8 x then Some x else None) d ∙ ap (λ c. if c then Some b else None) (is_utf8-from_IsUtf8 b u) ∙ ap (λ (x : List ℕ). Some x) (sym e)

not_utf8 : (b : List ℕ) → (IsUtf8 b → ⊥) → is_utf8 b ≡ false
not_utf8 b n = go (is_utf8 b) refl where
  go : (c : Bool) → is_utf8 b ≡ c → is_utf8 b ≡ false
  go true e = absurd (n (IsUtf8-from_is_utf8 b e))
  go false e = e

pub no_text : (s b : List ℕ) → digits s ≡ Some b → (IsUtf8 b → ⊥) → digits_of_text s ≡ None
no_text s b d n = ap (λ o. o >>= λ x. if is_utf8 x then Some x else None) d ∙ ap (λ c. if c then Some b else None) (not_utf8 b n)

pub none_passes : (p : ℕ → Bool) (s : List ℕ) → position_or_len p s ≡ length s → list_any p s ≡ false
none_passes p [] e = refl
none_passes p (x ∷ s) e = go (p x) refl (none_passes p s) where
  go : (b : Bool) → p x ≡ b → (position_or_len p s ≡ length s → list_any p s ≡ false) → list_any p (x ∷ s) ≡ false
  go true f later = absurd (omega (arith, sym (ap (λ b. cond (not b) (1 + position_or_len p s) 0) f) ∙ e))
  go false f later = ap (λ b. b || list_any p s) f ∙ later (omega (arith, sym (ap (λ b. cond (not b) (1 + position_or_len p s) 0) f) ∙ e))

pub plain_key : (s : Text) → position_or_len is_at_sign s ≡ length s → key s ≡ Some (s, None)
plain_key s e = ap (λ b. if b then option_map (λ v. (before_first is_at_sign s, Some v)) (version (after_first is_at_sign s)) else Some (s, None)) (none_passes is_at_sign s e)

-- ---- lists

-- what a list says, where these of it are read and those are left
abbrev pub so_far : {A : Type 0} → (Data → Option A) → List A → List Value → Option (List A)
so_far f done vs = option_map (λ xs. done ++ xs) (each f (items_view vs))

pub drop_next : (vs : List Value) (i : ℕ) (v : Value) → i < length vs → v ≡ get_or vs i v → drop i vs ≡ v ∷ drop (i + 1) vs
drop_next [] i v h e = absurd (omega arith)
drop_next (y ∷ vs) zero v h e = ap (λ z. z ∷ vs) (sym e)
drop_next (y ∷ vs) (suc i) v h e = let n : suc i + 1 ≡ suc (i + 1) = omega arith in rw n (drop_next vs i v (omega arith) e)

module _ {A : Type 0} (f : Data → Option A) where
  nothing_before : (o : Option (List A)) → option_map (λ xs. [] ++ xs) o ≡ o
  nothing_before None = refl
  nothing_before (Some xs) = refl

  pub list_begun : (n : Text) (d : Data) (vs : List Value) → must as_array n d ≡ Some (items_view vs) → must (list f) n d ≡ so_far f [] vs
  list_begun n d vs e = go (get n d) e ∙ sym (nothing_before (each f (items_view vs))) where
    go : (o : Option Data) → (o >>= as_array) ≡ Some (items_view vs) → (o >>= list f) ≡ each f (items_view vs)
    go None e = absurd (none-some (items_view vs) e)
    go (Some x) e = ap (λ o. o >>= each f) e

  one_more : (done : List A) (x : A) (o : Option (List A)) → option_map (λ xs. done ++ xs) (option_map (λ xs. x ∷ xs) o) ≡ option_map (λ xs. (done ++ x ∷ []) ++ xs) o
  one_more done x None = refl
  one_more done x (Some xs) = ap (λ (l : List A). Some l) (sym (append_assoc done (x ∷ []) xs))

  pub list_more : (done : List A) (v : Value) (vs : List Value) (x : A) → f (view v) ≡ Some x → so_far f done (v ∷ vs) ≡ so_far f (done ++ x ∷ []) vs
  list_more done v vs x e = ap (λ o. option_map (λ xs. done ++ xs) (o >>= λ y. option_map (λ xs. y ∷ xs) (each f (items_view vs)))) e ∙ one_more done x (each f (items_view vs))

  -- one value more is read
  pub list_next : {V : Type 0} (seen : V → A) (o : Option (List A)) (done more : List V) (x : V) (vs : List Value) (i : ℕ) (v : Value) → i < length vs → v ≡ get_or vs i v
      → o ≡ so_far f (map seen done) (drop i vs) → f (view v) ≡ Some (seen x) → more ≡ done ++ x ∷ [] → o ≡ so_far f (map seen more) (drop (i + 1) vs)
  list_next seen o done more x vs i v h g before e m =
      before ∙ ap (so_far f (map seen done)) (drop_next vs i v h g) ∙ list_more (map seen done) v (drop (i + 1) vs) (seen x) e
      ∙ ap (λ d. so_far f d (drop (i + 1) vs)) (sym (ap (map seen) m ∙ map-append seen done (x ∷ [])))

  pub list_refused : (done : List A) (v : Value) (vs : List Value) → f (view v) ≡ None → so_far f done (v ∷ vs) ≡ None
  list_refused done v vs e = ap (λ o. option_map (λ xs. done ++ xs) (o >>= λ y. option_map (λ xs. y ∷ xs) (each f (items_view vs)))) e
