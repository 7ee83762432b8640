-- No byte of a package name is `<`, so the name under which the package is imported is that of a dependency.
use Rattle.std.specs.List.{AllByRecursion}
use Rattle.std.proofs.Common.{◌≡◌, ◌≢◌, ℕ, ◌<◌, inl, inr, Bool, true, false, eqb, List, [], ◌∷◌, ◌++◌, length, codes, Option, Some, None, refl, ap, sym, subst, ◌∙◌, arith, append_assoc, append-nil, lit≤}
use Rattle.semver.specs.Parse.{Parts}
use Rattle.semver.specs.Identifiers.{parts_text}
use Rattle.wac_names.specs.ComponentNames.{IsDependency}
use Rattle.wac_types_names.specs.Keys.{Key}
use Rattle.wac_composition.specs.Conflicts.{version_name, dependency_name}
use Rattle.wac_parser_lexer.specs.Words.{is_lower, is_upper, is_digit, is_lower_word_byte, is_upper_word_byte, is_version_byte, Passes, IsRun, IsWord, Joined, one, more, Followed, IsLabel, IsIdent, IsNames, IsVersion, IsPackageName}
use Rattle.wac_parser_lexer.proofs.FirstLaws.{apart}
use Rattle.wac_parser_lexer.proofs.WordLaws.{passes_run, names_longest}
use Rattle.wac_parser_grammar.specs.Paths.{versioned}
use Rattle.wac_parser_resolve.specs.Choosing.{IsGreatest, greatest_on}
use Rattle.wac_parser_resolve.proofs.Choosing.{choices_are_greatest}
use Rattle.wac_parser_resolve.proofs.TrackedNames.{is_strange, tracked}

abbrev Unbroken : List ℕ → Type 0
Unbroken text = AllByRecursion (λ b. eqb b 60 ≡ false) text

-- ---- texts of texts

both : (a b : List ℕ) → Unbroken a → Unbroken b → Unbroken (a ++ b)
both [] b h k = k
both (x ∷ a) b h k = (h.0, both a b h.1 k)

left : (a b : List ℕ) → Unbroken (a ++ b) → Unbroken a
left [] b h = tt
left (x ∷ a) b h = (h.0, left a b h.1)

right : (a b : List ℕ) → Unbroken (a ++ b) → Unbroken b
right [] b h = h
right (x ∷ a) b h = right a b h.1

-- a byte that passes where `<` does not is another
other : (p : ℕ → Bool) → p 60 ≡ false → (b : ℕ) → p b ≡ true → eqb b 60 ≡ false
other p refused b h = apart b 60 (λ e. (let a = ap p e in cc))

passing : (p : ℕ → Bool) → p 60 ≡ false → (text : List ℕ) → Passes p text → Unbroken text
passing p refused [] h = tt
passing p refused (b ∷ text) h = (other p refused b h.0, passing p refused text h.1)

joined : (joint : ℕ) (L : List ℕ → Type 0) → eqb joint 60 ≡ false → ((w : List ℕ) → L w → Unbroken w) → (w : List ℕ) → Joined L joint w → Unbroken w
joined joint L not_it each _ (one {w = w} is) = each w is
joined joint L not_it each _ (more {w = w} {ws = ws} is js) = both w (joint ∷ ws) (each w is) (not_it, joined joint L not_it each ws js)

followed : (joint : ℕ) (L M : List ℕ → Type 0) → eqb joint 60 ≡ false → ((w : List ℕ) → L w → Unbroken w) → ((w : List ℕ) → M w → Unbroken w) → (w : List ℕ) → Followed L joint M w → Unbroken w
followed joint L M not_it l m w f = subst Unbroken (sym f.4) (both f.0 (joint ∷ f.1) (l f.0 f.2) (not_it, m f.1 f.3))

-- ---- package names

word : (w : List ℕ) → IsWord w → Unbroken w
word [] h = absurd h
word (c ∷ cs) (inl h) = (other is_lower refl c h.0, passing is_lower_word_byte refl cs h.1)
word (c ∷ cs) (inr h) = (other is_upper refl c h.0, passing is_upper_word_byte refl cs h.1)

label : (w : List ℕ) → IsLabel w → Unbroken w
label = joined 45 IsWord refl word

ident : (w : List ℕ) → IsIdent w → Unbroken w
ident w (inl h) = label w h
ident w (inr h) = subst Unbroken (sym h.2) (refl, label h.0 h.1)

names : (w : List ℕ) → IsNames w → Unbroken w
names = followed 58 IsIdent (Joined IsIdent 58) refl ident (joined 58 IsIdent refl ident)

run : (p : ℕ → Bool) → p 60 ≡ false → (w : List ℕ) → IsRun p w → Unbroken w
run p refused w h = passing p refused w (passes_run p w h)

version_parts : (w : List ℕ) → Joined (IsRun is_version_byte) 46 w → Unbroken w
version_parts = joined 46 (IsRun is_version_byte) refl (run is_version_byte refl)

version : (w : List ℕ) → IsVersion w → Unbroken w
version w (inl h) = run is_digit refl w h
version w (inr h) = followed 46 (IsRun is_digit) (Joined (IsRun is_version_byte) 46) refl (run is_digit refl) version_parts w h

package_name : (w : List ℕ) → IsPackageName w → Unbroken w
package_name w (inl h) = names w h
package_name w (inr h) = followed 64 IsNames IsVersion refl names version w h

-- ---- names of dependencies

joint_behind : (a b : List ℕ) (c : ℕ) → a ++ c ∷ b ≢ []
joint_behind [] b c e = cc e
joint_behind (x ∷ a) b c e = cc e

some_name : (w : List ℕ) → 0 < length w → w ≢ []
some_name [] h e = omega (arith, h)
some_name (c ∷ w) h e = cc e

names_some : (w : List ℕ) → IsPackageName w → w ≢ []
names_some w (inl h) = some_name w (names_longest.some w h)
names_some w (inr h) = λ e. joint_behind h.0 h.1 64 (sym h.4 ∙ e)

dependency : (name : List ℕ) (v : Option Parts) → name ++ version_name v ≢ [] → Unbroken (name ++ version_name v) → IsDependency (dependency_name (name, v))
dependency name v some whole = inl (record {
  rest = name ++ (version_name v ++ codes ">");
  is = refl;
  form = record { inside = name ++ version_name v; is = sym (append_assoc name (version_name v) (codes ">")); some = some; unbroken = whole };
})

with_version : (name : List ℕ) (p : Parts) → Unbroken name → Unbroken (parts_text p) → IsDependency (dependency_name (name, Some p))
with_version name p front parts =
    dependency name (Some p) (joint_behind name (codes "{>=" ++ (parts_text p ++ codes "}")) 64)
    (both name (version_name (Some p)) front (refl, (refl, (refl, (refl, both (parts_text p) (codes "}") parts (refl, tt))))))

-- a name that has this text, which is a package name
pub importable : (text name : List ℕ) (v : Option Parts) → IsPackageName text → text ≡ versioned name v → IsDependency (dependency_name (name, v))
importable text name None form is =
    let nothing : name ++ [] ≡ text = append-nil name ∙ sym is in
    dependency name None (λ e. names_some text form (sym nothing ∙ e)) (subst Unbroken (sym nothing) (package_name text form))
importable text name (Some p) form is =
    let whole : Unbroken (name ++ 64 ∷ parts_text p) = subst Unbroken is (package_name text form) in
    with_version name p (left name (64 ∷ parts_text p) whole) (right name (64 ∷ parts_text p) whole).1

-- a name that has this text with a track behind it, and the greatest version on that
pub tracked_importable : (text name track : List ℕ) (ks : List Key) (v : Parts) → IsPackageName text → text ≡ name ++ 64 ∷ track → greatest_on ks name track ≡ Some v
    → IsDependency (dependency_name (name, Some v))
tracked_importable text name track ks v form is e =
    let there = (subst (IsGreatest ks name track) e (choices_are_greatest ks name track)).0 in
    let whole : Unbroken (name ++ 64 ∷ track) = subst Unbroken is (package_name text form) in
    with_version name v (left name (64 ∷ track) whole) ((tracked name name (parts_text v) track there.read there.on).lacks 60 (is_strange 60 refl refl refl (lit≤ tt)))
