-- The text so far, with one more part behind it.
use Rattle.std.proofs.Common.{◌≡◌, ◌≢◌, ℕ, Bool, true, false, not, ◌+◌, ◌<◌, List, [], ◌∷◌, ◌++◌, map, take, length, slice_get, Some, append_assoc, refl, sym, ap, ◌∙◌, arith}
use Rattle.std.specs.Prelude.{◌↔◌, ◌≤◌, IsTrue, IfSome, Option, None, get_or, option_map}
use Rattle.std.specs.Borrow.{Bor}
use Rattle.std.specs.Option.{MatchOption}
use Rattle.std.proofs.lemmas.Bool.{false≢true}
use Rattle.std.proofs.lemmas.Option.{slice_get_past, slice_get-get_or}
use Rattle.std.specs.List.{concat}
use Rattle.std.proofs.lemmas.List.{append-nil, length-take-le}
use Rattle.wac_types_base.specs.Entries.{Name, with_values}
use Rattle.wac_types_base.proofs.Looked.{take-one_more}
use Rattle.wac_graph_plug.specs.declared.plan.Argument.{Argument}
use Rattle.wac_parser_resolve.specs.declared.packages.PackageRef.{PackageRef}
use Rattle.wac_texts.specs.Plugs.{argument_text, plug_at, plugs_text}

-- ---- plugs

plugs_last : (n : ℕ) (plugs : List PackageRef) (xs : List ℕ) (x : ℕ) → plugs_text n plugs (xs ++ x ∷ []) ≡ plugs_text n plugs xs ++ plug_at (n + length xs) (slice_get plugs x)
plugs_last n plugs [] x = append-nil (plug_at n (slice_get plugs x)) ∙ ap (λ m. plug_at m (slice_get plugs x)) (omega arith)
plugs_last n plugs (y ∷ ys) x =
    ap (λ t. plug_at n (slice_get plugs y) ++ t) (plugs_last (n + 1) plugs ys x ∙ ap (λ m. plugs_text (n + 1) plugs ys ++ plug_at m (slice_get plugs x)) (omega arith))
    ∙ sym (append_assoc (plug_at n (slice_get plugs y)) (plugs_text (n + 1) plugs ys) (plug_at (n + length (y ∷ ys)) (slice_get plugs x)))

pub plugs_next : (plugs : List PackageRef) (places : List ℕ) (i x : ℕ) (was now : List ℕ) (one : List ℕ) → i < length places → slice_get places i ≡ Some x → one ≡ plug_at i (slice_get plugs x)
    → now ≡ (was ++ plugs_text 0 plugs (take i places)) ++ one → now ≡ was ++ plugs_text 0 plugs (take (i + 1) places)
plugs_next plugs places i x was now one within at is new =
    let many : 0 + length (take i places) ≡ i = omega (arith, length-take-le i places (omega (arith, within))) in
    new ∙ append_assoc was (plugs_text 0 plugs (take i places)) one
    ∙ ap (λ t. was ++ (plugs_text 0 plugs (take i places) ++ t)) (is ∙ ap (λ m. plug_at m (slice_get plugs x)) (sym many))
    ∙ ap (λ t. was ++ t) (sym (ap (plugs_text 0 plugs) (take-one_more places i x at) ∙ plugs_last 0 plugs (take i places) x))

-- what `get` gives of a plug
pub got : {X : Type 0} (R : Bor X → Type 0) (o : Option (Bor X)) (xs : List X) (i : ℕ) → IfSome o (λ b. b.now ≡ get_or xs i b.now) → MatchOption o (length xs ≤ i) (λ b. (i < length xs) × R b)
    → option_map (λ b. b.now) o ≡ slice_get xs i
got R None xs i is past = sym (slice_get_past xs i past)
got R (Some b) xs i is there = ap Some is ∙ sym (slice_get-get_or xs i b.now there.0)

-- ---- arguments

arguments_last : (xs : List Argument) (x : Argument) → concat (map argument_text (xs ++ x ∷ [])) ≡ concat (map argument_text xs) ++ argument_text x
arguments_last [] x = append-nil (argument_text x)
arguments_last (y ∷ ys) x =
    ap (λ t. argument_text y ++ t) (arguments_last ys x) ∙ sym (append_assoc (argument_text y) (concat (map argument_text ys)) (argument_text x))

pub arguments_next : (arguments : List Argument) (i : ℕ) (x : Argument) (was now : List ℕ) → slice_get arguments i ≡ Some x
    → now ≡ (was ++ concat (map argument_text (take i arguments))) ++ argument_text x → now ≡ was ++ concat (map argument_text (take (i + 1) arguments))
arguments_next arguments i x was now at new =
    new ∙ append_assoc was (concat (map argument_text (take i arguments))) (argument_text x)
    ∙ ap (λ t. was ++ t) (sym (ap (λ l. concat (map argument_text l)) (take-one_more arguments i x at) ∙ arguments_last (take i arguments) x))

-- ---- exports

pub some_exports : {A B : Type 0} (f : A → B) (xs : List (Name × A)) (ys : List (Name × B)) (b : Bool) → ys ≡ with_values f xs → (IsTrue b ↔ (length xs ≡ 0)) → IsTrue (not b) ↔ (ys ≢ [])
some_exports f [] ys true same none = (λ t. absurd (false≢true t), λ other. absurd (other same))
some_exports f [] ys false same none = absurd (false≢true (none.1 refl))
some_exports f (x ∷ xs) ys true same none = let empty = none.0 refl in absurd (omega (arith, empty))
some_exports f (x ∷ xs) ys false same none = (λ t e. let end = sym same ∙ e in absurd (cc end), λ other. refl)
