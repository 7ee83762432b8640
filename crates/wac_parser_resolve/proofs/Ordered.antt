-- The ascribed wiring is of packages handed in, and in order.
use Rattle.std.specs.Prelude.{◌==◌, slice_get, option_map, is_some, if◌then◌else◌, IsSome}
use Rattle.std.proofs.lemmas.Option.{none-some, same_Some}
use Rattle.std.specs.Cmp.Lexicographic.{pointwise}
use Rattle.std.proofs.Common.{◌≡◌, ℕ, zero, suc, ◌<◌, List, [], ◌∷◌, map, Bool, true, false, Option, Some, None, Ok, length, refl, sym, ap, subst, ◌∙◌, arith}
use Rattle.wac_types_base.specs.Entries.{Name, value_at}
use Rattle.wac_types_base.specs.Stated.{Stated, imports_of}
use Rattle.wac_types_base.proofs.Stating.{value_with}
use Rattle.wac_types_names.specs.Keys.{Key}
use Rattle.wac_graph_bytes.specs.Wirings.{Tag, Absent, Uses, Instantiation, Wiring, IsOrdered}
use Rattle.wac_composition.specs.Asks.{Ask, asks_of}
use Rattle.wac_composition.specs.Sound.{IsBefore}
use Rattle.wac_composition.specs.Worlds.{source_of}
use Rattle.wac_composition.specs.Wired.{source_for, argument_source, instantiation, export_source, composed_wiring}
use Rattle.wac_composition.specs.Composition as c
use Rattle.wac_composition.specs.Composition.{Origin, imported, instance, projected, defined, Composition}
use Rattle.wac_composition.specs.Conflicts as cause
use Rattle.wac_composition.specs.Conflicts.{first_cause, name_cause}
use Rattle.wac_graph_bytes.proofs.Replace.{Uses-project}
use Rattle.wac_parser_tree.specs.Trees as t
use Rattle.wac_parser_refusals.specs.Causes.{Answer, ◌>>◌}
use Rattle.wac_parser_declare.specs.Packages.{Content}
use Rattle.wac_parser_declare.specs.Scope.{package_under}
use Rattle.wac_parser_resolve.specs.Ascribing.{Denoted, Made, Bound, State, worlds_of}
use Rattle.wac_parser_resolve.specs.Saying.{statements}
use Rattle.wac_parser_resolve.specs.Meeting.{target, resolved}
use Rattle.wac_parser_resolve.specs.Ascribed.{Asker, argument_in, made_in, numbered, composition, unless_cause, ascribed, said_export}
use Rattle.wac_parser_resolve.specs.Laws.{Packages_are_known, Packages_stay, Wirings_are_ordered}
use Rattle.wac_parser_resolve.proofs.Answers.{err_ok, ok_of, then_ok, ok_is}
use Rattle.wac_parser_resolve.proofs.Numbers.{slice_below, slice_there}
use Rattle.wac_parser_resolve.proofs.Sound.{Sound, has_before, statements_sound}
use Rattle.wac_types_fit.proofs.Items.{value_at-among}

-- ---- the instances with their numbers

pub record IsNumbered (ms : List Made) (k : ℕ) (x : c.Made Asker ℕ) : Type 0 where
  pub made : Made
  pub there : slice_get ms k ≡ Some made
  pub number : ℕ
  pub is : x ≡ made_in number made

pub numbered_is : (j : ℕ) (ms : List Made) (k : ℕ) (x : c.Made Asker ℕ) → slice_get (numbered j ms) k ≡ Some x → IsNumbered ms k x
numbered_is j [] k x e = absurd (none-some _ e)
numbered_is j (m ∷ ms) zero x e = record { made = m; there = refl; number = j; is = sym (same_Some _ _ e) }
numbered_is j (m ∷ ms) (suc k) x e =
    let r = numbered_is (suc j) ms k x e in record { made = r.made; there = r.there; number = r.number; is = r.is }

-- and what was said is there with a number
pub numbered_at : (j : ℕ) (ms : List Made) (k : ℕ) (m : Made) → slice_get ms k ≡ Some m → (i : ℕ) × (slice_get (numbered j ms) k ≡ Some (made_in i m))
numbered_at j [] k m e = absurd (none-some _ e)
numbered_at j (x ∷ ms) zero m e = (j, ap (λ y. Some (made_in j y)) (same_Some _ _ e))
numbered_at j (x ∷ ms) (suc k) m e = numbered_at (suc j) ms k m e

numbered_there : (j : ℕ) (ms : List Made) (k : ℕ) (m : Made) → slice_get ms k ≡ Some m → (x : c.Made Asker ℕ) × (slice_get (numbered j ms) k ≡ Some x)
numbered_there j [] k m e = absurd (none-some _ e)
numbered_there j (x ∷ ms) zero m e = (made_in j x, refl)
numbered_there j (x ∷ ms) (suc k) m e = numbered_there (suc j) ms k m e

-- ---- sources

module _ (P : ℕ → Type 0) (asks : List (Ask Asker)) where
  origin_uses : (k : ℕ) → ((j : ℕ) → j < k → P j) → (o : Origin ℕ) → IsBefore k o → Uses P (source_of asks o)
  origin_uses k h (imported n) b = tt
  origin_uses k h (instance j) b = h j b
  origin_uses k h (projected o n) b = Uses-project P (source_of asks o) n (origin_uses k h o b)
  origin_uses k h (defined n x) b = tt

-- what is passed under a name
pub argument_is : (as_ : List (Name × Denoted)) (n : Name) → value_at (map argument_in as_) n ≡ option_map (λ (d : Denoted). d.origin) (value_at as_ n)
argument_is as_ n = value_with (λ (d : Denoted). d.origin) as_ n

-- what is exported under a name
pub export_is : (es : List (Name × Bound)) (n : Name) → value_at (map (λ (e : Name × Origin ℕ × Stated). (e.0, e.1)) (map said_export es)) n ≡ option_map (λ (b : Bound). b.denoted.origin) (value_at es n)
export_is [] n = refl
export_is (e ∷ es) n = go (export_is es n) (pointwise ◌==◌ n e.0)
  where
    go : value_at (map (λ (e : Name × Origin ℕ × Stated). (e.0, e.1)) (map said_export es)) n ≡ option_map (λ (b : Bound). b.denoted.origin) (value_at es n) → (b : Bool)
        → (if b then Some e.1.denoted.origin else value_at (map (λ (e : Name × Origin ℕ × Stated). (e.0, e.1)) (map said_export es)) n) ≡ option_map (λ (b : Bound). b.denoted.origin) (if b then Some e.1 else value_at es n)
    go rest true = refl
    go rest false = rest

-- ---- the wiring of what the statements say

module _ (ps : List (Key × Content)) (g : State) (sound : Sound ps g) (tag_of : Key → Tag) where
  abbrev x : Composition Asker ℕ
  x = composition g

  abbrev W : Wiring ℕ
  W = composed_wiring tag_of x

  there : (j : ℕ) → j < length g.made → IsSome (W.at j)
  there j h =
      let m = slice_there g.made j h in
      let r = numbered_there zero g.made j m.0 m.1 in
      subst (λ o. IsSome (option_map (instantiation tag_of x) o)) (sym r.1) refl

  abbrev Earlier : ℕ → ℕ → Type 0
  Earlier k j = (j < k) × IsSome (W.at j)

  args_earlier : (k : ℕ) → k < length g.made → (m : c.Made Asker ℕ) → IsNumbered g.made k m → (n : Name) → Uses (Earlier k) (argument_source tag_of x m n)
  args_earlier k below m r n =
      subst (λ (y : c.Made Asker ℕ). Uses (Earlier k) (argument_source tag_of x y n)) (sym r.is) (imported_or (is_some (value_at (imports_of r.made.world) n)))
    where
      each : (j : ℕ) → j < k → Earlier k j
      each j h = (h, there j (omega (arith, h, below)))

      passed : (o : Option Denoted) → value_at r.made.arguments n ≡ o → Uses (Earlier k) (source_for tag_of x (option_map (λ (d : Denoted). d.origin) o) n)
      passed None e = tt
      passed (Some d) e = origin_uses (Earlier k) (asks_of x) k each d.origin ((sound.made k r.made r.there).before n d e)

      imported_or : (b : Bool) → Uses (Earlier k) (if b then source_for tag_of x (value_at (map argument_in r.made.arguments) n) n else Absent)
      imported_or false = tt
      imported_or true =
          subst (λ o. Uses (Earlier k) (source_for tag_of x o n)) (sym (argument_is r.made.arguments n)) (passed (value_at r.made.arguments n) refl)

  pub ordered_wiring : IsOrdered W
  ordered_wiring = record {
    args = λ k y e n. go k (slice_get (numbered zero g.made) k) refl y e n;
    exports = λ n. subst (λ o. Uses (λ j. IsSome (W.at j)) (export_source tag_of x o)) (sym (export_is g.exports n)) (exported n (value_at g.exports n) refl);
  }
    where
      go : (k : ℕ) (o : Option (c.Made Asker ℕ)) → slice_get (numbered zero g.made) k ≡ o → (y : Instantiation ℕ) → option_map (instantiation tag_of x) o ≡ Some y → (n : Name) → Uses (Earlier k) (y.args n)
      go k None q y e n = absurd (none-some _ e)
      go k (Some m) q y e n =
          let r = numbered_is zero g.made k m q in
          subst (λ (z : Instantiation ℕ). Uses (Earlier k) (z.args n)) (same_Some _ _ e) (args_earlier k (slice_below g.made k r.made r.there) m r n)

      exported : (n : Name) (o : Option Bound) → value_at g.exports n ≡ o → Uses (λ j. IsSome (W.at j)) (export_source tag_of x (option_map (λ (b : Bound). b.denoted.origin) o))
      exported n None e = tt
      exported n (Some b) e = origin_uses (λ j. IsSome (W.at j)) (asks_of x) (length g.made) there b.denoted.origin (has_before g b.denoted.origin b.denoted.item (sound.exports (n, b) (value_at-among g.exports n b e)))

-- ---- a document

pub record Said (define : Bool) (d : t.Document) (ps : List (Key × Content)) (x : Composition Asker ℕ) : Type 0 where
  pub state : State
  pub statements : Ok state ≡ statements d ps
  pub sound : Sound ps state
  pub is : x ≡ composition state
  pub free : first_cause define (composition state) ≡ None

-- no cause stood against what went on
no_cause : {A : Type 0} (o : Option (cause.Cause Asker)) (q : Answer A) (r : A) → Ok r ≡ (unless_cause o >> q) → o ≡ None
no_cause None q r e = refl
no_cause (Some c) q r e = absurd (err_ok _ r e)

pub said : (d : t.Document) (ps : List (Key × Content)) (define : Bool) (x : Composition Asker ℕ × Option Stated) → Ok x ≡ ascribed define d ps → Said define d ps x.0
said d ps define x e =
    let r = ok_of (resolved d ps) _ x e in
    let a = then_ok (unless_cause (first_cause define (composition r.0.0))) _ x r.2 in
    let b = then_ok (unless_cause (name_cause define true (composition r.0.0))) _ x a in
    let g = ok_of (statements d ps) _ r.0 (sym r.1) in
    let w = ok_of (target g.0 d.directive.targets) _ r.0 g.2 in
    let same : r.0 ≡ (g.0, w.0) = ok_is r.0 (g.0, w.0) w.2 in
    record {
      state = g.0;
      statements = sym g.1;
      sound = statements_sound ps d g.0 (sym g.1);
      is = ap (λ (y : Composition Asker ℕ × Option Stated). y.0) (ok_is x (composition r.0.0, r.0.1) b) ∙ ap (λ (q : State × Option Stated). composition q.0) same;
      free = ap (λ (q : State × Option Stated). first_cause define (composition q.0)) (sym same) ∙ no_cause (first_cause define (composition r.0.0)) _ x r.2;
    }

pub ordered : Wirings_are_ordered
ordered d ps define x e tag_of =
    let s = said d ps define x e in subst (λ (y : Composition Asker ℕ). IsOrdered (composed_wiring tag_of y)) (sym s.is) (ordered_wiring ps s.state s.sound tag_of)

pub known : Packages_are_known
known d ps r e k m q =
    let g = ok_of (statements d ps) _ r (sym e) in
    let w = ok_of (target g.0 d.directive.targets) _ r g.2 in
    let same : r.0 ≡ g.0 = ap (λ (q : State × Option Stated). q.0) (ok_is r (g.0, w.0) w.2) in
    let n = numbered_is zero g.0.made k m (ap (λ (s : State). slice_get (composition s).made k) (sym same) ∙ q) in
    subst (λ (y : c.Made Asker ℕ). package_under (worlds_of ps) y.key ≡ Some y.world) (sym n.is) ((statements_sound ps d g.0 (sym g.1)).made k n.made n.there).known

pub stay : Packages_stay
stay d ps r e =
    let g = ok_of (statements d ps) _ r (sym e) in
    let w = ok_of (target g.0 d.directive.targets) _ r g.2 in
    ap (λ (q : State × Option Stated). q.0.packages) (ok_is r (g.0, w.0) w.2) ∙ (statements_sound ps d g.0 (sym g.1)).same
