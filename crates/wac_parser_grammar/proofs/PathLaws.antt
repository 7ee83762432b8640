-- The names and paths of packages that are read stand in the source.
use Rattle.std.proofs.Common.{◌≡◌, ℕ, inl, inr, Bool, true, false, List, [], ◌∷◌, ◌++◌, Option, Some, None, Result, Ok, Err, refl, ap, sym, subst, ◌∙◌, cond}
use Rattle.std.specs.List.{All}
use Rattle.std.proofs.lemmas.List.Elements.{All-head, All-tail}
use Rattle.semver.specs.Parse.{version_parts}
use Rattle.semver.specs.declared.error.Error.{Error}
use Rattle.semver.proofs.Grammar.{version_parts-sound}
use Rattle.wac_parser_lexer.specs.declared.span.SourceSpan.{SourceSpan}
use Rattle.wac_parser_lexer.specs.declared.token.Token.{Token}
use Rattle.wac_parser_lexer.specs.declared.token.Token.TheVariants as k
use Rattle.wac_parser_lexer.specs.Tokens.{IsToken}
use Rattle.wac_parser_lexer.specs.Words.{IsPackageName}
use Rattle.wac_parser_lexer.specs.Pieces.{IsSpanIn, text_at}
use Rattle.wac_parser_lexer.specs.Items.{Item, Input, input_of, rest_of_items, rest_input}
use Rattle.wac_parser_lexer.proofs.SpanLaws.{IsItemIn, all_in, token_text, name_text, path_text}
use Rattle.wac_parser_tree.specs.Trees as t
use Rattle.wac_parser_tree.specs.Segments.{IsPathIn}
use Rattle.wac_parser_grammar.specs.Places.{IsBehind, here, on}
use Rattle.wac_parser_grammar.specs.Rules.{token}
use Rattle.wac_parser_grammar.specs.Tracks.{track_test, track_in}
use Rattle.wac_parser_grammar.specs.Names.{before, behind_first, version_read, version_by, version_of, version_beside, package_name, new_package, package_path}
use Rattle.wac_parser_grammar.specs.Paths.{versioned, IsText, IsNameIn, IsNewIn}
use Rattle.wac_parser_grammar.proofs.TrackTests.{track_tells}
use Rattle.wac_parser_grammar.proofs.PathTexts.{name_parts, path_parts}

-- the items of the place lie in the source
pub record IsPlaceIn (source : List ℕ) (s : Input) : Type 0 where
  pub same : s.source ≡ source
  pub items : All (IsItemIn source) s.items

rest_in : (source : List ℕ) (items : List Item) → All (IsItemIn source) items → All (IsItemIn source) (rest_of_items items)
rest_in source [] all = all
rest_in source (i ∷ is) all = All-tail (IsItemIn source) i is all

pub place_behind : (source : List ℕ) (m s : Input) → IsBehind m s → IsPlaceIn source s → IsPlaceIn source m
place_behind source m m' here p = p
place_behind source m s (on h) p = place_behind source m (rest_input s) h (record { same = p.same; items = rest_in source s.items p.items })

pub place_in : (source : List ℕ) → IsText source → (s : Input) → IsBehind s (input_of source) → IsPlaceIn source s
place_in source text s behind = place_behind source s (input_of source) behind (record { same = refl; items = all_in source text.0 text.1 })

-- ---- the version that is read is written as its text has it

version_text : (text more : List ℕ) → text ≡ before 64 text ++ 64 ∷ more → (q : Result t.Version Error) → version_parts more ≡ q → (span : SourceSpan) (v : Option t.Version) (s m : Input)
    → (version_read q more span).Is v s m → text ≡ versioned (before 64 text) v
version_text text more is (Ok p) e span v s m h =
    let P : Option t.Version → Type 0 = λ o. text ≡ versioned (before 64 text) o in
    subst P (sym h.0) (is ∙ ap (λ w. before 64 text ++ 64 ∷ w) (sym (version_parts-sound more p e).0))
version_text text more is (Err f) e span v s m h = absurd h

name_versioned : (text : List ℕ) → IsPackageName text → (span : SourceSpan) (v : Option t.Version) (s m : Input) → (version_of text span).Is v s m → text ≡ versioned (before 64 text) v
unfolding version_of
name_versioned text form span v s m h = elim (name_parts text form) [
  | inl w ↦
      (let P : Option (List ℕ) → Type 0 = λ o. (version_by o span).Is v s m in
      let Q : Option t.Version → Type 0 = λ o. text ≡ versioned (before 64 text) o in
      subst Q (sym (subst P w.1 h).0) w.0)
  | inr w ↦
      (let P : Option (List ℕ) → Type 0 = λ o. (version_by o span).Is v s m in
      version_text text w.0 w.1 (version_parts w.0) refl span v s m (subst P w.2 h))
]

-- what stands behind the `@` of a name, where it has one
text_behind : (text more : List ℕ) → IsPackageName text → behind_first 64 text ≡ Some more → text ≡ before 64 text ++ 64 ∷ more
text_behind text more form e = elim (name_parts text form) [
  | inl w ↦ absurd (none_some (sym w.1 ∙ e))
  | inr w ↦
      (let P : List ℕ → Type 0 = λ z. text ≡ before 64 text ++ 64 ∷ z in
      subst P (some_same (sym w.2 ∙ e)) w.1)
]
  where
    none_some : None ≡ Some more → ⊥
    none_some e = cc

    some_same : {z : List ℕ} → Some z ≡ Some more → z ≡ more
    some_same e = cc

module _ (source : List ℕ) (s : Input) (place : IsPlaceIn source s) where
  -- a token that is read stands at its span
  token_in : (kind : Token) (span : SourceSpan) (m : Input) → (token kind).Is span s m → IsSpanIn source span × IsToken kind (text_at source span)
  token_in kind span m h =
      let i : Item = record { docs = h.0; token = Ok kind; span = span } in
      let P : List Item → Type 0 = All (IsItemIn source) in
      let is = All-head (IsItemIn source) i h.1 (subst P h.2 place.items) in
      (is.0, token_text source span kind is.1)

  text_here : (kind : Token) (span : SourceSpan) (m : Input) → (token kind).Is span s m → text_at source span ≡ text_at m.source span
  text_here kind span m h = ap (λ z. text_at z span) (sym place.same) ∙ ap (λ (i : Input). text_at i.source span) (sym h.3)

  pub name_stands : (x : t.PackageName) (r : Input) → package_name.Is x s r → IsNameIn source x
  unfolding package_name
  name_stands x r h =
      let at = token_in k.PackageName h.0 h.1 h.2 in
      let text : text_at source h.0 ≡ h.3.0 = text_here k.PackageName h.0 h.1 h.2 ∙ sym h.3.2.0 in
      let P : List ℕ → Type 0 = IsToken k.PackageName in
      let form = name_text k.PackageName h.3.0 refl (subst P text at.1) in
      let parts = name_versioned h.3.0 form h.0 h.3.3.0 h.3.1 h.3.3.1 h.3.3.2 in
      let Q : t.PackageName → Type 0 = IsNameIn source in
      subst Q (sym h.3.3.3.0) (record { within = at.0; text = text; form = form; parts = parts })

  -- the name that is made of the text, with what is read beside a track
  abbrev made : List ℕ → SourceSpan → Option t.Version → t.PackageName
  made text span v = record { string = text; name = before 64 text; version = v; span = span }

  beside_stands : (text : List ℕ) (span : SourceSpan) (v : Option t.Version) (m r : Input) → IsSpanIn source span → text_at source span ≡ text → IsPackageName text
      → (o : Option (List ℕ)) → behind_first 64 text ≡ o → (version_beside (track_in o) o span).Is v m r → IsNewIn source (made text span v) (track_in o)
  unfolding version_of
  beside_stands text span v m r within is form o e = by_text o e
    where
      versioned_one : (z : Option (List ℕ)) → behind_first 64 text ≡ z → (version_by z span).Is v m r → IsNameIn source (made text span v)
      versioned_one z q g =
          let P : Option (List ℕ) → Type 0 = λ y. (version_by y span).Is v m r in
          record { within = within; text = is; form = form; parts = name_versioned text form span v m r (subst P (sym q) g) }

      by : (more : List ℕ) (b : Bool) → track_test more ≡ b → behind_first 64 text ≡ Some more → (version_beside (cond b (Some more) None) (Some more) span).Is v m r
          → IsNewIn source (made text span v) (cond b (Some more) None)
      by more true t q g =
          record { within = within; text = is; form = form; parts = text_behind text more form q; tracked = (track_tells more).0 t; unversioned = g.0 }
      by more false t q g = versioned_one (Some more) q g

      by_text : (z : Option (List ℕ)) → behind_first 64 text ≡ z → (version_beside (track_in z) z span).Is v m r → IsNewIn source (made text span v) (track_in z)
      by_text None q g = versioned_one None q g
      by_text (Some more) q g = by more (track_test more) refl q g

  pub new_stands : (x : t.PackageName × Option (List ℕ)) (r : Input) → new_package.Is x s r → IsNewIn source x.0 x.1
  unfolding new_package
  new_stands x r h =
      let at = token_in k.PackageName h.0 h.1 h.2 in
      let text : text_at source h.0 ≡ h.3.0 = text_here k.PackageName h.0 h.1 h.2 ∙ sym h.3.2.0 in
      let P : List ℕ → Type 0 = IsToken k.PackageName in
      let form = name_text k.PackageName h.3.0 refl (subst P text at.1) in
      let Q : t.PackageName × Option (List ℕ) → Type 0 = λ p. IsNewIn source p.0 p.1 in
      subst Q (sym h.3.3.3.0) (beside_stands h.3.0 h.0 h.3.3.0 h.3.1 h.3.3.1 at.0 text form (behind_first 64 h.3.0) refl h.3.3.2)

  pub path_stands : (x : t.PackagePath) (r : Input) → package_path.Is x s r → IsPathIn source x
  unfolding package_path
  path_stands x r h =
      let at = token_in k.PackagePath h.0 h.1 h.2 in
      let text : text_at source h.0 ≡ h.3.0 = text_here k.PackagePath h.0 h.1 h.2 ∙ sym h.3.2.0 in
      let P : List ℕ → Type 0 = IsToken k.PackagePath in
      let parts = path_parts h.3.0 (path_text k.PackagePath h.3.0 refl (subst P text at.1)) in
      let Q : t.PackagePath → Type 0 = IsPathIn source in
      subst Q (sym h.3.3.3.0) (record { within = at.0; text = text; more = parts.0; parts = parts.1 })
