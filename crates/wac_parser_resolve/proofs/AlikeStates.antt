-- What has been said reads in two ways: over the packages that were handed in, and over others without spans.
use Rattle.std.specs.Prelude.{Bool, true, false, not, ◌||◌, if◌then◌else◌, List, [], ◌∷◌, ◌++◌, map, Option, Some, None, option_map}
use Rattle.std.specs.List.{list_any}
use Rattle.std.proofs.Common.{◌≡◌, refl, sym, ap, ◌∙◌, subst}
use Rattle.wac_types_base.specs.Entries.{Name, value_at, with_values}
use Rattle.wac_types_base.proofs.Stating.{value_with}
use Rattle.wac_types_names.specs.Keys.{Key}
use Rattle.wac_parser_tree.specs.Trees as t
use Rattle.wac_parser_tree.specs.Bare.{nowhere, bare_ident, bare_package_name}
use Rattle.wac_parser_refusals.specs.Causes.{Answer, pure, present, UndefinedName}
use Rattle.wac_parser_refusals.proofs.Alike.{IsAlike, both, neither, itself, AreSame, first, then_alike, next_alike}
use Rattle.wac_parser_declare.specs.Packages.{Content}
use Rattle.wac_parser_declare.specs.Scope.{Scope, Context, bind}
use Rattle.wac_parser_declare.proofs.AlikeScopes.{bare_meant, bare_scope, bind_alike, bare_context}
use Rattle.wac_parser_declare.proofs.Kept.{with_values-more}
use Rattle.wac_parser_resolve.specs.Ascribing.{Denoted, Made, Import, Bound, State, meant_by, root_scope, worlds_of, context, denoted_by, bound, is_projection, same_origin, speak_of}
use Rattle.wac_parser_resolve.specs.Denoting.{spoken}

abbrev pub bare_bound : Bound → Bound
bare_bound b = record { denoted = b.denoted; span = nowhere }

abbrev pub bare_asked : Import → Import
bare_asked i = record { name = i.name; item = i.item; span = nowhere; id_span = nowhere }

abbrev pub bare_made : Made → Made
bare_made m = record { key = m.key; world = m.world; arguments = m.arguments; span = nowhere }

abbrev pub bare_exports : List (Name × Bound) → List (Name × Bound)
bare_exports es = with_values bare_bound es

abbrev pub over : List (Key × Content) → State → State
over ps g = record g { packages = ps }

abbrev pub bare_over : List (Key × Content) → State → State
bare_over qs g = record {
  own = bare_package_name g.own;
  packages = qs;
  root = bare_exports g.root;
  imports = map bare_asked g.imports;
  made = map bare_made g.made;
  aliases = g.aliases;
  definitions = g.definitions;
  exports = bare_exports g.exports;
}

-- ---- the scope of the root

pub scope_bare : (es : List (Name × Bound)) → with_values meant_by (bare_exports es) ≡ bare_scope (with_values meant_by es)
scope_bare [] = refl
scope_bare (e ∷ es) = ap (λ ms. (e.0, bare_meant (meant_by e.1)) ∷ ms) (scope_bare es)

pub context_bare : (qs : List (Key × Content)) (c : Context) (g : State) → c.own ≡ g.own → c.root ≡ root_scope g → context (bare_over qs g) ≡ bare_context (worlds_of qs) c
context_bare qs c g own root =
    ap (λ (ms : Scope). made (bare_package_name g.own) ms) (scope_bare g.root ∙ ap bare_scope (sym root)) ∙ ap (λ (p : t.PackageName). made (bare_package_name p) (bare_scope c.root)) (sym own)
  where
    made : t.PackageName → Scope → Context
    made p ms = record { own = p; packages = worlds_of qs; root = ms }

-- ---- steps

pub denoted_alike : (g h : State) (i : t.Ident) → h.root ≡ bare_exports g.root → AreSame (denoted_by g i) (denoted_by h (bare_ident i))
denoted_alike g h i e = subst (λ (o : Option Bound). AreSame (denoted_by g i) (present (option_map (λ b. b.denoted) o) (UndefinedName i.string) nowhere)) (sym (ap (λ (es : List (Name × Bound)). value_at es i.string) e ∙ value_with bare_bound g.root i.string)) (go (value_at g.root i.string))
  where
    go : (o : Option Bound) → AreSame (present (option_map (λ b. b.denoted) o) (UndefinedName i.string) i.span) (present (option_map (λ b. b.denoted) (option_map bare_bound o)) (UndefinedName i.string) nowhere)
    go None = neither _ _
    go (Some b) = both b.denoted

module _ (ps qs : List (Key × Content)) where
  abbrev pub IsSaidAlike : Answer State → Answer State → Type 0
  IsSaidAlike a b = IsAlike (over ps) (bare_over qs) a b

  abbrev pub IsDenotedAlike : Answer (State × Denoted) → Answer (State × Denoted) → Type 0
  IsDenotedAlike a b = IsAlike {A = State × Denoted} (first (over ps)) (first (bare_over qs)) a b

  pub bound_alike : (g : State) (i : t.Ident) (d : Denoted) → IsSaidAlike (bound (over ps g) i d) (bound (bare_over qs g) (bare_ident i) d)
  bound_alike g i d = next_alike
      (subst (λ (ms : Scope). IsAlike itself bare_scope (bind (root_scope g) i d.item) (bind ms (bare_ident i) d.item)) (sym (scope_bare g.root)) (bind_alike (root_scope g) i d.item))
      (subst (λ (es : List (Name × Bound)). IsSaidAlike (pure (over ps (with_root (g.root ++ e ∷ [])))) (pure (record (bare_over qs g) { root = es }))) (with_values-more bare_bound g.root e.0 e.1) (both (with_root (g.root ++ e ∷ []))))
    where
      e : Name × Bound
      e = (i.string, record { denoted = d; span = i.span })

      with_root : List (Name × Bound) → State
      with_root es = record g { root = es }

  pub spoken_alike : (g : State) (a b : Answer Denoted) → AreSame a b → IsDenotedAlike (spoken (over ps g) a) (spoken (bare_over qs g) b)
  spoken_alike g a b h = then_alike _ _ h (λ d. go d (not (is_projection d.origin) || list_any (λ (e : Denoted). same_origin e.origin d.origin) g.aliases))
    where
      more : Denoted → State
      more d = record g { aliases = g.aliases ++ d ∷ [] }

      go : (d : Denoted) (b : Bool) → IsDenotedAlike (pure ((if b then over ps g else over ps (more d)), d)) (pure ((if b then bare_over qs g else bare_over qs (more d)), d))
      go d true = both (g, d)
      go d false = both (more d, d)

  pub spoken_over : (g : State) (d : Denoted) → speak_of (over ps g) d ≡ over ps (speak_of g d)
  spoken_over g d = go (not (is_projection d.origin) || list_any (λ (e : Denoted). same_origin e.origin d.origin) g.aliases)
    where
      more : State
      more = record g { aliases = g.aliases ++ d ∷ [] }

      go : (b : Bool) → (if b then over ps g else over ps more) ≡ over ps (if b then g else more)
      go true = refl
      go false = refl

  pub spoken_bare : (g : State) (d : Denoted) → speak_of (bare_over qs g) d ≡ bare_over qs (speak_of g d)
  spoken_bare g d = go (not (is_projection d.origin) || list_any (λ (e : Denoted). same_origin e.origin d.origin) g.aliases)
    where
      more : State
      more = record g { aliases = g.aliases ++ d ∷ [] }

      go : (b : Bool) → (if b then bare_over qs g else bare_over qs more) ≡ bare_over qs (if b then g else more)
      go true = refl
      go false = refl
