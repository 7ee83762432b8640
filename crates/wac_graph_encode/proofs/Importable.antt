-- Packages can be imported where no names are alike.
use Rattle.std.specs.Prelude.{find, is_some, option_map}
use Rattle.std.specs.Cmp.Lexicographic.{bytes_decides}
use Rattle.std.proofs.Common.{◌≡◌, ℕ, Bool, true, false, true≢false, List, [], ◌∷◌, ◌++◌, map, Option, Some, None, inl, inr, refl, sym, ap, subst, ◌∙◌}
use Rattle.wac_types_base.specs.Entries.{AreDistinct, Name, names_of, value_at}
use Rattle.wac_types_base.specs.Graph.{Among}
use Rattle.wac_types_base.specs.Stated.{Stated}
use Rattle.wac_types_base.specs.Tree.{tree}
use Rattle.wac_types_base.proofs.Adding.{Among-left, Among-right}
use Rattle.wac_types_base.proofs.Lists.{among_mapped, value_named}
use Rattle.wac_types_base.proofs.Standing.{is_some-option_map}
use Rattle.wac_graph_core.specs.declared.ids.PackageId.{PackageId}
use Rattle.wac_graph_core.specs.Graph.{Graph, IsGraph}
use Rattle.wac_types_parts.proofs.Lists.{distinct-apart}
use Rattle.wac_graph_scopes.proofs.OrderLaws.{distinct-right}
use Rattle.wac_composition.specs.Asks.{asks_of}
use Rattle.wac_composition.specs.OuterImports.{outer_imports}
use Rattle.wac_composition.specs.Conflicts.{Cause, ImportNames, alike as alike_names, each_once, lower, name_cause, twins}
use Rattle.wac_composition.proofs.Against.{find_none, or_none}
use Rattle.wac_graph_asks.specs.Graphs.{composition_of}
use Rattle.wac_graph_asks.specs.Wirings.{asked_trees}
use Rattle.wac_graph_asks.proofs.Arguments.{nothing_there}
use Rattle.wac_graph_causes.specs.Alike.{dependency_of}
use Rattle.wac_graph_causes.proofs.Dependencies.{packages_named}
use Rattle.wac_graph_encode.specs.declared.options.EncodeOptions.{EncodeOptions}
use Rattle.wac_graph_encode.specs.Finished.{AreInstantiated}
use Rattle.wac_graph_encode.specs.Importing.{AreImportable}
use Rattle.wac_graph_encode.specs.Refused.{HasNoneAlike}

abbrev behind : Name → Name → Name × Name
behind x y = (y, x)

not_found : (x : Name) (o : Option Name) → option_map (behind x) o ≡ None → o ≡ None
not_found x o e = nothing_there o (sym (is_some-option_map (behind x) o) ∙ ap is_some e)

none_alike : (o : Option (Name × Name)) → ◌≡◌ {A = Option (Cause ℕ)} (option_map (λ t. ImportNames t.0 t.1) o) None → o ≡ None
none_alike o e = nothing_there o (sym (is_some-option_map (λ t. ImportNames t.0 t.1) o) ∙ ap is_some e)

module _ (p : Name → Name → Bool) (itself : (n : Name) → p n n ≡ true) where
  none_twice : (seen ns : List Name) → twins p seen ns ≡ None → (m : Name) → Among m seen → Among m ns → ⊥
  none_twice seen [] e m k n = n
  none_twice seen (x ∷ ns) e m k (inl same) =
      let none = not_found x (find (p x) seen) (or_none (option_map (behind x) (find (p x) seen)) (twins p (seen ++ x ∷ []) ns) e).0 in
      true≢false (sym (ap (λ y. p y m) (sym same) ∙ itself m) ∙ find_none (p x) seen none m k)
  none_twice seen (x ∷ ns) e m k (inr n) =
      none_twice (seen ++ x ∷ []) ns (or_none (option_map (behind x) (find (p x) seen)) (twins p (seen ++ x ∷ []) ns) e).1 m (Among-left m seen (x ∷ []) k) n

  no_twins : (seen ns : List Name) → twins p seen ns ≡ None → AreDistinct ns
  no_twins seen [] e = tt
  no_twins seen (x ∷ ns) e =
      let rest = (or_none (option_map (behind x) (find (p x) seen)) (twins p (seen ++ x ∷ []) ns) e).1 in
      (λ n. none_twice (seen ++ x ∷ []) ns rest x (Among-right x seen (x ∷ []) (inl refl)) n, no_twins (seen ++ x ∷ []) ns rest)

alike_itself : (validate : Bool) (n : Name) → alike_names validate n n ≡ true
alike_itself true n = (bytes_decides (map lower n) (map lower n)).1 refl
alike_itself false n = (bytes_decides n n).1 refl

-- where no names are alike, packages can be imported
pub importable : (g : Graph) → IsGraph g → (options : EncodeOptions) (ids : List PackageId) → options.define_components ≡ false → HasNoneAlike options g → AreInstantiated g ids → AreImportable g ids
importable g sound options ids define alike each = record { once = subst AreDistinct (sym listed) (distinct-right outers deps distinct); apart = apart }
  where
    outers : List Name
    outers = names_of (outer_imports (asks_of (composition_of g)))

    deps : List Name
    deps = names_of (each_once [] (composition_of g).made)

    distinct : AreDistinct (outers ++ deps)
    distinct =
        let none = subst (λ d. name_cause d options.validate (composition_of g) ≡ None) define alike in
        no_twins (alike_names options.validate) (alike_itself options.validate) [] (outers ++ deps) (none_alike _ (or_none _ _ none).0)

    listed : map (dependency_of g) ids ≡ deps
    listed = ap (map (dependency_of g)) each ∙ packages_named g sound

    apart : (id : PackageId) → Among id ids → asked_trees g (dependency_of g id) ≡ None
    apart id m = go (value_at (outer_imports (asks_of (composition_of g))) (dependency_of g id)) refl
      where
        go : (x : Option Stated) → value_at (outer_imports (asks_of (composition_of g))) (dependency_of g id) ≡ x → option_map tree x ≡ None
        go None e = refl
        go (Some x) e = absurd (distinct-apart (dependency_of g id) outers deps distinct (value_named (outer_imports (asks_of (composition_of g))) (dependency_of g id) x e)
            (subst (Among (dependency_of g id)) listed (among_mapped (dependency_of g) ids id m)))
