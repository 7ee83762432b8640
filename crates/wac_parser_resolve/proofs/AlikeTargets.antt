-- A target is met by the same documents whatever the spans are, and over packages that are the same where they are named.
use Rattle.std.specs.Prelude.{Bool, true, false, not, if◌then◌else◌, List, [], ◌∷◌, ◌++◌, map, Option, Some, None, is_some, filter, option_map, ⊤}
use Rattle.std.specs.List.{flat_map}
use Rattle.std.proofs.Common.{◌≡◌, refl, sym, ap, ◌∙◌, subst}
use Rattle.std.proofs.lemmas.List.{map-append}
use Rattle.wac_types_base.specs.Entries.{Name, value_at}
use Rattle.wac_types_base.specs.Stated.{Stated, Kind, IsFunction, IsInstance, IsComponent, IsModule, IsValue, IsResource, IsFunctionType, IsValueType, IsInterface, IsWorld, IsModuleType, kind_of, promote, untyped, exports_of, imports_of}
use Rattle.wac_types_base.proofs.Stating.{value_with}
use Rattle.wac_types_names.specs.Keys.{Key}
use Rattle.wac_composition.specs.Tests.{fits}
use Rattle.wac_parser_tree.specs.Trees as t
use Rattle.wac_parser_tree.specs.Trees.{Span}
use Rattle.wac_parser_tree.specs.Bare.{nowhere, bare_package_path, bare}
use Rattle.wac_parser_tree.specs.Named.{in_target, in_statement}
use Rattle.wac_parser_refusals.specs.Causes.{Answer, pure, each, TypeCannotBeWritten}
use Rattle.wac_parser_refusals.proofs.Alike.{IsAlike, both, neither, itself, AreSame, first, then_alike, next_alike, needs_alike, each_alike, each_same, front_holds, back_holds}
use Rattle.wac_parser_declare.specs.Packages.{Content}
use Rattle.wac_parser_declare.specs.Scope.{path_item}
use Rattle.wac_parser_declare.proofs.AlikeScopes.{IsSameIn, AreSameIn, path_alike}
use Rattle.wac_parser_resolve.specs.Ascribing.{Import, Made, Bound, State, worlds_of, context}
use Rattle.wac_parser_resolve.specs.Laws.{NamesTheSame}
use Rattle.wac_parser_resolve.specs.Meeting.{given_by, Wanted, wanted_by_statement, wanted_by_instance, wanted, refuse_at, uses_are_named, target_met, target, resolved, target_by, export_met, import_met}
use Rattle.wac_parser_resolve.proofs.AlikeStates.{bare_bound, bare_asked, bare_made, bare_exports, over, bare_over}
use Rattle.wac_parser_resolve.proofs.AlikeStatements.{stated_alike, statements_alike}

-- ---- what a document imports

abbrev bare_wanted : Wanted → Wanted
bare_wanted w = record { name = w.name; item = w.item; span = option_map (λ (z : Span). nowhere) w.span }

asked_bare : (is : List Import) → map wanted_by_statement (map bare_asked is) ≡ map bare_wanted (map wanted_by_statement is)
asked_bare [] = refl
asked_bare (i ∷ is) = ap (λ ws. bare_wanted (wanted_by_statement i) ∷ ws) (asked_bare is)

abbrev open_import : Name × Stated → Wanted
open_import e = record { name = e.0; item = e.1; span = None }

open_bare : (es : List (Name × Stated)) → map open_import es ≡ map bare_wanted (map open_import es)
open_bare [] = refl
open_bare (e ∷ es) = ap (λ ws. open_import e ∷ ws) (open_bare es)

made_bare : (ms : List Made) → flat_map wanted_by_instance (map bare_made ms) ≡ map bare_wanted (flat_map wanted_by_instance ms)
made_bare [] = refl
made_bare (m ∷ ms) = ap (λ ws. ws ++ flat_map wanted_by_instance (map bare_made ms)) (open_bare (filter (λ e. not (is_some (value_at m.arguments e.0))) (imports_of m.world)))
    ∙ ap (λ ws. map bare_wanted (wanted_by_instance m) ++ ws) (made_bare ms)
    ∙ sym (map-append bare_wanted (wanted_by_instance m) (flat_map wanted_by_instance ms))

wanted_bare : (qs : List (Key × Content)) (g : State) → wanted (bare_over qs g) ≡ map bare_wanted (wanted g)
wanted_bare qs g = ap (λ ws. ws ++ flat_map wanted_by_instance (map bare_made g.made)) (asked_bare g.imports)
    ∙ ap (λ ws. map bare_wanted (map wanted_by_statement g.imports) ++ ws) (made_bare g.made)
    ∙ sym (map-append bare_wanted (map wanted_by_statement g.imports) (flat_map wanted_by_instance g.made))

-- ---- the target is met

import_by_alike : (p : t.PackagePath) (a : Wanted) (o : Option Stated) → AreSame (import_met p a o) (import_met (bare_package_path p) (bare_wanted a) o)
import_by_alike p a None = neither _ _
import_by_alike p a (Some x) = needs_alike (fits (promote x) a.item) _ _

export_by_alike : (g h : State) (p : t.PackagePath) (n : Name) (x : Stated) (o : Option Bound) → AreSame (export_met g p n x o) (export_met h (bare_package_path p) n x (option_map bare_bound o))
export_by_alike g h p n x None = neither _ _
export_by_alike g h p n x (Some e) = needs_alike (fits e.denoted.item (promote x)) _ _

named_alike : (p : t.PackagePath) (b : Bool) → AreSame (if b then pure tt else refuse_at (TypeCannotBeWritten p.string) None) (if b then pure tt else refuse_at (TypeCannotBeWritten p.string) None)
named_alike p true = both tt
named_alike p false = neither _ _

world_by_alike : (k : Kind) (p : t.PackagePath) (x : Stated) → AreSame (target_by k p x) (target_by k (bare_package_path p) x)
world_by_alike IsWorld p x = both (untyped x)
world_by_alike IsFunction p x = neither _ _
world_by_alike IsInstance p x = neither _ _
world_by_alike IsComponent p x = neither _ _
world_by_alike IsModule p x = neither _ _
world_by_alike IsValue p x = neither _ _
world_by_alike IsResource p x = neither _ _
world_by_alike IsFunctionType p x = neither _ _
world_by_alike IsValueType p x = neither _ _
world_by_alike IsInterface p x = neither _ _
world_by_alike IsModuleType p x = neither _ _

module _ (ps qs : List (Key × Content)) where
  met_alike : (g : State) (p : t.PackagePath) (w : Stated) → AreSame (target_met (over ps g) p w) (target_met (bare_over qs g) (bare_package_path p) w)
  met_alike g p w = next_alike (named_alike p (uses_are_named w))
      (next_alike (subst (λ (ws : List Wanted). AreSame (each (λ (u : ⊤) a. import_met p a (given_by w a.name)) tt (wanted g)) (each (λ (u : ⊤) a. import_met (bare_package_path p) a (given_by w a.name)) tt ws)) (sym (wanted_bare qs g))
      (each_alike {f = itself} {g = itself} bare_wanted _ _ (λ u a. import_by_alike p a (given_by w a.name)) tt (wanted g)))
      (each_same {f = itself} {g = itself} _ _ (λ u e. exported_alike e) tt (exports_of w)))
    where
      exported_alike : (e : Name × Stated) → AreSame (export_met (over ps g) p e.0 e.1 (value_at g.exports e.0)) (export_met (bare_over qs g) (bare_package_path p) e.0 e.1 (value_at (bare_exports g.exports) e.0))
      exported_alike e = subst (λ (o : Option Bound). AreSame (export_met (over ps g) p e.0 e.1 (value_at g.exports e.0)) (export_met (bare_over qs g) (bare_package_path p) e.0 e.1 o)) (sym (value_with bare_bound g.exports e.0))
          (export_by_alike (over ps g) (bare_over qs g) p e.0 e.1 (value_at g.exports e.0))

  target_alike : (g : State) (o : Option t.PackagePath) → AreSameIn (worlds_of ps) (worlds_of qs) (in_target o) → AreSame (target (over ps g) o) (target (bare_over qs g) (option_map bare_package_path o))
  target_alike g None h = both None
  target_alike g (Some p) h = then_alike _ _
      (then_alike _ _ (stated_alike ps qs g _ (λ c. path_item c (bare_package_path p)) (path_alike (context (over ps g)) (worlds_of qs) p h)) (λ x. world_by_alike (kind_of x) p x))
      (λ w. next_alike (met_alike g p w) (both (Some w)))

  abbrev pub AreResolvedAlike : Answer (State × Option Stated) → Answer (State × Option Stated) → Type 0
  AreResolvedAlike a b = IsAlike {A = State × Option Stated} (first (over ps)) (first (bare_over qs)) a b

  pub resolved_alike : (d : t.Document) → NamesTheSame d ps qs → AreResolvedAlike (resolved d ps) (resolved (bare d) qs)
  resolved_alike d h = then_alike _ _ (statements_alike ps qs d (front_holds (IsSameIn (worlds_of ps) (worlds_of qs)) (flat_map in_statement d.statements) (in_target d.directive.targets) h.packages, h.tracks))
      (λ g. then_alike _ _ (target_alike g d.directive.targets (back_holds (IsSameIn (worlds_of ps) (worlds_of qs)) (flat_map in_statement d.statements) (in_target d.directive.targets) h.packages)) (λ w. both (g, w)))
