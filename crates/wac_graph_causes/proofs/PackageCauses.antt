-- The first package whose world cannot be written.
use Rattle.std.specs.Map.{keys_of}
use Rattle.std.proofs.Common.{◌≡◌, ℕ, Bool, true, false, List, [], ◌∷◌, Option, None, refl, sym, ap, subst, ◌∙◌, inl, inr}
use Rattle.wac_types_base.specs.declared.ids.WorldId.{WorldId}
use Rattle.wac_types_base.specs.declared.item.ItemKind.{ItemKind}
use Rattle.wac_types_base.specs.Entries.{Name}
use Rattle.wac_types_base.specs.Graph.{Among}
use Rattle.wac_types_base.specs.Record.{Collection}
use Rattle.wac_types_base.specs.Collection.{Stands}
use Rattle.wac_types_base.specs.Stated.{stated_in, stated_of}
use Rattle.wac_graph_core.specs.declared.ids.PackageId.{PackageId}
use Rattle.wac_graph_core.specs.Graph.{Graph, package_of}
use Rattle.std.specs.Bool.{Decides}
use Rattle.wac_composition.specs.Writable.{package_unwritable}
use Rattle.wac_composition.specs.NotWritten.{PackageCannotBeWritten}
use Rattle.wac_composition.proofs.NotFound.{package_decides_of}
use Rattle.wac_writable.proofs.ItemLaws.{both_decide}
use Rattle.wac_composition.specs.Conflicts.{Cause, cause_at}
use Rattle.wac_graph_asks.specs.declared.asks.Asked.{Asked}
use Rattle.wac_graph_asks.specs.Asked.{IsWorldOf}
use Rattle.wac_graph_causes.specs.declared.error.Unwritten.{Unwritten}
use Rattle.wac_graph_causes.specs.Alike.{dependency_of}
use Rattle.wac_graph_causes.specs.Unwritable.{TellsUnwritable, first_unwritable, package_world, dependency_at, dependencies_at, package_cause, packages_cause}
use Rattle.wac_graph_causes.proofs.FirstCauses.{named_if, cause_next, cause_there, cause_nowhere}

-- ---- one package

module _ (g : Graph) (c : Collection) (id : PackageId) (w : WorldId) (own : IsWorldOf g c id w) where
  world_is : package_world g (package_of g id) ≡ stated_of c (ItemKind.Component w)
  world_is = ap (package_world g) own.is ∙ ap stated_in (sym own.copy.same)

  module _ (b : Bool) (tells : Stands c (ItemKind.Component w) → Decides b (PackageCannotBeWritten (stated_of c (ItemKind.Component w)))) where
    tested : b ≡ package_unwritable (dependency_at g id)
    tested = both_decide b (package_unwritable (dependency_at g id)) (subst (λ x. Decides b (PackageCannotBeWritten x)) (sym world_is) (tells own.copy.stands)) (package_decides_of (dependency_of g id) (package_world g (package_of g id)))

    package_is : (v : Bool) → b ≡ v → package_cause g id ≡ named_if v (dependency_of g id)
    package_is v e = ap (λ v. named_if v (dependency_of g id)) (sym tested ∙ e)

    pub package_passes : b ≡ false → package_cause g id ≡ None
    package_passes e = package_is false e

    pub package_named : (n : Name) → b ≡ true → n ≡ dependency_of g id → package_cause g id ≡ named_if true n
    package_named n e is = package_is true e ∙ ap (named_if true) (sym is)

-- ---- one after another

module _ (g : Graph) (asked : Asked) where
  abbrev pub entries : List (PackageId × WorldId)
  entries = asked.packages.entries

  abbrev pub causes : List (PackageId × WorldId) → Option (Cause ℕ)
  causes es = first_unwritable package_unwritable (dependencies_at g (keys_of es))

  -- these are among the packages, and none before them is a cause
  pub record PackagesLeft (turn : List (PackageId × WorldId)) : Type 0 where
    pub among : (e : PackageId × WorldId) → Among e turn → Among e entries
    pub left : causes turn ≡ packages_cause g asked

  pub packages_begin : (turn : List (PackageId × WorldId)) → turn ≡ entries → PackagesLeft turn
  packages_begin turn is = record { among = λ e m. subst (Among e) is m; left = ap causes is }

  module _ (turn rest : List (PackageId × WorldId)) (id : PackageId) (w : WorldId) (is : turn ≡ (id, w) ∷ rest) (h : PackagesLeft turn) where
    pub package_among : Among (id, w) entries
    package_among = h.among (id, w) (subst (Among (id, w)) (sym is) (inl refl))

    listed : dependencies_at g (keys_of turn) ≡ dependency_at g id ∷ dependencies_at g (keys_of rest)
    listed = ap (λ es. dependencies_at g (keys_of es)) is

    pub packages_next : package_cause g id ≡ None → PackagesLeft rest
    packages_next none = record {
      among = λ e m. h.among e (subst (Among e) (sym is) (inr m));
      left = cause_next (cause_at package_unwritable) (dependencies_at g (keys_of turn)) (dependencies_at g (keys_of entries)) h.left (dependency_at g id) (dependencies_at g (keys_of rest)) listed none;
    }

    pub package_told : (e : Unwritten) → TellsUnwritable (package_cause g id) e → TellsUnwritable (packages_cause g asked) e
    package_told e t = cause_there (cause_at package_unwritable) (dependencies_at g (keys_of turn)) (dependencies_at g (keys_of entries)) h.left (dependency_at g id) (dependencies_at g (keys_of rest)) e listed t

  pub packages_pass : (turn : List (PackageId × WorldId)) → turn ≡ [] → PackagesLeft turn → packages_cause g asked ≡ None
  packages_pass turn is h =
      cause_nowhere (cause_at package_unwritable) (dependencies_at g (keys_of turn)) (dependencies_at g (keys_of entries)) h.left (ap (λ es. dependencies_at g (keys_of es)) is)
