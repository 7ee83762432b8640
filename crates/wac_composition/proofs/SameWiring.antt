-- Who asks says nothing of what is wired.
use Rattle.std.specs.Prelude.{ℕ, Bool, ◌==◌, if◌then◌else◌, List, [], ◌∷◌, map, Option, Some, None, is_some, option_map, slice_get}
use Rattle.std.specs.Cmp.Lexicographic.{pointwise}
use Rattle.std.proofs.Common.{◌≡◌, true, false, refl, ap, ◌∙◌}
use Rattle.std.proofs.lemmas.Option.{slice_get-map}
use Rattle.wac_types_base.specs.Entries.{Name, value_at}
use Rattle.wac_types_base.specs.Stated.{Stated, imports_of}
use Rattle.wac_types_base.specs.Tree.{tree}
use Rattle.wac_types_names.specs.Keys.{Key}
use Rattle.wac_graph_bytes.specs.Wirings.{Tag, Absent, Outer, project}
use Rattle.wac_composition.specs.Composition.{Origin, imported, instance, projected, defined, Made, Composition}
use Rattle.wac_composition.specs.Asks.{asks_of}
use Rattle.wac_composition.specs.Worlds.{source_of}
use Rattle.wac_composition.specs.Wired.{source_for, argument_source, instantiation, export_source, composed_wiring}
use Rattle.wac_composition.specs.Renaming.{origin_renamed, made_renamed, renamed, KeepsMeaning}
use Rattle.wac_composition.proofs.Renamed.{keeps_meaning}

abbrev pub itself : ℕ → ℕ
itself k = k

argument_named : (as_ : List (Name × Origin ℕ)) (n : Name) → value_at (map (λ (a : Name × Origin ℕ). (a.0, origin_renamed itself a.1)) as_) n ≡ option_map (origin_renamed itself) (value_at as_ n)
argument_named [] n = refl
argument_named (a ∷ as_) n = go (pointwise ◌==◌ n a.0) (argument_named as_ n)
  where
    go : (b : Bool) → value_at (map (λ (a : Name × Origin ℕ). (a.0, origin_renamed itself a.1)) as_) n ≡ option_map (origin_renamed itself) (value_at as_ n)
        → (if b then Some (origin_renamed itself a.1) else value_at (map (λ (a : Name × Origin ℕ). (a.0, origin_renamed itself a.1)) as_) n) ≡ option_map (origin_renamed itself) (if b then Some a.1 else value_at as_ n)
    go true e = refl
    go false e = e

abbrev origin_at : Name × Origin ℕ × Stated → Name × Origin ℕ
origin_at e = (e.0, e.1)

abbrev export_renamed : Name × Origin ℕ × Stated → Name × Origin ℕ × Stated
export_renamed e = (e.0, origin_renamed itself e.1, e.2)

export_named : (es : List (Name × Origin ℕ × Stated)) (n : Name) → value_at (map origin_at (map export_renamed es)) n ≡ option_map (origin_renamed itself) (value_at (map origin_at es) n)
export_named [] n = refl
export_named (e ∷ es) n = go (pointwise ◌==◌ n e.0) (export_named es n)
  where
    go : (b : Bool) → value_at (map origin_at (map export_renamed es)) n ≡ option_map (origin_renamed itself) (value_at (map origin_at es) n)
        → (if b then Some (origin_renamed itself e.1) else value_at (map origin_at (map export_renamed es)) n) ≡ option_map (origin_renamed itself) (if b then Some e.1 else value_at (map origin_at es) n)
    go true f = refl
    go false f = f

module _ {A B : Type 0} (f : A → B) (tag_of : Key → Tag) (c : Composition A ℕ) where
  abbrev others : Composition B ℕ
  others = renamed f itself c

  meaning : KeepsMeaning f itself c
  meaning = keeps_meaning f itself c

  source_kept : (o : Origin ℕ) → source_of (asks_of others) (origin_renamed itself o) ≡ source_of (asks_of c) o
  source_kept (imported n) = ap Outer (meaning.spelled n)
  source_kept (instance k) = refl
  source_kept (projected o n) = ap (λ s. project s n) (source_kept o)
  source_kept (defined n x) = refl

  given_kept : (o : Option (Origin ℕ)) (n : Name) → source_for tag_of others (option_map (origin_renamed itself) o) n ≡ source_for tag_of c o n
  given_kept None n = ap Outer (meaning.spelled n)
  given_kept (Some o) n = source_kept o

  argument_kept : (m : Made A ℕ) (n : Name) → argument_source tag_of others (made_renamed f itself m) n ≡ argument_source tag_of c m n
  argument_kept m n = ap (λ s. if is_some (value_at (imports_of m.world) n) then s else Absent) (ap (λ o. source_for tag_of others o n) (argument_named m.arguments n) ∙ given_kept (value_at m.arguments n) n)

  made_kept : (o : Option (Made A ℕ)) → option_map (instantiation tag_of others) (option_map (made_renamed f itself) o) ≡ option_map (instantiation tag_of c) o
  made_kept None = refl
  made_kept (Some m) = λ i. Some (record { tag = tag_of m.key; args = λ n. argument_kept m n i })

  at_kept : (k : ℕ) → option_map (instantiation tag_of others) (slice_get (map (made_renamed f itself) c.made) k) ≡ option_map (instantiation tag_of c) (slice_get c.made k)
  at_kept k = ap (option_map (instantiation tag_of others)) (slice_get-map (made_renamed f itself) c.made k) ∙ made_kept (slice_get c.made k)

  export_kept : (o : Option (Origin ℕ)) → export_source tag_of others (option_map (origin_renamed itself) o) ≡ export_source tag_of c o
  export_kept None = refl
  export_kept (Some o) = source_kept o

  exports_kept : (n : Name) → export_source tag_of others (value_at (map origin_at others.exports) n) ≡ export_source tag_of c (value_at (map origin_at c.exports) n)
  exports_kept n = ap (export_source tag_of others) (export_named c.exports n) ∙ export_kept (value_at (map origin_at c.exports) n)

  pub wiring_kept : composed_wiring tag_of others ≡ composed_wiring tag_of c
  wiring_kept = λ i. record { outers = λ n. option_map tree (value_at (meaning.outers i) n); at = λ k. at_kept k i; exports = λ n. exports_kept n i }
