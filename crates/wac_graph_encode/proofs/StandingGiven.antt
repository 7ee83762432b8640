-- What the arguments of an instance that is written stand for.
use Rattle.std.specs.Prelude.{slice_get, is_some, option_map, if◌then◌else◌}
use Rattle.std.specs.Cmp.Lexicographic.{pointwise, same_text}
use Rattle.std.proofs.Common.{◌≡◌, ◌==◌, ℕ, Bool, true, false, List, [], ◌∷◌, Option, Some, None, refl, sym, ap, subst, ◌∙◌}
use Rattle.wac_types_base.specs.declared.item.ItemKind.{ItemKind}
use Rattle.wac_types_base.specs.declared.ids.WorldId.{WorldId}
use Rattle.wac_types_base.specs.declared.defined.World.{World}
use Rattle.wac_types_base.specs.Record.{Collection}
use Rattle.wac_types_base.specs.Collection.{Stands}
use Rattle.wac_types_base.proofs.Standing.{world_found}
use Rattle.wac_types_base.specs.Entries.{Name, names_of, value_at, with_values}
use Rattle.wac_types_base.specs.Graph.{Among}
use Rattle.wac_types_base.specs.Tree.{Tree}
use Rattle.wac_types_base.proofs.Stating.{value_with}
use Rattle.wac_types_names.specs.Packaged.{Packaged}
use Rattle.wac_graph_bytes.specs.declared.entry.Entry.{Entry as CodeEntry}
use Rattle.wac_graph_bytes.specs.Entries.{Argument}
use Rattle.wac_graph_bytes.specs.Typing.{◌>>=◌, Worlds, Meaning, space}
use Rattle.wac_graph_bytes.specs.Wirings.{Source, Absent, Outer, OfBytes, Instantiation, Uses}
use Rattle.wac_graph_bytes.specs.Meaning.{State, source_of, source_at, arguments_of}
use Rattle.wac_graph_core.specs.declared.ids.PackageId.{PackageId}
use Rattle.wac_graph_core.specs.Graph.{Graph, item_import, imported_in}
use Rattle.wac_graph_core.specs.GraphWiring as wired
use Rattle.wac_graph_core.proofs.Found.{eq_same}
use Rattle.wac_types_base.specs.Parts.{imports_in_world}
use Rattle.wac_types_parts.specs.Parts.{imports_of, world_in}
use Rattle.wac_graph_scopes.specs.declared.imports.SortIndex.{SortIndex}
use Rattle.wac_graph_encode.specs.declared.root.Counts.{Counts}
use Rattle.wac_graph_encode.specs.Standing.{spelled, by_number, IsInstanceOf, IsWritten, IsGivenAt, argument, outer}
use Rattle.wac_graph_encode.specs.Writing.{AreGivenAt}
use Rattle.wac_graph_asks.specs.Wirings.{written_tree}

-- ---- values under one list of names

value_by : {X Y : Type 0} (b : Bool) (x : X) (y : Y) (o : Option X) (p : Option Y) → is_some o ≡ is_some p → is_some (if b then Some x else o) ≡ is_some (if b then Some y else p)
value_by true x y o p h = refl
value_by false x y o p h = h

pub same_values : {X Y : Type 0} (xs : List (Name × X)) (ys : List (Name × Y)) (n : Name) → names_of xs ≡ names_of ys → is_some (value_at xs n) ≡ is_some (value_at ys n)
same_values [] [] n e = refl
same_values [] (y ∷ ys) n e = absurd (cc e)
same_values (x ∷ xs) [] n e = absurd (cc e)
same_values (x ∷ xs) (y ∷ ys) n e =
    let first : x.0 ≡ y.0 = cc e in
    let rest : names_of xs ≡ names_of ys = cc e in
    ap (λ m. is_some (if pointwise ◌==◌ n m then Some x.1 else value_at xs n)) first
    ∙ value_by (pointwise ◌==◌ n y.0) x.1 y.1 (value_at xs n) (value_at ys n) (same_values xs ys n rest)

-- the imports of a world that stands are those that have its names
pub has_imports : {X : Type 0} (c : Collection) (w : WorldId) (xs : List (Name × X)) (n : Name) → Stands c (ItemKind.Component w) → names_of xs ≡ names_of (imports_of c w) → is_some (value_at xs n) ≡ is_some (item_import c w n)
has_imports c w xs n stands e =
    let x = world_found c w stands in
    let here : world_in c w ≡ Some x.value = ap (λ (b : Bool). if b then slice_get c.worlds w.index else None) (ap (λ (k : ℕ). k == c.number) x.own ∙ eq_same c.number) ∙ x.at in
    same_values xs x.value.imports n (e ∙ ap (λ (o : Option World). names_of (imports_in_world o)) here) ∙ ap (λ (o : Option World). is_some (imported_in o n)) (sym x.at)

module _ (g : Graph) (worlds : Worlds) (define : Bool) (asked : List (Name × Tree)) (found : Name → Option SortIndex) (held : List (PackageId × ℕ)) (first : List (Name × ℕ))
    (es : List CodeEntry) (c : Counts) (nodes : List (ℕ × SortIndex)) (h : IsWritten g worlds define asked found held first es c nodes) (k : ℕ) where
  abbrev st : State
  st = h.state

  abbrev Binds : Name → Source ℕ → Type 0
  Binds = wired.Binds (spelled g) (written_tree g) g k

  abbrev Written : Source ℕ → Type 0
  Written s = Uses (λ i. Among i h.order) s

  -- the source that is bound under a name, and what stands for it
  record Bound (n : Name) (p : SortIndex) : Type 0 where
    source : Source ℕ
    binds : Binds n source
    written : Written source
    meaning : Meaning
    at : slice_get (space p.sort st.scope) p.index ≡ Some meaning
    means : source_of meaning ≡ Some (by_number h.order source)

  bound : (n : Name) (p : SortIndex) → IsGivenAt g found nodes k n p → Bound n p
  bound n p (argument a edge m) =
      let s = h.stand a p m in
      record { source = s.source; binds = wired.argument a edge s.denotes; written = s.written; meaning = s.meaning; at = s.at; means = s.means }
  bound n p (outer none v) =
      let o = h.outers n p v in
      record { source = Outer (spelled g n); binds = wired.outer none; written = tt; meaning = o.meaning; at = o.at; means = o.means }

  -- what is bound under each of these names, and what the arguments are read as
  pub record Given (ns : List Name) (as_ : List Argument) : Type 0 where
    pub sources : List (Name × Source ℕ)
    pub names : names_of sources ≡ ns
    pub each : (n : Name) (s : Source ℕ) → value_at sources n ≡ Some s → Binds n s × Written s
    pub reads : arguments_of st.scope as_ ≡ Some (with_values (by_number h.order) sources)

  value_step : (n m : Name) (x : Source ℕ) (rest : List (Name × Source ℕ)) (P : Name → Source ℕ → Type 0) → P m x → ((s : Source ℕ) → value_at rest n ≡ Some s → P n s) → (s : Source ℕ) → value_at ((m, x) ∷ rest) n ≡ Some s → P n s
  value_step n m x rest P here there s e = go (pointwise ◌==◌ n m) refl e
    where
      go : (b : Bool) → pointwise ◌==◌ n m ≡ b → (if b then Some x else value_at rest n) ≡ Some s → P n s
      go true q r = let same : x ≡ s = cc r in subst (P n) same (subst (λ y. P y x) (sym (same_text n m (sym q))) here)
      go false q r = there s r

  pub given : (ns : List Name) (as_ : List Argument) → AreGivenAt g found nodes k ns as_ → Given ns as_
  given [] [] z = record { sources = []; names = refl; each = λ n s e. absurd (cc e); reads = refl }
  given [] (a ∷ as_) z = absurd z
  given (n ∷ ns) [] z = absurd z
  given (n ∷ ns) (a ∷ as_) z =
      let p : SortIndex = record { sort = a.1; index = a.2 } in
      let b = bound n p z.0.1 in
      let rest = given ns as_ z.1 in
      let one = b.source in
      record {
        sources = (n, b.source) ∷ rest.sources;
        names = ap (λ ms. n ∷ ms) rest.names;
        each = λ m s e. value_step m n b.source rest.sources (λ x y. Binds x y × Written y) (b.binds, b.written) (rest.each m) s e;
        reads =
            ap (λ (o : Option Meaning). o >>= source_of >>= λ s. arguments_of st.scope as_ >>= λ others. Some ((a.0, s) ∷ others)) b.at
            ∙ ap (λ (o : Option (Source ℕ)). o >>= λ s. arguments_of st.scope as_ >>= λ others. Some ((a.0, s) ∷ others)) b.means
            ∙ ap (λ (o : Option (List (Name × Source ℕ))). o >>= λ others. Some ((a.0, by_number h.order b.source) ∷ others)) rest.reads
            ∙ ap (λ (m : Name). Some ((m, by_number h.order b.source) ∷ with_values (by_number h.order) rest.sources)) z.0.0;
      }

  -- ---- the instance that they make

  abbrev source_in : Option (Source ℕ) → Source ℕ
  source_in o = elim o [ None ↦ Absent | Some s ↦ s ]

  module _ (of : Packaged) (as_ : List Argument) (ns : List Name) (x : Given ns as_)
      (imports : (n : Name) → is_some (value_at x.sources n) ≡ is_some (item_import g.types of.ty n)) where
    abbrev pub instance_made : Instantiation ℕ
    instance_made = record { tag = OfBytes of.bytes; args = source_at x.sources }

    bound_by : (n : Name) (o : Option (Source ℕ)) → value_at x.sources n ≡ o → is_some o ≡ true → Binds n (source_in o)
    bound_by n None e t = absurd (cc t)
    bound_by n (Some s) e t = (x.each n s e).0

    absent_by : (o : Option (Source ℕ)) → is_some o ≡ false → source_in o ≡ Absent
    absent_by None t = refl
    absent_by (Some s) t = absurd (cc t)

    pub instance_is : IsInstanceOf g k of instance_made
    instance_is = record {
      tag = refl;
      bound = λ n item e. bound_by n (value_at x.sources n) refl (imports n ∙ ap is_some e);
      no_other = λ n e. absent_by (value_at x.sources n) (imports n ∙ ap is_some e);
    }

    written_by : (n : Name) (o : Option (Source ℕ)) → value_at x.sources n ≡ o → Written (source_in o)
    written_by n None e = tt
    written_by n (Some s) e = (x.each n s e).1

    pub instance_written : (n : Name) → Written (instance_made.args n)
    instance_written n = written_by n (value_at x.sources n) refl

    number_by : (o : Option (Source ℕ)) → source_in (option_map (by_number h.order) o) ≡ by_number h.order (source_in o)
    number_by None = refl
    number_by (Some s) = refl

    pub instance_given : (n : Name) → source_at (with_values (by_number h.order) x.sources) n ≡ by_number h.order (instance_made.args n)
    instance_given n = ap source_in (value_with (by_number h.order) x.sources n) ∙ number_by (value_at x.sources n)
