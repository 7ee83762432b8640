-- A composition that is sound by number is wired where its asks are met. Each instance is made twice: first with what it
-- leaves open, then, behind all those, with what it is given. That composition is sound by places, and asks the same.
use Rattle.std.specs.Prelude.{◌==◌, slice_get, option_map, is_some, not, cond, filter, if◌then◌else◌}
use Rattle.std.specs.List.{flat_map}
use Rattle.std.specs.Cmp.Lexicographic.{pointwise}
use Rattle.std.proofs.lemmas.Option.{none-some, same_Some, slice_get-map, slice_get_within}
use Rattle.std.proofs.lemmas.List.{append-nil}
use Rattle.std.proofs.lemmas.Grind.{flat_map-append}
use Rattle.std.proofs.Common.{◌≡◌, ℕ, zero, suc, ◌≤◌, List, [], ◌∷◌, ◌++◌, map, length, Bool, true, false, true≢false, Option, Some, None, ◌⊎◌, inl, inr, refl, sym, ap, subst, ◌∙◌, arith}
use Rattle.wac_types_base.specs.Entries.{Name, value_at}
use Rattle.wac_types_base.specs.Graph.{Among}
use Rattle.wac_types_base.specs.Stated.{Stated, instance_type, interface_of, world_of, imports_of, exports_of, uses_of}
use Rattle.wac_types_base.specs.Tree.{Tree, tree}
use Rattle.wac_types_base.specs.Fits.{HasField, Fits}
use Rattle.wac_types_base.proofs.Lists.{among_mapped}
use Rattle.wac_types_base.proofs.Looked.{among-get}
use Rattle.wac_types_base.proofs.Replacing.{same_number}
use Rattle.wac_types_base.proofs.Stating.{value_with}
use Rattle.wac_types_base.proofs.Walking.{slice_get-Among}
use Rattle.wac_types_names.specs.Keys.{Key}
use Rattle.wac_types_fit.proofs.Meeting.{mapped-some}
use Rattle.wac_types_written.specs.Written.{without_uses}
use Rattle.wac_types_written.proofs.Parts.{world_uses, world_imports, world_exports}
use Rattle.wac_graph_bytes.specs.Wirings.{Tag, OfBytes, Source, Absent, Outer, Inst, project, rename}
use Rattle.wac_graph_bytes.proofs.Replace.{replace-project}
use Rattle.wac_graph_core.proofs.Found.{eq_same}
use Rattle.wac_nesting.specs.Given.{World, Gives, Provides, States, AreOuters}
use Rattle.wac_composition.specs.Composition.{Origin, imported, instance, projected, defined, Placed, Made, Composition}
use Rattle.wac_composition.specs.Asks.{ToFill, Ask, used_by, used_by_definition, explicit_ask, filled_asks, asked_for, named_asks, asks_of}
use Rattle.wac_composition.specs.Classes.{spelling}
use Rattle.wac_composition.specs.OuterImports.{outer_imports}
use Rattle.wac_composition.specs.OuterLaws.{AreMet, IsMet}
use Rattle.wac_composition.specs.Renaming.{origin_renamed, placed_renamed, ask_renamed, made_renamed, renamed}
use Rattle.wac_composition.specs.Worlds.{source_of, world_exports as exports_in, composed_world}
use Rattle.wac_composition.specs.Wired.{source_for, argument_source, instantiation, export_source}
use Rattle.wac_composition.specs.Sound.{fields_of, maps_of, HasType, of_import, of_instance, of_export, of_definition, given_as, IsBefore, IsGiven, IsSound, IsMade, IsWired}
use Rattle.wac_composition.proofs.Bound.{wired, has_field, field_has, has_none}
use Rattle.wac_composition.proofs.Lists.{mapped_among}
use Rattle.wac_composition.proofs.Renamed.{keeps_meaning}
use Rattle.wac_soundness.specs.Sound.{IsTyped, an_import, an_instance, an_export, a_definition, IsSoundByNumber}
use Rattle.wac_soundness.proofs.Trees.{moved_gives, moved_states}
use Rattle.wac_soundness.proofs.Listed.{slice_first, slice_behind, slice_either, filter_all, value_kept}

-- what the sources of a composition are, where `IsOf` says of which world an instance is
pub record IsWiredIn {A : Type 0} (c : Composition A ℕ) (IsOf : ℕ → World → Type 0) (outers : Name → Option Tree) : Type 0 where
  pub bound : (tag_of : Key → Tag) (m : Made A ℕ) → Among m c.made → Provides outers IsOf (argument_source tag_of c m) (fields_of (imports_of m.world))
  pub imports : AreOuters outers (maps_of (composed_world c)).imports
  pub exports : (tag_of : Key → Tag) → States outers IsOf (λ n. export_source tag_of c (value_at (map (λ e. (e.0, e.1)) c.exports) n)) (maps_of (composed_world c)).exports

abbrev origins_of : List (Name × Origin ℕ × Stated) → List (Name × Origin ℕ)
origins_of es = map (λ e. (e.0, e.1)) es

module _ {A : Type 0} where
  -- ---- an instance in two rows

  abbrev with_imports : Made A ℕ → List (Name × Stated) → Stated
  with_imports m is = world_of None (uses_of m.world) is (exports_of m.world)

  abbrev is_open : Made A ℕ → Name → Bool
  is_open m n = not (is_some (value_at m.arguments n))

  abbrev is_given : Made A ℕ → Name → Bool
  is_given m n = is_some (value_at m.arguments n)

  abbrev open_imports : Made A ℕ → List (Name × Stated)
  open_imports m = filter (λ e. is_open m e.0) (imports_of m.world)

  abbrev given_imports : Made A ℕ → List (Name × Stated)
  given_imports m = filter (λ e. is_given m e.0) (imports_of m.world)

  abbrev opened : Made A ℕ → Made A ℕ
  opened m = record { by = m.by; number = m.number; key = m.key; world = with_imports m (open_imports m); arguments = [] }

  abbrev given : Made A ℕ → Made A ℕ
  given m = record { by = m.by; number = m.number; key = m.key; world = with_imports m (given_imports m); arguments = m.arguments }

  has_imports : (m : Made A ℕ) (is : List (Name × Stated)) → imports_of (with_imports m is) ≡ is
  has_imports m is = world_imports None (uses_of m.world) is (exports_of m.world)

  has_exports : (m : Made A ℕ) (is : List (Name × Stated)) → exports_of (with_imports m is) ≡ exports_of m.world
  has_exports m is = world_exports None (uses_of m.world) is (exports_of m.world)

  same_instance : (m : Made A ℕ) (is : List (Name × Stated)) → instance_type (with_imports m is) ≡ instance_type m.world
  same_instance m is = λ j. interface_of None (world_uses None (uses_of m.world) is (exports_of m.world) j) (has_exports m is j)

  -- ---- what they ask

  abbrev to_fill : Made A ℕ → Name × Stated → Ask A
  to_fill m e = record { asking = ToFill; by = m.by; name = e.0; item = e.1 }

  opened_asks : (m : Made A ℕ) → filled_asks (opened m) ≡ filled_asks m
  opened_asks m = ap (map (to_fill m)) (filter_all (imports_of (with_imports m (open_imports m))) ∙ has_imports m (open_imports m))

  none_open : (m : Made A ℕ) (es : List (Name × Stated)) → filter (λ e. is_open m e.0) (filter (λ e. is_given m e.0) es) ≡ []
  none_open m [] = refl
  none_open m (e ∷ es) = go (is_given m e.0) refl (none_open m es)
    where
      go : (b : Bool) → is_given m e.0 ≡ b → filter (λ e. is_open m e.0) (filter (λ e. is_given m e.0) es) ≡ []
          → filter (λ e. is_open m e.0) (cond b (e ∷ filter (λ e. is_given m e.0) es) (filter (λ e. is_given m e.0) es)) ≡ []
      go true q rest = ap (λ t. cond (not t) (e ∷ filter (λ e. is_open m e.0) (filter (λ e. is_given m e.0) es)) (filter (λ e. is_open m e.0) (filter (λ e. is_given m e.0) es))) q ∙ rest
      go false q rest = rest

  given_asks : (m : Made A ℕ) → filled_asks (given m) ≡ []
  given_asks m = ap (map (to_fill m)) (ap (filter (λ e. is_open m e.0)) (has_imports m (given_imports m)) ∙ none_open m (imports_of m.world))

  all_opened : (ms : List (Made A ℕ)) → flat_map filled_asks (map opened ms) ≡ flat_map filled_asks ms
  all_opened [] = refl
  all_opened (m ∷ ms) = λ j. opened_asks m j ++ all_opened ms j

  all_given : (ms : List (Made A ℕ)) → flat_map filled_asks (map given ms) ≡ []
  all_given [] = refl
  all_given (m ∷ ms) = λ j. given_asks m j ++ all_given ms j

  abbrev itself : A → A
  itself a = a

  same_asks : (as_ : List (Ask A)) → map (ask_renamed itself) as_ ≡ as_
  same_asks [] = refl
  same_asks (a ∷ as_) = ap (λ l. a ∷ l) (same_asks as_)

  -- ---- places of instances

  abbrev place_in : List (Made A ℕ) → ℕ → ℕ
  place_in [] k = zero
  place_in (m ∷ ms) k = if m.number == k then zero else suc (place_in ms k)

  placed : (ms : List (Made A ℕ)) (m : Made A ℕ) → ((n : Made A ℕ) → Among n ms → n.number ≡ m.number → n ≡ m) → Among m ms → slice_get ms (place_in ms m.number) ≡ Some m
  placed [] m one a = absurd a
  placed (n ∷ ms) m one a = go (λ r. placed ms m (λ x i. one x (inr i)) r) (n.number == m.number) refl a
    where
      go : (Among m ms → slice_get ms (place_in ms m.number) ≡ Some m) → (b : Bool) → (n.number == m.number) ≡ b → Among m (n ∷ ms) → slice_get (n ∷ ms) (if b then zero else suc (place_in ms m.number)) ≡ Some m
      go rest true e a = ap Some (one n (inl refl) (same_number n.number m.number e))
      go rest false e (inl s) = absurd (true≢false (sym (eq_same n.number) ∙ ap (λ (x : Made A ℕ). n.number == x.number) (sym s) ∙ e))
      go rest false e (inr r) = rest r

  abbrev number_in : Option (Made A ℕ) → ℕ
  number_in None = zero
  number_in (Some m) = m.number

module _ {A : Type 0} (c : Composition A ℕ) (sound : IsSoundByNumber c) where
  abbrev place : ℕ → ℕ
  place = place_in c.made

  abbrev rows : Composition A ℕ
  rows = record { imports = c.imports; made = map opened c.made ++ map given c.made; definitions = c.definitions; aliases = c.aliases; exports = c.exports }

  -- called by their places
  abbrev by_place : Composition A ℕ
  by_place = renamed itself place rows

  abbrev called : Made A ℕ → Made A ℕ
  called m = made_renamed itself place m

  named_same : named_asks rows ≡ named_asks c
  named_same = ap (λ l. map explicit_ask c.imports ++ l)
      (flat_map-append filled_asks (map opened c.made) (map given c.made) ∙ (λ j. all_opened c.made j ++ all_given c.made j) ∙ append-nil (flat_map filled_asks c.made))

  rows_asks : asks_of rows ≡ asks_of c
  rows_asks = ap (λ (l : List (Ask A)). l ++ (flat_map (λ (a : Ask A). asked_for a.by (used_by a.item)) l ++ flat_map (λ (d : Placed A). asked_for d.by (used_by_definition d.item)) c.definitions)) named_same

  asks_same : asks_of by_place ≡ asks_of c
  asks_same = (keeps_meaning itself place rows).asks ∙ same_asks (asks_of rows) ∙ rows_asks

  world_same : composed_world by_place ≡ composed_world c
  world_same = (keeps_meaning itself place rows).world ∙ ap (λ as_. without_uses (world_of None [] (outer_imports as_) (exports_in as_ c.exports))) rows_asks

  -- ---- rows

  in_first : (i : ℕ) (m : Made A ℕ) → slice_get c.made i ≡ Some m → slice_get rows.made i ≡ Some (opened m)
  in_first i m e = slice_first (map opened c.made) (map given c.made) i (opened m) (slice_get-map opened c.made i ∙ ap (option_map opened) e)

  in_second : (m : Made A ℕ) → Among m c.made → (k : ℕ) × (slice_get rows.made k ≡ Some (given m))
  in_second m a =
      let i = slice_get-Among c.made m a in
      slice_behind (map opened c.made) (map given c.made) i.0 (given m) (slice_get-map given c.made i.0 ∙ ap (option_map given) i.2)

  to_place : (k : ℕ) (y : Made A ℕ) → slice_get rows.made k ≡ Some y → slice_get by_place.made k ≡ Some (called y)
  to_place k y e = slice_get-map called rows.made k ∙ ap (option_map called) e

  from_place : (k : ℕ) (m : Made A ℕ) → slice_get by_place.made k ≡ Some m → (y : Made A ℕ) × (slice_get rows.made k ≡ Some y) × (called y ≡ m)
  from_place k m e = mapped-some called (slice_get rows.made k) m (sym (slice_get-map called rows.made k) ∙ e)

  record InFirst (y : Made A ℕ) : Type 0 where
    of : Made A ℕ
    there : Among of c.made
    is : y ≡ opened of

  record InSecond (k : ℕ) (y : Made A ℕ) : Type 0 where
    of : Made A ℕ
    there : Among of c.made
    is : y ≡ given of
    behind : length (map opened c.made) ≤ k

  in_row : (k : ℕ) (y : Made A ℕ) → slice_get rows.made k ≡ Some y → InFirst y ⊎ InSecond k y
  in_row k y e = elim (slice_either (map opened c.made) (map given c.made) k y e) [
    | inl h ↦ let r = mapped_among opened c.made y (among-get (map opened c.made) k y h) in inl (record { of = r.0; there = r.1; is = r.2 })
    | inr h ↦ let r = mapped_among given c.made y h.1 in inr (record { of = r.0; there = r.1; is = r.2; behind = h.0 })
  ]

  at_place : (m : Made A ℕ) → Among m c.made → slice_get rows.made (place m.number) ≡ Some (opened m)
  at_place m a = in_first (place m.number) m (placed c.made m (λ n i e. sound.one n m i a e) a)

  -- ---- sound by places

  typed : (o : Origin ℕ) (x : Stated) → IsTyped c o x → HasType by_place (origin_renamed place o) x
  typed o x (an_import i m) = of_import (placed_renamed itself i) (among_mapped (placed_renamed itself) c.imports i m)
  typed o x (an_instance m a) =
      subst (HasType by_place (instance (place m.number))) (same_instance m (open_imports m))
      (of_instance (place m.number) (called (opened m)) (to_place (place m.number) (opened m) (at_place m a)))
  typed o x (an_export p z n y h k e) = of_export (origin_renamed place p) z n y (typed p z h) k e
  typed o x (a_definition n y k d) = of_definition n y k d

  before : (k : ℕ) (o : Origin ℕ) (x : Stated) → length (map opened c.made) ≤ k → IsTyped c o x → IsBefore k (origin_renamed place o)
  before k o x b (an_import i m) = tt
  before k o x b (an_instance m a) =
      let i : slice_get (map opened c.made) (place m.number) ≡ Some (opened m) = slice_get-map opened c.made (place m.number) ∙ ap (option_map opened) (placed c.made m (λ n i e. sound.one n m i a e) a) in
      let l = slice_get_within (map opened c.made) (place m.number) (opened m) i in
      omega (arith, b, l)
  before k o x b (an_export p z n y h e v) = before k p z b h
  before k o x b (a_definition n y t d) = tt

  given_same : (o : Origin ℕ) (x : Stated) → given_as (origin_renamed place o) x ≡ given_as o x
  given_same (imported n) x = refl
  given_same (instance k) x = refl
  given_same (projected o n) x = refl
  given_same (defined n y) x = refl

  -- an argument's name is one that is given
  name_given : (m : Made A ℕ) (n : Name) (o : Origin ℕ) → value_at m.arguments n ≡ Some o → is_given m n ≡ true
  name_given m n o e = ap is_some e

  is_given_at : (k : ℕ) (m : Made A ℕ) (n : Name) (o : Origin ℕ) (x : Stated) → Among m c.made → length (map opened c.made) ≤ k → value_at m.arguments n ≡ Some o → value_at (imports_of (given m).world) n ≡ Some x
      → IsGiven by_place k (origin_renamed place o) x
  is_given_at k m n o x a b v w =
      let kept : value_at (imports_of m.world) n ≡ Some x = sym (value_kept (is_given m) (imports_of m.world) n (name_given m n o v)) ∙ ap (λ l. value_at l n) (sym (has_imports m (given_imports m))) ∙ w in
      let p = sound.passed m n o x a v kept in
      record {
        item = p.item;
        has = typed o p.item p.typed;
        fits = subst (λ y. Fits (tree y) (tree x)) (sym (given_same o p.item)) p.fits;
        before = before k o p.item b p.typed;
      }

  given_at : (k : ℕ) (m : Made A ℕ) (n : Name) (o : Origin ℕ) (x : Stated) → slice_get by_place.made k ≡ Some m → value_at m.arguments n ≡ Some o → value_at (imports_of m.world) n ≡ Some x → IsGiven by_place k o x
  given_at k m n o x e v w =
      let y = from_place k m e in
      elim (in_row k y.0 y.1) [
        | inl r ↦
            let same : m ≡ called (opened r.of) = sym y.2 ∙ ap called r.is in
            absurd (none-some _ (ap (λ (z : Made A ℕ). value_at z.arguments n) (sym same) ∙ v))
        | inr r ↦
            let same : called (given r.of) ≡ m = ap called (sym r.is) ∙ y.2 in
            let q = mapped-some (origin_renamed place) (value_at r.of.arguments n) o (sym (value_with (origin_renamed place) r.of.arguments n) ∙ ap (λ (z : Made A ℕ). value_at z.arguments n) same ∙ v) in
            subst (λ p. IsGiven by_place k p x) q.2 (is_given_at k r.of n q.0 x r.there r.behind q.1 (ap (λ (z : Made A ℕ). value_at (imports_of z.world) n) same ∙ w))
      ]

  pub sound_by_place : IsSound by_place
  sound_by_place = record {
    given = given_at;
    exported = λ n o x m.
        let r = mapped_among (λ (e : Name × Origin ℕ × Stated). (e.0, origin_renamed place e.1, e.2)) c.exports (n, o, x) m in
        subst (λ (e : Name × Origin ℕ × Stated). HasType by_place e.1 e.2) (sym r.2) (typed r.0.1 r.0.2 (sound.exported r.0.0 r.0.1 r.0.2 r.1));
    straight = λ a m. sound.straight a (subst (Among a) asks_same m);
  }

  -- ---- back to numbers

  abbrev number_at : ℕ → ℕ
  number_at k = number_in (slice_get rows.made k)

  number_back : (m : Made A ℕ) → Among m c.made → number_at (place m.number) ≡ m.number
  number_back m a = ap number_in (at_place m a)

  source_back : (as_ : List (Ask A)) (o : Origin ℕ) (x : Stated) → IsTyped c o x → rename number_at (source_of as_ (origin_renamed place o)) ≡ source_of as_ o
  source_back as_ o x (an_import i m) = refl
  source_back as_ o x (an_instance m a) = ap Inst (number_back m a)
  source_back as_ o x (an_export p z n y h k e) = replace-project Outer (λ k. Inst (number_at k)) (source_of as_ (origin_renamed place p)) n ∙ ap (λ s. project s n) (source_back as_ p z h)
  source_back as_ o x (a_definition n y k d) = refl

  -- ---- exports

  origins_placed : (es : List (Name × Origin ℕ × Stated)) (n : Name)
      → value_at (origins_of (map (λ e. (e.0, origin_renamed place e.1, e.2)) es)) n ≡ option_map (origin_renamed place) (value_at (origins_of es) n)
  origins_placed [] n = refl
  origins_placed (e ∷ es) n = go (pointwise ◌==◌ n e.0) (origins_placed es n)
    where
      go : (b : Bool) → value_at (origins_of (map (λ e. (e.0, origin_renamed place e.1, e.2)) es)) n ≡ option_map (origin_renamed place) (value_at (origins_of es) n)
          → (if b then Some (origin_renamed place e.1) else value_at (origins_of (map (λ e. (e.0, origin_renamed place e.1, e.2)) es)) n) ≡ option_map (origin_renamed place) (if b then Some e.1 else value_at (origins_of es) n)
      go true rest = refl
      go false rest = rest

  found_export : (es : List (Name × Origin ℕ × Stated)) (n : Name) (o : Origin ℕ) → ((e : Name × Origin ℕ × Stated) → Among e es → IsTyped c e.1 e.2) → value_at (origins_of es) n ≡ Some o → (x : Stated) × IsTyped c o x
  found_export [] n o h e = absurd (none-some _ e)
  found_export (f ∷ es) n o h e = go (pointwise ◌==◌ n f.0) (found_export es n o (λ d m. h d (inr m))) e
    where
      go : (b : Bool) → (value_at (origins_of es) n ≡ Some o → (x : Stated) × IsTyped c o x) → (if b then Some f.1 else value_at (origins_of es) n) ≡ Some o → (x : Stated) × IsTyped c o x
      go true rest q = (f.2, subst (λ p. IsTyped c p f.2) (same_Some _ _ q) (h f (inl refl)))
      go false rest q = rest q

  module _ (met : AreMet c) (IsOf : ℕ → World → Type 0) (own : (m : Made A ℕ) → Among m c.made → (v : World) × IsOf m.number v × (v.exports ≡ fields_of (exports_of m.world))) where
    abbrev outs : List (Ask A) → Name → Option Tree
    outs as_ n = option_map tree (value_at (outer_imports as_) n)

    met_by_place : AreMet by_place
    met_by_place = subst (λ as_. (a : Ask A) → Among a as_ → IsMet as_ a) (sym asks_same) met

    moved : (k : ℕ) (u : World) → IsMade by_place k u → (v : World) × IsOf (number_at k) v × (v.exports ≡ u.exports)
    moved k u is =
        let y = from_place k is.made is.there in
        let says : u.exports ≡ fields_of (exports_of y.0.world) = ap (λ (w : World). w.exports) is.says ∙ ap (λ (z : Made A ℕ). fields_of (exports_of z.world)) (sym y.2) in
        let number : number_at k ≡ y.0.number = ap number_in y.1 in
        elim (in_row k y.0 y.1) [
          | inl r ↦
              let v = own r.of r.there in (
                v.0,
                subst (λ j. IsOf j v.0) (sym (number ∙ ap (λ (z : Made A ℕ). z.number) r.is)) v.1,
                v.2 ∙ sym (says ∙ ap (λ (z : Made A ℕ). fields_of (exports_of z.world)) r.is ∙ ap fields_of (has_exports r.of (open_imports r.of))),
              )
          | inr r ↦
              let v = own r.of r.there in (
                v.0,
                subst (λ j. IsOf j v.0) (sym (number ∙ ap (λ (z : Made A ℕ). z.number) r.is)) v.1,
                v.2 ∙ sym (says ∙ ap (λ (z : Made A ℕ). fields_of (exports_of z.world)) r.is ∙ ap fields_of (has_exports r.of (given_imports r.of))),
              )
        ]

    module _ (tag_of : Key → Tag) where
      w : IsWired tag_of by_place
      w = wired tag_of by_place met_by_place sound_by_place

      row_gives : (k : ℕ) (y : Made A ℕ) (n : Name) (x : Stated) → slice_get by_place.made k ≡ Some y → value_at (imports_of y.world) n ≡ Some x
          → Gives (outs (asks_of by_place)) (IsMade by_place) (source_for tag_of by_place (value_at y.arguments n) n) (tree x)
      row_gives k y n x e v =
          let b = w.bound k (instantiation tag_of by_place y) (ap (option_map (instantiation tag_of by_place)) e) in
          let same : b.is.made ≡ y = same_Some _ _ (sym b.is.there ∙ e) in
          let world : b.world ≡ maps_of y.world = b.is.says ∙ ap (λ (z : Made A ℕ). maps_of z.world) same in
          subst (λ s. Gives (outs (asks_of by_place)) (IsMade by_place) s (tree x))
          (ap (λ (o : Option Stated). if is_some o then source_for tag_of by_place (value_at y.arguments n) n else Absent) v)
          (b.bound.each n (tree x) (subst (λ (u : World). HasField n (tree x) u.imports) (sym world) (has_field (imports_of y.world) n x v)))

      -- what an import is given in one of the rows
      row_moved : (k : ℕ) (y : Made A ℕ) (n : Name) (x : Stated) (s : Source ℕ) → slice_get by_place.made k ≡ Some y → value_at (imports_of y.world) n ≡ Some x
          → rename number_at (source_for tag_of by_place (value_at y.arguments n) n) ≡ s → Gives (outs (asks_of c)) IsOf s (tree x)
      row_moved k y n x s e v q =
          subst (λ as_. Gives (outs as_) IsOf s (tree x)) asks_same
          (subst (λ t. Gives (outs (asks_of by_place)) IsOf t (tree x)) q
          (moved_gives (outs (asks_of by_place)) (IsMade by_place) IsOf number_at moved (source_for tag_of by_place (value_at y.arguments n) n) (tree x) (row_gives k y n x e v)))

      given_by : (m : Made A ℕ) (n : Name) (x : Stated) → Among m c.made → value_at (imports_of m.world) n ≡ Some x → (o : Option (Origin ℕ)) → value_at m.arguments n ≡ o
          → Gives (outs (asks_of c)) IsOf (source_for tag_of c o n) (tree x)
      given_by m n x a v None e =
          row_moved (place m.number) (called (opened m)) n x (Outer (spelling (asks_of c) n)) (to_place (place m.number) (opened m) (at_place m a))
          (ap (λ l. value_at l n) (has_imports m (open_imports m)) ∙ value_kept (is_open m) (imports_of m.world) n (ap (λ o. not (is_some o)) e) ∙ v)
          (ap (λ as_. Outer (spelling as_ n)) asks_same)
      given_by m n x a v (Some o) e =
          let k = in_second m a in
          let p = sound.passed m n o x a e v in
          row_moved k.0 (called (given m)) n x (source_of (asks_of c) o) (to_place k.0 (given m) k.1)
          (ap (λ l. value_at l n) (has_imports m (given_imports m)) ∙ value_kept (is_given m) (imports_of m.world) n (name_given m n o e) ∙ v)
          (ap (λ q. rename number_at (source_for tag_of by_place q n)) (value_with (origin_renamed place) m.arguments n ∙ ap (option_map (origin_renamed place)) e)
          ∙ source_back (asks_of by_place) o p.item p.typed ∙ ap (λ as_. source_of as_ o) asks_same)

      provides : (m : Made A ℕ) → Among m c.made → Provides (outs (asks_of c)) IsOf (argument_source tag_of c m) (fields_of (imports_of m.world))
      provides m a = record {
        each = λ n t h.
            let v = field_has (imports_of m.world) n t h in
            let is : source_for tag_of c (value_at m.arguments n) n ≡ argument_source tag_of c m n = sym (ap (λ (o : Option Stated). if is_some o then source_for tag_of c (value_at m.arguments n) n else Absent) v.1) in
            subst (λ s. Gives (outs (asks_of c)) IsOf s t) is
            (subst (Gives (outs (asks_of c)) IsOf (source_for tag_of c (value_at m.arguments n) n)) v.2 (given_by m n v.0 a v.1 (value_at m.arguments n) refl));
        only = λ n h. ap (λ (o : Option Stated). if is_some o then source_for tag_of c (value_at m.arguments n) n else Absent) (has_none (imports_of m.world) n h);
      }

      export_back : (n : Name) → rename number_at (export_source tag_of by_place (value_at (origins_of by_place.exports) n)) ≡ export_source tag_of c (value_at (origins_of c.exports) n)
      export_back n = ap (λ o. rename number_at (export_source tag_of by_place o)) (origins_placed c.exports n) ∙ go (value_at (origins_of c.exports) n) refl
        where
          go : (o : Option (Origin ℕ)) → value_at (origins_of c.exports) n ≡ o → rename number_at (export_source tag_of by_place (option_map (origin_renamed place) o)) ≡ export_source tag_of c o
          go None e = refl
          go (Some o) e =
              let x = found_export c.exports n o (λ f m. sound.exported f.0 f.1 f.2 m) e in
              source_back (asks_of by_place) o x.0 x.1 ∙ ap (λ as_. source_of as_ o) asks_same

      states : States (outs (asks_of c)) IsOf (λ n. export_source tag_of c (value_at (origins_of c.exports) n)) (maps_of (composed_world c)).exports
      states =
          subst (λ as_. States (outs as_) IsOf (λ n. export_source tag_of c (value_at (origins_of c.exports) n)) (maps_of (composed_world c)).exports) asks_same
          (subst (λ x. States (outs (asks_of by_place)) IsOf (λ n. export_source tag_of c (value_at (origins_of c.exports) n)) (maps_of x).exports) world_same
          (subst (λ (f : Name → Source ℕ). States (outs (asks_of by_place)) IsOf f (maps_of (composed_world by_place)).exports) (λ i n. export_back n i)
          (moved_states (outs (asks_of by_place)) (IsMade by_place) IsOf number_at moved (λ n. export_source tag_of by_place (value_at (origins_of by_place.exports) n))
          (maps_of (composed_world by_place)).exports w.true_world.exports)))

    outers : AreOuters (outs (asks_of c)) (maps_of (composed_world c)).imports
    outers =
        subst (λ as_. AreOuters (outs as_) (maps_of (composed_world c)).imports) asks_same
        (subst (λ x. AreOuters (outs (asks_of by_place)) (maps_of x).imports) world_same (w (λ k. OfBytes [])).true_world.imports)

    pub is_wired : IsWiredIn c IsOf (outs (asks_of c))
    is_wired = record { bound = provides; imports = outers; exports = states }
