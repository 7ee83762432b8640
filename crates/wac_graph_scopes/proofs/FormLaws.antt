-- The trees of type entries, by those of the value types in their places.
use Rattle.std.proofs.Common.{◌≡◌, ℕ, List, [], ◌∷◌, ◌++◌, length, map, Option, Some, None, refl, sym, ap, ◌∙◌}
use Rattle.std.specs.Option.{option_map}
use Rattle.wac_types_base.specs.declared.item.ValueType.{ValueType}
use Rattle.wac_types_base.specs.declared.item.ItemKind.{ItemKind}
use Rattle.wac_types_base.specs.declared.defined.DefinedType.{DefinedType}
use Rattle.wac_types_base.specs.declared.defined.FuncType.{FuncType}
use Rattle.wac_types_base.specs.Entries.{Name, names_of, values_of}
use Rattle.wac_types_base.specs.Collection.{Slot, value_slot, option_slot, defined_entry, func_entry, resource, variant, record_of, func}
use Rattle.wac_types_base.specs.Tree.{Tree, rigid, handle_own, handle_borrow, Row, end, place, gap}
use Rattle.wac_graph_bytes.specs.declared.value.ValueType.{ValueType as Written}
use Rattle.wac_graph_bytes.specs.declared.value.ValueType.TheVariants.{Index}
use Rattle.wac_graph_bytes.specs.Entries.{OwnEntry, BorrowEntry}
use Rattle.wac_graph_bytes.specs.Typing.{◌>>=◌, Worlds, Scope, type_at, value_of, value_if, as_value, as_resource, defined, shaped}
use Rattle.wac_graph_bytes.specs.Typing as typing
use Rattle.wac_graph_bytes.proofs.Extending.{bind_assoc}
use Rattle.wac_graph_scopes.specs.Scopes.{PlaceReads, PlacesRead}
use Rattle.wac_graph_scopes.specs.Forms.{value_or, other_places, params_with, cases_with, entry_of, place_at, func_entry_of, row_of}

-- the trees in these places, by what stands in them
abbrev pub trees_by : (ItemKind → Tree) → List Slot → List (Option Tree)
trees_by f xs = map (option_map f) xs

abbrev with_place : Option Tree → Row → Row
with_place None r = gap r
with_place (Some t) r = place t r

row_more : (t : Option Tree) (ts : List (Option Tree)) → with_place t (row_of ts) ≡ row_of (t ∷ ts)
row_more None ts = refl
row_more (Some t) ts = refl

module _ (w : Worlds) (ss : List Scope) where
  place_read : (b : Option Written) (t : Option Tree) (r : Row) → PlaceReads w ss b t → value_if w ss b r ≡ Some (with_place t r)
  place_read None None r h = refl
  place_read (Some b) (Some t) r h = ap (λ (o : Option Tree). o >>= λ v. Some (place v r)) h
  place_read None (Some t) r h = absurd h
  place_read (Some b) None r h = absurd h

  -- a value type in each place
  values_read : (f : ItemKind → Tree) (vs : List ValueType) (bs : List (Option Written)) → PlacesRead w ss bs (trees_by f (map value_slot vs)) → typing.values_of w ss (map value_or bs) end ≡ Some (row_of (trees_by f (map value_slot vs)))
  values_read f [] [] h = refl
  values_read f [] (b ∷ bs) h = absurd h
  values_read f (v ∷ vs) [] h = absurd h
  values_read f (v ∷ vs) (None ∷ bs) h = absurd h.0
  values_read f (v ∷ vs) (Some b ∷ bs) h =
      ap (λ (o : Option Row). o >>= value_if w ss (Some b)) (values_read f vs bs h.1)
      ∙ place_read (Some b) (Some (f (ItemKind.Value v))) (row_of (trees_by f (map value_slot vs))) h.0

  fields_read : (f : ItemKind → Tree) (ps : List (Name × ValueType)) (bs : List (Option Written)) → PlacesRead w ss bs (trees_by f (map value_slot (values_of ps))) → typing.fields_of w ss (params_with (names_of ps) bs) end ≡ Some (row_of (trees_by f (map value_slot (values_of ps))))
  fields_read f [] [] h = refl
  fields_read f [] (b ∷ bs) h = absurd h
  fields_read f (p ∷ ps) [] h = absurd h
  fields_read f (p ∷ ps) (None ∷ bs) h = absurd h.0
  fields_read f (p ∷ ps) (Some b ∷ bs) h =
      ap (λ (o : Option Row). o >>= value_if w ss (Some b)) (fields_read f ps bs h.1)
      ∙ place_read (Some b) (Some (f (ItemKind.Value p.1))) (row_of (trees_by f (map value_slot (values_of ps)))) h.0

  cases_read : (f : ItemKind → Tree) (cs : List (Name × Option ValueType)) (bs : List (Option Written)) → PlacesRead w ss bs (trees_by f (map option_slot (values_of cs))) → typing.cases_of w ss (cases_with (names_of cs) bs) end ≡ Some (row_of (trees_by f (map option_slot (values_of cs))))
  cases_read f [] [] h = refl
  cases_read f [] (b ∷ bs) h = absurd h
  cases_read f (c ∷ cs) [] h = absurd h
  cases_read f (c ∷ cs) (b ∷ bs) h =
      ap (λ (o : Option Row). o >>= value_if w ss b) (cases_read f cs bs h.1)
      ∙ place_read b (option_map f (option_slot c.1)) (row_of (trees_by f (map option_slot (values_of cs)))) h.0
      ∙ ap Some (row_more (option_map f (option_slot c.1)) (trees_by f (map option_slot (values_of cs))))

params_names : (ns : List Name) (bs : List (Option Written)) → names_of (params_with ns bs) ≡ ns
params_names [] bs = refl
params_names (n ∷ ns) bs = ap (λ (l : List Name). n ∷ l) (params_names ns (other_places bs))

cases_names : (ns : List Name) (bs : List (Option Written)) → names_of (cases_with ns bs) ≡ ns
cases_names [] bs = refl
cases_names (n ∷ ns) bs = ap (λ (l : List Name). n ∷ l) (cases_names ns (other_places bs))

abbrev pub of_row : DefinedType → (ItemKind → Tree) → Tree
of_row x f = rigid (defined_entry x).0 (row_of (trees_by f (defined_entry x).1))

module _ (w : Worlds) (ss : List Scope) (f : ItemKind → Tree) where
  -- one place
  one_read : (b : Option Written) (bs : List (Option Written)) (t : Option Tree) → PlacesRead w ss (b ∷ bs) (t ∷ []) → value_if w ss b end ≡ Some (row_of (t ∷ []))
  one_read b bs t h = place_read w ss b t end h.0 ∙ ap Some (row_more t [])

  one_value : (bs : List (Option Written)) (t : Tree) → PlacesRead w ss bs (Some t ∷ []) → value_if w ss (Some (value_or (place_at bs 0))) end ≡ Some (row_of (Some t ∷ []))
  one_value [] t h = absurd h
  one_value (None ∷ bs) t h = absurd h.0
  one_value (Some b ∷ bs) t h = one_read (Some b) bs (Some t) h

  one_place : (bs : List (Option Written)) (t : Option Tree) → PlacesRead w ss bs (t ∷ []) → value_if w ss (place_at bs 0) end ≡ Some (row_of (t ∷ []))
  one_place [] t h = absurd h
  one_place (b ∷ bs) t h = one_read b bs t h

  two_places : (bs : List (Option Written)) (t u : Option Tree) → PlacesRead w ss bs (t ∷ u ∷ []) → (value_if w ss (place_at bs 1) end >>= value_if w ss (place_at bs 0)) ≡ Some (row_of (t ∷ u ∷ []))
  two_places [] t u h = absurd h
  two_places (b ∷ bs) t u h =
      ap (λ (o : Option Row). o >>= value_if w ss b) (one_place bs u h.1)
      ∙ place_read w ss b t (row_of (u ∷ [])) h.0 ∙ ap Some (row_more t (u ∷ []))

  -- the entry of a type that is no alias
  pub entry_reads : (x : DefinedType) (bs : List (Option Written)) → ((t : ValueType) → x ≡ DefinedType.Alias t → ⊥) → PlacesRead w ss bs (trees_by f (defined_entry x).1) → defined w ss (entry_of x bs) ≡ Some (of_row x f)
  entry_reads (DefinedType.Tuple ts) bs n h = ap (shaped (defined_entry (DefinedType.Tuple ts)).0) (values_read w ss f ts bs h)
  entry_reads (DefinedType.List t) bs n h = ap (shaped (defined_entry (DefinedType.List t)).0) (one_value bs (f (ItemKind.Value t)) h)
  entry_reads (DefinedType.FixedSizeList t m) bs n h = ap (shaped (defined_entry (DefinedType.FixedSizeList t m)).0) (one_value bs (f (ItemKind.Value t)) h)
  entry_reads (DefinedType.Option t) bs n h = ap (shaped (defined_entry (DefinedType.Option t)).0) (one_value bs (f (ItemKind.Value t)) h)
  entry_reads (DefinedType.Result ok err) bs n h = ap (shaped (defined_entry (DefinedType.Result ok err)).0) (two_places bs (option_map f (option_slot ok)) (option_map f (option_slot err)) h)
  entry_reads (DefinedType.Variant v) bs n h =
      ap (λ (ns : List Name). shaped (variant ns) (typing.cases_of w ss (cases_with (names_of v.cases) bs) end)) (cases_names (names_of v.cases) bs)
      ∙ ap (shaped (variant (names_of v.cases))) (cases_read w ss f v.cases bs h)
  entry_reads (DefinedType.Record r) bs n h =
      ap (λ (ns : List Name). shaped (record_of ns) (typing.fields_of w ss (params_with (names_of r.fields) bs) end)) (params_names (names_of r.fields) bs)
      ∙ ap (shaped (record_of (names_of r.fields))) (fields_read w ss f r.fields bs h)
  entry_reads (DefinedType.Flags v) bs n h = refl
  entry_reads (DefinedType.Enum v) bs n h = refl
  entry_reads (DefinedType.Alias t) bs n h = absurd (n t refl)
  entry_reads (DefinedType.Stream o) bs n h = ap (shaped (defined_entry (DefinedType.Stream o)).0) (one_place bs (option_map f (option_slot o)) h)
  entry_reads (DefinedType.Future o) bs n h = ap (shaped (defined_entry (DefinedType.Future o)).0) (one_place bs (option_map f (option_slot o)) h)

  -- parameters, and the answer behind them
  func_places_read : (ps : List (Name × ValueType)) (s : Slot) (bs : List (Option Written)) → PlacesRead w ss bs (trees_by f (map value_slot (values_of ps) ++ s ∷ []))
      → (value_if w ss (place_at bs (length ps)) end >>= typing.fields_of w ss (params_with (names_of ps) bs)) ≡ Some (row_of (trees_by f (map value_slot (values_of ps) ++ s ∷ [])))
  func_places_read [] s bs h = ap (λ (o : Option Row). o >>= typing.fields_of w ss []) (one_place bs (option_map f s) h)
  func_places_read (p ∷ ps) s [] h = absurd h
  func_places_read (p ∷ ps) s (None ∷ bs) h = absurd h.0
  func_places_read (p ∷ ps) s (Some b ∷ bs) h =
      sym (bind_assoc (value_if w ss (place_at bs (length ps)) end) (typing.fields_of w ss (params_with (names_of ps) bs)) (value_if w ss (Some b)))
      ∙ ap (λ (o : Option Row). o >>= value_if w ss (Some b)) (func_places_read ps s bs h.1)
      ∙ place_read w ss (Some b) (Some (f (ItemKind.Value p.1))) (row_of (trees_by f (map value_slot (values_of ps) ++ s ∷ []))) h.0

  pub func_reads : (x : FuncType) (bs : List (Option Written)) → PlacesRead w ss bs (trees_by f (func_entry x).1) → defined w ss (func_entry_of x bs) ≡ Some (rigid (func_entry x).0 (row_of (trees_by f (func_entry x).1)))
  func_reads x bs h =
      ap (λ (ns : List Name). shaped (func ns x.is_async) (value_if w ss (place_at bs (length x.params)) end >>= typing.fields_of w ss (params_with (names_of x.params) bs))) (params_names (names_of x.params) bs)
      ∙ ap (shaped (func (names_of x.params) x.is_async)) (func_places_read x.params (option_slot x.result) bs h)

-- a type that is no alias is one of values
pub entry_is_value : (x : DefinedType) (r : Row) → ((t : ValueType) → x ≡ DefinedType.Alias t → ⊥) → as_value (rigid (defined_entry x).0 r) ≡ Some (rigid (defined_entry x).0 r)
entry_is_value (DefinedType.Tuple ts) r n = refl
entry_is_value (DefinedType.List t) r n = refl
entry_is_value (DefinedType.FixedSizeList t m) r n = refl
entry_is_value (DefinedType.Option t) r n = refl
entry_is_value (DefinedType.Result ok err) r n = refl
entry_is_value (DefinedType.Variant v) r n = refl
entry_is_value (DefinedType.Record v) r n = refl
entry_is_value (DefinedType.Flags v) r n = refl
entry_is_value (DefinedType.Enum v) r n = refl
entry_is_value (DefinedType.Alias t) r n = absurd (n t refl)
entry_is_value (DefinedType.Stream o) r n = refl
entry_is_value (DefinedType.Future o) r n = refl

-- ---- handles

pub own_reads : (w : Worlds) (ss : List Scope) (k : ℕ) (n : Name) → type_at w ss k ≡ Some (rigid (resource n) end) → defined w ss (OwnEntry k) ≡ Some (handle_own (rigid (resource n) end))
own_reads w ss k n e = ap (λ (o : Option Tree). o >>= as_resource >>= λ t. Some (handle_own t)) e

pub borrow_reads : (w : Worlds) (ss : List Scope) (k : ℕ) (n : Name) → type_at w ss k ≡ Some (rigid (resource n) end) → defined w ss (BorrowEntry k) ≡ Some (handle_borrow (rigid (resource n) end))
borrow_reads w ss k n e = ap (λ (o : Option Tree). o >>= as_resource >>= λ t. Some (handle_borrow t)) e

-- an index of a type of values is a value type
pub index_reads : (w : Worlds) (ss : List Scope) (k : ℕ) (t : Tree) → as_value t ≡ Some t → type_at w ss k ≡ Some t → value_of w ss (Index k) ≡ Some t
index_reads w ss k t v e = ap (λ (o : Option Tree). o >>= as_value) e ∙ v
