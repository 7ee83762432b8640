-- Packages that are nested at the root: their indexes stand for their bytes, and what stood stands.
use Rattle.std.specs.Prelude.{slice_get}
use Rattle.std.proofs.Common.{◌≡◌, ◌⊎◌, ◌<◌, ℕ, ◌+◌, Bool, true, false, cond, List, [], ◌∷◌, ◌++◌, map, length, Option, Some, inl, inr, refl, sym, ap, subst, ◌∙◌, ◌↔◌, IsTrue, append_assoc, arith}
use Rattle.std.proofs.lemmas.List.{map-append, append-nil, length_push, length-append, length-map}
use Rattle.std.proofs.lemmas.List.Sums.{fold-append}
use Rattle.indexmap.specs.IndexMap.{insert_entry, insert_all}
use Rattle.wac_types_base.specs.Graph.{Among}
use Rattle.wac_types_base.proofs.Adding.{slice_get-left}
use Rattle.wac_types_names.specs.Packaged.{Packaged}
use Rattle.wac_graph_bytes.specs.declared.value.Sort.{Sort}
use Rattle.wac_graph_bytes.specs.declared.value.Sort.TheVariants as sort
use Rattle.wac_graph_bytes.specs.Counting.{count_of, same_sort}
use Rattle.wac_graph_bytes.specs.Entries.{Entry, Nested}
use Rattle.wac_graph_bytes.specs.Typing.{◌>>=◌, Worlds, Meaning, Code, space}
use Rattle.wac_graph_bytes.specs.Wirings.{OfBytes}
use Rattle.wac_graph_bytes.specs.Meaning.{State, start, step, steps, adds}
use Rattle.wac_graph_bytes.specs.Views.{view}
use Rattle.wac_graph_bytes.proofs.Steps.{bind_some, some_is, get_last}
use Rattle.wac_graph_bytes.proofs.Steps as entry_steps
use Rattle.wac_graph_core.specs.declared.ids.PackageId.{PackageId}
use Rattle.wac_graph_core.specs.contracts.ids.PackageIdPartialEq.TheImpl as package_id
use Rattle.wac_graph_core.specs.Graph.{Graph}
use Rattle.wac_graph_encode.specs.declared.root.Root.{Root}
use Rattle.wac_graph_encode.specs.Standing.{counted, IsPackageAt}
use Rattle.wac_graph_encode.specs.Nesting.{bytes_in, bytes_of, numbered, IsCounted, IsTold, NestsAll, NestsOne, NumbersAll}
use Rattle.wac_graph_encode.proofs.Entries.{same_package}
use Rattle.wac_graph_encode.proofs.Counted.{count_most, few_entries}
use Rattle.wac_graph_encode.specs.Ready.{AddsNames}
use Rattle.wac_graph_encode.proofs.Readying.{names_inserted}
use Rattle.wac_types_base.specs.Entries.{names_of}
use Rattle.wac_types_fit.proofs.Items.{Among-last}

-- ---- one more package

numbered_push : {X : Type 0} (k : ℕ) (xs : List X) (x : X) → numbered k (xs ++ x ∷ []) ≡ numbered k xs ++ (x, k + length xs) ∷ []
numbered_push k [] x = ap (λ n. (x, n) ∷ []) (omega arith)
numbered_push k (y ∷ xs) x = ap (λ l. (y, k) ∷ l) (numbered_push (k + 1) xs x ∙ ap (λ n. numbered (k + 1) xs ++ (x, n) ∷ []) (omega arith))

if_sum : (b : Bool) (x y z m n : ℕ) → z ≡ y + cond b 1 0 → y ≡ x + cond b m 0 → n ≡ m + 1 → z ≡ x + cond b n 0
if_sum true x y z m n e f g = omega (arith, e, f, g)
if_sum false x y z m n e f g = omega (arith, e, f)

if_none : (b : Bool) (x : ℕ) → x ≡ x + cond b 0 0
if_none true x = omega arith
if_none false x = omega arith

pub nests_none : (g : Graph) (r : Root) → NestsAll g [] r r
nests_none g r = record {
  entries = sym (append-nil (map view r.entries.items));
  numbers = λ p. record { counts = λ s. if_none (same_sort s sort.Component) (counted r.counts s); packages = refl };
  held = λ n m. elim m [ inl there ↦ there | inr none ↦ absurd none ];
  others = record { imports = refl; nodes = refl; exported = refl };
}

-- one more has the next index
numbered_more : (g : Graph) (ids : List PackageId) (id : PackageId) (old mid new : Root) → NestsOne id (bytes_of g id) mid new → NumbersAll ids old mid → counted mid.counts sort.Component < 18446744073709551615 → NumbersAll (ids ++ id ∷ []) old new
numbered_more g ids id old mid new o n low =
    let k = counted old.counts sort.Component in
    let at : counted mid.counts sort.Component ≡ k + length ids = n.counts sort.Component in
    record {
      counts = λ s. if_sum (same_sort s sort.Component) (counted old.counts s) (counted mid.counts s) (counted new.counts s) (length ids) (length (ids ++ id ∷ [])) (o.counts low s) (n.counts s) (length_push ids id);
      packages =
          o.packages ∙ ap (λ n. insert_entry package_id.eq-value.it mid.packages.entries id n) at
          ∙ ap (λ (es : List (PackageId × ℕ)). insert_entry package_id.eq-value.it es id (k + length ids)) n.packages
          ∙ sym (fold-append (λ (es : List (PackageId × ℕ)) (x : PackageId × ℕ). insert_entry package_id.eq-value.it es x.0 x.1) old.packages.entries (numbered k ids) ((id, k + length ids) ∷ []))
          ∙ ap (insert_all package_id.eq-value.it old.packages.entries) (sym (numbered_push k ids id));
    }

pub nests_more : (g : Graph) (ids : List PackageId) (id : PackageId) (old mid new : Root) → NestsAll g ids old mid → NestsOne id (bytes_of g id) mid new → NestsAll g (ids ++ id ∷ []) old new
nests_more g ids id old mid new h o =
    let nest : PackageId → Entry = λ i. Nested (bytes_of g i) in
    let grown : length mid.entries.items ≡ length old.entries.items + length ids = sym (length-map mid.entries.items view) ∙ ap length h.entries ∙ length-append (map view old.entries.items) (map nest ids)
    ∙ (λ j. length-map old.entries.items view j + length-map ids nest j) in
    record {
      entries =
          ap (map view) o.entry.added ∙ map-append view mid.entries.items (o.entry.entry ∷ []) ∙ ap (λ (e : Entry). map view mid.entries.items ++ e ∷ []) o.entry.is
          ∙ ap (λ (es : List Entry). es ++ nest id ∷ []) h.entries ∙ append_assoc (map view old.entries.items) (map nest ids) (nest id ∷ [])
          ∙ ap (λ (es : List Entry). map view old.entries.items ++ es) (sym (map-append nest ids (id ∷ [])));
      numbers = λ p. numbered_more g ids id old mid new o (h.numbers p) (low p (h.numbers p) grown);
      held = λ n m. elim m [
        | inl there ↦ one n (inl (h.held n (inl there)))
        | inr k ↦ elim (Among-last ids id n k) [ inl a ↦ one n (inl (h.held n (inr a))) | inr e ↦ one n (inr (inl e)) ]
      ];
      others = record { imports = o.others.imports ∙ h.others.imports; nodes = o.others.nodes ∙ h.others.nodes; exported = o.others.exported ∙ h.others.exported };
    }
  where
    one : AddsNames (id ∷ []) (names_of mid.packages.entries) (names_of new.packages.entries)
    one = names_inserted package_id.eq-value.it same_package mid.packages.entries new.packages.entries id (counted mid.counts sort.Component) o.packages

    low : IsCounted old → NumbersAll ids old mid → length mid.entries.items ≡ length old.entries.items + length ids → counted mid.counts sort.Component < 18446744073709551615
    low p n grown =
        let at : counted mid.counts sort.Component ≡ counted old.counts sort.Component + length ids = n.counts sort.Component in
        omega (arith, at, p, grown, few_entries mid)

-- so many are nested, and the others are left
pub record Nesting (g : Graph) (all rest : List PackageId) (old now : Root) : Type 0 where
  pub done : List PackageId
  pub split : done ++ rest ≡ all
  pub nested : NestsAll g done old now

pub nesting_first : (g : Graph) (all rest : List PackageId) (r : Root) → rest ≡ all → Nesting g all rest r r
nesting_first g all rest r e = record { done = []; split = e; nested = nests_none g r }

pub nesting_more : (g : Graph) (all turn rest : List PackageId) (id : PackageId) (bytes : List ℕ) (old now new : Root) → turn ≡ id ∷ rest → bytes ≡ bytes_of g id → Nesting g all turn old now → NestsOne id bytes now new → Nesting g all rest old new
nesting_more g all turn rest id bytes old now new e b h o = record {
  done = h.done ++ id ∷ [];
  split = append_assoc h.done (id ∷ []) rest ∙ ap (λ (ids : List PackageId). h.done ++ ids) (sym e) ∙ h.split;
  nested = nests_more g h.done id old now new h.nested (subst (λ (bs : List ℕ). NestsOne id bs now new) b o);
}

pub nesting_all : (g : Graph) (all rest : List PackageId) (old now : Root) → rest ≡ [] → Nesting g all rest old now → NestsAll g all old now
nesting_all g all rest old now e h = subst (λ (ids : List PackageId). NestsAll g ids old now) (sym (append-nil h.done) ∙ ap (λ (ids : List PackageId). h.done ++ ids) (sym e) ∙ h.split) h.nested

-- ---- entries that were inserted

module _ {K X : Type 0} (eq : K → K → Bool) (decides : (a b : K) → IsTrue (eq a b) ↔ (a ≡ b)) where
  pub inserted_among : (es : List (K × X)) (k : K) (x : X) (p : K × X) → Among p (insert_entry eq es k x) → Among p es ⊎ (p ≡ (k, x))
  inserted_among [] k x p (inl s) = inr s
  inserted_among [] k x p (inr m) = absurd m
  inserted_among (y ∷ es) k x p m = go (eq k y.0) refl m (inserted_among es k x p)
    where
      go : (b : Bool) → eq k y.0 ≡ b → Among p (cond b ((y.0, x) ∷ es) (y ∷ insert_entry eq es k x)) → (Among p (insert_entry eq es k x) → Among p es ⊎ (p ≡ (k, x))) → Among p (y ∷ es) ⊎ (p ≡ (k, x))
      go true q (inl s) rest = let key : k ≡ y.0 = (decides k y.0).0 q in inr (s ∙ ap (λ j. (j, x)) (sym key))
      go true q (inr m) rest = inl (inr m)
      go false q (inl s) rest = inl (inl s)
      go false q (inr m) rest = elim (rest m) [ inl n ↦ inl (inr n) | inr s ↦ inr s ]

  -- each was there, or is one of them
  pub all_among : (es xs : List (K × X)) (p : K × X) → Among p (insert_all eq es xs) → Among p es ⊎ Among p xs
  all_among es [] p m = inl m
  all_among es (x ∷ xs) p m = go (all_among (insert_entry eq es x.0 x.1) xs p m)
    where
      go : Among p (insert_entry eq es x.0 x.1) ⊎ Among p xs → Among p es ⊎ Among p (x ∷ xs)
      go (inl n) = elim (inserted_among es x.0 x.1 p n) [ inl o ↦ inl o | inr s ↦ inr (inl s) ]
      go (inr n) = inr (inr n)

-- ---- what is nested is read

-- what is numbered stands there behind the others
numbered_at : {X Y : Type 0} (f : X → Y) (front : List Y) (xs : List X) (k n : ℕ) (x : X) → Among (x, n) (numbered k xs) → k ≡ length front → slice_get (front ++ map f xs) n ≡ Some (f x)
numbered_at f front [] k n x m e = absurd m
numbered_at {X} {Y} f front (y ∷ ys) k n x (inl s) e =
    let at : n ≡ k = ap (λ (p : X × ℕ). p.1) s in
    let is : x ≡ y = ap (λ (p : X × ℕ). p.0) s in
    ap (λ (zs : List Y). slice_get zs n) (sym (append_assoc front (f y ∷ []) (map f ys))) ∙ slice_get-left (front ++ f y ∷ []) (map f ys) n (f y) (get_last front (f y) n (at ∙ e)) ∙ ap (λ z. Some (f z)) (sym is)
numbered_at {X} {Y} f front (y ∷ ys) k n x (inr m) e =
    ap (λ (zs : List Y). slice_get zs n) (sym (append_assoc front (f y ∷ []) (map f ys))) ∙ numbered_at f (front ++ f y ∷ []) ys (k + 1) n x m (omega (arith, e, length_push front (f y)))

numbered_named : {X : Type 0} (k : ℕ) (xs : List X) (x : X) (n : ℕ) → Among (x, n) (numbered k xs) → Among x xs
numbered_named k [] x n m = absurd m
numbered_named {X} k (y ∷ xs) x n (inl s) = inl (ap (λ (p : X × ℕ). p.0) s)
numbered_named k (y ∷ xs) x n (inr m) = inr (numbered_named (k + 1) xs x n m)

abbrev nest : Graph → PackageId → Entry
nest g id = Nested (bytes_of g id)

abbrev code : Graph → PackageId → Meaning
code g id = Code (bytes_of g id)

abbrev with_components : State → List Meaning → State
with_components st ms = record st { scope = record st.scope { components = ms } }

-- the state in which the packages stand behind the other components
abbrev pub with_nested : Graph → List PackageId → State → State
with_nested g ids st = with_components st (st.scope.components ++ map (λ id. Code (bytes_of g id)) ids)

nested_steps : (w : Worlds) (g : Graph) (ids : List PackageId) (st : State) → steps w st (map (nest g) ids) ≡ Some (with_nested g ids st)
unfolding step steps
nested_steps w g [] st = ap (λ (ms : List Meaning). Some (with_components st ms)) (sym (append-nil st.scope.components))
nested_steps w g (id ∷ ids) st =
    nested_steps w g ids (adds sort.Component (code g id) st) ∙ ap (λ (ms : List Meaning). Some (with_components st ms)) (append_assoc st.scope.components (code g id ∷ []) (map (code g) ids))

steps_then : (w : Worlds) (es fs : List Entry) (st mid : State) → steps w st es ≡ Some mid → steps w st (es ++ fs) ≡ steps w mid fs
unfolding steps
steps_then w [] fs st mid e = ap (λ (s : State). steps w s fs) (some_is st mid e)
steps_then w (x ∷ es) fs st mid e =
    let b = bind_some (step w st x) (λ next. steps w next es) mid e in
    ap (λ (o : Option State). o >>= λ next. steps w next (es ++ fs)) b.1 ∙ steps_then w es fs b.0 mid b.2

lengths : (g : Graph) (ids : List PackageId) (st : State) (s : Sort) → length (space s (with_nested g ids st).scope) ≡ length (space s st.scope) + cond (same_sort s sort.Component) (length ids) 0
lengths g ids st sort.Func = omega arith
lengths g ids st sort.Ty = omega arith
lengths g ids st sort.Component = length-append st.scope.components (map (code g) ids) ∙ ap (λ n. length st.scope.components + n) (length-map ids (code g))
lengths g ids st sort.Instance = omega arith
lengths g ids st sort.Module = omega arith

module _ (g : Graph) (ids : List PackageId) (old new : Root) (h : NestsAll g ids old new) (worlds : Worlds) (st : State) (reads : steps worlds start (map view old.entries.items) ≡ Some st) where
  pub nested_reads : steps worlds start (map view new.entries.items) ≡ Some (with_nested g ids st)
  nested_reads = ap (λ (es : List Entry). steps worlds start es) h.entries ∙ steps_then worlds (map view old.entries.items) (map (nest g) ids) start st reads ∙ nested_steps worlds g ids st

  -- what stood stands
  pub nested_keeps : (s : Sort) (i : ℕ) (m : Meaning) → slice_get (space s st.scope) i ≡ Some m → slice_get (space s (with_nested g ids st).scope) i ≡ Some m
  nested_keeps s i m e = entry_steps.stands_on worlds (map (nest g) ids) st (with_nested g ids st) s i m (nested_steps worlds g ids st) e

  module _ (counts : (s : Sort) → counted old.counts s ≡ count_of s old.entries.items) where
    numbers : NumbersAll ids old new
    numbers = h.numbers (omega (arith, counts sort.Component, count_most sort.Component old.entries.items))

    pub nested_counts : (s : Sort) → counted new.counts s ≡ count_of s new.entries.items
    nested_counts s =
        numbers.counts s ∙ ap (λ n. n + cond (same_sort s sort.Component) (length ids) 0) (counts s ∙ sym (entry_steps.counted worlds old.entries.items st s reads))
        ∙ sym (lengths g ids st s) ∙ entry_steps.counted worlds new.entries.items (with_nested g ids st) s nested_reads

    -- the index of a package that is nested stands for its bytes
    nested_at : (id : PackageId) (index : ℕ) → Among (id, index) (numbered (counted old.counts sort.Component) ids) → slice_get (with_nested g ids st).scope.components index ≡ Some (code g id)
    nested_at id index m = numbered_at (code g) st.scope.components ids (counted old.counts sort.Component) index id m (counts sort.Component ∙ sym (entry_steps.counted worlds old.entries.items st sort.Component reads))

    -- A package stands at its index.
    pub package_stands : (id : PackageId) (index : ℕ) → (Among id ids → IsTold true g worlds id) → (Among (id, index) old.packages.entries → IsPackageAt g worlds true st id index)
        → Among (id, index) new.packages.entries → IsPackageAt g worlds true (with_nested g ids st) id index
    package_stands id index held before m = go (all_among package_id.eq-value.it same_package old.packages.entries (numbered (counted old.counts sort.Component) ids) (id, index) (subst (Among (id, index)) numbers.packages m))
      where
        go : Among (id, index) old.packages.entries ⊎ Among (id, index) (numbered (counted old.counts sort.Component) ids) → IsPackageAt g worlds true (with_nested g ids st) id index
        go (inl n) = let a = before n in record { of = a.of; is = a.is; meaning = a.meaning; at = nested_keeps sort.Component index a.meaning a.at; tag = a.tag; world = a.world }
        go (inr n) =
            let a = held (numbered_named (counted old.counts sort.Component) ids id index n) in
            record { of = a.of; is = a.is; meaning = code g id; at = nested_at id index n; tag = ap (λ (o : Option Packaged). Some (OfBytes (bytes_in o))) a.is; world = a.world }
