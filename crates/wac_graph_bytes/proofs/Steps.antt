-- One more entry: what it adds, and that what stood stands.
use Rattle.std.proofs.Common.{◌≡◌, ℕ, zero, suc, ◌+◌, cond, List, [], ◌∷◌, ◌++◌, length, map, Option, Some, None, refl, sym, ap, ◌∙◌, subst, arith}
use Rattle.std.specs.Prelude.{slice_get}
use Rattle.std.proofs.lemmas.List.{length_push}
use Rattle.std.proofs.lemmas.List.Sums.{sum_by-cons}
use Rattle.wac_types_base.specs.Entries.{Name}
use Rattle.wac_types_base.specs.Tree.{Tree}
use Rattle.wac_graph_bytes.specs.declared.value.Sort.{Sort}
use Rattle.wac_graph_bytes.specs.declared.value.Sort.TheVariants as sort
use Rattle.wac_graph_bytes.specs.declared.value.Description.{Description}
use Rattle.wac_graph_bytes.specs.declared.value.Description.TheVariants as desc
use Rattle.wac_graph_bytes.specs.declared.entry.Entry.{Entry as CodeEntry}
use Rattle.wac_graph_bytes.specs.Entries.{Entry, Core, Nested, Instantiate, Aliased, Typed, Imported, Exported}
use Rattle.wac_graph_bytes.specs.Typing.{◌>>=◌, Meaning, Item, Made, Known, Code, Scope, space, with_one, with_core, found, Worlds, item_of, described, type_at, as_sort, module_tree, type_of, alias_sort, alias_of}
use Rattle.wac_graph_bytes.specs.Meaning.{source_of, tag_of, arguments_of, makes, adds, imports_one, exports_one, states, State, start, step, steps}
use Rattle.wac_graph_bytes.specs.Views.{view}
use Rattle.wac_graph_bytes.specs.Counting.{same_sort, description_sort, entry_sort, is_sort, is_core, count_of, core_count}
use Rattle.wac_names.proofs.Parts.{some_of}

-- the value of a step that was taken
pub bind_some : {A B : Type 0} (o : Option A) (f : A → Option B) (y : B) → (o >>= f) ≡ Some y → (x : A) × (o ≡ Some x) × (f x ≡ Some y)
bind_some (Some x) f y e = (x, refl, e)
bind_some None f y e = absurd cc

pub some_is : {A : Type 0} (x y : A) → some_of x ≡ some_of y → x ≡ y
some_is x y e = cc

-- one more entry behind the others
pub steps_push : (w : Worlds) (es : List Entry) (st mid last : State) (e : Entry) → steps w st es ≡ Some mid → step w mid e ≡ Some last → steps w st (es ++ e ∷ []) ≡ Some last
unfolding steps
steps_push w [] st mid last e p q =
    let same : st ≡ mid = some_is st mid p in
    rw (same, q) refl
steps_push w (x ∷ es) st mid last e p q =
    let b = bind_some (step w st x) (λ next. steps w next es) mid p in
    let h : step w st x ≡ Some b.0 = b.1 in
    rw h (steps_push w es b.0 mid last e b.2 q)

-- the sort of what is described
pub described_sort : (w : Worlds) (ss : List Scope) (n : Name) (d : Description) (i : Sort × Tree) → described w ss n d ≡ Some i → i.0 ≡ description_sort d
described_sort w ss n (desc.Module k) i e =
    let a = bind_some (slice_get ss 0) (λ here. slice_get here.cores k >>= λ t. Some (sort.Module, t)) i e in
    let b = bind_some (slice_get a.0.cores k) (λ t. Some (sort.Module, t)) i a.2 in
    sym (ap (λ (p : Sort × Tree). p.0) (some_is (sort.Module, b.0) i b.2))
described_sort w ss n (desc.Func k) i e =
    let a = bind_some (type_at w ss k >>= as_sort sort.Func) (λ t. Some (sort.Func, t)) i e in
    sym (ap (λ (p : Sort × Tree). p.0) (some_is (sort.Func, a.0) i a.2))
described_sort w ss n (desc.Equal k) i e =
    let a = bind_some (type_at w ss k) (λ t. Some (sort.Ty, item_of t)) i e in
    sym (ap (λ (p : Sort × Tree). p.0) (some_is (sort.Ty, item_of a.0) i a.2))
described_sort w ss n desc.Resource i e = sym (ap (λ (p : Sort × Tree). p.0) (some_is _ i e))
described_sort w ss n (desc.Component k) i e =
    let a = bind_some (type_at w ss k >>= as_sort sort.Component) (λ t. Some (sort.Component, t)) i e in
    sym (ap (λ (p : Sort × Tree). p.0) (some_is (sort.Component, a.0) i a.2))
described_sort w ss n (desc.Instance k) i e =
    let a = bind_some (type_at w ss k >>= as_sort sort.Instance) (λ t. Some (sort.Instance, t)) i e in
    sym (ap (λ (p : Sort × Tree). p.0) (some_is (sort.Instance, a.0) i a.2))

-- what is said of an export changes neither the scope nor what is listed
pub record Keeps (old new : State) : Type 0 where
  pub scope : new.scope ≡ old.scope
  pub listed : new.listed ≡ old.listed

pub states_keeps : (w : Worlds) (m : Meaning) (n : Name) (o : Option Description) (st next : State) → states w m n o st ≡ Some next → Keeps st next
states_keeps w m n None st next e =
    let h = some_is st next e in
    record { scope = ap (λ (x : State). x.scope) (sym h); listed = ap (λ (x : State). x.listed) (sym h) }
states_keeps w m n (Some d) st next e =
    let a = bind_some (described w (st.scope ∷ []) n d) (λ i. Some (record st { stated = st.stated ++ (m, i.1) ∷ [] })) next e in
    let h = some_is (record st { stated = st.stated ++ (m, a.0.1) ∷ [] }) next a.2 in
    record { scope = ap (λ (x : State). x.scope) (sym h); listed = ap (λ (x : State). x.listed) (sym h) }

-- one more index of a sort, or one more core type
abbrev pub Adds : Option Sort → Scope → Scope → Type 0
Adds (Some s) old new = (m : Meaning) × (new ≡ with_one s m old)
Adds None old new = (t : Tree) × (new ≡ with_core t old)

-- where the state after an entry is known
made_is : (s : Sort) (m : Meaning) (st mid last : State) → mid.scope ≡ with_one s m st.scope → some_of mid ≡ Some last → Adds (Some s) st.scope last.scope
made_is s m st mid last p e = (m, sym (ap (λ (x : State). x.scope) (some_is mid last e)) ∙ p)

-- Each entry adds one index of its sort, and changes nothing else in scope.
pub adds_one : (w : Worlds) (st last : State) (e : Entry) → step w st e ≡ Some last → Adds (entry_sort e) st.scope last.scope
unfolding step
adds_one w st last (Core ds) e =
    let a = bind_some (module_tree ds) (λ t. Some (record st { scope = with_core t st.scope })) last e in
    (a.0, sym (ap (λ (x : State). x.scope) (some_is (record st { scope = with_core a.0 st.scope }) last a.2)))
adds_one w st last (Nested bytes) e = made_is sort.Component (Code bytes) st (adds sort.Component (Code bytes) st) last refl e
adds_one w st last (Instantiate c as') e =
    let a = bind_some (found (st.scope ∷ []) sort.Component c >>= tag_of) (λ tag. arguments_of st.scope as' >>= λ arguments. Some (makes tag arguments st)) last e in
    let b = bind_some (arguments_of st.scope as') (λ arguments. Some (makes a.0 arguments st)) last a.2 in
    made_is sort.Instance (Made (length st.listed.instances) a.0) st (makes a.0 b.0 st) last refl b.2
adds_one w st last (Aliased x) e =
    let a = bind_some (alias_of w (st.scope ∷ []) x) (λ m. Some (adds (alias_sort x) m st)) last e in
    made_is (alias_sort x) a.0 st (adds (alias_sort x) a.0 st) last refl a.2
adds_one w st last (Typed t) e =
    let a = bind_some (type_of w st.scope t) (λ t. Some (adds sort.Ty (Known t) st)) last e in
    made_is sort.Ty (Known a.0) st (adds sort.Ty (Known a.0) st) last refl a.2
adds_one w st last (Imported n d) e =
    let a = bind_some (described w (st.scope ∷ []) n d) (λ i. Some (imports_one n i st)) last e in
    let s = described_sort w (st.scope ∷ []) n d a.0 a.1 in
    let r = made_is a.0.0 (Item n a.0.0 a.0.1) st (imports_one n a.0 st) last refl a.2 in
    subst (λ (s : Sort). Adds (Some s) st.scope last.scope) s r
adds_one w st last (Exported x) e =
    let a = bind_some (found (st.scope ∷ []) x.sort x.index) (λ m. source_of m >>= λ y. states w m x.name x.stated st >>= λ st. Some (exports_one x.name x.sort m y st)) last e in
    let b = bind_some (source_of a.0) (λ y. states w a.0 x.name x.stated st >>= λ st. Some (exports_one x.name x.sort a.0 y st)) last a.2 in
    let c = bind_some (states w a.0 x.name x.stated st) (λ st. Some (exports_one x.name x.sort a.0 b.0 st)) last b.2 in
    let k = states_keeps w a.0 x.name x.stated st c.0 c.1 in
    made_is x.sort a.0 st (exports_one x.name x.sort a.0 b.0 c.0) last (ap (λ (s : Scope). with_one x.sort a.0 s) k.scope) c.2

len_one : (s t : Sort) (m : Meaning) (sc : Scope) → length (space s (with_one t m sc)) ≡ length (space s sc) + cond (same_sort s t) 1 0
len_one sort.Func sort.Func m sc = length_push sc.funcs m
len_one sort.Ty sort.Ty m sc = length_push sc.types m
len_one sort.Component sort.Component m sc = length_push sc.components m
len_one sort.Instance sort.Instance m sc = length_push sc.instances m
len_one sort.Module sort.Module m sc = length_push sc.modules m
len_one _ _ m sc = omega arith

pub core_kept : (s : Sort) (t : Tree) (sc : Scope) → space s (with_core t sc) ≡ space s sc
core_kept sort.Func t sc = refl
core_kept sort.Ty t sc = refl
core_kept sort.Component t sc = refl
core_kept sort.Instance t sc = refl
core_kept sort.Module t sc = refl

pub cores_kept : (s : Sort) (m : Meaning) (sc : Scope) → (with_one s m sc).cores ≡ sc.cores
cores_kept sort.Func m sc = refl
cores_kept sort.Ty m sc = refl
cores_kept sort.Component m sc = refl
cores_kept sort.Instance m sc = refl
cores_kept sort.Module m sc = refl

len_added : (s : Sort) (o : Option Sort) (old new : Scope) → Adds o old new → length (space s new) ≡ length (space s old) + cond (is_sort s o) 1 0
len_added s (Some t) old new a = ap (λ (c : Scope). length (space s c)) a.1 ∙ len_one s t a.0 old
len_added s None old new a =
    let h = ap (λ (c : Scope). length (space s c)) a.1 ∙ ap (λ (xs : List Meaning). length xs) (core_kept s a.0 old) in
    omega (arith, h)

cores_added : (o : Option Sort) (old new : Scope) → Adds o old new → length new.cores ≡ length old.cores + cond (is_core o) 1 0
cores_added (Some t) old new a =
    let h = ap (λ (c : Scope). length c.cores) a.1 ∙ ap (λ (xs : List Tree). length xs) (cores_kept t a.0 old) in
    omega (arith, h)
cores_added None old new a = ap (λ (c : Scope). length c.cores) a.1 ∙ length_push old.cores a.0

-- the entries' state where they are read, from a state on
counted_from : (w : Worlds) (es : List CodeEntry) (st last : State) (s : Sort) → steps w st (map view es) ≡ Some last → length (space s last.scope) ≡ length (space s st.scope) + count_of s es
unfolding steps
counted_from w [] st last s e =
    let h = ap (λ (x : State). length (space s x.scope)) (some_is st last e) in
    omega (arith, h)
counted_from w (x ∷ es) st last s e =
    let b = bind_some (step w st (view x)) (λ next. steps w next (map view es)) last e in
    let h = len_added s (entry_sort (view x)) st.scope b.0.scope (adds_one w st b.0 (view x) b.1) in
    let k = counted_from w es b.0 last s b.2 in
    let test : CodeEntry → ℕ = λ e. cond (is_sort s (entry_sort (view e))) 1 0 in
    let c : count_of s (x ∷ es) ≡ cond (is_sort s (entry_sort (view x))) 1 0 + count_of s es = sum_by-cons test x es in
    rw c (omega (arith, h, k))

-- Where entries have a reading, a sort has as many indexes as entries add to it.
pub counted : (w : Worlds) (es : List CodeEntry) (last : State) (s : Sort) → steps w start (map view es) ≡ Some last → length (space s last.scope) ≡ count_of s es
counted w es last sort.Func e = counted_from w es start last sort.Func e ∙ omega arith
counted w es last sort.Ty e = counted_from w es start last sort.Ty e ∙ omega arith
counted w es last sort.Component e = counted_from w es start last sort.Component e ∙ omega arith
counted w es last sort.Instance e = counted_from w es start last sort.Instance e ∙ omega arith
counted w es last sort.Module e = counted_from w es start last sort.Module e ∙ omega arith

cores_counted_from : (w : Worlds) (es : List CodeEntry) (st last : State) → steps w st (map view es) ≡ Some last → length last.scope.cores ≡ length st.scope.cores + core_count es
unfolding steps
cores_counted_from w [] st last e =
    let h = ap (λ (x : State). length x.scope.cores) (some_is st last e) in
    omega (arith, h)
cores_counted_from w (x ∷ es) st last e =
    let b = bind_some (step w st (view x)) (λ next. steps w next (map view es)) last e in
    let h = cores_added (entry_sort (view x)) st.scope b.0.scope (adds_one w st b.0 (view x) b.1) in
    let k = cores_counted_from w es b.0 last b.2 in
    let test : CodeEntry → ℕ = λ e. cond (is_core (entry_sort (view e))) 1 0 in
    let c : core_count (x ∷ es) ≡ cond (is_core (entry_sort (view x))) 1 0 + core_count es = sum_by-cons test x es in
    rw c (omega (arith, h, k))

-- likewise of core types
pub cores_counted : (w : Worlds) (es : List CodeEntry) (last : State) → steps w start (map view es) ≡ Some last → length last.scope.cores ≡ core_count es
cores_counted w es last e = cores_counted_from w es start last e ∙ omega arith

-- ---- what an index stands for

pub get_kept : {X : Type 0} (xs : List X) (y n : X) (i : ℕ) → slice_get xs i ≡ Some n → slice_get (xs ++ y ∷ []) i ≡ Some n
get_kept [] y n i e = absurd cc
get_kept (x ∷ xs) y n zero e = e
get_kept (x ∷ xs) y n (suc i) e = get_kept xs y n i e

pub get_last : {X : Type 0} (xs : List X) (y : X) (i : ℕ) → i ≡ length xs → slice_get (xs ++ y ∷ []) i ≡ Some y
get_last [] y i e = rw e refl
get_last (x ∷ xs) y zero e = absurd (omega arith)
get_last (x ∷ xs) y (suc i) e = get_last xs y i (omega arith)

-- what the last index of a sort stands for
pub last_of : (s : Sort) (m : Meaning) (sc : Scope) (i : ℕ) → i ≡ length (space s sc) → slice_get (space s (with_one s m sc)) i ≡ Some m
last_of sort.Func m sc i e = get_last sc.funcs m i e
last_of sort.Ty m sc i e = get_last sc.types m i e
last_of sort.Component m sc i e = get_last sc.components m i e
last_of sort.Instance m sc i e = get_last sc.instances m i e
last_of sort.Module m sc i e = get_last sc.modules m i e

pub kept_one : (s t : Sort) (m n : Meaning) (sc : Scope) (i : ℕ) → slice_get (space s sc) i ≡ Some n → slice_get (space s (with_one t m sc)) i ≡ Some n
kept_one sort.Func sort.Func m n sc i e = get_kept sc.funcs m n i e
kept_one sort.Ty sort.Ty m n sc i e = get_kept sc.types m n i e
kept_one sort.Component sort.Component m n sc i e = get_kept sc.components m n i e
kept_one sort.Instance sort.Instance m n sc i e = get_kept sc.instances m n i e
kept_one sort.Module sort.Module m n sc i e = get_kept sc.modules m n i e
kept_one _ _ m n sc i e = e

kept_added : (s : Sort) (o : Option Sort) (old new : Scope) (n : Meaning) (i : ℕ) → Adds o old new → slice_get (space s old) i ≡ Some n → slice_get (space s new) i ≡ Some n
kept_added s (Some t) old new n i a h = subst (λ (c : Scope). slice_get (space s c) i ≡ Some n) (sym a.1) (kept_one s t a.0 n old i h)
kept_added s None old new n i a h = ap (λ (c : Scope). slice_get (space s c) i) a.1 ∙ ap (λ (xs : List Meaning). slice_get xs i) (core_kept s a.0 old) ∙ h

-- What an index stands for, it stands for after every further entry.
pub stands_on : (w : Worlds) (es : List Entry) (st last : State) (s : Sort) (i : ℕ) (n : Meaning) → steps w st es ≡ Some last
    → slice_get (space s st.scope) i ≡ Some n → slice_get (space s last.scope) i ≡ Some n
unfolding steps
stands_on w [] st last s i n e h = subst (λ (x : State). slice_get (space s x.scope) i ≡ Some n) (some_is st last e) h
stands_on w (x ∷ es) st last s i n e h =
    let b = bind_some (step w st x) (λ next. steps w next es) last e in
    stands_on w es b.0 last s i n b.2 (kept_added s (entry_sort x) st.scope b.0.scope n i (adds_one w st b.0 x b.1) h)
