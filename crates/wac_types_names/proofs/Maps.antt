-- A map's entries as its columns hold them, and as its keys find them.
use Rattle.std.proofs.Common.{◌≡◌, Bool, true, false, List, [], ◌∷◌, ◌++◌, length, map, refl, sym, ap, ◌∙◌, subst, arith, inl, inr, length-append}
use Rattle.std.specs.Prelude.{Option, Some, None, is_some, if◌then◌else◌, ◌↔◌}
use Rattle.std.specs.Prelude.{◌==◌}
use Rattle.std.specs.Cmp.Lexicographic.{pointwise}
use Rattle.std.proofs.lemmas.Slice.Eq.{bytes_eq-Decides}
use Rattle.std.specs.Map.{lookup, keys_of}
use Rattle.std.specs.List.{AllByRecursion, IsDistinct}
use Rattle.indexmap.specs.IndexMap.{insert_entry}
use Rattle.wac_types_base.specs.Graph.{Among}
use Rattle.wac_types_base.specs.Entries.{Name, IsNew, names_of, put_entry, AreDistinct}
use Rattle.wac_types_base.proofs.Looked.{put_entry-new}
use Rattle.wac_types_names.specs.declared.spelling.Spelling.{Spelling}
use Rattle.wac_types_names.specs.NameMaps.{Entry, by_name, by_key, KnowsKeys, HasOneKey, KeysLast, put_value, IsExact}
use Rattle.wac_types_names.specs.Spellings.{entries_with, IsRead, IsKept}

abbrev pub name_of : Spelling → Name
name_of s = s.name

-- ---- the columns

module _ {K V : Type 0} where
  pub by_key-entries_with : (ss : List Spelling) (es : List (K × V)) → length ss ≡ length es → by_key (entries_with ss es) ≡ es
  by_key-entries_with [] [] e = refl
  by_key-entries_with [] (x ∷ es) e = absurd (omega arith)
  by_key-entries_with (s ∷ ss) [] e = absurd (omega arith)
  by_key-entries_with (s ∷ ss) (x ∷ es) e = ap (λ (t : List (K × V)). x ∷ t) (by_key-entries_with ss es (omega arith))

  pub names-entries_with : (ss : List Spelling) (es : List (K × V)) → length ss ≡ length es → names_of (by_name (entries_with ss es)) ≡ map name_of ss
  names-entries_with [] [] e = refl
  names-entries_with [] (x ∷ es) e = absurd (omega arith)
  names-entries_with (s ∷ ss) [] e = absurd (omega arith)
  names-entries_with (s ∷ ss) (x ∷ es) e = ap (λ (t : List Name). s.name ∷ t) (names-entries_with ss es (omega arith))

  pub entries_with-append : (ss : List Spelling) (es : List (K × V)) (s : Spelling) (x : K × V) → length ss ≡ length es → entries_with (ss ++ s ∷ []) (es ++ x ∷ []) ≡ entries_with ss es ++ (s.name, x.0, x.1) ∷ []
  entries_with-append [] [] s x e = refl
  entries_with-append [] (y ∷ es) s x e = absurd (omega arith)
  entries_with-append (r ∷ ss) [] s x e = absurd (omega arith)
  entries_with-append (r ∷ ss) (y ∷ es) s x e = ap (λ (t : List (Entry K V)). (r.name, y.0, y.1) ∷ t) (entries_with-append ss es s x (omega arith))

  module _ (eq : K → K → Bool) (k : K) (v : V) where
    pub insert_entry-new : (es : List (K × V)) → lookup (eq k) es ≡ None → insert_entry eq es k v ≡ es ++ (k, v) ∷ []
    insert_entry-new [] n = refl
    insert_entry-new (e ∷ es) n = by (eq k e.0) refl n (insert_entry-new es)
      where
        by : (b : Bool) → eq k e.0 ≡ b → (if b then Some e.1 else lookup (eq k) es) ≡ None → (lookup (eq k) es ≡ None → insert_entry eq es k v ≡ es ++ (k, v) ∷ []) → insert_entry eq (e ∷ es) k v ≡ e ∷ (es ++ (k, v) ∷ [])
        by true t n h = absurd (cc n)
        by false t n h = rw t (ap (λ (r : List (K × V)). e ∷ r) (h n))

    pub length-insert_entry : (es : List (K × V)) → is_some (lookup (eq k) es) ≡ true → length (insert_entry eq es k v) ≡ length es
    length-insert_entry [] n = absurd (cc n)
    length-insert_entry (e ∷ es) n = by (eq k e.0) refl n (length-insert_entry es)
      where
        by : (b : Bool) → eq k e.0 ≡ b → is_some (if b then Some e.1 else lookup (eq k) es) ≡ true → (is_some (lookup (eq k) es) ≡ true → length (insert_entry eq es k v) ≡ length es) → length (insert_entry eq (e ∷ es) k v) ≡ length (e ∷ es)
        by true t n h = rw t refl
        by false t n h = let r = h n in rw t (omega arith)

    pub entries_with-insert : (ss : List Spelling) (es : List (K × V)) → length ss ≡ length es → is_some (lookup (eq k) es) ≡ true → entries_with ss (insert_entry eq es k v) ≡ put_value eq (entries_with ss es) k v
    entries_with-insert [] [] l n = absurd (cc n)
    entries_with-insert [] (e ∷ es) l n = absurd (omega arith)
    entries_with-insert (s ∷ ss) [] l n = absurd (omega arith)
    entries_with-insert (s ∷ ss) (e ∷ es) l n = by (eq k e.0) refl n (entries_with-insert ss es (omega arith))
      where
        by : (b : Bool) → eq k e.0 ≡ b → is_some (if b then Some e.1 else lookup (eq k) es) ≡ true
            → (is_some (lookup (eq k) es) ≡ true → entries_with ss (insert_entry eq es k v) ≡ put_value eq (entries_with ss es) k v)
            → entries_with (s ∷ ss) (insert_entry eq (e ∷ es) k v) ≡ put_value eq (entries_with (s ∷ ss) (e ∷ es)) k v
        by true t n h = rw t refl
        by false t n h = rw t (ap (λ (r : List (Entry K V)). (s.name, e.0, e.1) ∷ r) (h n))

    pub kept-insert : (ss : List Spelling) (es : List (K × V)) → IsKept ss es → is_some (lookup (eq k) es) ≡ true → IsKept ss (insert_entry eq es k v)
    kept-insert ss es h n = record { lengths = h.lengths ∙ sym (length-insert_entry es n); read = h.read }

-- ---- one more name

read_more : (ss : List Spelling) (s : Spelling) → AllByRecursion IsRead ss → IsRead s → AllByRecursion IsRead (ss ++ s ∷ [])
read_more [] s h r = (r, tt)
read_more (x ∷ ss) s h r = (h.0, read_more ss s h.1 r)

pub kept-append : {K V : Type 0} (ss : List Spelling) (es : List (K × V)) (s : Spelling) (x : K × V) → IsKept ss es → IsRead s → IsKept (ss ++ s ∷ []) (es ++ x ∷ [])
kept-append ss es s x h r = record {
  lengths = omega (arith, h.lengths, length-append ss (s ∷ []), length-append es (x ∷ []));
  read = read_more ss s h.read r;
}

-- ---- keys

abbrev pub pair_of : {V : Type 0} → Name → V → Name × V
pair_of n v = (n, v)

pub keys_last : {K V : Type 0} (old new : K → Option Name) (es : List (Entry K V)) → KeysLast old new → KnowsKeys old es → KnowsKeys new es
keys_last old new [] l k = tt
keys_last old new (e ∷ es) l k = (l e.1 e.0 k.0, keys_last old new es l k.1)

-- two keys are equal exactly where their texts are
abbrev pub OneText : {K : Type 0} → (K → K → Bool) → (K → Option Name) → Type 0
OneText {K} eq text = (k l : K) (s t : Name) → text k ≡ Some s → text l ≡ Some t → (eq k l ≡ true) ↔ (s ≡ t)

-- no name stands twice where no key does
module _ {K V : Type 0} (eq : K → K → Bool) (text : K → Option Name) (one : HasOneKey eq text) where
  apart_name : (k : K) (n : Name) (es : List (Entry K V)) → text k ≡ Some n → KnowsKeys text es → AllByRecursion (λ l. eq k l ≡ false) (keys_of (by_key es)) → Among n (names_of (by_name es)) → ⊥
  apart_name k n [] is known off at = at
  apart_name k n (e ∷ es) is known off (inl same) = true_false (sym (one k e.1 n is (known.0 ∙ ap (λ (t : Name). Some t) (sym same))) ∙ off.0)
    where
      true_false : true ≡ false → ⊥
      true_false e = cc e
  apart_name k n (e ∷ es) is known off (inr at) = apart_name k n es is known.1 off.1 at

  pub names_apart : (es : List (Entry K V)) → KnowsKeys text es → IsDistinct eq (keys_of (by_key es)) → AreDistinct (names_of (by_name es))
  unfolding IsDistinct
  names_apart [] known d = tt
  names_apart (e ∷ es) known d = (apart_name e.1 e.0 es known.0 known.1 d.0, names_apart es known.1 d.1)

module _ {K V : Type 0} (eq : K → K → Bool) (text : K → Option Name) (law : OneText eq text) (k : K) (n : Name) (is : text k ≡ Some n) where
  off_name : (e : Entry K V) → text e.1 ≡ Some e.0 → eq k e.1 ≡ false → n ≡ e.0 → ⊥
  off_name e t b s = true_false (sym ((law k e.1 n e.0 is t).1 s) ∙ b)
    where
      true_false : true ≡ false → ⊥
      true_false e = cc e

  -- a key that is there is that of a name that is there
  pub among-found : (es : List (Entry K V)) → KnowsKeys text es → is_some (lookup (eq k) (by_key es)) ≡ true → Among n (names_of (by_name es))
  among-found [] h f = absurd (cc f)
  among-found (e ∷ es) h f = by (eq k e.1) refl f (among-found es h.1)
    where
      by : (b : Bool) → eq k e.1 ≡ b → is_some (if b then Some e.2 else lookup (eq k) (by_key es)) ≡ true → (is_some (lookup (eq k) (by_key es)) ≡ true → Among n (names_of (by_name es))) → Among n (names_of (by_name (e ∷ es)))
      by true t f r = inl ((law k e.1 n e.0 is h.0).0 t)
      by false t f r = inr (r f)

  -- and its value is the name's
  pub value-found : (es : List (Entry K V)) (v : V) → KnowsKeys text es → lookup (eq k) (by_key es) ≡ Some v → Among (n, v) (by_name es)
  value-found [] v h f = absurd (cc f)
  value-found (e ∷ es) v h f = by (eq k e.1) refl f (value-found es v h.1)
    where
      pair : e.2 ≡ v → n ≡ e.0 → pair_of n v ≡ pair_of e.0 e.2
      pair a b = ap (λ (x : Name). pair_of x v) b ∙ ap (λ (y : V). pair_of e.0 y) (sym a)

      by : (b : Bool) → eq k e.1 ≡ b → (if b then Some e.2 else lookup (eq k) (by_key es)) ≡ Some v → (lookup (eq k) (by_key es) ≡ Some v → Among (n, v) (by_name es)) → Among (n, v) (by_name (e ∷ es))
      by true t f r = inl (pair (cc f) ((law k e.1 n e.0 is h.0).0 t))
      by false t f r = inr (r f)

  -- a key that is not there is that of a new name
  pub new-absent : (es : List (Entry K V)) → KnowsKeys text es → lookup (eq k) (by_key es) ≡ None → IsNew n (by_name es)
  new-absent [] h f a = a
  new-absent (e ∷ es) h f a = by (eq k e.1) refl f (new-absent es h.1) a
    where
      by : (b : Bool) → eq k e.1 ≡ b → (if b then Some e.2 else lookup (eq k) (by_key es)) ≡ None → (lookup (eq k) (by_key es) ≡ None → IsNew n (by_name es)) → Among n (names_of (by_name (e ∷ es))) → ⊥
      by true t f r a = absurd (cc f)
      by false t f r (inl s) = off_name e h.0 t s
      by false t f r (inr a) = r f a

  pub known-put : (es : List (Entry K V)) (v : V) → KnowsKeys text es → KnowsKeys text (put_value eq es k v)
  known-put [] v h = tt
  known-put (e ∷ es) v h = by (eq k e.1) refl (known-put es v h.1)
    where
      by : (b : Bool) → eq k e.1 ≡ b → KnowsKeys text (put_value eq es k v) → KnowsKeys text (put_value eq (e ∷ es) k v)
      by true t r = rw t h
      by false t r = rw t (h.0, r)

  -- another value under a key that is there is the name's
  pub by_name-put : (es : List (Entry K V)) (v : V) → KnowsKeys text es → is_some (lookup (eq k) (by_key es)) ≡ true → by_name (put_value eq es k v) ≡ put_entry (by_name es) n v
  by_name-put [] v h f = absurd (cc f)
  by_name-put (e ∷ es) v h f = by (eq k e.1) refl f (by_name-put es v h.1)
    where
      other : (b : Bool) → pointwise ◌==◌ n e.0 ≡ b → eq k e.1 ≡ false → b ≡ false
      other true s t = absurd (off_name e h.0 t ((bytes_eq-Decides n e.0).0 s))
      other false s t = refl

      by : (b : Bool) → eq k e.1 ≡ b → is_some (if b then Some e.2 else lookup (eq k) (by_key es)) ≡ true
          → (is_some (lookup (eq k) (by_key es)) ≡ true → by_name (put_value eq es k v) ≡ put_entry (by_name es) n v)
          → by_name (put_value eq (e ∷ es) k v) ≡ put_entry (by_name (e ∷ es)) n v
      by true t f r = rw (t, (bytes_eq-Decides n e.0).1 ((law k e.1 n e.0 is h.0).0 t)) refl
      by false t f r = rw (t, other (pointwise ◌==◌ n e.0) refl t) (ap (λ (x : List (Name × V)). pair_of e.0 e.2 ∷ x) (r f))

  pub known-append : (es : List (Entry K V)) (v : V) → KnowsKeys text es → KnowsKeys text (es ++ (n, k, v) ∷ [])
  known-append [] v h = (is, tt)
  known-append (e ∷ es) v h = (h.0, known-append es v h.1)

  by_name-append : (es : List (Entry K V)) (v : V) → by_name (es ++ (n, k, v) ∷ []) ≡ by_name es ++ pair_of n v ∷ []
  by_name-append [] v = refl
  by_name-append (e ∷ es) v = ap (λ (x : List (Name × V)). pair_of e.0 e.2 ∷ x) (by_name-append es v)

  -- a new name goes last
  pub by_name-new : (es : List (Entry K V)) (v : V) → IsNew n (by_name es) → by_name (es ++ (n, k, v) ∷ []) ≡ put_entry (by_name es) n v
  by_name-new es v off = by_name-append es v ∙ sym (put_entry-new (by_name es) n v off)

  -- what a key finds is the name's own value
  pub exact-found : (es : List (Entry K V)) (o : Option V) → KnowsKeys text es → o ≡ lookup (eq k) (by_key es) → IsExact (by_name es) n o
  exact-found es None h e = new-absent es h (sym e)
  exact-found es (Some v) h e = value-found es v h (sym e)

-- a text without a key is no name that is there
pub new-unknown : {K V : Type 0} (text : K → Option Name) (n : Name) (es : List (Entry K V)) → KnowsKeys text es → ((k : K) → text k ≡ Some n → ⊥) → IsNew n (by_name es)
new-unknown text n [] h off a = a
new-unknown text n (e ∷ es) h off (inl s) = off e.1 (h.0 ∙ some_name (sym s))
  where
    some_name : {x y : Name} → x ≡ y → Some x ≡ Some y
    some_name {x} {y} e = ap (λ (t : Name). Some t) e
new-unknown text n (e ∷ es) h off (inr a) = new-unknown text n es h.1 off a

-- what a test of a key says of the entries that are seen
pub absent-key : {K V : Type 0} (p : K → Bool) (es fs : List (K × V)) (b : Bool) → es ≡ fs → b ≡ is_some (lookup p es) → b ≡ false → lookup p fs ≡ None
absent-key p es fs b same is off = subst (λ t. lookup p t ≡ None) same (none_of (lookup p es) (sym is ∙ off))
  where
    none_of : {V : Type 0} (o : Option V) → is_some o ≡ false → o ≡ None
    none_of None e = refl
    none_of (Some v) e = absurd (cc e)

pub present-key : {K V : Type 0} (p : K → Bool) (es fs : List (K × V)) (b : Bool) → es ≡ fs → b ≡ is_some (lookup p es) → b ≡ true → is_some (lookup p fs) ≡ true
present-key p es fs b same is on = subst (λ t. is_some (lookup p t) ≡ true) same (sym is ∙ on)
