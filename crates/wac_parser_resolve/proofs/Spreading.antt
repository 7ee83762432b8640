-- Spreads, step by step.
use Rattle.std.specs.Prelude.{⊤, ◌==◌, Result, filter, is_some, option_map, slice_get, string_bytes, String}
use Rattle.std.proofs.Common.{◌≡◌, ℕ, ◌+◌, ◌<◌, ◌≤◌, List, [], ◌∷◌, ◌++◌, map, get_or, drop, length, Bool, true, false, not, ◌&&◌, if◌then◌else◌, Option, Some, None, None, Ok, Err, inl, inr, refl, sym, ap, subst, ◌∙◌, arith}
use Rattle.std.proofs.lemmas.List.{append-nil, append_assoc, drop_more, drop_all}
use Rattle.std.proofs.lemmas.List.Elements.{filter_agree}
use Rattle.wac_types_base.proofs.Stating.{value_with}
use Rattle.wac_types_base.specs.declared.item.ItemKind.{ItemKind}
use Rattle.wac_types_base.specs.declared.ids.InterfaceId.{InterfaceId}
use Rattle.wac_types_base.specs.declared.ids.WorldId.{WorldId}
use Rattle.wac_types_base.specs.declared.defined.Interface.{Interface}
use Rattle.wac_types_base.specs.Record.{Collection}
use Rattle.wac_types_base.specs.Collection.{IsAcyclic}
use Rattle.wac_types_base.specs.Entries.{Name, AreDistinct, has_name, names_of, texts_of, value_at}
use Rattle.wac_types_base.specs.Graph.{Among}
use Rattle.wac_types_base.proofs.Replacing.{same_number}
use Rattle.wac_types_base.specs.Stated.{Stated, desc, exports_of, kind_of, stated_of}
use Rattle.wac_types_fit.proofs.Items.{Among-last}
use Rattle.wac_composition.specs.Classes.{is_instance_kind}
use Rattle.wac_composition.proofs.Closures.{filter_among}
use Rattle.wac_graph_core.specs.Graph.{Graph}
use Rattle.wac_parser_tree.specs.Trees as t
use Rattle.wac_parser_tree.specs.Trees.{Span}
use Rattle.wac_parser_tree.specs.declared.expr.InstantiationArgument.{InstantiationArgument}
use Rattle.wac_parser_tree.specs.Views.{view_instantiation_argument}
use Rattle.wac_parser_refusals.specs.declared.refusal.Refusal.{Refusal}
use Rattle.wac_parser_refusals.specs.declared.error.InstanceOperation.{InstanceOperation}
use Rattle.wac_parser_refusals.specs.Causes.{Answer, ◌>>=◌, ◌>>◌, NotAnInstance, SpreadInstantiationNoMatch, each, pure, unless_clear}
use Rattle.wac_parser_refusals.specs.Outcomes.{IsHeld, IsOutcome, IsRefusal, Refuses}
use Rattle.wac_parser_refusals.proofs.Outcomes.{then_refused}
use Rattle.wac_parser_declare.specs.Holding.{Holds}
use Rattle.wac_parser_declare.proofs.Exports.{instance_exports}
use Rattle.wac_parser_declare.proofs.Loops.{step_by as go_on}
use Rattle.wac_parser_resolve.specs.declared.arguments.Given.{Given}
use Rattle.wac_parser_resolve.specs.Ascribing.{Denoted, State}
use Rattle.wac_parser_resolve.specs.Denoting as stated
use Rattle.wac_parser_resolve.specs.Denoting.{export_named, given_names, left_names, needs_instance, spoken, spread_all, spread_given, spreads_of}
use Rattle.wac_parser_resolve.specs.Holding.{AreGiven, IsGiven, Says}
use Rattle.wac_parser_resolve.specs.InArguments.{AreLeft, SaysGiven, imported_by, names_left, own_spread}
use Rattle.wac_parser_resolve.specs.Later.{Later}
use Rattle.wac_parser_resolve.proofs.Giving.{given_more, has_not, one_more, same_names}
use Rattle.wac_types_base.proofs.Lists.{not_among}
use Rattle.wac_parser_resolve.proofs.Nodes.{denotes_stays}
use Rattle.wac_parser_resolve.proofs.Turns.{turn_map}

module _ (g h : Graph) (l : Later g h) where
  pub given_stays : (ms ns : List ℕ) → ((i k : ℕ) → slice_get ms i ≡ Some k → slice_get ns i ≡ Some k) → (gs : List stated.Given) (xs : List Given) → AreGiven g ms gs xs → AreGiven h ns gs xs
  given_stays ms ns more gs xs a = record {
    are = turn_map (IsGiven g ms) (IsGiven h ns) (λ b one is. record { name = is.name; denotes = denotes_stays g h l ms ns more b.denoted one.node is.denotes; span = is.span }) gs xs a.are;
    apart = a.apart;
  }

-- one name less is left, once it is given
pub left_next : (gs : List stated.Given) (a : stated.Given) (n : Name) (ns : List Name) → a.name ≡ n → AreLeft gs (n ∷ ns) → AreLeft (gs ++ a ∷ []) ns
left_next gs a n ns is h = record {
  distinct = h.distinct.1;
  left = λ m among. ap (λ (ks : List Name). has_name ks m) (given_more gs a) ∙ has_not (given_names gs ++ a.name ∷ []) m
      (λ k. elim (Among-last (given_names gs) a.name m k) [
        | inl old ↦ not_among (given_names gs) m (h.left m (inr among)) old
        | inr e ↦ h.distinct.0 (subst (λ (x : Name). Among x ns) (e ∙ is) among)
      ]);
}

-- ---- one export

module _ (h : Graph) (noted : List (ℕ × Span)) (names : List (Name × ℕ)) (at : Span) (d : Denoted) (n : Name) where
  abbrev pub as_given : Denoted → stated.Given
  as_given e = record { name = n; denoted = e; span = at }

  abbrev pub OneSaid : State × Denoted → Given → Type 0
  OneSaid p one = Says h noted names p.0 × IsGiven h (names_of noted) (as_given p.1) one

  abbrev pub AllSaid : List Given → List Name → State × List stated.Given → ⊤ → Type 0
  AllSaid ys rest p u = SaysGiven h noted names ys p × AreLeft p.1 rest

  step_by : (gs : List stated.Given) (xs ys : List Given) (one : Given) (rest : List Name) (r : Answer (State × Denoted)) → AreGiven h (names_of noted) gs xs → AreLeft gs (n ∷ rest) → ys ≡ xs ++ one ∷ [] → IsHeld OneSaid r one
      → IsHeld (AllSaid ys rest) (r >>= λ p. pure (p.0, gs ++ as_given p.1 ∷ [])) tt
  step_by gs xs ys one rest (Err c) all left is x = absurd x
  step_by gs xs ys one rest (Ok p) all left is x =
      let new : has_name (given_names gs) n ≡ false = left.left n (inl refl) in
      ((x.0, subst (AreGiven h (names_of noted) (gs ++ as_given p.1 ∷ [])) (sym is) (one_more h (names_of noted) gs xs all (as_given p.1) one x.1 new)), left_next gs (as_given p.1) n rest refl left)

  pub spread_step : (q : State × List stated.Given) (xs ys : List Given) (one : Given) (rest : List Name) → AreGiven h (names_of noted) q.1 xs → AreLeft q.1 (n ∷ rest) → ys ≡ xs ++ one ∷ [] → IsHeld OneSaid (spoken q.0 (export_named d n at)) one
      → IsHeld (AllSaid ys rest) (spread_given at d q n) tt
  spread_step q xs ys one rest all left is x = step_by q.1 xs ys one rest (spoken q.0 (export_named d n at)) all left is x

  pub spread_refused : (q : State × List stated.Given) (e : Refusal) → IsRefusal (spoken q.0 (export_named d n at)) e → IsRefusal (spread_given at d q n) e
  spread_refused q e x = then_refused (λ (p : State × Denoted). pure (p.0, q.1 ++ as_given p.1 ∷ [])) (spoken q.0 (export_named d n at)) e x

-- ---- the names that are left

module _ {Z : Type 0} (p : Name → Bool) (ts : List (String Z)) (i : ℕ) (other : String Z) (lt : i < length ts) where
  abbrev here : String Z
  here = get_or ts i other

  rest_is : texts_of (drop i ts) ≡ string_bytes here ∷ texts_of (drop (i + 1) ts)
  rest_is = ap (λ (us : List (String Z)). texts_of us) (drop_more ts i other lt)

  kept_by : (b : Bool) → b ≡ true → (n : Name) (ns : List Name) → (if b then n ∷ ns else ns) ≡ n ∷ ns
  kept_by true e n ns = refl
  kept_by false e n ns = absurd (cc e)

  gone_by : (b : Bool) → b ≡ false → (n : Name) (ns : List Name) → (if b then n ∷ ns else ns) ≡ ns
  gone_by true e n ns = absurd (cc e)
  gone_by false e n ns = refl

  pub left_more : (ns ms all : List Name) → ms ≡ ns ++ string_bytes here ∷ [] → ns ++ filter p (texts_of (drop i ts)) ≡ all → p (string_bytes here) ≡ true → ms ++ filter p (texts_of (drop (i + 1) ts)) ≡ all
  left_more ns ms all is so_far e =
      let r = filter p (texts_of (drop (i + 1) ts)) in
      ap (λ (ks : List Name). ks ++ r) is ∙ append_assoc ns (string_bytes here ∷ []) r
      ∙ ap (λ (ks : List Name). ns ++ ks) (sym (ap (filter p) rest_is ∙ kept_by (p (string_bytes here)) e (string_bytes here) r)) ∙ so_far

  pub left_past : (ns all : List Name) → ns ++ filter p (texts_of (drop i ts)) ≡ all → p (string_bytes here) ≡ false → ns ++ filter p (texts_of (drop (i + 1) ts)) ≡ all
  left_past ns all so_far e =
      let r = filter p (texts_of (drop (i + 1) ts)) in
      ap (λ (ks : List Name). ns ++ ks) (sym (ap (filter p) rest_is ∙ gone_by (p (string_bytes here)) e (string_bytes here) r)) ∙ so_far

pub left_ends : {Z : Type 0} (p : Name → Bool) (ts : List (String Z)) (i : ℕ) (ns all : List Name) → ns ++ filter p (texts_of (drop i ts)) ≡ all → length ts ≤ i → ns ≡ all
left_ends p ts i ns all so_far h = sym (append-nil ns) ∙ ap (λ (us : List (String _)). ns ++ filter p (texts_of us)) (sym (drop_all i ts h)) ∙ so_far

distinct_by : (b : Bool) (n : Name) (ns ks : List Name) → (b ≡ true → Among n ks → ⊥) → AreDistinct ks → AreDistinct (if b then n ∷ ks else ks)
distinct_by true n ns ks h d = (h refl, d)
distinct_by false n ns ks h d = d

pub distinct_filter : (p : Name → Bool) (ns : List Name) → AreDistinct ns → AreDistinct (filter p ns)
distinct_filter p [] d = tt
distinct_filter p (n ∷ ns) d = distinct_by (p n) n ns (filter p ns) (λ e m. d.0 (filter_among p ns n m).0) (distinct_filter p ns d.1)

both_true : (a b : Bool) → (not a && b) ≡ true → a ≡ false
both_true true b e = absurd (cc e)
both_true false b e = refl

-- the names that are left of a world's imports
pub are_left : (gs : List stated.Given) (q : Name → Bool) (ns ks : List Name) → ks ≡ filter (λ n. not (has_name (given_names gs) n) && q n) ns → AreDistinct ks → AreLeft gs ks
are_left gs q ns ks is d = record {
  distinct = d;
  left = λ n m. both_true (has_name (given_names gs) n) (q n) (filter_among (λ n. not (has_name (given_names gs) n) && q n) ns n (subst (λ (xs : List Name). Among n xs) is m)).1;
}

-- ---- where an instance is asked for, and is there

pub needs_same : {A : Type 0} (d : Denoted) (o : InstanceOperation) (s : Span) (q : Answer A) → is_instance_kind (kind_of d.item) ≡ true → (needs_instance d o s >> q) ≡ q
needs_same d o s q e = ap (λ (b : Bool). unless_clear (not b) (NotAnInstance (desc d.item) o) s >> q) e

pub held_to : {A B C : Type 0} (h : A → B → Type 0) (k : A → C → Type 0) (q : Answer A) (b : B) (c : C) → IsHeld h q b → ((a : A) → h a b → k a c) → IsHeld k q c
held_to h k (Ok a) b c x f = f a x
held_to h k (Err e) b c x f = absurd x

-- ---- export by export

module _ {Z : Type 0} (h : Graph) (noted : List (ℕ × Span)) (names : List (Name × ℕ)) (at : Span) (d : Denoted) (items : List (String Z)) (i : ℕ) (item : String Z) (lt : i < length items) (is : item ≡ get_or items i item) (n : Name) (same : n ≡ string_bytes item) where
  abbrev others : List Name
  others = texts_of (drop (i + 1) items)

  these : texts_of (drop i items) ≡ n ∷ others
  these = ap (λ (us : List (String Z)). texts_of us) (drop_more items i item lt) ∙ ap (λ (t : String Z). string_bytes t ∷ others) (sym is) ∙ ap (λ (m : Name). m ∷ others) (sym same)

  pub spread_next : (q : State × List stated.Given) (xs ys : List Given) (one : Given) → AreGiven h (names_of noted) q.1 xs → AreLeft q.1 (texts_of (drop i items)) → ys ≡ xs ++ one ∷ [] → IsHeld (OneSaid h noted names at d n) (spoken q.0 (export_named d n at)) one
      → (p : State × List stated.Given) × (SaysGiven h noted names ys p × AreLeft p.1 others) × (each (spread_given at d) q (texts_of (drop i items)) ≡ each (spread_given at d) p others)
  spread_next q xs ys one all left grown held =
      let step = spread_step h noted names at d n q xs ys one others all (subst (AreLeft q.1) these left) grown held in
      let s = go_on (AllSaid h noted names at d n ys others) (λ (p : State × List stated.Given). each (spread_given at d) p others) (spread_given at d q n) tt step in
      (s.0, s.1, ap (each (spread_given at d) q) these ∙ s.2)

  pub spread_stops : (q : State × List stated.Given) (e : Refusal) → IsRefusal (spoken q.0 (export_named d n at)) e → IsRefusal (each (spread_given at d) q (texts_of (drop i items))) e
  spread_stops q e x =
      subst (λ (ms : List Name). IsRefusal (each (spread_given at d) q ms) e) (sym these)
      (then_refused (λ (p : State × List stated.Given). each (spread_given at d) p others) (spread_given at d q n) e (spread_refused h noted names at d n q e x))

pub spread_ends : {Z : Type 0} (at : Span) (d : Denoted) (items : List (String Z)) (i : ℕ) (q : State × List stated.Given) → length items ≤ i → each (spread_given at d) q (texts_of (drop i items)) ≡ Ok q
spread_ends {Z} at d items i q h = ap (λ (us : List (String Z)). each (spread_given at d) q (texts_of us)) (drop_all i items h)

-- ---- which exports are asked for

mapped_some : {A B : Type 0} (f : A → B) (o : Option A) → is_some o ≡ is_some (option_map f o)
mapped_some f None = refl
mapped_some f (Some x) = refl

-- the exports of an interface by their names
pub exports_by : (c : Collection) → IsAcyclic c → (i : InterfaceId) (x : Interface) → slice_get c.interfaces i.index ≡ Some x → i.collection ≡ c.number → (gn ns : List Name)
    → filter (λ n. not (has_name gn n) && is_some (value_at x.exports n)) ns ≡ filter (λ n. not (has_name gn n) && is_some (value_at (exports_of (stated_of c (ItemKind.Instance i))) n)) ns
exports_by c a i x at own gn ns =
    filter_agree (λ (n : Name). not (has_name gn n) && is_some (value_at x.exports n)) (λ n. not (has_name gn n) && is_some (value_at (exports_of (stated_of c (ItemKind.Instance i))) n))
    (λ n. ap (λ (b : Bool). not (has_name gn n) && b)
    (mapped_some (stated_of c) (value_at x.exports n) ∙ ap is_some (sym (value_with (stated_of c) x.exports n) ∙ ap (λ (es : List (Name × Stated)). value_at es n) (sym (instance_exports c a i x at own))))) ns

-- what is left is what is stated to be left
pub left_same : (g : Graph) (ms : List ℕ) (gs : List stated.Given) (xs : List Given) (t : Stated) (w : WorldId) (i : InterfaceId) → AreGiven g ms gs xs → Holds g.types t (ItemKind.Instance i)
    → names_left xs g.types w i ≡ left_names gs (imported_by g.types w) t
left_same g ms gs xs t w i all h =
    ap (λ (gn : List Name). filter (λ n. not (has_name gn n) && is_some (value_at (exports_of (stated_of g.types (ItemKind.Instance i))) n)) (imported_by g.types w)) (same_names g ms gs xs all.are)
    ∙ ap (λ (u : Stated). filter (λ n. not (has_name (given_names gs) n) && is_some (value_at (exports_of u) n)) (imported_by g.types w)) h.same

-- there are none, or some
pub none_spread : (s : Span) (d : Denoted) (q : State × List stated.Given) (ks : List Name) (e : Refusal) → ks ≡ [] → Refuses e SpreadInstantiationNoMatch s → IsRefusal (spread_all s d q ks) e
none_spread s d q [] e is r = r
none_spread s d q (k ∷ ks) e is r = absurd (cc is)

pub some_spread : (s : Span) (d : Denoted) (q : State × List stated.Given) (ks : List Name) → (ks ≡ [] → ⊥) → each (spread_given s d) q ks ≡ spread_all s d q ks
some_spread s d q [] h = absurd (h refl)
some_spread s d q (k ∷ ks) h = refl

pub no_texts : {Z : Type 0} (ts : List (String Z)) → length ts ≡ 0 → texts_of ts ≡ []
no_texts [] e = refl
no_texts (t ∷ ts) e = absurd (omega (arith, e))

pub some_texts : {Z : Type 0} (ts : List (String Z)) → (length ts ≡ 0 → ⊥) → texts_of ts ≡ [] → ⊥
some_texts [] h e = h refl
some_texts (t ∷ ts) h e = absurd (cc e)

pub zero_by : (n : ℕ) (r : Bool) → r ≡ (n == 0) → r ≡ true → n ≡ 0
zero_by n r e t = same_number n 0 (sym e ∙ t)

pub not_zero : (n : ℕ) (r : Bool) → r ≡ (n == 0) → r ≡ false → n ≡ 0 → ⊥
not_zero n r e f z = let one : (n == 0) ≡ true = ap (λ (m : ℕ). m == 0) z in absurd (cc (e, f, one))

-- ---- spread by spread

module _ (f : State × List stated.Given → t.Ident → Answer (State × List stated.Given)) where
  then_by : (r : Answer (State × List stated.Given)) (is : List t.Ident) → (r >>= λ p. each f p is) ≡ ((r >>= λ p. pure p) >>= λ p. each f p is)
  then_by (Ok p) is = refl
  then_by (Err c) is = refl

  split_by : (a : t.InstantiationArgument) (as_ : t.Arguments) (q : State × List stated.Given) → each f q (spreads_of (t.argument a as_)) ≡ (each f q (own_spread a) >>= λ p. each f p (spreads_of as_))
  split_by (t.InstantiationArgument.inferred i) as_ q = refl
  split_by (t.InstantiationArgument.named x) as_ q = refl
  split_by (t.InstantiationArgument.fill s) as_ q = refl
  split_by (t.InstantiationArgument.spread i) as_ q = then_by (f q i) (spreads_of as_)

  pub one_taken : {B : Type 0} (H : State × List stated.Given → B → Type 0) (r : Answer (State × List stated.Given)) (b : Result B Refusal) → IsOutcome H r b → IsOutcome H (r >>= λ p. pure p) b
  one_taken H (Ok p) b x = x
  one_taken H (Err c) b x = x

  pub none_taken : (a : t.InstantiationArgument) → ((as_ : t.Arguments) → spreads_of (t.argument a as_) ≡ spreads_of as_) → (q : State × List stated.Given) → each f q (own_spread a) ≡ Ok q
  none_taken a e q = ap (each f q) (e t.no_arguments)

  module _ (args : List InstantiationArgument) (i : ℕ) (this : InstantiationArgument) (lt : i < length args) (is : this ≡ get_or args i this) where
    abbrev later_args : t.Arguments
    later_args = t.arguments (map view_instantiation_argument (drop (i + 1) args))

    these_args : (q : State × List stated.Given) → each f q (spreads_of (t.arguments (map view_instantiation_argument (drop i args)))) ≡ (each f q (own_spread (view_instantiation_argument this)) >>= λ p. each f p (spreads_of later_args))
    these_args q =
        ap (λ (xs : List InstantiationArgument). each f q (spreads_of (t.arguments (map view_instantiation_argument xs)))) (drop_more args i this lt ∙ ap (λ (a : InstantiationArgument). a ∷ drop (i + 1) args) (sym is))
        ∙ split_by (view_instantiation_argument this) later_args q

    pub spread_taken : (H : State × List stated.Given → ⊤ → Type 0) (q : State × List stated.Given) (u : ⊤) → IsHeld H (each f q (own_spread (view_instantiation_argument this))) u
        → (p : State × List stated.Given) × H p u × (each f q (spreads_of (t.arguments (map view_instantiation_argument (drop i args)))) ≡ each f p (spreads_of later_args))
    spread_taken H q u held =
        let s = go_on H (λ (p : State × List stated.Given). each f p (spreads_of later_args)) (each f q (own_spread (view_instantiation_argument this))) u held in
        (s.0, s.1, these_args q ∙ s.2)

    pub spread_halts : (q : State × List stated.Given) (e : Refusal) → IsRefusal (each f q (own_spread (view_instantiation_argument this))) e → IsRefusal (each f q (spreads_of (t.arguments (map view_instantiation_argument (drop i args))))) e
    spread_halts q e x =
        subst (λ (r : Answer (State × List stated.Given)). IsRefusal r e) (sym (these_args q))
        (then_refused (λ (p : State × List stated.Given). each f p (spreads_of later_args)) (each f q (own_spread (view_instantiation_argument this))) e x)

  pub spreads_end : (args : List InstantiationArgument) (i : ℕ) (q : State × List stated.Given) → length args ≤ i → each f q (spreads_of (t.arguments (map view_instantiation_argument (drop i args)))) ≡ Ok q
  spreads_end args i q h = ap (λ (xs : List InstantiationArgument). each f q (spreads_of (t.arguments (map view_instantiation_argument xs)))) (drop_all i args h)
