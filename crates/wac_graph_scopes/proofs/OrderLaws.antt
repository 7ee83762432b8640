-- One place after another in an order.
use Rattle.std.proofs.Common.{◌≡◌, ◌<◌, ℕ, ◌+◌, zero, suc, Bool, true, false, List, [], ◌∷◌, ◌++◌, length, Some, slice_get, slice_set, refl, sym, ap, ◌∙◌, subst, arith, append_assoc, inl, inr}
use Rattle.std.specs.Prelude.{◌⊎◌, eqb, Option, None, IfSome, IfNone}
use Rattle.std.specs.Option.{is_some}
use Rattle.std.proofs.lemmas.Bool.Decides.{Decides-eqb}
use Rattle.std.proofs.lemmas.Option.{slice_get_within}
use Rattle.wac_types_base.proofs.Replacing.{slice_get-set_same, slice_get-set_other}
use Rattle.std.proofs.lemmas.List.{append-nil}
use Rattle.wac_types_base.specs.declared.ids.InterfaceId.{InterfaceId}
use Rattle.wac_types_base.specs.declared.item.ItemKind.{ItemKind}
use Rattle.wac_types_base.specs.Graph.{Among}
use Rattle.wac_types_base.specs.Entries.{Name, AreDistinct}
use Rattle.wac_types_base.proofs.Adding.{Among-left, Among-right}
use Rattle.wac_types_base.proofs.Lists.{among_split}
use Rattle.wac_types_parts.proofs.Lists.{distinct-append}
use Rattle.wac_graph_bytes.proofs.Steps.{get_kept, get_last}
use Rattle.wac_graph_scopes.specs.declared.imports.Importing.{Importing}
use Rattle.wac_graph_scopes.specs.declared.order.Turn.{Turn}
use Rattle.wac_types_parts.specs.Parts.{IsOfInterface}
use Rattle.wac_graph_scopes.specs.Imports.{all_imports}
use Rattle.wac_graph_scopes.specs.Orders.{IsOrder, IsBegun, Puts, IsSource, AreTurns, EarlyFirst, SourcesFirst}

pub distinct-left : {X : Type 0} (xs ys : List X) → AreDistinct (xs ++ ys) → AreDistinct xs
distinct-left [] ys d = tt
distinct-left (x ∷ xs) ys d = (λ m. d.0 (Among-left x xs ys m), distinct-left xs ys d.1)

pub distinct-right : {X : Type 0} (xs ys : List X) → AreDistinct (xs ++ ys) → AreDistinct ys
distinct-right [] ys d = d
distinct-right (x ∷ xs) ys d = distinct-right xs ys d.1

module _ (old mid new : List Bool) (order between ordered : List ℕ) where
  pub Puts-refl : Puts old old order order
  Puts-refl = record {
    more = [];
    behind = sym (append-nil order);
    len = refl;
    fresh = λ k m b. m;
    done = λ k m. absurd m;
    kept = λ k b. b;
    only = λ k b. inl b;
    distinct = tt;
  }

  pub Puts-trans : Puts old mid order between → Puts mid new between ordered → Puts old new order ordered
  Puts-trans a b = record {
    more = a.more ++ b.more;
    behind = b.behind ∙ ap (λ l. l ++ b.more) a.behind ∙ append_assoc order a.more b.more;
    len = b.len ∙ a.len;
    fresh = λ k m h. elim (among_split k a.more b.more m) [ inl x ↦ a.fresh k x h | inr y ↦ b.fresh k y (a.kept k h) ];
    done = λ k m. elim (among_split k a.more b.more m) [ inl x ↦ b.kept k (a.done k x) | inr y ↦ b.done k y ];
    kept = λ k h. b.kept k (a.kept k h);
    only = λ k h. elim (b.only k h) [ inl x ↦ elim (a.only k x) [ inl y ↦ inl y | inr z ↦ inr (Among-left k a.more b.more z) ] | inr y ↦ inr (Among-right k a.more b.more y) ];
    distinct = distinct-append a.more b.more a.distinct b.distinct (λ k x y. b.fresh k y (a.done k x));
  }

-- the one that is begun is put last
pub puts_last : (old begun new : List Bool) (order ordered last : List ℕ) (at : ℕ) → (IsBegun old at → ⊥) → IsBegun begun at → length begun ≡ length old → ((k : ℕ) → IsBegun old k → IsBegun begun k) → ((k : ℕ) → IsBegun begun k → IsBegun old k ⊎ (k ≡ at))
    → Puts begun new order ordered → last ≡ ordered ++ at ∷ [] → Puts old new order last
puts_last old begun new order ordered last at was now len kept only p e = record {
  more = p.more ++ at ∷ [];
  behind = e ∙ ap (λ l. l ++ at ∷ []) p.behind ∙ append_assoc order p.more (at ∷ []);
  len = p.len ∙ len;
  fresh = λ k m h. elim (among_split k p.more (at ∷ []) m) [ inl x ↦ p.fresh k x (kept k h) | inr y ↦ elim y [ inl q ↦ was (subst (IsBegun old) q h) | inr z ↦ z ] ];
  done = λ k m. elim (among_split k p.more (at ∷ []) m) [ inl x ↦ p.done k x | inr y ↦ elim y [ inl q ↦ subst (IsBegun new) (sym q) (p.kept at now) | inr z ↦ absurd z ] ];
  kept = λ k h. p.kept k (kept k h);
  only = λ k h. elim (p.only k h) [ inl x ↦ elim (only k x) [ inl y ↦ inl y | inr q ↦ inr (Among-right k p.more (at ∷ []) (inl q)) ] | inr y ↦ inr (Among-left k p.more (at ∷ []) y) ];
  distinct = distinct-append p.more (at ∷ []) p.distinct ((λ m. m), tt) (λ k x y. elim y [ inl q ↦ p.fresh k x (subst (IsBegun begun) (sym q) now) | inr z ↦ z ]);
}

-- ---- marks

pub begun_here : (bs : List Bool) (at : ℕ) → at < length bs → IsBegun (slice_set bs at true) at
begun_here bs at lt = slice_get-set_same bs at true lt

pub apart : (k at : ℕ) (b : Bool) → eqb k at ≡ b → (k ≡ at) ⊎ (k ≡ at → ⊥)
apart k at true q = inl ((Decides-eqb k at).0 q)
apart k at false q = inr (λ e. absurd (cc ((Decides-eqb k at).1 e, q)))

pub begun_kept : (bs : List Bool) (at k : ℕ) → IsBegun bs k → IsBegun (slice_set bs at true) k
begun_kept bs at k h = elim (apart k at (eqb k at) refl) [
  | inl e ↦ subst (IsBegun (slice_set bs at true)) (sym e) (begun_here bs at (subst (λ (n : ℕ). n < length bs) e (slice_get_within bs k true h)))
  | inr n ↦ slice_get-set_other bs at k true n ∙ h
]

pub begun_only : (bs : List Bool) (at k : ℕ) → IsBegun (slice_set bs at true) k → IsBegun bs k ⊎ (k ≡ at)
begun_only bs at k h = elim (apart k at (eqb k at) refl) [ inl e ↦ inr e | inr n ↦ inl (sym (slice_get-set_other bs at k true n) ∙ h) ]

pub none_pushed : (bs : List Bool) → ((k : ℕ) → IsBegun bs k → ⊥) → (k : ℕ) → IsBegun (bs ++ false ∷ []) k → ⊥
none_pushed [] h zero e = absurd (cc e)
none_pushed [] h (suc k) e = absurd (cc e)
none_pushed (b ∷ bs) h zero e = h zero e
none_pushed (b ∷ bs) h (suc k) e = none_pushed bs (λ j. h (suc j)) k e

pub begun_next : {T : Type 0} (first old new : List Bool) (turns : List T) (turn : T) (at : ℕ) → ((k : ℕ) → k < at → slice_get turns k ≡ Some turn → k < length first → IsBegun old k) → ((k : ℕ) → IsBegun old k → IsBegun new k)
    → (slice_get turns at ≡ Some turn → at < length first → IsBegun new at) → (k : ℕ) → k < at + 1 → slice_get turns k ≡ Some turn → k < length first → IsBegun new k
begun_next first old new turns turn at before kept now k lt e within = elim (apart k at (eqb k at) refl) [
  | inl same ↦ subst (IsBegun new) (sym same) (now (ap (slice_get turns) (sym same) ∙ e) (subst (λ (n : ℕ). n < length first) same within))
  | inr other ↦ let less : k < at = omega (arith, lt, other) in kept k (before k less e within)
]

-- ---- the four turns

some_turn : (ts : List Turn) (k : ℕ) → k < length ts → (t : Turn) × (slice_get ts k ≡ Some t)
some_turn [] k lt = absurd (omega arith)
some_turn (t ∷ ts) zero lt = (t, refl)
some_turn (t ∷ ts) (suc k) lt = some_turn ts k (omega (arith, lt))

module _ (turns : List Turn) (old mid new : List Bool) (sources others : List ℕ) (len : length old ≡ length turns) (none : (k : ℕ) → IsBegun old k → ⊥) (a : Puts old mid [] sources) (b : Puts mid new [] others)
    (fresh : (k : ℕ) → slice_get turns k ≡ Some Turn.Fresh → k < length old → IsBegun mid k) (interfaces : (k : ℕ) → slice_get turns k ≡ Some Turn.Interfaces → k < length old → IsBegun mid k)
    (types : (k : ℕ) → slice_get turns k ≡ Some Turn.Types → k < length mid → IsBegun new k) (rest : (k : ℕ) → slice_get turns k ≡ Some Turn.Others → k < length mid → IsBegun new k) where
  first_done : (k : ℕ) → IsBegun mid k → Among k (a.more ++ b.more)
  first_done k h = elim (a.only k h) [ inl x ↦ absurd (none k x) | inr m ↦ Among-left k a.more b.more m ]

  all_done : (k : ℕ) → IsBegun new k → Among k (a.more ++ b.more)
  all_done k h = elim (b.only k h) [ inl x ↦ first_done k x | inr m ↦ Among-right k a.more b.more m ]

  by_turn : (k : ℕ) (t : Turn) → slice_get turns k ≡ Some t → k < length old → Among k (a.more ++ b.more)
  by_turn k Turn.Fresh e lt = first_done k (fresh k e lt)
  by_turn k Turn.Interfaces e lt = first_done k (interfaces k e lt)
  by_turn k Turn.Types e lt = all_done k (types k e (omega (arith, lt, a.len)))
  by_turn k Turn.Others e lt = all_done k (rest k e (omega (arith, lt, a.len)))

  in_time : (k : ℕ) → Among k (a.more ++ b.more) → k < length turns
  in_time k m = elim (among_split k a.more b.more m) [
    | inl x ↦ omega (arith, slice_get_within mid k true (a.done k x), a.len, len)
    | inr y ↦ omega (arith, slice_get_within new k true (b.done k y), b.len, a.len, len)
  ]

  pub order_made : IsOrder (length turns) sources others
  order_made =
      let same : sources ++ others ≡ a.more ++ b.more = ap (λ l. l ++ others) a.behind ∙ ap (λ l. a.more ++ l) b.behind in
      record {
        distinct = subst AreDistinct (sym same) (distinct-append a.more b.more a.distinct b.distinct (λ k x y. b.fresh k y (a.done k x)));
        all = λ k lt. let t = some_turn turns k lt in subst (Among k) (sym same) (by_turn k t.0 t.1 (omega (arith, lt, len)));
        within = λ k m. in_time k (subst (Among k) same m);
      }

  -- of those with the first two turns all are handed out first
  pub early_made : EarlyFirst turns sources
  early_made k Turn.Fresh e early = elim (a.only k (fresh k e (omega (arith, slice_get_within turns k Turn.Fresh e, len)))) [ inl x ↦ absurd (none k x) | inr m ↦ subst (Among k) (sym a.behind) m ]
  early_made k Turn.Interfaces e early = elim (a.only k (interfaces k e (omega (arith, slice_get_within turns k Turn.Interfaces e, len)))) [ inl x ↦ absurd (none k x) | inr m ↦ subst (Among k) (sym a.behind) m ]
  early_made k Turn.Types e early = absurd early
  early_made k Turn.Others e early = absurd early

pub pushed_all : {T : Type 0} (P : ℕ → T → Type 0) (ts : List T) (t : T) → ((at : ℕ) (u : T) → slice_get ts at ≡ Some u → P at u) → P (length ts) t → (at : ℕ) (u : T) → slice_get (ts ++ t ∷ []) at ≡ Some u → P at u
pushed_all P [] t h p zero u e = subst (P zero) (cc e) p
pushed_all P [] t h p (suc at) u e = absurd (cc e)
pushed_all P (x ∷ xs) t h p zero u e = h zero u e
pushed_all P (x ∷ xs) t h p (suc at) u e = pushed_all (λ k. P (suc k)) xs t (λ k. h (suc k)) p at u e

pub sources_first : (a : Importing) (ts : List Turn) (ks : List ℕ) → length ts ≡ length (all_imports a) → AreTurns a ts → EarlyFirst ts ks → SourcesFirst a ks
sources_first a ts ks len turns first at n k e source =
    let t = some_turn ts at (omega (arith, slice_get_within (all_imports a) at (n, k) e, len)) in
    first at t.0 t.1 (turns at t.0 t.1 n k e source)

pub no_interface : {T : Type 0} {P : Type 0} (o : Option T) → false ≡ is_some o → IfNone o P → P
no_interface None e h = h
no_interface (Some x) e h = absurd (cc e)

pub same_item : {o : Option (Name × ItemKind)} (x y : Name × ItemKind) → o ≡ Some x → o ≡ Some y → x.1 ≡ y.1
same_item x y e f = let same : x ≡ y = cc (e, f) in ap (λ p. p.1) same

pub has_interface : (k : ItemKind) (o : Option InterfaceId) → true ≡ is_some o → IfSome o (IsOfInterface k) → IsSource k
has_interface k None e h = absurd (cc e)
has_interface k (Some i) e h = (i, h)

-- ---- one turn

pub last_pushed : {X : Type 0} (xs : List X) (x : X) (count : ℕ) → length xs ≡ count → ((k : ℕ) → k < count → slice_get xs k ≡ Some x) → (k : ℕ) → k < count + 1 → slice_get (xs ++ x ∷ []) k ≡ Some x
last_pushed xs x count len h k lt = elim (apart k count (eqb k count) refl) [
  | inl same ↦ get_last xs x k (same ∙ sym len)
  | inr other ↦ let less : k < count = omega (arith, lt, other) in get_kept xs x x k (h k less)
]

pub last_order : (turns : List Turn) (old new : List Bool) (ordered : List ℕ) (count : ℕ) → length turns ≡ count → length old ≡ length turns → ((k : ℕ) → IsBegun old k → ⊥) → Puts old new [] ordered
    → ((k : ℕ) → k < count → slice_get turns k ≡ Some Turn.Others) → ((k : ℕ) → slice_get turns k ≡ Some Turn.Others → k < length old → IsBegun new k) → IsOrder count [] ordered
last_order turns old new ordered count is len none p last done = record {
  distinct = subst AreDistinct (sym p.behind) p.distinct;
  all = λ k lt.
      let within : k < length old = omega (arith, lt, is, len) in
      let begun = done k (last k lt) within in
      let more : Among k p.more = elim (p.only k begun) [ inl x ↦ absurd (none k x) | inr m ↦ m ] in
      subst (λ (l : List ℕ). Among k l) (sym p.behind) more;
  within = λ k m. omega (arith, slice_get_within new k true (p.done k (subst (λ (l : List ℕ). Among k l) p.behind m)), p.len, len, is);
}
