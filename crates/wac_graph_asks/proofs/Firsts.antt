-- Joining each ask with the first that has its word puts all that have one word together.
use Rattle.std.proofs.Common.{◌≡◌, ◌≢◌, ℕ, ◌+◌, ◌<◌, List, [], ◌∷◌, ◌++◌, Option, Some, None, inl, inr, sym, ap, subst, ◌∙◌, arith, length, length-append}
use Rattle.std.proofs.lemmas.List.{get_or_push, get_or_past}
use Rattle.std.proofs.Math.ListN.{get_or-append}
use Rattle.std.proofs.lemmas.Bool.{cases_eq, cases_lt}
use Rattle.std.proofs.lemmas.Option.{none-some, same_Some}
use Rattle.wac_types_base.specs.Entries.{Name, value_at, put_entry}
use Rattle.wac_types_base.proofs.Lists.{put_else, put_is, name_tested}
use Rattle.wac_graph_asks.specs.Joining.{label_at, there, AreTogether, JoinsBy}
use Rattle.wac_graph_asks.proofs.Roots.{meets_itself, meets_back, meets_through, leads_as, leads_once}

-- ---- firsts

-- of each word of the asks so far the first is known, and with it are all that have the word
pub record AreFirsts (word : ℕ → Option Name) (n : ℕ) (firsts : List (Name × ℕ)) (labels : List ℕ) : Type 0 where
  pub before : (w : Name) (i : ℕ) → value_at firsts w ≡ Some i → i < n
  pub has : (w : Name) (i : ℕ) → value_at firsts w ≡ Some i → word i ≡ Some w
  pub known : (w : Name) (i : ℕ) → i < n → word i ≡ Some w → (first : ℕ) × (value_at firsts w ≡ Some first) × AreTogether labels first i

pub no_firsts : (word : ℕ → Option Name) (labels : List ℕ) → AreFirsts word 0 [] labels
no_firsts word labels = record {
  before = λ w i e. absurd (none-some i e);
  has = λ w i e. absurd (none-some i e);
  known = λ w i l e. absurd (omega (arith, l));
}

module _ (word : ℕ → Option Name) (at : ℕ) (firsts after : List (Name × ℕ)) (was old new : List ℕ) where
  -- what stays where asks are joined
  pub joins_keep : (o : Option Name) → JoinsBy o at firsts after old new → (i j : ℕ) → AreTogether old i j → AreTogether new i j
  joins_keep None h i j t = subst (λ l. AreTogether l i j) (sym h.1) t
  joins_keep (Some w) (inl h) i j t = h.3.kept i j t
  joins_keep (Some w) (inr h) i j t = subst (λ l. AreTogether l i j) (sym h.2) t

  pub firsts_after : (kept : (i j : ℕ) → AreTogether was i j → AreTogether old i j) → AreFirsts word at firsts was → (o : Option Name) → word at ≡ o → JoinsBy o at firsts after old new → AreFirsts word (at + 1) after new
  firsts_after kept f None e h = record {
    before = λ w i v. let b = f.before w i (subst (λ m. value_at m w ≡ Some i) h.0 v) in omega (arith, b);
    has = λ w i v. f.has w i (subst (λ m. value_at m w ≡ Some i) h.0 v);
    known = λ w i l v. elim (cases_eq i at) [
      | inl d ↦ absurd (none-some w (sym e ∙ ap word (sym d) ∙ v))
      | inr d ↦
          let k = f.known w i (omega (arith, l, d)) v in
          (k.0, subst (λ m. value_at m w ≡ Some k.0) (sym h.0) k.1, subst (λ l. AreTogether l k.0 i) (sym h.1) (kept k.0 i k.2))
    ];
  }
  firsts_after kept f (Some x) e (inl h) = record {
    before = λ w i v. let b = f.before w i (subst (λ m. value_at m w ≡ Some i) h.2 v) in omega (arith, b);
    has = λ w i v. f.has w i (subst (λ m. value_at m w ≡ Some i) h.2 v);
    known = λ w i l v. elim (cases_eq i at) [
      | inl d ↦
          let same : x ≡ w = same_Some x w (sym e ∙ ap word (sym d) ∙ v) in
          (h.0, subst (λ m. value_at m w ≡ Some h.0) (sym h.2) (subst (λ n. value_at firsts n ≡ Some h.0) same h.1), subst (AreTogether new h.0) (sym d) h.3.joined)
      | inr d ↦
          let k = f.known w i (omega (arith, l, d)) v in
          (k.0, subst (λ m. value_at m w ≡ Some k.0) (sym h.2) k.1, h.3.kept k.0 i (kept k.0 i k.2))
    ];
  }
  firsts_after kept f (Some x) e (inr h) = record {
    before = λ w i v. elim (name_tested w x) [
      | inl d ↦
          let same = same_Some at i (sym (put_is firsts x at) ∙ ap (value_at (put_entry firsts x at)) (sym d.0) ∙ subst (λ m. value_at m w ≡ Some i) h.1 v) in
          omega (arith, same)
      | inr d ↦
          let b = f.before w i (sym (put_else firsts x w at d.0) ∙ subst (λ m. value_at m w ≡ Some i) h.1 v) in
          omega (arith, b)
    ];
    has = λ w i v. elim (name_tested w x) [
      | inl d ↦
          let same = same_Some at i (sym (put_is firsts x at) ∙ ap (value_at (put_entry firsts x at)) (sym d.0) ∙ subst (λ m. value_at m w ≡ Some i) h.1 v) in
          ap word (sym same) ∙ e ∙ ap Some (sym d.0)
      | inr d ↦ f.has w i (sym (put_else firsts x w at d.0) ∙ subst (λ m. value_at m w ≡ Some i) h.1 v)
    ];
    known = λ w i l v. elim (cases_eq i at) [
      | inl d ↦
          let same : x ≡ w = same_Some x w (sym e ∙ ap word (sym d) ∙ v) in (
            at,
            subst (λ m. value_at m w ≡ Some at) (sym h.1) (subst (λ n. value_at (put_entry firsts x at) n ≡ Some at) same (put_is firsts x at)),
            subst (AreTogether new at) (sym d) (meets_itself (label_at new) at),
          )
      | inr d ↦
          let k = f.known w i (omega (arith, l, d)) v in
          let other : w ≢ x = λ s. none-some k.0 (sym h.0 ∙ subst (λ n. value_at firsts n ≡ Some k.0) s k.1) in (
            k.0,
            subst (λ m. value_at m w ≡ Some k.0) (sym h.1) (put_else firsts x w at other ∙ k.1),
            subst (λ l. AreTogether l k.0 i) (sym h.2) (kept k.0 i k.2),
          )
    ];
  }

  -- who is together is as one already was, or has a word of one that was
  pub firsts_sound : (E : ℕ → ℕ → Type 0) → ((i j k : ℕ) → j < at + 1 → E i j → E j k → E i k) → ((i j : ℕ) → i < at + 1 → j < at + 1 → E i j → E j i) → ((i j : ℕ) (w : Name) → i < at + 1 → j < at + 1 → word i ≡ Some w → word j ≡ Some w → E i j)
      → AreFirsts word at firsts was → ((i j : ℕ) → AreTogether old i j → E i j) → (o : Option Name) → word at ≡ o → JoinsBy o at firsts after old new → (i j : ℕ) → AreTogether new i j → E i j
  firsts_sound E through back same f s None e h i j t = s i j (subst (λ l. AreTogether l i j) h.1 t)
  firsts_sound E through back same f s (Some x) e (inr h) i j t = s i j (subst (λ l. AreTogether l i j) h.2 t)
  firsts_sound E through back same f s (Some x) e (inl h) i j t =
      let b = f.before x h.0 h.1 in
      let near = same h.0 at x (omega (arith, b)) (omega arith) (f.has x h.0 h.1) e in
      elim (h.3.only i j t) [
        | inl u ↦ s i j u
        | inr (inl u) ↦ through i h.0 j (omega (arith, b)) (s i h.0 u.0) (through h.0 at j (omega arith) near (s at j u.1))
        | inr (inr u) ↦ through i at j (omega arith) (s i at u.0) (through at h.0 j (omega (arith, b)) (back h.0 at (omega (arith, b)) (omega arith) near) (s h.0 j u.1))
      ]

-- ---- one more label

next_label : (labels : List ℕ) (i : ℕ) → label_at (labels ++ length labels ∷ []) i ≡ label_at labels i
next_label labels i = elim (cases_lt i (length labels)) [
  | inl l ↦ get_or-append labels (length labels ∷ []) i i l
  | inr l ↦ elim (cases_eq (length labels) i) [
    | inl e ↦ get_or_push labels (length labels) i i e ∙ e ∙ sym (get_or_past labels i i l)
    | inr n ↦ get_or_past (labels ++ length labels ∷ []) i i (rw (length-append labels (length labels ∷ [])) (omega (arith, l, n))) ∙ sym (get_or_past labels i i l)
  ]
]

pub next_together : (labels : List ℕ) (i j : ℕ) → AreTogether (labels ++ length labels ∷ []) i j → AreTogether labels i j
next_together labels i j t = (t.0, leads_as _ _ (next_label labels) i t.0 t.1, leads_as _ _ (next_label labels) j t.0 t.2)

pub together_next : (labels : List ℕ) (i j : ℕ) → AreTogether labels i j → AreTogether (labels ++ length labels ∷ []) i j
together_next labels i j t = (t.0, leads_as _ _ (λ k. sym (next_label labels k)) i t.0 t.1, leads_as _ _ (λ k. sym (next_label labels k)) j t.0 t.2)

-- ---- what holds of labels that only grow together

pub firsts_kept : (word : ℕ → Option Name) (n : ℕ) (firsts : List (Name × ℕ)) (old new : List ℕ) → ((i j : ℕ) → AreTogether old i j → AreTogether new i j) → AreFirsts word n firsts old → AreFirsts word n firsts new
firsts_kept word n firsts old new kept f = record {
  before = f.before;
  has = f.has;
  known = λ w i l e. let k = f.known w i l e in (k.0, k.1, kept k.0 i k.2);
}

-- those that have one word are together
pub words_together : (word : ℕ → Option Name) (n : ℕ) (firsts : List (Name × ℕ)) (labels : List ℕ) → AreFirsts word n firsts labels → (w : Name) (i j : ℕ) → i < n → j < n → word i ≡ Some w → word j ≡ Some w → AreTogether labels i j
words_together word n firsts labels f w i j l m e d =
    let h = f.known w i l e in
    let k = f.known w j m d in
    let same = same_Some k.0 h.0 (sym k.1 ∙ h.1) in
    let there : AreTogether labels h.0 j = subst (λ x. AreTogether labels x j) same k.2 in
    meets_through (label_at labels) i h.0 j (meets_back (label_at labels) h.0 i h.2) there

pub joins_as_many : (o : Option Name) (at : ℕ) (firsts after : List (Name × ℕ)) (old new : List ℕ) → JoinsBy o at firsts after old new → length new ≡ length old
joins_as_many None at firsts after old new h = ap length h.1
joins_as_many (Some w) at firsts after old new (inl h) = h.3.as_many
joins_as_many (Some w) at firsts after old new (inr h) = ap length h.2

-- of no labels, each is together with itself alone
pub none_together : (i j : ℕ) → AreTogether [] i j → i ≡ j
none_together i j t =
    let f = label_at [] in
    let none = λ (k : ℕ) (l : f k < k). let no : ⊥ = omega (arith, l) in no in
    leads_once f i i t.0 (there (none i)) t.1 ∙ leads_once f j t.0 j t.2 (there (none j))
