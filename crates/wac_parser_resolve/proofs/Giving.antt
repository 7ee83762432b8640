-- Arguments that are given.
use Rattle.std.proofs.Common.{◌≡◌, ℕ, List, [], ◌∷◌, ◌++◌, Bool, true, false, inl, inr, refl, sym, ap, subst, ◌∙◌}
use Rattle.std.proofs.lemmas.Bool.{or_right, or_left}
use Rattle.std.specs.Prelude.{string_bytes, ◌==◌}
use Rattle.std.specs.Cmp.Lexicographic.{pointwise, bytes_decides}
use Rattle.wac_types_base.specs.Entries.{Name, AreDistinct, has_name}
use Rattle.wac_types_base.specs.Graph.{Among}
use Rattle.wac_graph_core.specs.Graph.{Graph}
use Rattle.wac_parser_tree.specs.Trees.{Span}
use Rattle.wac_parser_refusals.specs.declared.refusal.Refusal.{Refusal}
use Rattle.wac_parser_refusals.specs.Causes.{◌>>◌, DuplicateInstantiationArg, pure, unless_clear}
use Rattle.wac_parser_refusals.specs.Outcomes.{IsHeld, IsRefusal, Refuses}
use Rattle.wac_parser_resolve.specs.declared.arguments.Given.{Given}
use Rattle.wac_parser_resolve.specs.Denoting as stated
use Rattle.wac_parser_resolve.specs.Denoting.{add_given, given_names}
use Rattle.wac_parser_resolve.specs.Holding.{AreGiven, InTurn, IsGiven, names_given}
use Rattle.wac_parser_resolve.proofs.Turns.{distinct_more, turn_more, none_by}
use Rattle.wac_types_base.proofs.Lists.{not_among}

-- ---- names

module _ (g : Graph) (ms : List ℕ) where
  pub same_names : (gs : List stated.Given) (xs : List Given) → InTurn (IsGiven g ms) gs xs → names_given xs ≡ given_names gs
  same_names [] [] t = refl
  same_names [] (x ∷ xs) t = absurd t
  same_names (a ∷ gs) [] t = absurd t
  same_names (a ∷ gs) (x ∷ xs) t =
      ap (λ (ns : List Name). string_bytes x.name ∷ ns) (same_names gs xs t.1) ∙ ap (λ (n : Name). n ∷ given_names gs) t.0.name

pub among_has : (ns : List Name) (n : Name) → Among n ns → has_name ns n ≡ true
among_has [] n m = absurd m
among_has (k ∷ ns) n (inl e) = or_left (pointwise ◌==◌ n k) (has_name ns n) ((bytes_decides n k).1 e)
among_has (k ∷ ns) n (inr m) = or_right (pointwise ◌==◌ n k) (has_name ns n) (among_has ns n m)

pub has_not : (ns : List Name) (n : Name) → (Among n ns → ⊥) → has_name ns n ≡ false
has_not [] n h = refl
has_not (k ∷ ns) n h = none_by (pointwise ◌==◌ n k) (has_name ns n) (λ e. h (inl ((bytes_decides n k).0 e))) (has_not ns n (λ m. h (inr m)))

pub given_more : (gs : List stated.Given) (a : stated.Given) → given_names (gs ++ a ∷ []) ≡ given_names gs ++ a.name ∷ []
given_more [] a = refl
given_more (x ∷ gs) a = ap (λ (ns : List Name). x.name ∷ ns) (given_more gs a)

-- ---- one more

module _ (g : Graph) (ms : List ℕ) (gs : List stated.Given) (xs : List Given) (all : AreGiven g ms gs xs) (a : stated.Given) (one : Given) (is : IsGiven g ms a one) where
  -- its name is new where it is so in the code
  given_by : has_name (names_given xs) (string_bytes one.name) ≡ has_name (given_names gs) a.name
  given_by = ap (λ (ns : List Name). has_name ns (string_bytes one.name)) (same_names g ms gs xs all.are) ∙ ap (has_name (given_names gs)) is.name

  pub one_more : has_name (given_names gs) a.name ≡ false → AreGiven g ms (gs ++ a ∷ []) (xs ++ one ∷ [])
  one_more new = record {
    are = turn_more (IsGiven g ms) gs xs a one all.are is;
    apart = subst (λ (ns : List Name). AreDistinct ns) (sym (given_more gs a)) (distinct_more (given_names gs) a.name all.apart (not_among (given_names gs) a.name new));
  }

  taken_by : (b : Bool) (e : Refusal) → b ≡ true → Refuses e (DuplicateInstantiationArg a.name) a.span → IsRefusal (unless_clear b (DuplicateInstantiationArg a.name) a.span >> pure (gs ++ a ∷ [])) e
  taken_by true e t r = r
  taken_by false e t r = absurd (cc t)

  pub give_refused : (b : Bool) (e : Refusal) → b ≡ has_name (names_given xs) (string_bytes one.name) → b ≡ true → Refuses e (DuplicateInstantiationArg (string_bytes one.name)) one.span → IsRefusal (add_given gs a) e
  give_refused b e t so r =
      taken_by (has_name (given_names gs) a.name) e (sym given_by ∙ sym t ∙ so)
      (subst (λ (s : Span). Refuses e (DuplicateInstantiationArg a.name) s) is.span (subst (λ (n : Name). Refuses e (DuplicateInstantiationArg n) one.span) is.name r))

  free_by : {B : Type 0} (ys : List Given) (v : B) (b : Bool) → b ≡ false → AreGiven g ms (gs ++ a ∷ []) ys → IsHeld (λ hs u. AreGiven g ms hs ys) (unless_clear b (DuplicateInstantiationArg a.name) a.span >> pure (gs ++ a ∷ [])) v
  free_by ys v true t r = absurd (cc t)
  free_by ys v false t r = r

  pub give_held : {B : Type 0} (ys : List Given) (v : B) (b : Bool) → b ≡ has_name (names_given xs) (string_bytes one.name) → b ≡ false → ys ≡ xs ++ one ∷ [] → IsHeld (λ hs u. AreGiven g ms hs ys) (add_given gs a) v
  give_held ys v b t so e =
      let new : has_name (given_names gs) a.name ≡ false = sym given_by ∙ sym t ∙ so in
      free_by ys v (has_name (given_names gs) a.name) new (subst (AreGiven g ms (gs ++ a ∷ [])) (sym e) (one_more new))
