-- Asks without such as ask what an earlier one asks.
use Rattle.std.proofs.Common.{◌≡◌, List, [], ◌∷◌, ◌++◌, Some, refl, sym, ap, subst, ◌∙◌, inl, inr, append_assoc}
use Rattle.std.proofs.lemmas.List.{append-nil}
use Rattle.wac_types_base.specs.Graph.{Among}
use Rattle.wac_types_base.specs.Stated.{identifier_of}
use Rattle.wac_types_base.proofs.Adding.{Among-left, Among-right}
use Rattle.wac_composition.specs.Asks.{Ask}
use Rattle.wac_graph_asks.specs.Asked.{IsAskedBehind, no_more, asked, left_out}
use Rattle.wac_graph_asks.specs.AskedUses.{HasSame}

module _ {A : Type 0} where
  -- in two parts
  pub behind_then : {before xs ys us vs : List (Ask A)} → IsAskedBehind before xs ys → IsAskedBehind (before ++ ys) us vs → IsAskedBehind before (xs ++ us) (ys ++ vs)
  behind_then {before} {us = us} {vs = vs} no_more k = subst (λ l. IsAskedBehind l us vs) (append-nil before) k
  behind_then {before} {us = us} {vs = vs} (asked {list = list} a h) k = asked a (behind_then h (subst (λ l. IsAskedBehind l us vs) (sym (append_assoc before (a ∷ []) list)) k))
  behind_then (left_out a b o m n i h) k = left_out a b o m n i (behind_then h k)

  -- all are there before, each of an interface under its identifier
  pub behind_none : (before xs : List (Ask A)) → ((a : Ask A) → Among a xs → identifier_of a.item ≡ Some a.name) → ((a : Ask A) → Among a xs → HasSame before a) → IsAskedBehind before xs []
  behind_none before [] o h = no_more
  behind_none before (a ∷ xs) o h =
      let s = h a (inl refl) in
      left_out a s.other (o a (inl refl)) s.among s.name s.item (behind_none before xs (λ b m. o b (inr m)) (λ b m. h b (inr m)))

  -- none is left out
  pub behind_same : (before xs : List (Ask A)) → IsAskedBehind before xs xs
  behind_same before [] = no_more
  behind_same before (a ∷ xs) = asked a (behind_same (before ++ a ∷ []) xs)

  -- behind others that are all listed
  pub once_of_all : (named : List (Ask A)) {uses list : List (Ask A)} → IsAskedBehind named uses list → IsAskedBehind [] (named ++ uses) (named ++ list)
  once_of_all named h = behind_then (behind_same [] named) h

  -- each that is listed was to be asked
  pub listed_among : {before asks list : List (Ask A)} → IsAskedBehind before asks list → (c : Ask A) → Among c list → Among c asks
  listed_among no_more c m = absurd m
  listed_among (asked a h) c (inl s) = inl s
  listed_among (asked a h) c (inr m) = inr (listed_among h c m)
  listed_among (left_out a b o e n i h) c m = inr (listed_among h c m)

  -- with more before
  pub behind_more : (more : List (Ask A)) {before xs ys : List (Ask A)} → IsAskedBehind before xs ys → IsAskedBehind (more ++ before) xs ys
  behind_more more no_more = no_more
  behind_more more {before} (asked {asks = asks} {list = list} a h) = asked a (subst (λ l. IsAskedBehind l asks list) (sym (append_assoc more before (a ∷ []))) (behind_more more h))
  behind_more more {before} (left_out a b o m n i h) = left_out a b o (Among-right b more before m) n i (behind_more more h)

  pub same_more : {xs : List (Ask A)} {a : Ask A} (ys : List (Ask A)) → HasSame xs a → HasSame (xs ++ ys) a
  same_more {xs} ys h = record { other = h.other; among = Among-left h.other xs ys h.among; name = h.name; item = h.item }

  -- each that was to be asked is asked
  pub behind_has : {before xs ys : List (Ask A)} → IsAskedBehind before xs ys → (a : Ask A) → Among a xs → HasSame (before ++ ys) a
  behind_has no_more a m = absurd m
  behind_has {before} (asked {list = list} d h) a (inl s) = record { other = d; among = Among-right d before (d ∷ list) (inl refl); name = ap (λ b. b.name) (sym s); item = ap (λ b. b.item) (sym s) }
  behind_has {before} (asked {list = list} d h) a (inr m) = subst (λ l. HasSame l a) (append_assoc before (d ∷ []) list) (behind_has h a m)
  behind_has {before} {ys = ys} (left_out d b o e n i h) a (inl s) = record {
    other = b;
    among = Among-left b before ys e;
    name = n ∙ ap (λ b. b.name) (sym s);
    item = i ∙ ap (λ b. b.item) (sym s);
  }
  behind_has (left_out d b o e n i h) a (inr m) = behind_has h a m
