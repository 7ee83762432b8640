-- What plugs give, plug by plug.
use Rattle.std.proofs.Common.{◌≡◌, ◌⊎◌, ℕ, suc, ◌+◌, ◌≤◌, List, [], ◌∷◌, ◌++◌, map, take, drop, length, slice_get, Some, refl, sym, ap, subst, ◌∙◌, inl, inr, arith}
use Rattle.std.proofs.lemmas.List.{append-nil, append_assoc, length-map, length-take-le, take-append-drop}
use Rattle.std.specs.Prelude.{string_bytes}
use Rattle.wac_types_base.specs.Entries.{Name}
use Rattle.wac_types_base.specs.Graph.{Among}
use Rattle.wac_types_base.specs.Stated.{Stated, imports_of, exports_of}
use Rattle.wac_types_base.proofs.Lists.{among_last, among_mapped}
use Rattle.wac_types_base.proofs.Loops.{map-map, map-append, mapped_next}
use Rattle.wac_types_base.proofs.Looked.{among-get, take-one_more}
use Rattle.wac_graph_plug.specs.declared.matching.Match.{Match}
use Rattle.wac_graph_plug.specs.declared.plan.WorldIn.{WorldIn}
use Rattle.wac_graph_plug.specs.declared.plan.Argument.{Argument}
use Rattle.wac_graph_plug.specs.declared.plan.Plan.{Plan}
use Rattle.wac_graph_plug.specs.declared.plan.PlanError.{PlanError}
use Rattle.wac_graph_plug.specs.Plugging.{AreMatchesOf, AreMatches, no_plugs, next_plug, imports_in, IsTwice, Conflict}
use Rattle.wac_graph_plug.specs.Plans.{world_in, matching_from, gives, given_from, IsPlanOf, PlanRefused, imports_given, Gives, AreOnce, GivesAll, IsGivenTwice, PlansOne}
use Rattle.wac_graph_plug.proofs.Causes.{imports_end, matches_more}

-- ---- names that stand twice

pub twice_end : (n y : Name) (xs : List Name) → IsTwice n (xs ++ y ∷ []) → IsTwice n xs ⊎ ((n ≡ y) × Among n xs)
twice_end n y [] (inl h) = absurd h.1
twice_end n y [] (inr h) = absurd h
twice_end n y (x ∷ xs) (inl h) = elim (among_last n y xs h.1) [ inl at ↦ inl (inl (h.0, at)) | inr e ↦ inr (e, inl h.0) ]
twice_end n y (x ∷ xs) (inr h) = elim (twice_end n y xs h) [ inl t ↦ inl (inr t) | inr r ↦ inr (r.0, inr r.1) ]

among_in_front : (n : Name) (xs ys : List Name) → Among n xs → Among n (xs ++ ys)
among_in_front n [] ys at = absurd at
among_in_front n (x ∷ xs) ys (inl e) = inl e
among_in_front n (x ∷ xs) ys (inr at) = inr (among_in_front n xs ys at)

pub twice_in_front : (n : Name) (xs ys : List Name) → IsTwice n xs → IsTwice n (xs ++ ys)
twice_in_front n [] ys t = absurd t
twice_in_front n (x ∷ xs) ys (inl h) = inl (h.0, among_in_front n xs ys h.1)
twice_in_front n (x ∷ xs) ys (inr t) = inr (twice_in_front n xs ys t)

-- ---- imports that are given something

pub imports_of_given : (k : ℕ) (ms : List Match) → imports_given (gives k ms) ≡ map (λ m. m.import) ms
imports_of_given k ms = map-map (λ (a : Argument). a.given.import) (λ (m : Match). record { plug = k; given = m }) ms

pub imports_added : (k : ℕ) (as_ : List Argument) (ms : List Match) → imports_given (as_ ++ gives k ms) ≡ imports_given as_ ++ map (λ m. m.import) ms
imports_added k as_ ms = map-append (λ (a : Argument). a.given.import) as_ (gives k ms) ∙ ap (λ ns. imports_given as_ ++ ns) (imports_of_given k ms)

pub once_more : (k : ℕ) (m : Match) (as_ bs : List Argument) → bs ≡ as_ ++ gives k (m ∷ []) → (Among m.import (imports_given as_) → ⊥) → AreOnce as_ → AreOnce bs
once_more k m as_ bs is fresh once i t =
    elim (twice_end i m.import (imports_given as_) (subst (IsTwice i) (ap imports_given is ∙ imports_added k as_ (m ∷ [])) t)) [
      | inl h ↦ once i h
      | inr h ↦ fresh (subst (λ n. Among n (imports_given as_)) h.0 h.1)
    ]

pub imports_all : (k : ℕ) (mss : List (List Match)) → imports_given (given_from k mss) ≡ imports_in mss
imports_all k [] = refl
imports_all k ([] ∷ mss) = imports_all k mss
imports_all k ((m ∷ ms) ∷ mss) =
    map-append (λ (a : Argument). a.given.import) (gives k (m ∷ ms)) (given_from (k + 1) mss)
    ∙ ap (λ ns. ns ++ imports_given (given_from (k + 1) mss)) (imports_of_given k (m ∷ ms))
    ∙ ap (λ ns. map (λ x. x.import) (m ∷ ms) ++ ns) (imports_all (k + 1) mss)

pub given_at : (as_ : List Argument) (i : ℕ) (a : Argument) → slice_get as_ i ≡ Some a → Among a.given.import (imports_given as_)
given_at as_ i a at = among_mapped (λ (x : Argument). x.given.import) as_ a (among-get as_ i a at)

pub none_given : (n : Name) (as_ : List Argument) (i : ℕ) (a : Argument) → slice_get as_ i ≡ Some a → (a.given.import ≡ n → ⊥) → (Among n (imports_given (take i as_)) → ⊥) → Among n (imports_given (take (i + 1) as_)) → ⊥
none_given n as_ i a at other none m =
    let more : imports_given (take (i + 1) as_) ≡ imports_given (take i as_) ++ a.given.import ∷ [] =
    ap imports_given (take-one_more as_ i a at) ∙ mapped_next (λ (x : Argument). x.given.import) (take i as_) a in
    elim (among_last n a.given.import (imports_given (take i as_)) (subst (Among n) more m)) [ inl h ↦ none h | inr e ↦ other (sym e) ]

-- ---- one plug more

pub matching_end : (k : ℕ) (mss : List (List Match)) (ms : List Match) → matching_from k (mss ++ ms ∷ []) ≡ matching_from k mss ++ matching_from (k + length mss) (ms ∷ [])
matching_end k [] ms = let e : k ≡ k + 0 = omega arith in ap (λ j. matching_from j (ms ∷ [])) e
matching_end k ([] ∷ mss) ms =
    let e : k + 1 + length mss ≡ k + length ([] ∷ mss) = omega arith in
    matching_end (k + 1) mss ms ∙ ap (λ j. matching_from (k + 1) mss ++ matching_from j (ms ∷ [])) e
matching_end k ((x ∷ xs) ∷ mss) ms =
    let e : k + 1 + length mss ≡ k + length ((x ∷ xs) ∷ mss) = omega arith in
    ap (λ l. k ∷ l) (matching_end (k + 1) mss ms ∙ ap (λ j. matching_from (k + 1) mss ++ matching_from j (ms ∷ [])) e)

pub given_end : (k j : ℕ) (mss : List (List Match)) (ms : List Match) → given_from k (mss ++ ms ∷ []) ≡ given_from k mss ++ given_from (k + length (matching_from j mss)) (ms ∷ [])
given_end k j [] ms = let e : k ≡ k + 0 = omega arith in ap (λ i. given_from i (ms ∷ [])) e
given_end k j ([] ∷ mss) ms = given_end k (j + 1) mss ms
given_end k j ((x ∷ xs) ∷ mss) ms =
    let ns = matching_from (j + 1) mss in
    let e : k + 1 + length ns ≡ k + length (j ∷ ns) = omega arith in
    ap (λ l. gives k (x ∷ xs) ++ l) (given_end (k + 1) (j + 1) mss ms ∙ ap (λ i. given_from (k + 1) mss ++ given_from i (ms ∷ [])) e)
    ∙ sym (append_assoc (gives k (x ∷ xs)) (given_from (k + 1) mss) (given_from (k + length (j ∷ ns)) (ms ∷ [])))

-- there are as many lists of matches as plugs
pub as_many : (socket : Stated) (ps : List Stated) (mss : List (List Match)) → AreMatches socket ps mss → length mss ≡ length ps
as_many socket [] [] no_plugs = refl
as_many socket [] (x ∷ mss) r = elim r [ ]
as_many socket (p ∷ ps) [] r = elim r [ ]
as_many socket (p ∷ ps) (x ∷ mss) (next_plug a r) = ap suc (as_many socket ps mss r)

-- ---- a plan with one plug more

given_imports : (mss : List (List Match)) (p : Plan) → IsPlanOf mss p → imports_given p.arguments.items ≡ imports_in mss
given_imports mss p is = ap imports_given is.arguments ∙ imports_all 0 mss

pub plan_next : (mss : List (List Match)) (ms : List Match) (at : ℕ) (old new : Plan) → at ≡ length mss → IsPlanOf mss old → PlansOne at ms old new → IsPlanOf (mss ++ ms ∷ []) new
plan_next mss ms at old new is plan one =
    let e : length (matching_from 0 mss) ≡ 0 + length (matching_from 0 mss) = omega arith in
    let arguments : new.arguments.items ≡ given_from 0 (mss ++ ms ∷ []) =
    one.arguments ∙ ap (λ ps. old.arguments.items ++ given_from (length ps) (ms ∷ [])) plan.plugs
    ∙ ap (λ as_. as_ ++ given_from (length (matching_from 0 mss)) (ms ∷ [])) plan.arguments
    ∙ ap (λ i. given_from 0 mss ++ given_from i (ms ∷ [])) e ∙ sym (given_end 0 0 mss ms) in
    let counted : at ≡ 0 + length mss = omega (arith, is) in
    let before : AreOnce old.arguments.items = λ i t. plan.once i (subst (IsTwice i) (given_imports mss old plan) t) in
    record {
      plugs = one.plugs ∙ ap (λ ps. ps ++ matching_from at (ms ∷ [])) plan.plugs
          ∙ ap (λ k. matching_from 0 mss ++ matching_from k (ms ∷ [])) counted ∙ sym (matching_end 0 mss ms);
      arguments = arguments;
      once = λ i t. one.once before i (subst (IsTwice i) (sym (ap imports_given arguments ∙ imports_all 0 (mss ++ ms ∷ []))) t);
    }

pub given_twice : (mss : List (List Match)) (ms : List Match) (p : Plan) (i : Name) → IsPlanOf mss p → IsTwice i (imports_given p.arguments.items ++ map (λ m. m.import) ms) → Conflict (mss ++ ms ∷ []) i
given_twice mss ms p i plan t = subst (IsTwice i) (ap (λ ns. ns ++ map (λ (m : Match). m.import) ms) (given_imports mss p plan) ∙ sym (imports_end mss ms)) t

pub no_plugs_planned : (p : Plan) → p.plugs.items ≡ [] → p.arguments.items ≡ [] → IsPlanOf [] p
no_plugs_planned p plugs arguments = record { plugs = plugs; arguments = arguments; once = λ i t. absurd t }

-- ---- what a plug gives, one after another

pub gives_none : (k : ℕ) (p : Plan) → GivesAll k [] p p
gives_none k p = record { plugs = refl; arguments = sym (append-nil p.arguments.items); once = λ o. o }

given_next : (k : ℕ) (ms : List Match) (i : ℕ) (m : Match) → slice_get ms i ≡ Some m → gives k (take (i + 1) ms) ≡ gives k (take i ms) ++ gives k (m ∷ [])
given_next k ms i m at = ap (gives k) (take-one_more ms i m at) ∙ mapped_next (λ (x : Match). record { plug = k; given = x }) (take i ms) m

pub gives_next : (k : ℕ) (ms : List Match) (i : ℕ) (m : Match) (old mid new : Plan) → slice_get ms i ≡ Some m → GivesAll k (take i ms) old mid → Gives k m mid new → GivesAll k (take (i + 1) ms) old new
gives_next k ms i m old mid new at all one = record {
  plugs = one.plugs ∙ all.plugs;
  arguments = one.arguments ∙ ap (λ as_. as_ ++ gives k (m ∷ [])) all.arguments ∙ append_assoc old.arguments.items (gives k (take i ms)) (gives k (m ∷ []))
      ∙ ap (λ as_. old.arguments.items ++ as_) (sym (given_next k ms i m at));
  once = λ o. once_more k m mid.arguments.items new.arguments.items one.arguments one.fresh (all.once o);
}

import_of : Match → Name
import_of m = m.import

cut : (ms : List Match) (i : ℕ) → ms ≡ take i ms ++ drop i ms
cut ms i = sym (take-append-drop i ms)

pub twice_given : (k : ℕ) (ms : List Match) (i : ℕ) (m : Match) (old mid : Plan) (e : PlanError) → slice_get ms i ≡ Some m → GivesAll k (take i ms) old mid → IsGivenTwice (m ∷ []) mid e → IsGivenTwice ms old e
unfolding import_of
twice_given k ms i m old mid (PlanError.PlugConflict s) at all t =
    let before = imports_given old.arguments.items in
    let given : imports_given mid.arguments.items ++ m.import ∷ [] ≡ before ++ map import_of (take (i + 1) ms) =
    ap (λ ns. ns ++ m.import ∷ []) (ap imports_given all.arguments ∙ imports_added k old.arguments.items (take i ms))
    ∙ append_assoc before (map import_of (take i ms)) (m.import ∷ [])
    ∙ ap (λ ns. before ++ ns) (sym (ap (map import_of) (take-one_more ms i m at) ∙ mapped_next import_of (take i ms) m)) in
    let whole : (before ++ map import_of (take (i + 1) ms)) ++ map import_of (drop (i + 1) ms) ≡ before ++ map import_of ms =
    append_assoc before (map import_of (take (i + 1) ms)) (map import_of (drop (i + 1) ms))
    ∙ ap (λ ns. before ++ ns) (sym (ap (map import_of) (cut ms (i + 1)) ∙ map-append import_of (take (i + 1) ms) (drop (i + 1) ms))) in
    subst (IsTwice (string_bytes s)) whole (twice_in_front (string_bytes s) (before ++ map import_of (take (i + 1) ms)) (map import_of (drop (i + 1) ms)) (subst (IsTwice (string_bytes s)) given t))
twice_given k ms i m old mid PlanError.NoPlugHappened at all t = t
twice_given k ms i m old mid PlanError.Memory at all t = tt

-- ---- the plugs in turn

module _ (plugs : List WorldIn) (socket : Stated) (at : ℕ) (p : WorldIn) (place : slice_get plugs at ≡ Some p) (within : at ≤ length plugs) (mss : List (List Match)) (ms : List Match)
    (are : AreMatches socket (map world_in (take at plugs)) mss) (found : AreMatchesOf (imports_of socket) (exports_of (world_in p)) ms) where
  pub counted_to : at ≡ length mss
  counted_to = sym (as_many socket (map world_in (take at plugs)) mss are ∙ length-map (take at plugs) world_in ∙ length-take-le at plugs within)

  pub are_next : AreMatches socket (map world_in (take (at + 1) plugs)) (mss ++ ms ∷ [])
  are_next =
      subst (λ ps. AreMatches socket ps (mss ++ ms ∷ [])) (sym (ap (map world_in) (take-one_more plugs at p place) ∙ mapped_next world_in (take at plugs) p))
      (matches_more (world_in p) ms are found)

  pub add_refused : (plan : Plan) (e : PlanError) → IsPlanOf mss plan → IsGivenTwice ms plan e → PlanRefused (map world_in plugs) socket e
  add_refused plan (PlanError.PlugConflict s) is t =
      record {
        first = map world_in (take (at + 1) plugs);
        others = map world_in (drop (at + 1) plugs);
        all = ap (map world_in) (sym (take-append-drop (at + 1) plugs)) ∙ map-append world_in (take (at + 1) plugs) (drop (at + 1) plugs);
        matches = mss ++ ms ∷ [];
        are = are_next;
        conflict = given_twice mss ms plan (string_bytes s) is t;
      }
  add_refused plan PlanError.NoPlugHappened is t = absurd t
  add_refused plan PlanError.Memory is t = tt
