-- All that is given is passed, one behind the other.
use Rattle.std.proofs.Common.{◌≡◌, ℕ, ◌+◌, ◌<◌, List, [], ◌∷◌, ◌++◌, map, drop, get_or, length, false, Ok, Err, inl, inr, refl, sym, ap, subst, ◌∙◌}
use Rattle.std.specs.Prelude.{⊤}
use Rattle.std.proofs.lemmas.List.{append_assoc, append-nil, drop_more}
use Rattle.wac_types_base.specs.Entries.{AreDistinct, Name, has_name, names_of}
use Rattle.wac_types_base.specs.Graph.{Among}
use Rattle.wac_types_base.specs.Stated.{Stated}
use Rattle.wac_types_names.specs.Keys.{Key}
use Rattle.wac_graph_core.specs.Graph.{Graph}
use Rattle.wac_parser_tree.specs.Trees.{Span}
use Rattle.wac_parser_refusals.specs.declared.refusal.Refusal.{Refusal}
use Rattle.wac_parser_refusals.specs.Causes.{Answer, ◌>>=◌, each}
use Rattle.wac_parser_refusals.specs.Outcomes.{IsHeld, IsRefusal}
use Rattle.wac_parser_refusals.proofs.Outcomes.{then_refused}
use Rattle.wac_parser_resolve.specs.declared.arguments.Given.{Given}
use Rattle.wac_parser_resolve.specs.Ascribing.{Denoted, State}
use Rattle.wac_parser_resolve.specs.Denoting as stated
use Rattle.wac_parser_resolve.specs.Denoting.{argument_fits, given_names}
use Rattle.wac_parser_resolve.specs.Holding.{InTurn, IsGiven}
use Rattle.wac_parser_resolve.specs.InInstances.{SaysMade, just_made, with_argument, with_arguments}
use Rattle.wac_parser_resolve.proofs.Giving.{has_not}

-- what is held was answered
pub answered : {B : Type 0} (q : Answer ⊤) (P : B → Type 0) (b : B) → IsHeld (λ u v. P v) q b → q ≡ Ok tt
answered (Ok u) P b h = refl
answered (Err c) P b h = absurd h

abbrev pub arguments_of : List stated.Given → List (Name × Denoted)
arguments_of gs = map (λ (a : stated.Given). (a.name, a.denoted)) gs

argument_names : (gs : List stated.Given) → names_of (arguments_of gs) ≡ given_names gs
argument_names [] = refl
argument_names (a ∷ gs) = ap (λ (ns : List Name). a.name ∷ ns) (argument_names gs)

arguments_more : (gs : List stated.Given) (a : stated.Given) → arguments_of (gs ++ a ∷ []) ≡ arguments_of gs ++ (a.name, a.denoted) ∷ []
arguments_more [] a = refl
arguments_more (b ∷ gs) a = ap (λ (xs : List (Name × Denoted)). (b.name, b.denoted) ∷ xs) (arguments_more gs a)

-- a name behind others is none of them, where all are distinct
apart_from : (done : List stated.Given) (a : stated.Given) (left : List stated.Given) → AreDistinct (given_names (done ++ a ∷ left)) → Among a.name (given_names done) → ⊥
apart_from [] a left d m = absurd m
apart_from (b ∷ done) a left d (inl e) = d.0 (subst (λ (n : Name). Among n (given_names (done ++ a ∷ left))) e (behind done))
  where
    behind : (gs : List stated.Given) → Among a.name (given_names (gs ++ a ∷ left))
    behind [] = inl refl
    behind (x ∷ gs) = inr (behind gs)
apart_from (b ∷ done) a left d (inr m) = apart_from done a left d.1 m

module _ (g : Graph) (noted : List (ℕ × Span)) (i : ℕ) (names : List (Name × ℕ)) (s : State) (k : Key) (w : Stated) (at : Span) (gs : List stated.Given) where
  abbrev ms : List ℕ
  ms = names_of (noted ++ (i, at) ∷ [])

  abbrev f : ⊤ → stated.Given → Answer ⊤
  f = argument_fits k w

  -- those of the first list are passed, and the answer is that of the others
  pub record ArePassedSo (h : Graph) (xs : List Given) : Type 0 where
    pub done : List stated.Given
    pub left : List stated.Given
    pub all : gs ≡ done ++ left
    pub given : InTurn (IsGiven g ms) left xs
    pub says : SaysMade h noted i names s (with_arguments (just_made k w at) done)
    pub rest : each f tt gs ≡ each f tt left

  pub passed_first : (h : Graph) (xs : List Given) → SaysMade h noted i names s (just_made k w at) → InTurn (IsGiven g ms) gs xs → ArePassedSo h xs
  passed_first h xs says given = record { done = []; left = gs; all = refl; given = given; says = says; rest = refl }

  module _ (h : Graph) (x : Given) (xs : List Given) (apart : AreDistinct (given_names gs)) (so : ArePassedSo h (x ∷ xs)) where
    -- what is passed next
    pub record IsNext : Type 0 where
      pub one : stated.Given
      pub left : List stated.Given
      pub is : so.left ≡ one ∷ left
      pub given : IsGiven g ms one x
      pub others : InTurn (IsGiven g ms) left xs
      pub new : has_name (names_of (arguments_of so.done)) one.name ≡ false

    pub passed_next : IsNext
    passed_next = by so.left refl so.given
      where
        by : (l : List stated.Given) → so.left ≡ l → InTurn (IsGiven g ms) l (x ∷ xs) → IsNext
        by [] e t = absurd t
        by (a ∷ l) e t = record {
          one = a;
          left = l;
          is = e;
          given = t.0;
          others = t.1;
          new =
              let distinct = subst (λ (ys : List stated.Given). AreDistinct (given_names ys)) (so.all ∙ ap (λ (ys : List stated.Given). so.done ++ ys) e) apart in
              ap (λ (ns : List Name). has_name ns a.name) (argument_names so.done) ∙ has_not (given_names so.done) a.name (apart_from so.done a l distinct);
        }

    pub passed_step : (j : Graph) (n : IsNext) → SaysMade j noted i names s (with_argument (with_arguments (just_made k w at) so.done) n.one) → f tt n.one ≡ Ok tt → ArePassedSo j xs
    passed_step j n says ok = record {
      done = so.done ++ n.one ∷ [];
      left = n.left;
      all = so.all ∙ ap (λ (ys : List stated.Given). so.done ++ ys) n.is ∙ sym (append_assoc so.done (n.one ∷ []) n.left);
      given = n.others;
      says = subst (λ (as_ : List (Name × Denoted)). SaysMade j noted i names s (record (just_made k w at) { arguments = as_ })) (sym (arguments_more so.done n.one)) says;
      rest = so.rest ∙ ap (each f tt) n.is ∙ ap (λ (r : Answer ⊤). r >>= λ u. each f u n.left) ok;
    }

    pub passed_stops : (n : IsNext) (e : Refusal) → IsRefusal (f tt n.one) e → IsRefusal (each f tt gs) e
    passed_stops n e r =
        subst (λ (q : Answer ⊤). IsRefusal q e) (sym (so.rest ∙ ap (each f tt) n.is)) (then_refused (λ u. each f u n.left) (f tt n.one) e r)

  pub passed_end : (h : Graph) → ArePassedSo h [] → IsHeld (λ (u v : ⊤). SaysMade h noted i names s (with_arguments (just_made k w at) gs)) (each f tt gs) (tt {0})
  passed_end h so = by so.left refl so.given
    where
      by : (l : List stated.Given) → so.left ≡ l → InTurn (IsGiven g ms) l [] → IsHeld (λ (u v : ⊤). SaysMade h noted i names s (with_arguments (just_made k w at) gs)) (each f tt gs) (tt {0})
      by [] e t =
          subst (λ (q : Answer ⊤). IsHeld (λ (u v : ⊤). SaysMade h noted i names s (with_arguments (just_made k w at) gs)) q (tt {0})) (sym (so.rest ∙ ap (each f tt) e))
          (subst (λ (ys : List stated.Given). SaysMade h noted i names s (with_arguments (just_made k w at) ys)) (sym (so.all ∙ ap (λ (ys : List stated.Given). so.done ++ ys) e ∙ append-nil so.done)) so.says)
      by (a ∷ l) e t = absurd t

  -- the next of a list that stands in the code
  pub passed_at : (h : Graph) (xs : List Given) (j : ℕ) (x : Given) → j < length xs → x ≡ get_or xs j x → ArePassedSo h (drop j xs) → ArePassedSo h (x ∷ drop (j + 1) xs)
  passed_at h xs j x lt is so = subst (λ (ys : List Given). ArePassedSo h ys) (drop_more xs j x lt ∙ ap (λ (y : Given). y ∷ drop (j + 1) xs) (sym is)) so
