-- Lists of values, each read or refused as nested too deep.
use Rattle.std.proofs.Common.{◌≡◌, ℕ, zero, suc, ◌≤◌, inl, inr, Bool, true, false, List, [], ◌∷◌, Some, Ok, refl, ap, subst, arith}
use Rattle.std.proofs.lemmas.Bool.{false_from_ne_true}
use Rattle.wac_parser_lexer.specs.declared.token.Token.{Token}
use Rattle.wac_parser_lexer.specs.declared.token.Token.TheVariants as k
use Rattle.wac_parser_lexer.specs.Items.{Input}
use Rattle.wac_parser_tree.specs.Trees as t
use Rattle.wac_parser_grammar.specs.Ahead.{same_token, is_any, sees, sees_any}
use Rattle.wac_parser_grammar.specs.Rules.{Rule, behind, read_list, list_of, IsListOf, read_all, all_of, IsAll, has_item, left}
use Rattle.wac_parser_grammar.specs.Forms.{Part, At, Row, Further, Separated}
use Rattle.wac_parser_grammar.proofs.Lists.{begun_some}
use Rattle.wac_parser_grammar.proofs.Exact.{Exact, Takes, behind_exact, token_takes}
use Rattle.wac_parser_grammar.proofs.TableLaws.{apart}
use Rattle.wac_parser_grammar.proofs.TableBack.{seen, behind_end, behind_comma}
use Rattle.wac_parser_grammar.proofs.TableBackResources.{behind_none}
use Rattle.wac_parser_grammar.proofs.ExactLists.{some_item}
use Rattle.wac_parser.proofs.OrDeep.{Meets, met, deep}

module _ {X : Type 0} (p : Rule X) (F : X → Part) (Stops : Input → Type 0) (first : List Token) (until : Token)
    (meets : (s : Input) (x : X) (r : Input) → F x s r → Stops r → Meets p s x r) (begins : (s : Input) (x : X) (r : Input) → F x s r → sees_any first s ≡ true)
    (exact : Exact p) (takes : Takes p) (apart_end : is_any first (Some until) ≡ false) where
  -- the list, by at most so many values
  abbrev listed : Bool → ℕ → Rule (List X)
  listed commas n = record { Is = IsListOf p.Is until commas; read = λ s. read_list p.read first until commas n s }

  no_more : (commas : Bool) (n : ℕ) (s : Input) → sees until s ≡ true → Meets (listed commas n) s [] s
  unfolding read_list
  no_more commas zero s e = met (rw e refl)
  no_more commas (suc n) s e = met (rw e refl)

  -- behind a value, the rest of the list
  abbrev Goes : Bool → ℕ → List X → Input → Input → Type 0
  Goes commas n xs m r = (a : Input) × ((behind until commas).read m ≡ Ok (tt, a)) × Meets (listed commas n) a xs r

  put : (commas : Bool) (n : ℕ) (x : X) (xs : List X) (s m a r : Input) → sees until s ≡ false → sees_any first s ≡ true → p.read s ≡ Ok (x, m) → (behind until commas).read m ≡ Ok (tt, a)
      → Meets (listed commas n) a xs r → Meets (listed commas (suc n)) s (x ∷ xs) r
  unfolding read_list
  put commas n x xs s m a r more begun g b (met h) = met (rw (more, begun, g, b, h) refl)
  put commas n x xs s m a r more begun g b (deep span h) = deep span (rw (more, begun, g, b, h) refl)

  one_by : (commas : Bool) (n : ℕ) (x : X) (xs : List X) (s m r : Input) → left s ≤ suc n → sees until s ≡ false → sees_any first s ≡ true → Meets p s x m
      → ((j : ℕ) → left m ≤ j → Goes commas j xs m r) → Meets (listed commas (suc n)) s (x ∷ xs) r
  unfolding read_list
  one_by commas n x xs s m r few more begun (deep span g) rest = deep span (rw (more, begun, g) refl)
  one_by commas n x xs s m r few more begun (met g) rest =
      let fewer = takes.takes s x m (exact.sound s x m g) in
      let b = rest n (omega (arith, few, fewer)) in
      put commas n x xs s m b.0 r more begun g b.1 b.2

  one_met : (commas : Bool) (n : ℕ) (x : X) (xs : List X) (s m r : Input) → left s ≤ n → F x s m → Stops m → ((j : ℕ) → left m ≤ j → Goes commas j xs m r)
      → Meets (listed commas n) s (x ∷ xs) r
  one_met commas zero x xs s m r few h stop rest = let some = begun_some first s (begins s x m h) in absurd (omega (arith, some, few))
  one_met commas (suc n) x xs s m r few h stop rest =
      let begun = begins s x m h in
      let more = false_from_ne_true (sees until s) (λ f. apart until first s apart_end f begun) in
      one_by commas n x xs s m r few more begun (meets s x m h stop) rest

  whole : (commas : Bool) (xs : List X) (s r : Input) → Meets (listed commas (left s)) s xs r → Meets (list_of p first until commas) s xs r
  whole commas xs s r (met h) = met h
  whole commas xs s r (deep span h) = deep span h

  -- ---- without commas

  row_by : (n : ℕ) (xs : List X) (s r e : Input) (span : t.Span) → ((i : Input) → Stops i) → left s ≤ n → Row F xs s r → At until span r e → Meets (listed false n) s xs r
  row_by n [] s r e span stop few h at = let P : Input → Type 0 = λ (i : Input). Meets (listed false n) i [] r in subst P h (no_more false n r (seen until span r e at))
  row_by n (x ∷ xs) s r e span stop few h at =
      one_met false n x xs s h.0 r few h.1 (stop h.0) (λ j room. (h.0, (behind_exact until false).complete h.0 tt h.0 (behind_none until h.0), row_by j xs h.0 r e span stop room h.2 at))

  pub row_met : ((i : Input) → Stops i) → (xs : List X) (s r e : Input) (span : t.Span) → Row F xs s r → At until span r e → Meets (list_of p first until false) s xs r
  row_met stop xs s r e span h at = whole false xs s r (row_by (left s) xs s r e span stop (omega arith) h at)

  -- ---- with commas

  module _ (at_comma : (span : t.Span) (s m : Input) → At k.Comma span s m → Stops s) (at_end : (span : t.Span) (s m : Input) → At until span s m → Stops s)
      (apart_comma : same_token k.Comma until ≡ false) where
    further_stops : (xs : List X) (m r e : Input) (span : t.Span) → Further F xs m r → At until span r e → Stops m
    further_stops [] m r e span h at = elim h [ inl w ↦ at_comma w.0 m r w.1 | inr w ↦ subst Stops w (at_end span r e at) ]
    further_stops (x ∷ xs) m r e span h at = at_comma h.1.0 m h.0 h.1.1

    further_met : (n : ℕ) (xs : List X) (m r e : Input) (span : t.Span) → left m ≤ n → Further F xs m r → At until span r e → Goes true n xs m r
    further_met n [] m r e span few h at =
        let end = no_more true n r (seen until span r e at) in
        let P : Input → Type 0 = λ (i : Input). Goes true n [] i r in
        elim h [
          | inl w ↦ (r, (behind_exact until true).complete m tt r (behind_comma until w.0 m r apart_comma w.1), end)
          | inr w ↦ subst P w (r, (behind_exact until true).complete r tt r (behind_end until span r e at), end)
        ]
    further_met n (x ∷ xs) m r e span few h at =
        let fewer = (token_takes k.Comma).takes m h.1.0 h.0 h.1.1 in (
          h.0,
          (behind_exact until true).complete m tt h.0 (behind_comma until h.1.0 m h.0 apart_comma h.1.1),
          one_met true n x xs h.0 h.2.0 r (omega (arith, few, fewer)) h.2.1 (further_stops xs h.2.0 r e span h.2.2 at) (λ j room. further_met j xs h.2.0 r e span room h.2.2 at),
        )

    pub list_met : (xs : List X) (s r e : Input) (span : t.Span) → Separated F xs s r → At until span r e → Meets (list_of p first until true) s xs r
    list_met [] s r e span h at =
        let P : Input → Type 0 = λ (i : Input). Meets (list_of p first until true) i [] r in
        subst P h (whole true [] r r (no_more true (left r) r (seen until span r e at)))
    list_met (x ∷ xs) s r e span h at =
        whole true (x ∷ xs) s r (one_met true (left s) x xs s h.0 r (omega arith) h.1 (further_stops xs h.0 r e span h.2 at) (λ j room. further_met j xs h.0 r e span room h.2 at))

-- ---- to the end

module _ {X : Type 0} (p : Rule X) (F : X → Part) (first : List Token)
    (meets : (s : Input) (x : X) (r : Input) → F x s r → Meets p s x r) (begins : (s : Input) (x : X) (r : Input) → F x s r → sees_any first s ≡ true)
    (exact : Exact p) (takes : Takes p) where
  abbrev alls : ℕ → Rule (List X)
  alls n = record { Is = IsAll p.Is; read = λ s. read_all p.read n s }

  none_left : (n : ℕ) (s : Input) → s.items ≡ [] → Meets (alls n) s [] s
  unfolding read_all
  none_left zero s e = met refl
  none_left (suc n) s e = met (rw (ap has_item e) refl)

  put_all : (n : ℕ) (x : X) (xs : List X) (s m r : Input) → has_item s.items ≡ true → p.read s ≡ Ok (x, m) → Meets (alls n) m xs r → Meets (alls (suc n)) s (x ∷ xs) r
  unfolding read_all
  put_all n x xs s m r more g (met h) = met (rw (more, g, h) refl)
  put_all n x xs s m r more g (deep span h) = deep span (rw (more, g, h) refl)

  all_one : (n : ℕ) (x : X) (xs : List X) (s m r : Input) → left s ≤ suc n → has_item s.items ≡ true → Meets p s x m → ((j : ℕ) → left m ≤ j → Meets (alls j) m xs r)
      → Meets (alls (suc n)) s (x ∷ xs) r
  unfolding read_all
  all_one n x xs s m r few more (deep span g) rest = deep span (rw (more, g) refl)
  all_one n x xs s m r few more (met g) rest =
      let fewer = takes.takes s x m (exact.sound s x m g) in
      put_all n x xs s m r more g (rest n (omega (arith, few, fewer)))

  all_by : (n : ℕ) (xs : List X) (s r : Input) → left s ≤ n → Row F xs s r → r.items ≡ [] → Meets (alls n) s xs r
  all_by n [] s r few h end = let P : Input → Type 0 = λ (i : Input). Meets (alls n) i [] r in subst P h (none_left n r end)
  all_by zero (x ∷ xs) s r few h end = let some = begun_some first s (begins s x h.0 h.1) in absurd (omega (arith, some, few))
  all_by (suc n) (x ∷ xs) s r few h end =
      let some = begun_some first s (begins s x h.0 h.1) in
      all_one n x xs s h.0 r few (some_item s.items some) (meets s x h.0 h.1) (λ j room. all_by j xs h.0 r room h.2 end)

  all_whole : (xs : List X) (s r : Input) → Meets (alls (left s)) s xs r → Meets (all_of p) s xs r
  all_whole xs s r (met h) = met h
  all_whole xs s r (deep span h) = deep span h

  pub all_met : (xs : List X) (s r : Input) → Row F xs s r → r.items ≡ [] → Meets (all_of p) s xs r
  all_met xs s r h end = all_whole xs s r (all_by (left s) xs s r (omega arith) h end)
