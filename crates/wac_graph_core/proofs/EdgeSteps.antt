-- Edges that are added and dropped.
use Rattle.std.proofs.Common.{◌≡◌, ◌≢◌, ◌⊎◌, ℕ, suc, ◌+◌, ◌<◌, Bool, true, false, ◌==◌, List, [], ◌∷◌, cond, refl, sym, ap, subst, ◌∙◌, inl, inr, arith}
use Rattle.wac_types_base.specs.Entries.{Name}
use Rattle.wac_types_base.specs.Graph.{Among}
use Rattle.wac_graph_core.specs.declared.edge.Edge.{Edge}
use Rattle.wac_graph_core.specs.declared.edge.Label.{Label}
use Rattle.wac_graph_core.specs.declared.edge.Follow.{Follow}
use Rattle.wac_graph_core.specs.Edges.{alias_edge, argument_edge, HasAlias, HasArgument, follows, has, at_start, along, IsReached, IsAcyclic, AreKeyed}
use Rattle.wac_graph_core.specs.Steps.{AddsEdge}
use Rattle.wac_graph_core.proofs.Found.{eq_same, eq_false}

pub edge_from : {d e : Edge} → d ≡ e → d.from ≡ e.from
edge_from h = ap (λ (e : Edge). e.from) h

pub edge_to : {d e : Edge} → d ≡ e → d.to ≡ e.to
edge_to h = ap (λ (e : Edge). e.to) h

pub edge_label : {d e : Edge} → d ≡ e → d.label ≡ e.label
edge_label h = ap (λ (e : Edge). e.label) h

pub alias_name : (m n : Name) → Label.Alias m ≡ Label.Alias n → m ≡ n
alias_name m n h = cc

pub argument_name : (m n : Name) → Label.Argument m ≡ Label.Argument n → m ≡ n
argument_name m n h = cc

-- ---- no cycles

pub IsAcyclic-by : (es new : List Edge) → ((d : Edge) → Among d new → follows Follow.Flow d.label ≡ true → Among d es) → IsAcyclic es → IsAcyclic new
IsAcyclic-by es new sub ranked = (ranked.0, record { rises = λ d at is. ranked.1.rises d (sub d at is) is })

-- an edge to a node that no edge leaves or enters
pub IsAcyclic-leaf : (es new : List Edge) (e : Edge) → AddsEdge es new e → ((d : Edge) → Among d es → (d.from ≢ e.to) × (d.to ≢ e.to)) → e.from ≢ e.to → IsAcyclic es → IsAcyclic new
IsAcyclic-leaf es new e adds apart away ranked =
    let rank : ℕ → ℕ = λ j. cond (j == e.to) (suc (ranked.0 e.from)) (ranked.0 j) in
    let at_end : rank e.to ≡ suc (ranked.0 e.from) = ap (λ b. cond b (suc (ranked.0 e.from)) (ranked.0 e.to)) (eq_same e.to) in
    let other : (j : ℕ) → j ≢ e.to → rank j ≡ ranked.0 j = λ j ne. ap (λ b. cond b (suc (ranked.0 e.from)) (ranked.0 j)) (eq_false j e.to ne) in (
      rank,
      record {
        rises = λ d at is. elim ((adds d).0 at) [
          | inl old ↦
              let lt = ranked.1.rises d old is in
              let a = other d.from (apart d old).0 in
              let b = other d.to (apart d old).1 in
              omega (arith, lt, a, b)
          | inr same ↦
              let a = ap rank (edge_from same) ∙ other e.from away in
              let b = ap rank (edge_to same) ∙ at_end in
              omega (arith, a, b)
        ];
      },
    )

-- an edge to a node from which its start is not reached
pub IsAcyclic-between : (es new : List Edge) (e : Edge) (seen : List ℕ) → AddsEdge es new e → IsReached Follow.Flow es (e.to ∷ []) seen → has seen e.from ≡ false → IsAcyclic es → IsAcyclic new
IsAcyclic-between es new e seen adds reached away ranked =
    let more : ℕ = suc (ranked.0 e.from) in
    let rank : ℕ → ℕ = λ j. cond (has seen j) (more + ranked.0 j) (ranked.0 j) in
    let inside : (j : ℕ) → has seen j ≡ true → rank j ≡ more + ranked.0 j = λ j h. ap (λ b. cond b (more + ranked.0 j) (ranked.0 j)) h in
    let outside : (j : ℕ) → has seen j ≡ false → rank j ≡ ranked.0 j = λ j h. ap (λ b. cond b (more + ranked.0 j) (ranked.0 j)) h in
    let start : has (e.to ∷ []) e.to ≡ true = ap (λ b. cond b true false) (eq_same e.to) in (
      rank,
      record {
        rises = λ d at is. elim ((adds d).0 at) [
          | inl old ↦ old_rises more ranked.0 (has seen d.from) (has seen d.to) d (λ h. reached.complete d.to (along d (reached.sound d.from h) old is refl refl)) (ranked.1.rises d old is)
          | inr same ↦
              let a = ap rank (edge_from same) ∙ outside e.from away in
              let b = ap rank (edge_to same) ∙ inside e.to (reached.complete e.to (at_start start)) in
              omega (arith, a, b)
        ];
      },
    )
  where
    old_rises : (more : ℕ) (rank : ℕ → ℕ) (b c : Bool) (d : Edge) → (b ≡ true → c ≡ true) → rank d.from < rank d.to → cond b (more + rank d.from) (rank d.from) < cond c (more + rank d.to) (rank d.to)
    old_rises more rank true true d h lt = omega arith
    old_rises more rank true false d h lt = absurd (cc (h refl))
    old_rises more rank false true d h lt = omega arith
    old_rises more rank false false d h lt = lt

-- ---- keys

pub AreKeyed-by : (es new : List Edge) → ((i k : ℕ) (n : Name) → HasAlias new i n k → HasAlias es i n k) → ((i a : ℕ) (n : Name) → HasArgument new i n a → HasArgument es i n a) → AreKeyed es → AreKeyed new
AreKeyed-by es new aliases arguments is =
    record {
      one_alias = λ i j k n a b. is.one_alias i j k n (aliases i j n a) (aliases i k n b);
      one_source = λ i j k m n a b. is.one_source i j k m n (aliases i k m a) (aliases j k n b);
      one_argument = λ i a b n p q. is.one_argument i a b n (arguments i a n p) (arguments i b n q);
    }

pub AreKeyed-sub : (es new : List Edge) → ((d : Edge) → Among d new → Among d es) → AreKeyed es → AreKeyed new
AreKeyed-sub es new sub is = AreKeyed-by es new (λ i k n. sub (alias_edge i k n)) (λ i a n. sub (argument_edge a i n)) is

-- an alias of its own, to a node that is the alias of nothing yet
module _ (es new : List Edge) (i k : ℕ) (n : Name) (adds : AddsEdge es new (alias_edge i k n)) where
  old_argument : (j a : ℕ) (m : Name) → HasArgument new j m a → HasArgument es j m a
  old_argument j a m at = elim ((adds (argument_edge a j m)).0 at) [ inl old ↦ old | inr same ↦ absurd (other_label (edge_label same)) ]
    where
      other_label : Label.Argument m ≡ Label.Alias n → ⊥
      other_label h = absurd (cc)

  pub AreKeyed-alias : ((j : ℕ) → HasAlias es i n j → ⊥) → ((j : ℕ) (m : Name) → HasAlias es j m k → ⊥) → AreKeyed es → AreKeyed new
  AreKeyed-alias none free is =
      record {
        one_alias = λ x y z m a b. by_alias x y z m ((adds (alias_edge x y m)).0 a) ((adds (alias_edge x z m)).0 b);
        one_source = λ x y z l m a b. by_source x y z l m ((adds (alias_edge x z l)).0 a) ((adds (alias_edge y z m)).0 b);
        one_argument = λ j a b m p q. is.one_argument j a b m (old_argument j a m p) (old_argument j b m q);
      }
    where
      moved : (x y : ℕ) (m : Name) → HasAlias es x m y → x ≡ i → m ≡ n → HasAlias es i n y
      moved x y m at p q = subst (λ x. HasAlias es x n y) p (subst (λ m. HasAlias es x m y) q at)

      by_alias : (x y z : ℕ) (m : Name) → Among (alias_edge x y m) es ⊎ (alias_edge x y m ≡ alias_edge i k n) → Among (alias_edge x z m) es ⊎ (alias_edge x z m ≡ alias_edge i k n) → y ≡ z
      by_alias x y z m (inl a) (inl b) = is.one_alias x y z m a b
      by_alias x y z m (inl a) (inr q) = absurd (none y (moved x y m a (edge_from q) (alias_name m n (edge_label q))))
      by_alias x y z m (inr p) (inl b) = absurd (none z (moved x z m b (edge_from p) (alias_name m n (edge_label p))))
      by_alias x y z m (inr p) (inr q) = edge_to p ∙ sym (edge_to q)

      by_source : (x y z : ℕ) (l m : Name) → Among (alias_edge x z l) es ⊎ (alias_edge x z l ≡ alias_edge i k n) → Among (alias_edge y z m) es ⊎ (alias_edge y z m ≡ alias_edge i k n) → (x ≡ y) × (l ≡ m)
      by_source x y z l m (inl a) (inl b) = is.one_source x y z l m a b
      by_source x y z l m (inl a) (inr q) = absurd (free x l (subst (λ z. HasAlias es x l z) (edge_to q) a))
      by_source x y z l m (inr p) (inl b) = absurd (free y m (subst (λ z. HasAlias es y m z) (edge_to p) b))
      by_source x y z l m (inr p) (inr q) = (edge_from p ∙ sym (edge_from q), alias_name l n (edge_label p) ∙ sym (alias_name m n (edge_label q)))

-- an argument to an import that had none
module _ (es new : List Edge) (a i : ℕ) (n : Name) (adds : AddsEdge es new (argument_edge a i n)) where
  old_alias : (j k : ℕ) (m : Name) → HasAlias new j m k → HasAlias es j m k
  old_alias j k m at = elim ((adds (alias_edge j k m)).0 at) [ inl old ↦ old | inr same ↦ absurd (other_label (edge_label same)) ]
    where
      other_label : Label.Alias m ≡ Label.Argument n → ⊥
      other_label h = absurd (cc)

  pub AreKeyed-argument : ((b : ℕ) → HasArgument es i n b → ⊥) → AreKeyed es → AreKeyed new
  AreKeyed-argument none is =
      record {
        one_alias = λ x y z m p q. is.one_alias x y z m (old_alias x y m p) (old_alias x z m q);
        one_source = λ x y z l m p q. is.one_source x y z l m (old_alias x z l p) (old_alias y z m q);
        one_argument = λ j b c m p q. by_argument j b c m ((adds (argument_edge b j m)).0 p) ((adds (argument_edge c j m)).0 q);
      }
    where
      moved : (j b : ℕ) (m : Name) → HasArgument es j m b → j ≡ i → m ≡ n → HasArgument es i n b
      moved j b m at p q = subst (λ j. HasArgument es j n b) p (subst (λ m. HasArgument es j m b) q at)

      by_argument : (j b c : ℕ) (m : Name) → Among (argument_edge b j m) es ⊎ (argument_edge b j m ≡ argument_edge a i n) → Among (argument_edge c j m) es ⊎ (argument_edge c j m ≡ argument_edge a i n) → b ≡ c
      by_argument j b c m (inl p) (inl q) = is.one_argument j b c m p q
      by_argument j b c m (inl p) (inr q) = absurd (none b (moved j b m p (edge_to q) (argument_name m n (edge_label q))))
      by_argument j b c m (inr p) (inl q) = absurd (none c (moved j c m q (edge_to p) (argument_name m n (edge_label p))))
      by_argument j b c m (inr p) (inr q) = edge_from p ∙ sym (edge_from q)
