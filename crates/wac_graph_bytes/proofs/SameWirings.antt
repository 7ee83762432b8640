-- Wirings that are the same up to a renaming of instances.
use Rattle.std.specs.Prelude.{slice_get}
use Rattle.std.proofs.lemmas.Option.{same_Some}
use Rattle.std.proofs.Common.{◌≡◌, ℕ, List, Option, Some, None, refl, sym, ap, ◌∙◌}
use Rattle.wac_graph_bytes.specs.Wirings.{Source, Absent, Outer, Inst, Projection, Bundle, Definition, IsNamed, IsPlain, IsClosed, project, rename, renamed, Uses, Instantiation, Wiring, Same, IsWritten}
use Rattle.wac_types_base.specs.Entries.{Name}
use Rattle.wac_graph_bytes.proofs.Replace.{replace-replace, Uses-weaker, uses_any}

rename-rename : {I J K : Type 0} (f : I → J) (g : J → K) (s : Source I) → rename g (rename f s) ≡ rename (λ k. g (f k)) s
rename-rename f g s = replace-replace Outer (λ j. Inst (g j)) Outer (λ k. Inst (f k)) s

pub same_trans : {I J K : Type 0} (U : Wiring I) (V : Wiring J) (W : Wiring K) → Same U V → Same V W → Same U W
same_trans U V W r q = record {
  to = λ k. q.to (r.to k);
  from = λ j. r.from (q.from j);
  outers = λ n. r.outers n ∙ q.outers n;
  there = λ k x e.
      let a = r.there k x e in
      let b = q.there (r.to k) (renamed r.to x) a.1 in
      let both : renamed q.to (renamed r.to x) ≡ renamed (λ k. q.to (r.to k)) x = λ i. record { tag = x.tag; args = λ n. rename-rename r.to q.to (x.args n) i } in
      (ap r.from b.0 ∙ a.0, b.1 ∙ ap Some both);
  back = λ j y e.
      let b = q.back j y e in
      let a = r.back (q.from j) b.0 b.1 in
      (a.0, a.1, ap q.to a.2 ∙ b.2);
  exports = λ n. sym (rename-rename r.to q.to (U.exports n)) ∙ ap (rename q.to) (r.exports n) ∙ q.exports n;
}

-- renamings that leave what they rename

named_fixed : {I : Type 0} (h : I → I) (s : Source I) → IsNamed s → Uses (λ k. h k ≡ k) s → (n : Name) → rename h (Projection s n) ≡ Projection s n
named_fixed h Absent p u n = absurd p
named_fixed h (Outer m) p u n = refl
named_fixed h (Inst k) p u n = ap (λ j. Projection (Inst j) n) u
named_fixed h (Projection s m) p u n = ap (λ t. project t n) (named_fixed h s p u m)
named_fixed h (Bundle f) p u n = absurd p
named_fixed h (Definition t) p u n = refl

plain_fixed : {I : Type 0} (h : I → I) (s : Source I) → IsPlain s → Uses (λ k. h k ≡ k) s → rename h s ≡ s
plain_fixed h Absent p u = refl
plain_fixed h (Outer n) p u = refl
plain_fixed h (Inst k) p u = ap Inst u
plain_fixed h (Projection s n) p u = named_fixed h s p u n
plain_fixed h (Bundle f) p u = absurd p
plain_fixed h (Definition t) p u = refl

module _ {I J : Type 0} (V : Wiring I) (W : Wiring J) (closed : IsClosed V) (r : Same V W) where
  there_back : (s : Source I) → IsPlain s → Uses (λ k. (x : Instantiation I) × (V.at k ≡ Some x)) s → rename r.from (rename r.to s) ≡ s
  there_back s p u =
      rename-rename r.to r.from s ∙ plain_fixed (λ k. r.from (r.to k)) s p (Uses-weaker (λ k x. (r.there k x.0 x.1).0) s u)

  pub same_sym : Same W V
  same_sym = record {
    to = r.from;
    from = r.to;
    outers = λ n. sym (r.outers n);
    there = λ j y e.
        let b = r.back j y e in
        let x = b.0 in
        let is : renamed r.to x ≡ y = same_Some _ _ (sym (r.there (r.from j) x b.1).1 ∙ ap W.at b.2 ∙ e) in
        let turned : x ≡ renamed r.from (renamed r.to x) = λ i. record { tag = x.tag; args = λ n. sym (there_back (x.args n) (closed.args_plain (r.from j) x b.1 n) (closed.args_there (r.from j) x b.1 n)) i } in
        (b.2, b.1 ∙ ap Some (turned ∙ ap (renamed r.from) is));
    back = λ k x e. let t = r.there k x e in (renamed r.to x, t.1, t.0);
    exports = λ n. ap (rename r.from) (sym (r.exports n)) ∙ there_back (V.exports n) (closed.exports_plain n) (closed.exports_there n);
  }

pub same_refl : {I : Type 0} (V : Wiring I) → IsClosed V → Same V V
same_refl V closed = record {
  to = λ k. k;
  from = λ k. k;
  outers = λ n. refl;
  there = λ k x e.
      let unmoved : x ≡ renamed (λ k. k) x = λ i. record { tag = x.tag; args = λ n. sym (plain_fixed (λ k. k) (x.args n) (closed.args_plain k x e n) (uses_any (λ k. refl) (x.args n))) i } in
      (refl, e ∙ ap Some unmoved);
  back = λ j y e. (y, e, refl);
  exports = λ n. plain_fixed (λ k. k) (V.exports n) (closed.exports_plain n) (uses_any (λ k. refl) (V.exports n));
}

-- instances in an order

abbrev number_in : Option ℕ → ℕ
number_in None = 0
number_in (Some k) = k

pub orders_rename : (G W : Wiring ℕ) (order : List ℕ) (to : ℕ → ℕ) → IsWritten G W order to → Same G W
orders_rename G W order to w = record {
  to = to;
  from = λ j. number_in (slice_get order j);
  outers = w.outers;
  there = λ k x e. let a = w.each k x e in (ap number_in a.0, a.1);
  back = λ j y e. let a = w.only j y e in let is = ap number_in a.2 in (a.1, ap G.at is ∙ a.3, ap to is ∙ a.4);
  exports = w.exports;
}
