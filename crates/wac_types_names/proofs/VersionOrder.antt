-- Versions are in a total order, in which only equal parts tie.
use Rattle.std.proofs.Common.{◌≡◌, ◌≢◌, ℕ, List, refl, sym, ap, ◌∙◌}
use Rattle.std.specs.Cmp.{IsTotalOrder, nat_cmp_total, on_total, then_total}
use Rattle.std.specs.Ordering.{ordering_then, ordering_reverse, nat_cmp}
use Rattle.std.specs.FinMap.{IsAntisymmetric, nat_cmp-IsAntisymmetric}
use Rattle.std.specs.declared.cmp.Ordering.{Ordering}
use Rattle.std.specs.declared.cmp.Ordering.TheVariants.{Less, Equal, Greater}
use Rattle.semver.specs.Order.{pre_cmp}
use Rattle.semver.specs.OrderLaws.{pre_total, build_total, pre-anti, build-anti}
use Rattle.semver.specs.Parse.{Parts}
use Rattle.wac_types_names.specs.Versions.{version_cmp}

pub version_total : IsTotalOrder version_cmp
unfolding version_cmp
version_total =
    then_total (on_total (λ (p : Parts). p.0) nat_cmp_total) (then_total (on_total (λ (p : Parts). p.1) nat_cmp_total)
    (then_total (on_total (λ (p : Parts). p.2) nat_cmp_total) (then_total (on_total (λ (p : Parts). p.3) pre_total) (on_total (λ (p : Parts). p.4) build_total))))

then_first : (r s : Ordering) → ordering_then r s ≡ Equal → r ≡ Equal
then_first Less s e = cc e
then_first Equal s e = refl
then_first Greater s e = cc e

then_second : (r s : Ordering) → ordering_then r s ≡ Equal → s ≡ Equal
then_second Less s e = cc e
then_second Equal s e = e
then_second Greater s e = cc e

same_parts : (p q : Parts) → p.0 ≡ q.0 → p.1 ≡ q.1 → p.2 ≡ q.2 → p.3 ≡ q.3 → p.4 ≡ q.4 → p ≡ q
same_parts p q a b c d e =
    ap (λ (x : ℕ). let r : Parts = (x, p.1, p.2, p.3, p.4) in r) a ∙ ap (λ (x : ℕ). let r : Parts = (q.0, x, p.2, p.3, p.4) in r) b
    ∙ ap (λ (x : ℕ). let r : Parts = (q.0, q.1, x, p.3, p.4) in r) c ∙ ap (λ (x : List ℕ). let r : Parts = (q.0, q.1, q.2, x, p.4) in r) d
    ∙ ap (λ (x : List ℕ). let r : Parts = (q.0, q.1, q.2, q.3, x) in r) e

-- only equal versions tie
pub version_anti : IsAntisymmetric version_cmp
unfolding version_cmp
version_anti p q e =
    let a = then_first (nat_cmp p.0 q.0) _ e in
    let e1 = then_second (nat_cmp p.0 q.0) _ e in
    let b = then_first (nat_cmp p.1 q.1) _ e1 in
    let e2 = then_second (nat_cmp p.1 q.1) _ e1 in
    let c = then_first (nat_cmp p.2 q.2) _ e2 in
    let e3 = then_second (nat_cmp p.2 q.2) _ e2 in
    let d = then_first (pre_cmp p.3 q.3) _ e3 in
    let f = then_second (pre_cmp p.3 q.3) _ e3 in
    same_parts p q (nat_cmp-IsAntisymmetric _ _ a) (nat_cmp-IsAntisymmetric _ _ b) (nat_cmp-IsAntisymmetric _ _ c) (pre-anti _ _ d) (build-anti _ _ f)

turned : (r s : Ordering) → r ≡ ordering_reverse s → r ≡ Greater → s ≡ Less
turned r Less e g = refl
turned r Equal e g = absurd (cc (sym e ∙ g))
turned r Greater e g = absurd (cc (sym e ∙ g))

turned_back : (r s : Ordering) → r ≡ ordering_reverse s → s ≡ Less → r ≡ Greater
turned_back r s e l = e ∙ ap ordering_reverse l

-- what is above what is above
pub greater_trans : (p q r : Parts) → version_cmp p q ≡ Greater → version_cmp q r ≡ Greater → version_cmp p r ≡ Greater
greater_trans p q r g h =
    let o = version_total in
    turned_back _ _ (o.antisymm p r) (o.trans r q p (turned _ _ (o.antisymm q r) h) (turned _ _ (o.antisymm p q) g))

self_turned : (r : Ordering) → r ≡ ordering_reverse r → r ≢ Greater
self_turned Less e g = cc g
self_turned Equal e g = cc g
self_turned Greater e g = cc e

pub not_above_self : (p : Parts) → version_cmp p p ≢ Greater
not_above_self p = self_turned (version_cmp p p) (version_total.antisymm p p)

neither : (r s : Ordering) → r ≡ ordering_reverse s → r ≢ Greater → s ≢ Greater → r ≡ Equal
neither Less Greater e f g = absurd (g refl)
neither Less Less e f g = absurd (cc e)
neither Less Equal e f g = absurd (cc e)
neither Equal s e f g = refl
neither Greater s e f g = absurd (f refl)

-- of two neither of which is above the other, both are one
pub level : (p q : Parts) → version_cmp p q ≢ Greater → version_cmp q p ≢ Greater → p ≡ q
level p q f g = version_anti p q (neither _ _ (version_total.antisymm p q) f g)
