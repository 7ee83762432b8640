use Rattle.std.proofs.Common.{◌≡◌, ℕ, zero, suc, ◌-◌, List, Err, refl, subst, arith}
use Rattle.wac_component.specs.declared.fault.FaultKind.TheVariants as kind
use Rattle.wac_component.specs.Rules.{fault}
use Rattle.wac_component.specs.Numbers.{digits, some_digits}
use Rattle.wac_component.specs.Reads.{Gives}
use Rattle.wac_component.proofs.numbers.+digits.Goals as goal

no_digits : (limit : ℕ) (s : List ℕ) → (digits 0 limit).read s ≡ Err (fault kind.Number s)
unfolding digits
no_digits limit s = refl

one_more : (most limit : ℕ) (s : List ℕ) → (most ≡ 0 → ⊥) → (some_digits (digits (most - 1) limit) limit).read s ≡ (digits most limit).read s
unfolding digits
one_more zero limit s n = absurd (n refl)
one_more (suc more) limit s n = let k : suc more - 1 ≡ more = omega arith in rw k refl

pub read_digits-returns-then-most-eq0 : goal.read_digits-returns-then-most-eq0
read_digits-returns-then-most-eq0 t c = rw (c.refuse.ensures, c.if-most-eq0.true) (no_digits c.args.limit c.args.bytes.now)

pub read_digits-returns : goal.read_digits-returns
read_digits-returns t c = subst (λ read. Gives (λ x. (x.0, x.1.now)) c.read_some_digits.result read) (one_more c.args.most c.args.limit c.args.bytes.now c.if-most-eq0.false) c.read_some_digits.ensures
