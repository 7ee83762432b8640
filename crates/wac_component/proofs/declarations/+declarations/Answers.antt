use Rattle.std.proofs.Common.{◌≡◌, ℕ, zero, suc, ◌-◌, Bool, true, false, List, [], ◌∷◌, ◌++◌, map, Ok, Err, refl, sym, subst, arith}
use Rattle.std.proofs.lemmas.Result.{err_from_is_err_and}
use Rattle.std.proofs.lemmas.List.{map_push}
use Rattle.wac_component.specs.declared.fault.FaultKind.TheVariants as kind
use Rattle.wac_component.specs.Rules.{Rule, byte_at, fault}
use Rattle.wac_component.specs.Numbers.{vec}
use Rattle.wac_component.specs.Entries.{Declaration, ComponentType, InstanceType, chain}
use Rattle.wac_component.specs.Declarations.{inner_type, declaration, declarations}
use Rattle.wac_component.specs.Views.{declaration_view}
use Rattle.wac_component.specs.Reads.{Gives}
use Rattle.wac_component.proofs.Steps.{byte_sound}
use Rattle.wac_component.proofs.Loops.{goes_on, ends, is_done}
use Rattle.wac_component.proofs.Rows.{component_is, instance_is}
use Rattle.wac_component.proofs.declarations.+declarations.Goals as goal

no_levels : (imports : Bool) (s : List ℕ) → (declarations 0 imports).read s ≡ Err (fault kind.Depth s)
unfolding declarations
no_levels imports s = refl

one_level : (levels : ℕ) (imports : Bool) (s : List ℕ) → (levels ≡ 0 → ⊥) → (vec (declaration (declarations (levels - 1)) imports)).read s ≡ (declarations levels imports).read s
unfolding declarations
one_level zero imports s n = absurd (n refl)
one_level (suc more) imports s n = let k : suc more - 1 ≡ more = omega arith in rw k refl

in_component : (inner : Bool → Rule (List Declaration)) (bytes rest after : List ℕ) (b : ℕ) (ds : List Declaration) → byte_at bytes ≡ Ok (b, rest) → b ≡ 65
    → (inner true).read rest ≡ Ok (ds, after) → (inner_type inner).read bytes ≡ Ok (ComponentType (chain ds), after)
unfolding inner_type
in_component inner bytes rest after b ds h is e = rw (byte_sound bytes b rest h, is, e) refl

in_instance : (inner : Bool → Rule (List Declaration)) (bytes rest after : List ℕ) (b : ℕ) (ds : List Declaration) → byte_at bytes ≡ Ok (b, rest) → b ≡ 66
    → (inner false).read rest ≡ Ok (ds, after) → (inner_type inner).read bytes ≡ Ok (InstanceType (chain ds), after)
unfolding inner_type
in_instance inner bytes rest after b ds h is e = rw (byte_sound bytes b rest h, is, e) refl

pub read_declarations-returns-then-levels-eq0 : goal.read_declarations-returns-then-levels-eq0
read_declarations-returns-then-levels-eq0 t c = rw (c.refuse.ensures, c.if-levels-eq0.true) (no_levels c.args.imports c.args.bytes.now)

pub read_declarations-returns : goal.read_declarations-returns
read_declarations-returns t c =
    subst (λ read. Gives (λ x. (map declaration_view x.0.items, x.1.now)) c.read_some_declarations.result read) (one_level c.args.levels c.args.imports c.args.bytes.now c.if-levels-eq0.false) c.read_some_declarations.ensures

pub read_some_declarations-returns-in_err-value : goal.read_some_declarations-returns-in_err-value
read_some_declarations-returns-in_err-value t c =
    let one = declaration (declarations c.args.levels) c.args.imports in
    let p = err_from_is_err_and c.from_residual-in_err-value.result c.from_residual-in_err-value.ensures.1 in
    rw (p.1, p.2) (ends one c.in_err-value.field-0.0 (map declaration_view c.loop.values.items) c.in_ok-count.count c.loop.counter c.loop.rest.now ((vec one).read c.args.bytes.now) c.loop-test.true c.in_err-value.ensures c.loop.invariant)

pub read_some_declarations-loop-preserved : goal.read_some_declarations-loop-preserved
read_some_declarations-loop-preserved t c =
    let one = declaration (declarations c.args.levels) c.args.imports in
    let x = c.in_ok-value.value in
    let e : map declaration_view c.push.new.self.items ≡ map declaration_view c.loop.values.items ++ declaration_view x ∷ [] = rw c.in_ok-push.ensures.items (map_push _ c.loop.values.items x) in
    rw e (goes_on one (map declaration_view c.loop.values.items) c.in_ok-count.count c.loop.counter c.loop.rest.now (declaration_view x) c.in_ok-value.after.now ((vec one).read c.args.bytes.now) c.loop-test.true c.in_ok-value.ensures c.loop.invariant)

pub read_some_declarations-returns : goal.read_some_declarations-returns
read_some_declarations-returns t c =
    let one = declaration (declarations c.args.levels) c.args.imports in
    is_done one (map declaration_view c.loop.values.items) c.in_ok-count.count c.loop.counter c.loop.rest.now ((vec one).read c.args.bytes.now) c.loop-test.false c.loop.invariant

pub read_type_in-returns-in_ok-declarations-in-65 : goal.read_type_in-returns-in_ok-declarations-in-65
read_type_in-returns-in_ok-declarations-in-65 t c =
    let v = c.in_ok-declarations-in-65.declarations in
    let after = c.in_ok-declarations-in-65.rest.now in
    subst (λ d. (inner_type (declarations c.args.levels)).read c.args.bytes.now ≡ Ok (d, after)) (sym (component_is v))
    (in_component (declarations c.args.levels) c.args.bytes.now c.in_ok-b.rest.now after c.in_ok-b.b (map declaration_view v.items) c.in_ok-b.ensures c.in-65.is c.in_ok-declarations-in-65.ensures)

pub read_type_in-returns-in_ok-declarations-in-66 : goal.read_type_in-returns-in_ok-declarations-in-66
read_type_in-returns-in_ok-declarations-in-66 t c =
    let v = c.in_ok-declarations-in-66.declarations in
    let after = c.in_ok-declarations-in-66.rest.now in
    subst (λ d. (inner_type (declarations c.args.levels)).read c.args.bytes.now ≡ Ok (d, after)) (sym (instance_is v))
    (in_instance (declarations c.args.levels) c.args.bytes.now c.in_ok-b.rest.now after c.in_ok-b.b (map declaration_view v.items) c.in_ok-b.ensures c.in-66.is c.in_ok-declarations-in-66.ensures)
