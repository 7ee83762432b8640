use Rattle.std.proofs.Common.{arith, sym, ◌∙◌, subst, ◌≡◌, ◌+◌, length, ◌-◌, ◌/◌}
use Rattle.std.proofs.lemmas.Option.{slice_get-get_or}
use Rattle.wac_graph_core.proofs.Halving.{IsSought, IsHalving, halved, starts, above, below}
use Rattle.wac_graph_core.proofs.sorted.place_in.Goals as goal

-- src/lib.rt:84:5
pub loop-low-init : goal.loop-low-init
loop-low-init g c = (omega arith, starts g.C.KeyOrder.order c.args.entries.now c.args.key.now _ (omega arith))

-- src/lib.rt:86:29
pub offset_bounds-entries-mid : goal.offset_bounds-entries-mid
offset_bounds-entries-mid g c = omega (arith, c.loop-low.invariant.1.fits, c.loop-low-test.true)

-- src/lib.rt:86:29
pub bounds-entries-mid : goal.bounds-entries-mid
bounds-entries-mid g c = omega (arith, c.loop-low.invariant.1.fits, c.loop-low-test.true)

-- src/lib.rt:87:32
pub returns-in-Equal-clause-found : goal.returns-in-Equal-clause-found
returns-in-Equal-clause-found g c =
    let here = slice_get-get_or c.args.entries.now (c.loop-low.low + (c.loop-low.high - c.loop-low.low) / 2) c.index-entries-mid.result
    (omega (arith, c.loop-low.invariant.1.fits, c.loop-low-test.true)) in
    record {
      within = omega (arith, c.loop-low.invariant.1.fits, c.loop-low-test.true);
      entry = _;
      there = here;
      equal = sym c.compare.ensures.told ∙ c.in-Equal.is;
    }

-- src/lib.rt:87:32
pub returns-in-Equal-clause-counted : goal.returns-in-Equal-clause-counted
returns-in-Equal-clause-counted g c =
    let k = c.loop-low.invariant in
    let last = halved _ _ _ 0 k.1.halving (omega (arith, c.loop-low-test.true)) (omega arith) in
    let one : g.C.KeyOrder.count c.loop-low.order - g.C.KeyOrder.count c.args.order.now + 1 ≡ g.C.KeyOrder.count c.compare.new.self - g.C.KeyOrder.count c.args.order.now =
    omega (arith, k.0, c.compare.ensures.counted) in
    (omega (arith, k.0, c.compare.ensures.counted), (subst (λ n. IsHalving n (length c.args.entries.now) 0) one last).digits)

-- src/lib.rt:84:5
pub loop-low-preserved-in-Less : goal.loop-low-preserved-in-Less
loop-low-preserved-in-Less g c =
    let k = c.loop-low.invariant in
    let here = slice_get-get_or c.args.entries.now (c.loop-low.low + (c.loop-low.high - c.loop-low.low) / 2) c.index-entries-mid.result
    (omega (arith, k.1.fits, c.loop-low-test.true)) in
    let next = above g.C.KeyOrder.order c.args.entries.now c.args.key.now g.met.C.KeyOrder.total c.requires c.loop-low.low c.loop-low.high _ k.1 c.loop-low-test.true _ here
    (sym c.compare.ensures.told ∙ c.in-Less.is) in
    let one : g.C.KeyOrder.count c.loop-low.order - g.C.KeyOrder.count c.args.order.now + 1 ≡ g.C.KeyOrder.count c.compare.new.self - g.C.KeyOrder.count c.args.order.now =
    omega (arith, k.0, c.compare.ensures.counted) in
    (omega (arith, k.0, c.compare.ensures.counted), subst (IsSought g.C.KeyOrder.order c.args.entries.now c.args.key.now _ _) one next)

-- src/lib.rt:84:5
pub loop-low-preserved : goal.loop-low-preserved
loop-low-preserved g c =
    let k = c.loop-low.invariant in
    let here = slice_get-get_or c.args.entries.now (c.loop-low.low + (c.loop-low.high - c.loop-low.low) / 2) c.index-entries-mid.result
    (omega (arith, k.1.fits, c.loop-low-test.true)) in
    let next = below g.C.KeyOrder.order c.args.entries.now c.args.key.now g.met.C.KeyOrder.total c.requires c.loop-low.low c.loop-low.high _ k.1 c.loop-low-test.true _ here
    (sym c.compare.ensures.told ∙ c.in-Greater.is) in
    let one : g.C.KeyOrder.count c.loop-low.order - g.C.KeyOrder.count c.args.order.now + 1 ≡ g.C.KeyOrder.count c.compare.new.self - g.C.KeyOrder.count c.args.order.now =
    omega (arith, k.0, c.compare.ensures.counted) in
    (omega (arith, k.0, c.compare.ensures.counted), subst (IsSought g.C.KeyOrder.order c.args.entries.now c.args.key.now _ _) one next)

-- src/lib.rt:72:1
pub returns-clause-absent : goal.returns-clause-absent
returns-clause-absent g c =
    let k = c.loop-low.invariant.1 in
    record {
      within = omega (arith, k.ordered, k.fits);
      before = k.before;
      behind = λ i e h. k.behind i e (omega (arith, k.ordered, c.loop-low-test.false, h));
    }

-- src/lib.rt:72:1
pub returns-clause-counted : goal.returns-clause-counted
returns-clause-counted g c = (c.loop-low.invariant.0, c.loop-low.invariant.1.halving.digits)
