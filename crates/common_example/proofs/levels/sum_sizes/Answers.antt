use Rattle.common_example.proofs.loops.sizes.SizeLoops.{summing_start, link_low, size_low, link_fits, summed, summing_none, summing_on, summing_ends}
use Rattle.std.proofs.Common.{◌≡◌, ◌+◌, ◌-◌, ◌<◌, arith}
use borrow.Author.Rules.{rules}
use Rattle.common_example.proofs.levels.sum_sizes.Goals as goal

pub loop-part-init : goal.loop-part-init
loop-part-init c = search (summing_start, rules)

pub offset_bounds-graph-link : goal.offset_bounds-graph-link
offset_bounds-graph-link c = search (link_low, rules)

pub bounds-graph-link : goal.bounds-graph-link
bounds-graph-link c = search (link_low, rules)

pub size_at-size-requires : goal.size_at-size-requires
size_at-size-requires c = search (size_low, rules)

pub returns-then-size-eq0 : goal.returns-then-size-eq0
returns-then-size-eq0 c = search (summing_none, rules)

pub capped-total-requires : goal.capped-total-requires
capped-total-requires c = search (summed, rules)

pub overflow_add-link : goal.overflow_add-link
overflow_add-link c = search (link_fits, rules)

pub loop-part-preserved : goal.loop-part-preserved
loop-part-preserved c = let e : c.args.parts.count - (c.loop-part._part + 1) ≡ c.args.parts.count - c.loop-part._part - 1 = omega arith in
    let more : 0 < c.args.parts.count - c.loop-part._part = omega arith in
    rw e (summing_on c.loop-part.invariant more c.size_at-size.ensures (search rules) c.capped-total.ensures c.step-link.ensures)

pub returns : goal.returns
returns c = search (summing_ends, rules)
