use native.Mathlib.Omega.{arith}
use mathlib.Core.Path.{sym, ◌∙◌}
use Rattle.std.specs.declared.cmp.Ordering.{Ordering}
use Rattle.std.proofs.Common.{◌-◌, ◌+◌, ◌/◌, of_calls}
use Rattle.base.proofs.Search.{answer_told, goes_on, read_at, narrowed_up, narrowed_down}
use Rattle.base.proofs.inner.binary_search.search_by.Goals as goal

pub loop-low-preserved-in-Less : goal.loop-low-preserved-in-Less
loop-low-preserved-in-Less g c =
    let l = c.loop-low in
    let m = l.low + (l.high - l.low) / 2 in (
      omega arith,
      omega arith,
      search of_calls,
      λ ord computes.
          let i = l.invariant.3 ord computes in
          let here = read_at ord c.args.items.now m _ Ordering.Less (omega arith) c.index-items-middle.is (sym (answer_told ord i.0 c.f.ensures) ∙ c.in-Less.is) in
          (goes_on ord i.0 c.f.ensures, narrowed_up ord c.args.items.now l.low l.high m (omega arith) here i.1),
    )

pub loop-low-preserved : goal.loop-low-preserved
loop-low-preserved g c =
    let l = c.loop-low in
    let m = l.low + (l.high - l.low) / 2 in (
      omega arith,
      omega arith,
      search of_calls,
      λ ord computes.
          let i = l.invariant.3 ord computes in
          let here = read_at ord c.args.items.now m _ Ordering.Greater (omega arith) c.index-items-middle.is (sym (answer_told ord i.0 c.f.ensures) ∙ c.in-Greater.is) in
          (goes_on ord i.0 c.f.ensures, narrowed_down ord c.args.items.now l.low l.high m here i.1),
    )

pub returns-in-Equal-clause-position : goal.returns-in-Equal-clause-position
returns-in-Equal-clause-position g c = λ ord computes.
    let l = c.loop-low in
    read_at ord c.args.items.now _ _ Ordering.Equal (omega arith) c.index-items-middle.is (sym (answer_told ord (l.invariant.3 ord computes).0 c.f.ensures) ∙ c.in-Equal.is)
