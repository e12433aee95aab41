use Rattle.std.proofs.Common.{◌≡◌, ◌<◌, min, length, replicate, refl, arith, add-one}
use Rattle.teluddru.proofs.laws.Copying.{after_none, one_more, all_copied}
use Rattle.teluddru.proofs.records.copy_names.Goals as goal

pub loop-i-init : goal.loop-i-init
loop-i-init c = (omega arith, after_none c.args.names.now (replicate 258 0))

pub loop-i-preserved : goal.loop-i-preserved
loop-i-preserved c =
    let low : c.loop-i.i < length c.args.names.now = omega arith in
    let more = one_more c.loop-i.i c.args.names.now (replicate 258 0) low in
    (omega arith, rw add-one (cc more))

pub returns : goal.returns
returns c =
    let all : c.loop-i.i ≡ min 129 (length c.args.names.now) = omega arith in
    rw (c.loop-i.invariant.1, all, c.copied_count-count.ensures) (all_copied c.args.names.now (replicate 258 0) refl)
