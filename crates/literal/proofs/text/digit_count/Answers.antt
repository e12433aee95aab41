use Rattle.literal.proofs.Decimals.{digits_counted}
use Rattle.literal.proofs.text.digit_count.Goals as goal

pub returns : goal.returns
returns c =
    let o = c.checked_ilog10.ensures in
    rw c.unwrap_or.ensures (digits_counted c.args.size c.checked_ilog10.result o.none o.power_le o.next_power_gt o.bound)
