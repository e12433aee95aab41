use Rattle.c_calls.proofs.Rows.{given_fits}
use Rattle.c_calls.proofs.BodyCalls.{body_fits, call_unread, call_first, call_done}
use borrow.Author.Rules.{rules}
use Rattle.c_calls.proofs.bodies.teluddru_plan_body.Goals as goal

pub tell_body-requires : goal.tell_body-requires
tell_body-requires c = search (given_fits, rules)

pub returns-in-Err : goal.returns-in-Err
returns-in-Err c = search (call_unread, rules)

pub tell_body-requires-in-Err-marks_first : goal.tell_body-requires-in-Err-marks_first
tell_body-requires-in-Err-marks_first c = search (given_fits, rules)

pub returns-in-Err-marks_first : goal.returns-in-Err-marks_first
returns-in-Err-marks_first c = search (call_first, rules)

pub tell_body-requires-2 : goal.tell_body-requires-2
tell_body-requires-2 c = search (body_fits, rules)

pub returns : goal.returns
returns c = search (call_done, rules)
