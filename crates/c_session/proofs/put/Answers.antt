use Rattle.std.proofs.Common.{rules, arith}
use Rattle.frame_fields.specs.Answers.{key_of}
use Rattle.base_bytes.proofs.Puts.{put_on}
use Rattle.c_session.proofs.Laws.{key_size_lem, flag_byte, flight_byte, flagged}
use Rattle.c_session.proofs.put.Goals as goal

pub put_summary-requires : goal.put_summary-requires
put_summary-requires c =
    omega (arith, c.requires, c.byte.ensures.past, c.byte-2.ensures.past, c.byte.ensures.put.long, c.byte-2.ensures.put.long, c.put_session.ensures.long, c.put_session.ensures.wrote.past, key_size_lem (key_of c.args.bytes.now c.args.session))

pub returns : goal.returns
returns c = flagged (flag_byte c.args.durable c.from.ensures) (flight_byte c.args.summary.in_flight c.is_some.ensures c.from-2.ensures) (put_on (put_on (put_on c.byte.ensures.put c.byte-2.ensures.put) c.put_session.ensures) c.put_summary.ensures) (search rules)
