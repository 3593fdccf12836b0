use Rattle.model_frame.specs.Writing.{summary_bytes}
use Rattle.base_bytes.proofs.Puts.{put_on}
use Rattle.frame_writer.proofs.put_summary.Goals as goal

pub returns : goal.returns
unfolding summary_bytes
returns c =
    rw (← c.flight_number.ensures) (put_on (put_on (put_on (put_on (put_on c.number.ensures.put c.number-2.ensures.put) c.number-3.ensures.put) c.put_span.ensures.put) c.put_span-2.ensures.put) c.number-4.ensures.put)
