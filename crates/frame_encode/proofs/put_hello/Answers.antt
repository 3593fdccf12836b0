use Rattle.std.proofs.Common.{◌*◌, ap, arith, length, drop, length-take}
use Rattle.base_bytes.proofs.Puts.{put_on}
use Rattle.frame_encode.proofs.put_hello.Goals as goal

pub bytes-requires : goal.bytes-requires
bytes-requires c =
    let a = c.args in
    omega (arith, ap length c.bytes_at.ensures, length-take (a.kinds.count * 2) (drop a.kinds.at a.src.now), c.byte.ensures.put.long, c.number.ensures.put.long, c.number-2.ensures.put.long, c.put_span.ensures.put.long, c.number-3.ensures.put.long)

pub returns : goal.returns
returns c =
    rw (← c.bytes_at.ensures) (put_on (put_on (put_on (put_on (put_on c.byte.ensures.put c.number.ensures.put) c.number-2.ensures.put) c.put_span.ensures.put) c.number-3.ensures.put) c.bytes.ensures)
