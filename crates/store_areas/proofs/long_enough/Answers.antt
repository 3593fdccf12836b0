use Rattle.std.proofs.Common.{arith}
use Rattle.store_areas.proofs.Ruling.{bytes_beyond, messages_beyond, lengths_judged, product}
use Rattle.store_areas.proofs.long_enough.Goals as goal
use Rattle.store_areas.proofs.long_enough.Goals.{then-shape-gt-MAX_BYTES-via-then-shape-gt-MAX_BYTES, then-shape-gt-MAX_BYTES-via-else-shape-gt-MAX_BYTES+then-shape-gt-MAX_MESSAGES}

pub returns-then-shape-gt-MAX_BYTES : goal.returns-then-shape-gt-MAX_BYTES
returns-then-shape-gt-MAX_BYTES c =
    elim c.then-shape-gt-MAX_BYTES.branch [
      | then-shape-gt-MAX_BYTES-via-then-shape-gt-MAX_BYTES w ↦ bytes_beyond c.args.shape c.args.words.now c.args.bytes.now w.if-shape-gt-MAX_BYTES.true
      | then-shape-gt-MAX_BYTES-via-else-shape-gt-MAX_BYTES+then-shape-gt-MAX_MESSAGES w ↦
          messages_beyond c.args.shape c.args.words.now c.args.bytes.now w.if-shape-gt-MAX_BYTES.false w.if-shape-gt-MAX_MESSAGES.true
    ]

pub overflow_mul-result : goal.overflow_mul-result
overflow_mul-result c = omega (arith, product c.args.shape.places c.place_words.result 4294967296 131088 (omega arith) (omega (arith, c.place_words.ensures)))

pub overflow_add-result : goal.overflow_add-result
overflow_add-result c = omega (arith, product c.args.shape.places c.place_words.result 4294967296 131088 (omega arith) (omega (arith, c.place_words.ensures)))

pub overflow_mul-result-2 : goal.overflow_mul-result-2
overflow_mul-result-2 c = omega (arith, product c.args.shape.places c.place_bytes.result 4294967296 33554656 (omega arith) (omega (arith, c.place_bytes.ensures)))

pub returns : goal.returns
returns c = lengths_judged c.args.shape c.args.words.now c.args.bytes.now _ _ (omega arith) (omega arith) c.place_words.ensures c.place_bytes.ensures
