use Rattle.std.proofs.Common.{ℕ, ◌+◌, ◌*◌, ap, arith}
use Rattle.store_areas.proofs.Ruling.{product}
use Rattle.store_areas.proofs.spot_of.Goals as goal

pub overflow_mul-words_start : goal.overflow_mul-words_start
overflow_mul-words_start c = omega (arith, product c.args.place c.place_words-width.result 4294967296 131088 (omega arith) (omega (arith, c.place_words-width.ensures)))

pub overflow_add-words_start : goal.overflow_add-words_start
overflow_add-words_start c = omega (arith, product c.args.place c.place_words-width.result 4294967296 131088 (omega arith) (omega (arith, c.place_words-width.ensures)))

pub overflow_mul-bytes_start : goal.overflow_mul-bytes_start
overflow_mul-bytes_start c = omega (arith, product c.args.place c.place_bytes-size.result 4294967296 33554656 (omega arith) (omega (arith, c.place_bytes-size.ensures)))

pub overflow_add-result : goal.overflow_add-result
overflow_add-result c = omega (arith, product c.args.place c.place_words-width.result 4294967296 131088 (omega arith) (omega (arith, c.place_words-width.ensures)))

pub overflow_add-result-2 : goal.overflow_add-result-2
overflow_add-result-2 c = omega (arith, product c.args.place c.place_bytes-size.result 4294967296 33554656 (omega arith) (omega (arith, c.place_bytes-size.ensures)))

pub returns : goal.returns
returns c =
    let i = c.args.place in
    let ew = c.place_words-width.ensures in
    let eb = c.place_bytes-size.ensures in
    record {
      words_from = ap (λ (k : ℕ). 66 + i * k) ew;
      words_to = ap (λ (k : ℕ). 66 + i * k + k) ew;
      bytes_from = ap (λ (k : ℕ). i * k) eb;
      bytes_to = ap (λ (k : ℕ). i * k + k) eb;
    }
