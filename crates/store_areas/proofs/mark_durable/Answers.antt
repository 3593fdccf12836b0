use Rattle.std.proofs.Common.{ℕ, ◌+◌, ◌*◌, set, ap, arith}
use Rattle.store_areas.proofs.Marking.{mark_within}
use Rattle.store_areas.proofs.mark_durable.Goals as goal

pub overflow_mul-at : goal.overflow_mul-at
overflow_mul-at c = omega (arith, mark_within c.args.shape _ _ _ c.args.words.now c.place_words.ensures c.requires.shape_in_bounds c.requires.words_bound c.requires.place_bound)

pub overflow_add-at : goal.overflow_add-at
overflow_add-at c = omega (arith, mark_within c.args.shape _ _ _ c.args.words.now c.place_words.ensures c.requires.shape_in_bounds c.requires.words_bound c.requires.place_bound)

pub overflow_add-at-2 : goal.overflow_add-at-2
overflow_add-at-2 c = omega (arith, mark_within c.args.shape _ _ _ c.args.words.now c.place_words.ensures c.requires.shape_in_bounds c.requires.words_bound c.requires.place_bound)

pub offset_bounds-words-at : goal.offset_bounds-words-at
offset_bounds-words-at c = omega (arith, mark_within c.args.shape _ _ _ c.args.words.now c.place_words.ensures c.requires.shape_in_bounds c.requires.words_bound c.requires.place_bound)

pub bounds-words-at : goal.bounds-words-at
bounds-words-at c = omega (arith, mark_within c.args.shape _ _ _ c.args.words.now c.place_words.ensures c.requires.shape_in_bounds c.requires.words_bound c.requires.place_bound)

pub returns : goal.returns
returns c = ap (λ (n : ℕ). set c.args.words.now (66 + c.args.place * n + 4) 1) c.place_words.ensures
