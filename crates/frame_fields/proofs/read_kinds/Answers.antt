use Rattle.std.proofs.Common.{rules, ℕ, ◌≡◌, ◌+◌, ◌*◌, ◌≤◌, List}
use mathlib.Core.Path.{sym}
use lib.ListN.{length, drop, length-drop}
use lib.Seq.{drop-drop}
use Rattle.model_frame.specs.Parse.{ok, read_num, many, collect}
use Rattle.model_frame.specs.Reading.{read_kinds}
use Rattle.base_laws.proofs.Runs.{numbers_end, count_room, run_items}
use Rattle.frame_reader.specs.Answers.{rest}
use Rattle.frame_reader.proofs.Faults.{passed_on}
use Rattle.frame_fields.proofs.read_kinds.Goals as goal

pub returns-in_err-count-clause-read : goal.returns-in_err-count-clause-read
unfolding read_kinds
returns-in_err-count-clause-read c = rw (← c.in_err-count.ensures.read, passed_on c.from_residual.result c.in_err-count.field-0.0 c.from_residual.ensures)

-- what is left has room for the kinds, so they can be read again to where they end
kinds_run : (b : List ℕ) (at n : ℕ) → n * 2 ≤ length (drop at b) → ok (collect n (read_num 2) (drop at b)) (drop (at + n * 2) b) ≡ many n (read_num 2) (drop at b)
kinds_run b at n room = run_items (read_num 2) n (drop at b) {t = drop (at + n * 2) b} (rw (← drop-drop (n * 2) at b) (sym (numbers_end 2 n (drop at b) room)))

pub overflow_add-reader : goal.overflow_add-reader
overflow_add-reader c =
    let r = count_room 2 (rest c.args.reader.now) (sym c.in_ok-count.ensures.read) in
    let l = length-drop c.count.new.self.at c.count.new.self.buf.now in
    search rules

pub returns-clause-read : goal.returns-clause-read
unfolding read_kinds
returns-clause-read c =
    let after = c.count.new.self in
    rw (← c.in_ok-count.ensures.read, ← c.count.ensures.same) (kinds_run after.buf.now after.at c.in_ok-count.count (count_room 2 (rest c.args.reader.now) (sym c.in_ok-count.ensures.read)))

pub returns-clause-again : goal.returns-clause-again
returns-clause-again c =
    let after = c.count.new.self in
    rw (← c.count.ensures.same) (sym (kinds_run after.buf.now after.at c.in_ok-count.count (count_room 2 (rest c.args.reader.now) (sym c.in_ok-count.ensures.read))))
