use Rattle.std.proofs.Common.{arith, leb, false, get_or, ◌≡◌, refl, sym, ◌∙◌}
use borrow.Author.Tests.{lt-leb}
use Rattle.active_quorum.proofs.Laws.{short_so, long_so}
use Rattle.active_quorum.proofs.check_rules.Goals.{else-is_allowed-via-then-is_allowed+else-words, else-is_allowed-via-else-is_allowed}
use Rattle.active_quorum.proofs.check_rules.Goals as goal

pub returns-then-words-lt-WORDS : goal.returns-then-words-lt-WORDS
returns-then-words-lt-WORDS c = (sym (short_so c.args.words.now (omega arith)), refl)

pub returns-else-is_allowed : goal.returns-else-is_allowed
returns-else-is_allowed c = (
  elim c.else-is_allowed.branch [
    | else-is_allowed-via-then-is_allowed+else-words w ↦ let many : leb (get_or c.args.words.now 3 0) 256 ≡ false = lt-leb (get_or c.args.words.now 3 0) 256 (omega arith) in
        sym (long_so c.args.words.now c.is_allowed.result (omega arith) c.is_allowed.ensures) ∙ rw (w.if-is_allowed.true, many) refl
    | else-is_allowed-via-else-is_allowed w ↦ sym (long_so c.args.words.now c.is_allowed.result (omega arith) c.is_allowed.ensures) ∙ rw (w.if-is_allowed.false) refl
  ],
  refl,
)
