use Rattle.frames_line.proofs.Laws.{told_fits}
use Rattle.frames_lowest.proofs.Laws.{told_fits as lowest_fits}
use Rattle.frames_shell.proofs.text_of.Goals as goal

pub returns-in-Answers : goal.returns-in-Answers
returns-in-Answers c = told_fits c.answer_line.ensures

pub returns-in-Lowest : goal.returns-in-Lowest
returns-in-Lowest c = lowest_fits c.tell_line.ensures
