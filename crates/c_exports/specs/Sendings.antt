-- A whole sending in five words: 0 the last commit number, 1 whether it has begun, 2 the number that it goes on from, 3 whether it is done, 4 the line: 0 a head
-- office's, 1 a branch's. Assumes nothing.
use Rattle.std.specs.Prelude.{◌≡◌, ℕ, cond, None, Some, List, length, get_or, set, ltb, eqb}
use Rattle.std.specs.Prelude as answer
use Rattle.std.proofs.Math.Option.{Option, none, some}
use Rattle.base_flags.specs.Flag.{is_set}
use Rattle.model_frame.specs.Refusal
use Rattle.model_session.specs.Session.{Session}
use Rattle.model_session.specs.Sender.{Sender}
use Rattle.active_batch.specs.Batch.{resume_from}
use Rattle.active.specs.declared.Line.{Line}
use Rattle.active.specs.Whole.{limit_of, SendStart, ready, start_from, SendStep, gives, finished, step_from, area_from}
use Rattle.active.specs.Whole as whole
use Rattle.c_code.specs.Codes.{refusal_code, done_code}
use Rattle.c_exports.specs.Returned.{last_code}

-- the words of where a sending goes on: past the last frame there is no number to go on from, and it is done
abbrev pub from_word : Option ℕ → ℕ
from_word none = 0
from_word (some n) = n

abbrev pub done_byte : Option ℕ → ℕ
done_byte none = 1
done_byte (some n) = 0

-- the model's sender that the words stand for, for a handle and an epoch
abbrev pub sender_in : ℕ → ℕ → List ℕ → Sender
sender_in h e q = record { handle = h; epoch = e; last = get_or q 0 0; from = resume_from (get_or q 2 0) (is_set (get_or q 3 0)) }

-- the line that the last word names; none for every other number, and for fewer than five words
abbrev pub line_in : List ℕ → answer.Option Line
line_in q = cond (ltb (length q) 5) None (cond (eqb (get_or q 4 0) 0) (Some Line.HeadOffice) (cond (eqb (get_or q 4 0) 1) (Some Line.Branch) None))

-- a sending that has not begun begins
abbrev pub start_in : ℕ → ℕ → Option Session → ℕ → ℕ → ℕ → List ℕ → SendStart
start_in limit version a i h e q = cond (eqb (get_or q 1 0) 0) (start_from limit version a i h e (get_or q 0 0)) (ready i version (sender_in h e q))

-- the call from there
abbrev pub step_by : ℕ → Option Session → SendStart → ℕ → SendStep
step_by limit a (whole.SendStart.refused n) room = whole.SendStep.refused n
step_by limit a (ready i version s) room = step_from limit version a i s room

-- the area after it
abbrev pub send_area : ℕ → Option Session → SendStart → List ℕ → List ℕ
send_area limit a (whole.SendStart.refused n) out = out
send_area limit a (ready i version s) out = area_from limit version a s out

-- a refusal, a frame by its length, or done
abbrev pub send_code : SendStep → ℕ
send_code (whole.SendStep.refused n) = refusal_code n 0
send_code (gives len i version t) = done_code len
send_code finished = last_code

-- the words for the next call: the sender that they stand for, and each of the first four; the line and those past it are as they were
pub record NextWords (h e : ℕ) (t : Sender) (q q' : List ℕ) : Type 0 where
  pub next : sender_in h e q' ≡ t
  pub words : q' ≡ set (set (set (set q 0 t.last) 1 1) 2 (from_word t.from)) 3 (done_byte t.from)

-- only a frame changes the words
abbrev pub Resumes : ℕ → ℕ → SendStep → List ℕ → List ℕ → Type 0
Resumes h e (whole.SendStep.refused n) q q' = q' ≡ q
Resumes h e (gives len i version t) q q' = NextWords h e t q q'
Resumes h e finished q q' = q' ≡ q

-- what a call answers, and how it leaves the words and the area
pub record SendIs (limit : ℕ) (a : Option Session) (h e : ℕ) (start : SendStart) (q q' out out' : List ℕ) (r : ℕ) : Type 0 where
  pub answer : r ≡ send_code (step_by limit a start (length out))
  pub words : Resumes h e (step_by limit a start (length out)) q q'
  pub area : out' ≡ send_area limit a start out

-- 25, and all as it was
pub record NotSent (q q' out out' : List ℕ) (r : ℕ) : Type 0 where
  pub answer : r ≡ refusal_code Refusal.rules_broken 0
  pub words : q' ≡ q
  pub area : out' ≡ out

-- a call on this line, if any, with the line's limit
abbrev pub SendsOn : answer.Option Line → ℕ → Option Session → ℕ → ℕ → ℕ → List ℕ → List ℕ → List ℕ → List ℕ → ℕ → Type 0
SendsOn None version a i h e q q' out out' r = NotSent q q' out out' r
SendsOn (Some line) version a i h e q q' out out' r = SendIs (limit_of line) a h e (start_in (limit_of line) version a i h e q) q q' out out' r

-- the next call of the sending in the words, of the session at place i, in a version
abbrev pub SendsNext : ℕ → Option Session → ℕ → ℕ → ℕ → List ℕ → List ℕ → List ℕ → List ℕ → ℕ → Type 0
SendsNext version a i h e q q' out out' r = SendsOn (line_in q) version a i h e q q' out out' r
