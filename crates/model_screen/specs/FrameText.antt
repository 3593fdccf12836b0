-- What is shown of a frame: its number and where it begins, what it is, and what was answered. Assumes nothing.
use Rattle.std.specs.Prelude.{ℕ, cond, List, [], ◌∷◌, ◌++◌, length, eqb, decimal, codes}
use Rattle.model_frame.specs.Frame.{Key, Change, set_incoming, set_incoming_in_flight, set_in_flight, record_msg, record_bare, reset, set_created_at, set_marks, Part, commit, whole, last_whole, Reason, stale_epoch, diverged, lag_too_great, restarted, Frame, hello, welcome, bind, batch, ack, nack, bound, checked, fault_number, Decoded, more, faulty, got}
use Rattle.model_screen.specs.Columns.{at_right, at_left, cut, numbered, grouped, lines}

-- ---- what it is

abbrev pub change_words : Change → List ℕ
change_words (set_incoming n) = numbered (codes " in ") n
change_words (set_incoming_in_flight n f) = numbered (codes " in ") n ++ numbered (codes " flight ") f
change_words (set_in_flight f) = numbered (codes " flight ") f
change_words (record_msg n m) = numbered (codes " out ") n ++ numbered (codes " (") (length m) ++ codes ")"
change_words (record_bare n) = numbered (codes " skip ") n
change_words reset = codes " reset"
change_words (set_created_at t) = codes " since " ++ t
change_words (set_marks m) = codes " marks " ++ m

unfoldable pub changes_words : List Change → List ℕ
changes_words [] = []
changes_words (c ∷ cs) = change_words c ++ changes_words cs

abbrev pub part_words : Part → List ℕ
part_words commit = codes "Commit  "
part_words whole = codes "Whole   "
part_words last_whole = codes "LastWhole "

abbrev pub reason_words : Reason → List ℕ
reason_words stale_epoch = codes "StaleEpoch"
reason_words diverged = codes "Diverged"
reason_words lag_too_great = codes "Lag"
reason_words restarted = codes "Restarted"

abbrev pub suffix_words : List ℕ → List ℕ
suffix_words [] = []
suffix_words (b ∷ bs) = codes " / " ++ (b ∷ bs)

abbrev pub key_words : Key → List ℕ
key_words k = (codes " " ++ k.begin) ++ (codes " " ++ k.sender) ++ (codes " -> " ++ k.target) ++ suffix_words k.suffix

abbrev pub frame_words : Frame → List ℕ
frame_words (hello v e node ks) = numbered (codes "Hello   epoch ") e ++ (codes " node " ++ node) ++ numbered (codes " version ") v
frame_words (welcome e i) = numbered (codes "Welcome epoch ") e ++ numbered (codes " incarnation ") i
frame_words (bind h e lag k) = numbered (codes "Bind    ") h ++ key_words k ++ numbered (codes " lag ") lag
frame_words (batch h e n p cs rs) = numbered (part_words p) h ++ numbered (codes " #") n ++ changes_words cs
frame_words (ack h n) = numbered (codes "Ack     ") h ++ numbered (codes " #") n
frame_words (nack h r) = numbered (codes "Nack    ") h ++ (codes " " ++ reason_words r)
frame_words (bound h m) = numbered (codes "Bound   ") h ++ numbered (codes " out ") m.next_out ++ numbered (codes " in ") m.next_in
frame_words (checked h e i) = numbered (codes "Checked ") h ++ numbered (codes " epoch ") e ++ numbered (codes " incarnation ") i

abbrev pub what_words : Decoded → List ℕ
what_words more = codes "cut short"
what_words (faulty e) = numbered (codes "can't be read: R ") (fault_number e)
what_words (got f used) = frame_words f

-- ---- what was answered: a refusal, or a frame

abbrev pub brief_words : Frame → List ℕ
brief_words (hello v e node ks) = codes "Hello"
brief_words (welcome e i) = numbered (codes "Welcome ") e
brief_words (bind h e lag k) = codes "Bind"
brief_words (batch h e n p cs rs) = codes "Batch"
brief_words (ack h n) = codes "Ack"
brief_words (nack h r) = codes "Nack " ++ reason_words r
brief_words (bound h m) = numbered (codes "Bound ") m.next_out ++ numbered (codes "/") m.next_in
brief_words (checked h e i) = codes "Checked"

abbrev pub reply_words : Decoded → List ℕ
reply_words more = codes "none"
reply_words (faulty e) = codes "none"
reply_words (got f used) = brief_words f

abbrev pub answer_words : ℕ → Decoded → List ℕ
answer_words refusal d = cond (eqb refusal 0) (reply_words d) (numbered (codes "R ") refusal)

-- ---- the line

abbrev pub frame_parts : ℕ → ℕ → Decoded → ℕ → Decoded → List (List ℕ)
frame_parts n at d refusal reply =
    at_right 6 (decimal n) ∷ at_right 9 (grouped at) ∷ (codes " " ++ at_left 46 (cut 46 (what_words d))) ∷ answer_words refusal reply ∷ []

unfoldable pub frame_line : ℕ → ℕ → Decoded → ℕ → Decoded → List ℕ
frame_line n at d refusal reply = lines (frame_parts n at d refusal reply ∷ [])
