-- What a refusal means and what to do, in lines of at most 80 columns. Assumes nothing.
use Rattle.std.specs.Prelude.{ℕ, cond, List, [], ◌∷◌, eqb, leb, codes}

-- a number and its words
pub record Worded : Type 0 where
  pub number : ℕ
  pub text : List ℕ

abbrev pub worded : ℕ → List ℕ → Worded
worded n t = record { number = n; text = t }

abbrev pub reading : List Worded
reading =
    worded 1 (codes "R 1    the length in front of a frame is above 67,108,864\n       The borders of the frames are lost, or this is no replication line. End\n       the connection.\n")
    ∷ worded 2 (codes "R 2    a field or a count is longer than what is left, or bytes are left over\n       A damaged frame, or a sender of another version. End the connection.\n")
    ∷ worded 3 (codes "R 3    an unknown byte of a kind, a part, a reason or a change\n       A damaged frame, or a newer sender. End the connection.\n")
    ∷ worded 4 (codes "R 4    a text that isn't UTF-8\n       Mend the sender's text: Latin-1 is the usual cause.\n")
    ∷ worded 5 (codes "R 5    a key that is none\n       Mend the session's names: a text is empty, too long or not printable.\n")
    ∷ worded 6 (codes "R 6    a stamp that is none\n       Mend the sender: YYYYMMDD-HH:MM:SS or that with .sss is taken, of a day\n       that exists; in version 2 also 6, 9 or 12 digits behind the point.\n")
    ∷ worded 7 (codes "R 7    marks that are none\n       Mend the sender: at most 64 printable bytes are taken.\n") ∷ []

abbrev pub writing : List Worded
writing =
    worded 8 (codes "R 8    a field that reading would refuse\n       Mend the host: what is written must be readable.\n")
    ∷ worded 9 (codes "R 9    the output area is too short\n       Mend the host: lend a longer area. Nothing was written.\n") ∷ []

abbrev pub taking : List Worded
taking =
    worded 10 (codes "R 10   the standby has taken over\n       Stop the old active. If this was a mistake, begin a new standby.\n")
    ∷ worded 11 (codes "R 11   a version that is neither 1 nor 2\n       Install the same version on both machines.\n")
    ∷ worded 12 (codes "R 12   a Hello lists kinds of application record\n       Switch them off in the active: this standby keeps none.\n")
    ∷ worded 13 (codes "R 13   a Batch has application records\n       Switch them off in the active: this standby keeps none.\n")
    ∷ worded 14 (codes "R 14   a Batch on a handle that isn't bound\n       The active must Bind first, and anew after every Hello.\n")
    ∷ worded 15 (codes "R 15   a Commit between the parts of a session sent whole\n       The active must end the sending, or bind the handle anew.\n")
    ∷ worded 16 (codes "R 16   a session sent whole without a Reset in front\n       The capture begins in the middle of a sending, or the active is at fault.\n")
    ∷ worded 17 (codes "R 17   the held messages are above 4,294,967,296 bytes\n       The session is too large to be sent whole.\n")
    ∷ worded 18 (codes "R 18   the hold area is full\n       Set C and M equal on both machines, or lend longer hold areas.\n")
    ∷ worded 19 (codes "R 19   a frame that only a standby sends\n       This is the other direction of the line: give the active's.\n")
    ∷ worded 20 (codes "R 20   no free session place for a new key\n       Raise the number of sessions and start the standby anew.\n")
    ∷ worded 21 (codes "R 21   no free handle place for a new handle\n       Raise the number of handles and start the standby anew.\n") ∷ []

abbrev pub calling : List Worded
calling =
    worded 22 (codes "R 22   not the current connection, or promoted\n       Nothing to do: the newer connection counts.\n")
    ∷ worded 23 (codes "R 23   nobody has checked the copy\n       Let the active compare all sessions. If you know that the copy is whole,\n       promote it unchecked.\n")
    ∷ worded 24 (codes "R 24   the commit numbers are used up\n       Bind the handle anew: its numbers then begin with 1.\n") ∷ []

abbrev pub lending : List Worded
lending =
    worded 25 (codes "R 25   areas, limits or a place that break the rules\n       Mend the host: C is at most 33,554,432, M at most 65,536. It never comes\n       from a frame.\n")
    ∷ worded 26 (codes "R 26   not just one whole frame\n       A frame that is cut short, or more than one; of a line: no lower-case\n       digits.\n") ∷ []

abbrev pub requests : List Worded
requests =
    worded 27 (codes "R 27   a 257th session in the books of a catch-up\n       Lend further books for the rest.\n")
    ∷ worded 28 (codes "R 28   a field fault in a message log\n       Look at the file there: it may be cut, or have line feeds between\n       messages.\n")
    ∷ worded 29 (codes "R 29   a false length or sum in a message log\n       The message was changed since it was sent: ask for an unchanged copy.\n")
    ∷ worded 30 (codes "R 30   a number in a message log that doesn't rise\n       Cut the file at the reset, and import the part that counts.\n")
    ∷ worded 31 (codes "R 31   a lease's time that falls\n       Hand in a clock that never falls, and times in the order of reading.\n")
    ∷ worded 32 (codes "R 32   a stamp with more than three digits of a second, over version 1\n       Let the active connect by a Hello of version 2: a stamp is never cut.\n")
    ∷ worded 33 (codes "R 33   a stamp that has no number\n       It is before 1970, or its second is 60: sort such stamps as texts.\n")
    ∷ worded 34 (codes "R 34   a number that has no stamp\n       Mend the call: the time is past the year 9999, or the remainder isn't\n       below 1,000,000,000 picoseconds.\n")
    ∷ worded 35 (codes "R 35   ranges that are none, or more than 64\n       Turn the counterparty's request down.\n")
    ∷ worded 36 (codes "R 36   fewer entries than the list has\n       Mend the host: lend one entry for each stored message.\n")
    ∷ worded 37 (codes "R 37   outside the quorum\n       Mend the call: an n, k, member or handle that isn't there.\n")
    ∷ worded 38 (codes "R 38   out of sequence\n       The standby is out of step: end its connection.\n")
    ∷ worded 39 (codes "R 39   no copy fits\n       Connect the copies that are missing, or decide by hand.\n")
    ∷ worded 40 (codes "R 40   an outgoing number that can't be recorded\n       Record the next number or a higher one; after the last a Reset begins\n       anew.\n") ∷ []

abbrev pub none_text : List ℕ
none_text = codes "no refusal has this number\n"

abbrev pub look : ℕ → List Worded → List ℕ
look n [] = none_text
look n (w ∷ ws) = cond (eqb n w.number) w.text (look n ws)

-- by its number: a refusal's words
unfoldable pub refusal_text : ℕ → List ℕ
refusal_text n = cond (leb n 7) (look n reading) (cond (leb n 9) (look n writing) (cond (leb n 21) (look n taking) (cond (leb n 24) (look n calling) (cond (leb n 26) (look n lending) (look n requests)))))
