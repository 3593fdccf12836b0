-- Document 01's starred points as one table: what is asked, and what is answered.
-- Assumes nothing.
use Rattle.std.specs.Prelude.{ℕ, ◌+◌, List, [], ◌∷◌, ◌++◌, length}
use Rattle.std.proofs.Math.Option.{none}
use Rattle.model_frame.specs.Frame.{set_created_at, commit, stale_epoch, Frame, hello, batch, nack, refusal, Fault, too_long, truncated, unknown, bad_text, bad_timestamp, fault_number, Decoded, more, faulty, got}
use Rattle.model_frame.specs.Reading.{decode}
use Rattle.model_session.specs.Summary.{last_out}
use Rattle.model_session.specs.Lag.{Queue, new_queue, push}
use Rattle.model_text.specs.Version.{first}

pub data Question : Type 0 where
  -- the bytes of a frame
  reading : List ℕ → Question
  -- `last_outgoing` with this next outgoing, over n, with nothing stored
  last_outgoing : ℕ → ℕ → Question
  -- max_lag, and the last numbers that are pushed on a new queue
  pushes : ℕ → List ℕ → Question

pub data Reply : Type 0 where
  more_needed : Reply
  -- a fault and its number
  refuses : Fault → ℕ → Reply
  -- a frame and the bytes that it took
  takes : Frame → ℕ → Reply
  hash : ℕ → Reply
  -- how many each push drains
  drains : List ℕ → Reply

-- ---- what the definitions answer

abbrev pub said : Decoded → Reply
said more = more_needed
said (faulty e) = refuses e (fault_number e)
said (got f n) = takes f n

abbrev pub drained_by : ℕ → Queue → List ℕ → List ℕ
drained_by maxLag q [] = []
drained_by maxLag q (last ∷ lasts) = (push maxLag q last).went ∷ drained_by maxLag (push maxLag q last).queue lasts

abbrev pub answer_to : Question → Reply
answer_to (reading w) = said (decode first w)
answer_to (last_outgoing next n) = hash (last_out (record { stamp = []; next_out = next; next_in = 1; in_flight = none; marks = []; messages = [] }) n)
answer_to (pushes maxLag lasts) = drains (drained_by maxLag (new_queue 0) lasts)

-- ---- the table

-- a Hello of version 1 and epoch 5 from the node t; a Commit of handle 9, epoch 5 and number 3 with the change SetCreatedAt t
abbrev hello_from : List ℕ → List ℕ
hello_from t = (19 + length t) ∷ 0 ∷ 0 ∷ 0 ∷ 1 ∷ 1 ∷ 0 ∷ 5 ∷ 0 ∷ 0 ∷ 0 ∷ 0 ∷ 0 ∷ 0 ∷ 0 ∷ length t ∷ 0 ∷ 0 ∷ 0 ∷ t ++ (0 ∷ 0 ∷ 0 ∷ 0 ∷ [])

abbrev created_at : List ℕ → List ℕ
created_at t =
    (35 + length t) ∷ 0 ∷ 0 ∷ 0 ∷ 4 ∷ 9 ∷ 0 ∷ 0 ∷ 0 ∷ 5 ∷ 0 ∷ 0 ∷ 0 ∷ 0 ∷ 0 ∷ 0 ∷ 0 ∷ 3 ∷ 0 ∷ 0 ∷ 0 ∷ 0 ∷ 0 ∷ 0 ∷ 0 ∷ 0
    ∷ 1 ∷ 0 ∷ 0 ∷ 0 ∷ 7 ∷ length t ∷ 0 ∷ 0 ∷ 0 ∷ t ++ (0 ∷ 0 ∷ 0 ∷ 0 ∷ [])

-- 20251115-23:59:60 and 20251115-24:00:00
abbrev leap_second : List ℕ
leap_second = 50 ∷ 48 ∷ 50 ∷ 53 ∷ 49 ∷ 49 ∷ 49 ∷ 53 ∷ 45 ∷ 50 ∷ 51 ∷ 58 ∷ 53 ∷ 57 ∷ 58 ∷ 54 ∷ 48 ∷ []

abbrev hour24 : List ℕ
hour24 = 50 ∷ 48 ∷ 50 ∷ 53 ∷ 49 ∷ 49 ∷ 49 ∷ 53 ∷ 45 ∷ 50 ∷ 52 ∷ 58 ∷ 48 ∷ 48 ∷ 58 ∷ 48 ∷ 48 ∷ []

abbrev pub starred : List (Question × Reply)
starred =
    -- empty input; 00000000; 00000004; 01000004
    (reading [], more_needed)
    ∷ (reading (0 ∷ 0 ∷ 0 ∷ 0 ∷ []), refuses truncated 2)
    ∷ (reading (0 ∷ 0 ∷ 0 ∷ 4 ∷ []), more_needed)
    ∷ (reading (1 ∷ 0 ∷ 0 ∷ 4 ∷ []), refuses (too_long 67108865) 1)
    -- 06000000060900000001: Nack of handle 9, StaleEpoch; last byte 05
    ∷ (reading (6 ∷ 0 ∷ 0 ∷ 0 ∷ 6 ∷ 9 ∷ 0 ∷ 0 ∷ 0 ∷ 1 ∷ []), takes (nack 9 stale_epoch) 10)
    ∷ (reading (6 ∷ 0 ∷ 0 ∷ 0 ∷ 6 ∷ 9 ∷ 0 ∷ 0 ∷ 0 ∷ 5 ∷ []), refuses (unknown refusal 5) 3)
    -- texts F48FBFBF and EDA080
    ∷ (reading (hello_from (0xF4 ∷ 0x8F ∷ 0xBF ∷ 0xBF ∷ [])), takes (hello 1 5 (0xF4 ∷ 0x8F ∷ 0xBF ∷ 0xBF ∷ []) []) 27)
    ∷ (reading (hello_from (0xED ∷ 0xA0 ∷ 0x80 ∷ [])), refuses bad_text 4)
    -- stamps 23:59:60 and 24:00:00
    ∷ (reading (created_at leap_second), takes (batch 9 5 3 commit (set_created_at leap_second ∷ []) []) 56)
    ∷ (reading (created_at hour24), refuses bad_timestamp 6)
    -- next 3, n 5, nothing stored
    ∷ (last_outgoing 3 5, hash 0xcbf29ce484222325)
    -- max_lag 2, lasts 1, 2, 3: the third drains one
    ∷ (pushes 2 (1 ∷ 2 ∷ 3 ∷ []), drains (0 ∷ 0 ∷ 1 ∷ []))
    ∷ []
