-- DEMAND 3 ON THE CODE. A session sent whole into the standby ends in exactly A or exactly B. Each step of the lists below is what
-- the contract of the entry point that was called promises (`Called`, crates/standby_step/specs/Calls.antt; that these contracts do is
-- Entries.antt), so this speaks of the code. The same claim of the model's steps is `ModelClaim` (crates/model_standby/specs/Demand.antt).
-- Assumes nothing.
use Rattle.std.specs.Prelude.{ℕ, ◌+◌, ◌^◌, ◌≤◌, ◌<◌, ◌≡◌, Bool, true, false, cond, ◌&&◌, ◌||◌, List, [], ◌∷◌, ◌++◌, length, T, eqb}
use Rattle.std.proofs.Math.Option.{some}
use Rattle.base_flags.specs.Flag.{is_set}
use Rattle.frame_stamp.specs.Versions.{version_of}
use Rattle.model_frame.specs.Frame.{Frame}
use Rattle.model_frame.specs.Parse.{is_empty}
use Rattle.model_frame.specs.Writing.{encode}
use Rattle.model_session.specs.Session.{Session, Holdable, top, suits}
use Rattle.model_session.specs.Whole.{whole_batches, whole_frames, hold_length}
use Rattle.standby_segments.specs.Segments.{Holds}
use Rattle.standby_row.specs.declared.Bound.{Bound as BoundRecord}
use Rattle.store_areas.specs.Areas.{places_of}
use Rattle.model_standby.specs.Answer.{accepted}
use Rattle.model_standby.specs.Row.{find}
use Rattle.model_standby.specs.Store.{session_at}
use Rattle.model_standby.specs.State.{Bound, Standby, Call, flush, disconnected_from}
use Rattle.model_standby.specs.State as state
use Rattle.model_standby.specs.PlainCopy.{OwnKey, own_key, copy_at, copy_run}
use Rattle.model_standby.specs.Demand.{Hands, Aside, no_promotions}
use Rattle.standby_counters.specs.declared.Replica.{Replica}
use Rattle.standby_state.specs.declared.Settings.{Settings}
use Rattle.standby_state.specs.declared.Answer.{Answer}
use Rattle.standby_state.specs.Answers.{answer_of}
use Rattle.standby_state.specs.Outcomes.{settings_of}
use Rattle.standby_step.specs.Calls.{room_all, standby_of, allowed_all, Called}

-- what is lent for each call: the counters, the row of handles, the store's two areas, the hold areas with the ends of their segments
pub record Lent : Type 0 where
  pub counters : Replica
  pub row : List BoundRecord
  pub words : List ℕ
  pub bytes : List ℕ
  pub holds : Holds

-- the version that the connection speaks: a call's frame is read in it
abbrev pub spoken : Lent → ℕ
spoken x = version_of x.counters.version2

module _ (s : Settings) where
  -- what it stands for, and with which settings
  abbrev pub stands_for : Lent → Standby
  stands_for x = standby_of s x.counters x.row x.words x.bytes x.holds

  abbrev pub settings : Lent → state.Settings
  settings x = settings_of s (room_all x.row x.holds.bytes)

  -- "from any state docs/AREAS.md allows"
  abbrev pub Allowed : Lent → Type 0
  Allowed x = allowed_all s x.row x.words x.bytes x.holds.bytes ≡ true

  -- one call, from x to y, with the answer a: the entry point's promise (Entries.antt)
  abbrev pub Calls : Call → Lent → Lent → Answer → Type 0
  Calls call x y a = Called s call x.counters y.counters x.row y.row x.words y.words x.bytes y.bytes x.holds y.holds a

  -- calls one after the other
  pub data Runs : Lent → List Call → Lent → Type 0 where
    no_calls : {x : Lent} → Runs x [] x
    call : {x y z : Lent} {c : Call} {cs : List Call} {a : Answer} → Calls c x y a → Runs y cs z → Runs x (c ∷ cs) z

  -- the first list, of A's frames `left` being still to come: a prefix of these, "once each in order" as bytes; besides only frames of
  -- lower epochs and calls refused with a number outside 14 to 18, each read in the version of its call; flushes and drops of lines anywhere
  pub data First (e : ℕ) : List Frame → Lent → List Call → Lent → Type 0 where
    ends : {left : List Frame} {x : Lent} → First e left x [] x
    ours : {f : Frame} {left : List Frame} {x y z : Lent} {c : Call} {cs : List Call} {a : Answer} → Hands c (encode f) → Calls c x y a → First e left y cs z → First e (f ∷ left) x (c ∷ cs) z
    aside : {left : List Frame} {x y z : Lent} {c : Call} {cs : List Call} {w : List ℕ} {a : Answer} → Hands c w → Calls c x y a → Aside (spoken x) e w (answer_of y.bytes a) → First e left y cs z → First e left x (c ∷ cs) z
    flushes : {left : List Frame} {x y z : Lent} {cs : List Call} {a : Answer} (n : ℕ) → Calls (flush n) x y a → First e left y cs z → First e left x (flush n ∷ cs) z
    drops : {left : List Frame} {x y z : Lent} {cs : List Call} {a : Answer} (n : ℕ) → Calls (disconnected_from n) x y a → First e left y cs z → First e left x (disconnected_from n ∷ cs) z

  module _ {e : ℕ} where
    -- "A's last is among those accepted"
    abbrev pub took_last : {left : List Frame} {x z : Lent} {cs : List Call} → First e left x cs z → Bool
    took_last ends = false
    took_last (ours {left} {y} {a} hands p rest) = is_empty left && accepted (answer_of y.bytes a) || took_last rest
    took_last (aside hands p q rest) = took_last rest
    took_last (flushes n p rest) = took_last rest
    took_last (drops n p rest) = took_last rest

    -- "A's frames before any drop of the current line are all accepted"
    abbrev pub AllTaken : {left : List Frame} {x z : Lent} {cs : List Call} → First e left x cs z → Type 0
    AllTaken ends = Unit {0}
    AllTaken (ours {y} {a} hands p rest) = T (accepted (answer_of y.bytes a)) × AllTaken rest
    AllTaken (aside hands p q rest) = AllTaken rest
    AllTaken (flushes n p rest) = AllTaken rest
    AllTaken (drops {x} n p rest) = cond (eqb n x.counters.connections) (Unit {0}) (AllTaken rest)

  -- the start: A is any session the store can hold, whose stamp suits the connection's version; the handle h is bound (b) to the place of session B with
  -- nothing held, and hold areas have at least C + 22 × M + 122 bytes, or C + 22 × M + 131 for a long stamp; the standby is unpromoted; handle, epoch and
  -- the numbers of A's batches are of their types
  pub record Start (limit : ℕ) (A B : Session) (k : OwnKey) (h : ℕ) (b : Bound) (x : Lent) : Type 0 where
    pub allowed : Allowed x
    pub A_held : Holdable s.shape.bytes s.shape.messages A
    pub unpromoted : is_set x.counters.promoted ≡ false
    pub bound_so : find h (stands_for x).handles ≡ some b
    pub is_B : session_at (stands_for x).places b.place ≡ some B
    pub its_key : own_key (stands_for x).places b.place ≡ some k
    pub nothing_held : b.held ≡ []
    pub suits_so : suits (spoken x) A.stamp ≡ true
    pub area : hold_length s.shape.bytes s.shape.messages A.stamp ≤ room_all x.row x.holds.bytes
    pub handle_u32 : h < 2 ^ 32
    pub epoch_u64 : x.counters.epoch.0 ≤ top
    pub sendable : b.number + length (whole_batches limit A) ≤ top

  -- A's frames: those that send A whole at the standby's epoch, numbered on from the handle's last
  abbrev pub frames_of_a : ℕ → Session → ℕ → Bound → Lent → List Frame
  frames_of_a limit A h b x = whole_frames limit h x.counters.epoch.0 b.number A

  -- the client's sentence, of a first list d from x to z
  pub record Claim (limit : ℕ) (A B : Session) (k : OwnKey) (h : ℕ) (b : Bound) (x : Lent) (cs : List Call) (z : Lent) (d : First x.counters.epoch.0 (frames_of_a limit A h b x) x cs z) : Type 0 where
    -- "A's frames before any drop of the current line are all accepted"
    pub all_taken : AllTaken d
    -- "the session is exactly A if A's last is among those accepted, else exactly B": in the store's areas
    pub is_A_or_B : session_at (places_of s.shape z.words z.bytes) b.place ≡ some (cond (took_last d) A B)
    -- the rules still hold
    pub still_allowed : Allowed z
    -- "after every further list the session is exactly that of the plain copy, fed both lists"
    pub is_the_copy : (more : List Call) (y : Lent) → T (no_promotions more) → Runs z more y
        → session_at (places_of s.shape y.words y.bytes) b.place ≡ some (copy_run (settings x) k (copy_at B (stands_for x)) (stands_for x) (cs ++ more)).session
    -- which after the first list was A or B likewise
    pub copy_is_A_or_B : (copy_run (settings x) k (copy_at B (stands_for x)) (stands_for x) cs).session ≡ cond (took_last d) A B
