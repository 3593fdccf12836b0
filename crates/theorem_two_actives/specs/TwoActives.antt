-- TWO ACTIVES, ONE STANDBY ON THE CODE (document 02, U14): what each can force, of what is lent for a call. Each call is what the contract of the entry point that was
-- called promises (`Called`, crates/standby_step/specs/Calls.antt; that the contracts do is Entries.antt). An active is known by its epoch; equal epochs are outside this,
-- for the claim says lower, not other. The same of the model's steps is `ModelTwoActives` (crates/model_two_actives/specs/TwoActives.antt). Assumes nothing.
use Rattle.std.specs.Prelude.{◌≡◌, ℕ, ◌≤◌, max, List, Bool, true, false, cond, T}
use Rattle.base_flags.specs.Flag.{is_set}
use Rattle.model_frame.specs.Frame.{Key, Frame, bind}
use Rattle.store_areas.specs.Areas.{places_of}
use Rattle.model_standby.specs.Answer.{lower}
use Rattle.model_standby.specs.Store.{session_at}
use Rattle.model_standby.specs.State.{Call}
use Rattle.model_standby.specs.Demand.{Hands}
use Rattle.model_two_actives.specs.TwoActives.{Deposing, Takes}
use Rattle.standby_pending_run.specs.Commits.{ran_words}
use Rattle.standby_state.specs.declared.Settings.{Settings}
use Rattle.standby_state.specs.declared.Answer.{Answer}
use Rattle.standby_state.specs.Outcomes.{counters_of}
use Rattle.theorem_whole_copy.specs.Demand.{Lent, spoken, settings, Calls, Runs}

module _ (s : Settings) where
  -- row, hold areas and the store's bytes are the very same; the counters say the same (a flag is set by every byte but 0)
  pub record SameBut (x y : Lent) : Type 0 where
    pub counters : counters_of y.counters ≡ counters_of x.counters
    pub row : y.row ≡ x.row
    pub holds : y.holds ≡ x.holds
    pub bytes : y.bytes ≡ x.bytes

  -- "changes no log, binding, held change, epoch or checked flag", nor the connection's version; "at most, due commits run": the store's words too are as they were, or those after its pending commits ran
  pub record OnlyCommitsRan (x y : Lent) : Type 0 where
    pub same : SameBut x y
    pub words : (ran : Bool) × (y.words ≡ cond ran (ran_words s.shape x.words) x.words)
    pub sessions : (n : ℕ) → session_at (places_of s.shape y.words y.bytes) n ≡ session_at (places_of s.shape x.words x.bytes) n

  -- of what is lent for an unpromoted standby, from every state that docs/AREAS.md allows; a frame deposes, however it is answered, as `Deposing` says
  pub record TwoActives (x : Lent) : Type 0 where
    pub never_falls : (cs : List Call) (z : Lent) → Runs s x cs z → x.counters.epoch.0 ≤ z.counters.epoch.0
    pub lower_leaves : (c : Call) (f : Frame) (y : Lent) (a : Answer) → Takes (spoken x) c f → T (lower x.counters.epoch.0 f) → Calls s c x y a → OnlyCommitsRan x y
    pub raises : (c : Call) (e : ℕ) (f : Frame) (y : Lent) (a : Answer) → Takes (spoken x) c f → Deposing (settings s x) e f → Calls s c x y a → y.counters.epoch.0 ≡ max x.counters.epoch.0 e
    -- every later frame of a lower epoch, after any further run while unpromoted
    pub deposes : (c : Call) (e : ℕ) (f : Frame) (y : Lent) (a : Answer) → Takes (spoken x) c f → Deposing (settings s x) e f → Calls s c x y a
        → (cs : List Call) (z : Lent) → Runs s y cs z → is_set z.counters.promoted ≡ false
        → (d : Call) (g : Frame) (z₁ : Lent) (b : Answer) → Takes (spoken z) d g → T (lower e g) → Calls s d z z₁ b → OnlyCommitsRan z z₁
    pub not_by_bind : (c : Call) (h e lag : ℕ) (k : Key) (y : Lent) (a : Answer) → Takes (spoken x) c (bind h e lag k) → Calls s c x y a → y.counters.epoch.0 ≡ x.counters.epoch.0
    -- after promotion no bytes that are handed in change anything: counters, row, the store's two areas and the hold areas are the very same
    pub promoted : (cs : List Call) (z : Lent) → Runs s x cs z → is_set z.counters.promoted ≡ true
        → (d : Call) (w : List ℕ) (z₁ : Lent) (b : Answer) → Hands d w → Calls s d z z₁ b → z₁ ≡ z
