-- TWO ACTIVES, ONE STANDBY (document 02, U14): what each can force, of the model's steps. An active is known by its epoch; equal epochs are outside this, for the
-- claim says lower, not other. The same of the entry points' own promises, which follows from this, is crates/theorem_two_actives/specs/TwoActives.antt. Assumes nothing.
use Rattle.std.specs.Prelude.{◌≡◌, ℕ, ◌≤◌, max, List, [], ◌∷◌, map, Bool, true, false, T}
use Rattle.std.proofs.Math.Option.{some}
use Rattle.model_text.specs.Version.{first, is_version}
use Rattle.model_frame.specs.Frame.{Key, Change, record_msg, Part, commit, Frame, hello, bind, batch, ack, bound, checked}
use Rattle.model_frame.specs.Writing.{encode}
use Rattle.model_session.specs.Session.{new_session, apply_all}
use Rattle.model_session.specs.Summary.{summary}
use Rattle.model_standby.specs.Answer.{intact, given, lower, reply}
use Rattle.model_standby.specs.Store.{session_at}
use Rattle.model_standby.specs.State.{Settings, incarnation_of, Standby, Call, on_frame_held, new_standby}
use Rattle.model_standby.specs.Standby.{run_pending, step, run}
use Rattle.model_standby.specs.Demand.{Hands}

-- "at most, due commits run": no counter (epoch, checked flag, version), binding, held change or session is another; the state is that of `run_pending`, or as it was
pub record OnlyCommits (s s₁ : Standby) : Type 0 where
  pub counters : s₁.counters ≡ s.counters
  pub handles : s₁.handles ≡ s.handles
  pub sessions : (n : ℕ) → session_at s₁.places n ≡ session_at s.places n
  pub commits : (now : Bool) × (s₁ ≡ run_pending now s)

-- at epoch e: "an accepted Hello" (of either version, no kinds), "a readable Batch without application records", "Checked with the right incarnation"
pub data Deposing (L : Settings) (e : ℕ) : Frame → Type 0 where
  by_hello : {v : ℕ} {node : List ℕ} → is_version v ≡ true → Deposing L e (hello v e node [])
  by_batch : {h n : ℕ} {p : Part} {cs : List Change} → Deposing L e (batch h e n p cs [])
  by_checked : {h : ℕ} → Deposing L e (checked h e (incarnation_of L))

-- the call hands in the frame f, as this version reads it, by on_frame_held or by on_frame
pub record Takes (version : ℕ) (c : Call) (f : Frame) : Type 0 where
  pub bytes : List ℕ
  pub hands : Hands c bytes
  pub reads : given version bytes ≡ intact f

-- the greater of both
abbrev pub raised_to : Standby → ℕ → ℕ
raised_to s e = max s.counters.epoch e

-- of an unpromoted standby s; after a deposing frame, however answered, every later frame of a lower epoch leaves all but due commits; after promotion nothing changes
pub record ModelTwoActives (L : Settings) (s : Standby) : Type 0 where
  pub never_falls : (cs : List Call) → s.counters.epoch ≤ (run L s cs).counters.epoch
  pub lower_leaves : (c : Call) (f : Frame) → Takes s.counters.version c f → T (lower s.counters.epoch f) → OnlyCommits s (step L s c).state
  pub raises : (c : Call) (e : ℕ) (f : Frame) → Takes s.counters.version c f → Deposing L e f → (step L s c).state.counters.epoch ≡ raised_to s e
  pub deposes : (c : Call) (e : ℕ) (f : Frame) → Takes s.counters.version c f → Deposing L e f → (cs : List Call) → (run L s (c ∷ cs)).counters.promoted ≡ false
      → (d : Call) (g : Frame) → Takes (run L s (c ∷ cs)).counters.version d g → T (lower e g) → OnlyCommits (run L s (c ∷ cs)) (step L (run L s (c ∷ cs)) d).state
  pub not_by_bind : (c : Call) (h e lag : ℕ) (k : Key) → Takes s.counters.version c (bind h e lag k) → (step L s c).state.counters.epoch ≡ s.counters.epoch
  pub promoted : (cs : List Call) → (run L s cs).counters.promoted ≡ true → (d : Call) (w : List ℕ) → Hands d w → (step L (run L s cs) d).state ≡ run L s cs

-- a witness, with two sessions: the active of epoch 5 says Hello and binds handle 1 to a, the one of epoch 9 binds handle 2 to b; the lower one's Commit is then taken
-- (were b the lower one's session, the Bind would take its handle, and its Batch be 14; it would be deposed as little)
pub record NotByBind (L : Settings) (a b : Key) (s₁ : Standby) (high low : Call) : Type 0 where
  pub before : s₁ ≡ run L (new_standby [] 2) (map (λ (f : Frame). on_frame_held (encode f)) (hello first 5 [] [] ∷ bind 1 5 0 a ∷ []))
  pub calls : (high ≡ on_frame_held (encode (bind 2 9 0 b))) × (low ≡ on_frame_held (encode (batch 1 5 1 commit (record_msg 1 (7 ∷ []) ∷ []) [])))
  pub accepted : (step L s₁ high).answer ≡ reply (bound 2 (summary new_session 0))
  pub acknowledged : (step L (step L s₁ high).state low).answer ≡ reply (ack 1 1)
  pub applied : session_at (step L (step L s₁ high).state low).state.places 0 ≡ some (apply_all L.C L.M (record_msg 1 (7 ∷ []) ∷ []) new_session)
