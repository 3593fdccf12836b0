-- The laws of a run of changes: read one after the other, cut off, put behind another, taken out of a frame. Assumes nothing.
use mathlib.Core.Path.{◌≡◌, sym, ap, subst, ◌∙◌}
use mathlib.Core.List.{List, [], ◌∷◌, ◌++◌}
use Prim.Native.Nat.{ℕ, ◌+◌, ◌-◌, ◌≤◌, ◌<◌}
use native.Mathlib.Omega.{arith}
use lib.Dec.{T}
use lib.ListN.{length, take, drop, length-append, length-take}
use lib.Seq.{take_at, take_all, take-take, length-take-le}
use Rattle.model_frame.proofs.Sendable.{Sendable}
use Rattle.model_frame.specs.Bytes.{is_bytes, write}
use Rattle.model_frame.specs.Frame.{Change, Fault, set_incoming, set_incoming_in_flight, set_in_flight, record_msg, record_bare, reset, set_created_at, set_marks}
use Rattle.model_frame.specs.Parse.{ok, bad, collect, run_bytes, Each}
use Rattle.model_frame.specs.Reading.{read_change}
use Rattle.model_frame.specs.Writing.{change_bytes}
use Rattle.model_frame.specs.Sizes.{size_of, sizes}
use Rattle.model_frame.proofs.Le.{bytes_take, bytes_drop}
use Rattle.model_frame.proofs.Runs.{Stands, count_sizes, change_shorter, collect_run, collect_back, collect_sound, collect_enough}
use Rattle.model_frame.proofs.SoundChange.{change_sound, taken_sendable}
use Rattle.model_frame.proofs.Sizes.{changes_size}
use Rattle.model_session.specs.Session.{message_length, message_bytes}
use Rattle.base_laws.proofs.Little.{write_is}
use Rattle.base_laws.proofs.Runs.{collect_none, collect_more, collect_bad}
use Rattle.frame_op.specs.Answers.{run_of, held_run}
use Rattle.frame_op.specs.declared.Run.{Run}
use Rattle.standby_changes.specs.Held.{TakesAll, RunPart}

-- ---- message bytes are at most all bytes

message_size : (c : Change) → message_length c ≤ size_of c
message_size (set_incoming n) = omega arith
message_size (set_incoming_in_flight n f) = omega arith
message_size (set_in_flight f) = omega arith
message_size (record_msg n m) = omega arith
message_size (record_bare n) = omega arith
message_size reset = omega arith
message_size (set_created_at t) = omega arith
message_size (set_marks m) = omega arith

pub message_sizes : (cs : List Change) → message_bytes cs ≤ sizes cs
message_sizes [] = omega arith
message_sizes (c ∷ cs) = omega (arith, message_size c, message_sizes cs)

module _ (version : ℕ) where
  -- ---- one change after the other

  pub held_none : (s : List ℕ) → length s ≤ 0 → held_run version s ≡ []
  unfolding held_run
  held_none s h = collect_none (read_change version) (length s) s h

  pub held_bad : (s : List ℕ) {e : Fault} → read_change version s ≡ bad e → held_run version s ≡ []
  unfolding held_run
  held_bad s e = collect_bad (read_change version) (length s) e

  pub held_more : (s : List ℕ) {c : Change} {t : List ℕ} → T (is_bytes s) → read_change version s ≡ ok c t → held_run version s ≡ c ∷ held_run version t
  unfolding held_run
  held_more s {c} {t} h e =
      let l = change_shorter version s h e in
      let b = change_sound version s h e in
      let some : 0 < length s = omega arith in
      collect_more (read_change version) (length s) some e
      ∙ ap (λ (cs : List Change). c ∷ cs) (collect_enough version (length s - 1) (length t) t b.2 (omega arith) (omega arith))

  -- ---- the bytes of a run

  -- changes that can be sent are the run of their own bytes
  pub held_back : (cs : List Change) → Each (Sendable version) cs → held_run version (run_bytes change_bytes cs) ≡ cs
  unfolding held_run
  held_back cs h = collect_back version cs (length (run_bytes change_bytes cs)) h (omega (arith, changes_size cs, count_sizes cs))

  -- changes that stand at the start of bytes: they take the front, and are the run of it
  module _ {s : List ℕ} {cs : List Change} (w : Stands version s cs) where
    pub stands_front : take (sizes cs) s ≡ run_bytes change_bytes cs
    stands_front = ap (take (sizes cs)) w.front ∙ take_at (run_bytes change_bytes cs) (drop (sizes cs) s) (sizes cs) (changes_size cs)

    pub stands_sizes : sizes cs ≤ length s
    stands_sizes = omega (arith, ap length w.front, length-append (run_bytes change_bytes cs) (drop (sizes cs) s), changes_size cs)

    pub stands_held : held_run version (take (sizes cs) s) ≡ cs
    stands_held = ap (held_run version) stands_front ∙ held_back cs (taken_sendable version cs w.taken)

    pub stands_all : TakesAll version (take (sizes cs) s)
    stands_all = ap sizes stands_held ∙ sym (length-take-le (sizes cs) s stands_sizes)

  module _ (s : List ℕ) (h : T (is_bytes s)) where
    pub held_stands : Stands version s (held_run version s)
    unfolding held_run
    held_stands = collect_sound version (length s) s h

    -- what run_length counts: these bytes are the run's, and hold all of it
    pub held_front : take (sizes (held_run version s)) s ≡ run_bytes change_bytes (held_run version s)
    held_front = stands_front held_stands

    pub held_cut : held_run version (take (sizes (held_run version s)) s) ≡ held_run version s
    held_cut = stands_held held_stands

    pub held_sizes : sizes (held_run version s) ≤ length s
    held_sizes = stands_sizes held_stands

    pub held_messages : message_bytes (held_run version s) ≤ length s
    held_messages = omega (arith, message_sizes (held_run version s), held_sizes)

  -- the run in the first `long` bytes of an area stands at the area's start
  pub held_in : (area : List ℕ) (long : ℕ) → T (is_bytes area) → held_run version (take (sizes (held_run version (take long area))) area) ≡ held_run version (take long area)
  held_in area long h =
      let s : List ℕ = take long area in
      let b = bytes_take long area h in
      let within : sizes (held_run version s) ≤ long = omega (arith, held_sizes s b, length-take long area) in
      ap (held_run version) (sym (take-take (sizes (held_run version s)) long area within)) ∙ held_cut s b

  -- ---- one run behind another

  pub held_append : (s t : List ℕ) → T (is_bytes s) → T (is_bytes t) → TakesAll version s → held_run version (s ++ t) ≡ held_run version s ++ held_run version t
  unfolding held_run
  held_append s t hs ht all =
      let cs : List Change = held_run version s in
      let n : ℕ = length (s ++ t) - length cs in
      let w = held_stands s hs in
      let few : length cs ≤ length s = omega (arith, count_sizes cs) in
      let long = length-append s t in
      let whole : run_bytes change_bytes cs ≡ s = sym (held_front s hs) ∙ take_all (sizes cs) s (omega arith) in
      let sum : length (s ++ t) ≡ length cs + n = omega arith in
      ap (λ (k : ℕ). collect k (read_change version) (s ++ t)) sum
      ∙ ap (λ (l : List ℕ). collect (length cs + n) (read_change version) (l ++ t)) (sym whole)
      ∙ collect_run version cs t n (taken_sendable version cs w.taken)
      ∙ ap (λ (ds : List Change). cs ++ ds) (collect_enough version n (length t) t ht (omega arith) (omega arith))

  -- a run written behind the `used` bytes of an area that are all changes
  module _ (area : List ℕ) (used : ℕ) (run : List ℕ) (ha : T (is_bytes area)) (hr : T (is_bytes run)) (room : used + length run ≤ length area) where
    written : take (used + length run) (write area used run) ≡ take used area ++ run
    written =
        let size : length (take used area ++ run) ≡ used + length run = omega (arith, length-append (take used area) run, length-take-le used area (omega arith)) in
        ap (take (used + length run)) (write_is area used run room)
        ∙ take_at (take used area ++ run) (drop (used + length run) area) (used + length run) size

    module _ (all : sizes (held_run version (take used area)) ≡ used) where
      front : TakesAll version (take used area)
      front = all ∙ sym (length-take-le used area (omega arith))

      pub held_written : held_run version (take (used + length run) (write area used run)) ≡ held_run version (take used area) ++ held_run version run
      held_written = ap (held_run version) written ∙ held_append (take used area) run (bytes_take used area ha) hr front

  -- ---- a run out of a frame

  -- its changes as far as they can be read, n bytes from `at` on
  pub run_part : (b : List ℕ) (run : Run) {n : ℕ} {r : List ℕ} → T (is_bytes b) → n ≡ sizes (run_of (read_change version) b run) → r ≡ take n (drop run.at b) → RunPart version b run r
  run_part b run {n} {r} h size e =
      let w = collect_sound version run.count (drop run.at b) (bytes_drop run.at b h) in
      let cut : r ≡ take (sizes (run_of (read_change version) b run)) (drop run.at b) = e ∙ ap (λ (k : ℕ). take k (drop run.at b)) size in
      record {
        changes = ap (held_run version) cut ∙ stands_held w;
        all = subst (TakesAll version) (sym cut) (stands_all w);
        bytes = cut ∙ stands_front w;
      }
