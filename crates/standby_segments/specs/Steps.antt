-- What the iterators over what is held begin with, and what each turn gives. Assumes nothing.
use Rattle.std.specs.Prelude.{◌≡◌, ◌+◌, ◌<◌, ◌≤◌, cond, List, [], ◌∷◌, ◌++◌, ℕ, length, drop, Option, MatchOption}
use Rattle.model_frame.specs.Frame.{Change}
use Rattle.model_session.specs.Session.{fits}
use Rattle.standby_changes.specs.Held.{fits_from}
use Rattle.frame_reader.specs.Answers.{rest}
use Rattle.frame_op.specs.Answers.{op_of}
use Rattle.frame_op.specs.declared.Op.{Op}
use Rattle.standby_segments.specs.Segments.{closed_ends, segment_run, held_from, held_changes}
use Rattle.standby_segments.specs.declared.segments.HeldChanges.{HeldChanges}
use Rattle.standby_segments.specs.declared.segments.Segments.{Segments}
use Rattle.standby_segments.specs.declared.segments.Segment.{Segment}
use Rattle.standby_segments.specs.declared.segments.SegmentOps.{SegmentOps}

-- the changes that are held
abbrev pub all_of : HeldChanges → List Change
all_of h = held_changes h.protocol.version h.ends.now h.bytes.now

-- the changes of a segment
abbrev pub run_of : Segment → List Change
run_of s = segment_run s.protocol.version s.closed s.bytes.now

-- ---- the changes of a segment, one after the other

-- those that are still to come
abbrev pub ops_left : SegmentOps → List Change
ops_left s = segment_run s.protocol.version s.closed (rest s.reader)

-- it stands before all of them
pub record BeginsOps (g : Segment) (s : SegmentOps) : Type 0 where
  pub protocol : s.protocol ≡ g.protocol
  pub closed : s.closed ≡ g.closed
  pub buf : s.reader.buf.now ≡ g.bytes.now
  pub whole : rest s.reader ≡ g.bytes.now

-- nothing where none is left, else the next one
abbrev pub GivesOp : SegmentOps → Option Op → SegmentOps → Type 0
GivesOp s r t = (t.protocol ≡ s.protocol) × (t.closed ≡ s.closed) × (t.reader.buf.now ≡ s.reader.buf.now) × MatchOption r (ops_left s ≡ []) (λ op. ops_left s ≡ op_of s.reader.buf.now op ∷ ops_left t)

-- ---- the segments, the open one last

-- the changes of those that are still to come
abbrev pub segments_left : Segments → List Change
segments_left s = cond s.done [] (held_from s.held.protocol.version (closed_ends (drop s.index s.held.ends.now) s.from (length s.held.bytes.now)) s.from (drop s.from s.held.bytes.now))

-- nothing where none is left, else the next one, read under the same protocol
abbrev pub GivesSegment : Segments → Option Segment → Segments → Type 0
GivesSegment s r t = (t.held ≡ s.held) × MatchOption r (segments_left s ≡ []) (λ g. (g.protocol ≡ s.held.protocol) × (segments_left s ≡ run_of g ++ segments_left t))

-- ---- the end at an index, if the word there counts

abbrev pub EndAt : List ℕ → ℕ → ℕ → ℕ → Option ℕ → Type 0
EndAt ends index from len r =
    MatchOption r (closed_ends (drop index ends) from len ≡ [])
    (λ e. (closed_ends (drop index ends) from len ≡ e ∷ closed_ends (drop (index + 1) ends) e len) × (index < length ends) × (from < e) × (e ≤ len))

-- ---- the next outgoing number after some changes, or none if they diverge: whatever follows them, it fits so

abbrev pub FollowsRun : List Change → ℕ → Option ℕ → Type 0
FollowsRun cs next r = (ds : List Change) → fits_from r ds ≡ fits next (cs ++ ds)
