-- What a turn of the iterators does to the changes that are still to come. Assumes nothing.
use mathlib.Core.Path.{◌≡◌, refl, sym, ap, subst, ◌∙◌}
use mathlib.Core.Bool.{Bool, true, false, true≢false}
use mathlib.Core.List.{List, [], ◌∷◌}
use Prim.Native.Nat.{ℕ, suc, ◌+◌, ◌-◌, ◌≤◌, ◌<◌}
use native.Mathlib.Omega.{arith}
use lib.Dec.{T, eqb}
use lib.ListN.{length, take, drop, length-drop}
use lib.Seq.{take_all, drop-drop}
use borrow.Author.Tests.{ne_eqb}
use Rattle.model_frame.specs.Bytes.{is_bytes}
use Rattle.model_frame.specs.Frame.{Change, Fault, reset}
use Rattle.model_frame.specs.Parse.{ok, bad, is_empty, Each}
use Rattle.model_frame.specs.Reading.{read_change}
use Rattle.model_frame.specs.Sizes.{sizes}
use Rattle.model_frame.proofs.Le.{bytes_take, bytes_drop}
use Rattle.model_frame.proofs.Runs.{change_shorter}
use Rattle.model_frame.proofs.SoundChange.{TakenChange, change_sound}
use Rattle.frame_op.specs.Answers.{held_run}
use Rattle.standby_changes.proofs.Held.{held_stands, held_bad, held_more}
use Rattle.standby_segments.specs.Segments.{closed_ends, open_from, segment_run, held_from, held_changes}
use Rattle.standby_segments.proofs.Meaning.{none_held, Rises, rises, rises_up, held_length, held_short}
use Rattle.standby_segments.proofs.Total.{total_taken, total_more, total_bad, total_none}

module _ (version : ℕ) (s : List ℕ) (h : T (is_bytes s)) where
  -- ---- the changes of a segment

  module _ {c : Change} {t : List ℕ} (e : ok c t ≡ read_change version s) where
    pub op_read : (closed : Bool) → segment_run version closed s ≡ c ∷ segment_run version closed t
    op_read true = total_more version s h (sym e)
    op_read false = held_more version s h (sym e)

    pub read_bytes : T (is_bytes t)
    read_bytes = (change_sound version s h (sym e)).2

    pub read_less : length t < length s
    read_less = (change_shorter version s h (sym e)).1

  -- the open one ends at the first byte at which none can be read
  pub open_ends : (closed : Bool) {f : Fault} → closed ≡ false → bad f ≡ read_change version s → segment_run version closed s ≡ []
  open_ends true is e = absurd (true≢false is)
  open_ends false is e = held_bad version s (sym e)

module _ (version : ℕ) (b : List ℕ) (at : ℕ) where
  -- a closed one where its bytes do
  pub closed_ended : (closed : Bool) → closed ≡ true → length b ≤ at → segment_run version closed (drop at b) ≡ []
  closed_ended true is none = total_none version (drop at b) (omega (arith, length-drop at b, none))
  closed_ended false is none = absurd (true≢false (sym is))

  module _ (h : T (is_bytes (drop at b))) where
    -- and such a byte of it counts as a Reset
    pub reset_read : (closed : Bool) {f : Fault} {next : ℕ} → closed ≡ true → bad f ≡ read_change version (drop at b) → (next ≡ at + 1) × (at < length b)
        → segment_run version closed (drop at b) ≡ reset ∷ segment_run version closed (drop next b)
    reset_read true is e n =
        let left : 0 < length (drop at b) = omega (arith, length-drop at b, n.1) in
        total_bad version (drop at b) h (sym e) left ∙ ap (λ (t : List ℕ). reset ∷ segment_run version true t) (drop-drop 1 at b) ∙ ap (λ (k : ℕ). reset ∷ segment_run version true (drop k b)) (sym n.0)
    reset_read false is e n = absurd (true≢false (sym is))

    pub next_bytes : {next : ℕ} → (next ≡ at + 1) × (at < length b) → T (is_bytes (drop next b))
    next_bytes n = subst (λ (l : List ℕ). T (is_bytes l)) (drop-drop 1 at b ∙ ap (λ (k : ℕ). drop k b) (sym n.0)) (bytes_drop 1 (drop at b) h)

-- ---- what is held

-- with no bytes nothing is held
pub no_bytes : (version : ℕ) (ends s : List ℕ) → true ≡ eqb (length s) 0 → true ≡ is_empty (held_changes version ends s)
no_bytes version ends [] e = sym (ap is_empty (none_held version ends))
no_bytes version ends (b ∷ bs) e = absurd (true≢false (e ∙ ne_eqb (suc (length bs)) 0 some))
  where
    some : suc (length bs) ≡ 0 → ⊥
    some z = omega (arith, z)

module _ (version : ℕ) (ends s : List ℕ) (h : T (is_bytes s)) {from : ℕ} (is : from ≡ open_from 0 (closed_ends ends 0 (length s))) where
  -- with no segment closed the first change is the open one's
  pub none_first : from ≡ 0 → is_empty (held_run version s) ≡ is_empty (held_changes version ends s)
  none_first zero-from = by (closed_ends ends 0 (length s)) (rises ends 0 (length s) (omega arith)) (sym is ∙ zero-from)
    where
      by : (es : List ℕ) → Rises 0 es (length s) → open_from 0 es ≡ 0 → is_empty (held_run version s) ≡ is_empty (held_from version es 0 s)
      by [] r e = refl
      by (e ∷ es) r q = absurd (no (omega (arith, r.0, rises_up es e (length s) r.1, q)))
        where
          no : 0 < 0 → ⊥
          no x = omega (arith, x)

  pub some_first : (from ≡ 0 → ⊥) → eqb from 0 ≡ is_empty (held_changes version ends s)
  some_first some = ne_eqb from 0 some ∙ by (held_changes version ends s) (held_length version ends s h)
    where
      by : (cs : List Change) → sizes cs ≡ open_from 0 (closed_ends ends 0 (length s)) + sizes (held_run version (drop (open_from 0 (closed_ends ends 0 (length s))) s)) → false ≡ is_empty cs
      by [] q = absurd (some (omega (arith, is, q)))
      by (c ∷ cs) q = refl

  -- how many bytes are held, by the run of the open segment
  module _ {r : ℕ} (run : r ≡ sizes (held_run version (take (length s - from) (drop from s)))) where
    same_run : r ≡ sizes (held_run version (drop (open_from 0 (closed_ends ends 0 (length s))) s))
    same_run =
        run
        ∙ ap (λ (l : List ℕ). sizes (held_run version l)) (take_all (length s - from) (drop from s) (omega (arith, length-drop from s)))
        ∙ ap (λ (k : ℕ). sizes (held_run version (drop k s))) is

    pub counted : from + r ≡ sizes (held_changes version ends s)
    counted = omega (arith, is, same_run, held_length version ends s h)

    pub counted_within : from + r ≤ length s
    counted_within = omega (arith, counted, held_short version ends s h)

-- a part of bytes is bytes
pub part_bytes : (from n : ℕ) (s : List ℕ) → T (is_bytes s) → T (is_bytes (take n (drop from s)))
part_bytes from n s h = bytes_take n (drop from s) (bytes_drop from s h)

-- each change of a segment is one that was read, so that it can be sent and made
pub segment_taken : (version : ℕ) (closed : Bool) (s : List ℕ) → T (is_bytes s) → Each (TakenChange version) (segment_run version closed s)
segment_taken version true s h = total_taken version s h
segment_taken version false s h = (held_stands version s h).taken
