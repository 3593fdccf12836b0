-- Writing the messages of a batch: what is still to be written. Assumes nothing.
use mathlib.Core.Path.{◌≡◌, refl, ap, ◌∙◌}
use mathlib.Core.Bool.{true, false}
use mathlib.Core.List.{List, [], ◌∷◌, ◌++◌}
use Prim.Native.Nat.{ℕ, zero, suc, ◌+◌, ◌≤◌}
use native.Mathlib.Omega.{arith}
use lib.ListN.{length, take, drop}
use lib.Dec.{ltb}
use Rattle.model_frame.specs.Frame.{Change, record_msg}
use Rattle.model_frame.specs.Parse.{run_bytes}
use Rattle.model_frame.specs.Writing.{change_bytes}
use Rattle.model_frame.specs.Sizes.{sizes}
use Rattle.model_frame.proofs.Runs.{run_append, sizes_append}
use Rattle.model_frame.proofs.Sizes.{changes_size}
use Rattle.model_session.specs.Whole.{skip_to, send_msg}
use Rattle.base_bytes.specs.declared.writer.Writer.{Writer}
use Rattle.base_bytes.specs.Put.{Put}
use Rattle.base_laws.proofs.Writes.{Left, left_room, left_step, left_done}
use Rattle.store_log.specs.Log.{msg, rest_of, Position, NextMessage}
use Rattle.active_messages.proofs.Measuring.{taken_more, full_taken, piece_of}
use Rattle.active_messages.specs.Cut.{taken}

module _ (limit C M end : ℕ) (w b : List ℕ) where
  -- the bytes of what a batch takes
  abbrev pub to_write : ℕ → ℕ → ℕ → List ℕ
  to_write sent next left = run_bytes change_bytes (taken limit sent next (rest_of C M end w b left))

  module _ (first : Writer) (left₀ dist₀ next₀ : ℕ) where
    pub record Sending (writer : Writer) (left dist next sent : ℕ) : Type 0 where
      pub stands : Position C M end w b left dist
      pub sums : sent + dist ≤ dist₀
      pub writes : Left first.out.now first.at (to_write 0 next₀ left₀) writer.out.now writer.at (to_write sent next left)
      pub same : writer.out.ghost_name ≡ first.out.ghost_name

    pub full_stop : (writer : Writer) (left dist next sent : ℕ) → Sending writer left dist next sent → ltb limit sent ≡ true → Put first (to_write 0 next₀ left₀) writer
    unfolding run_bytes
    full_stop writer left dist next sent g h = record { wrote = left_done g.writes (ap (run_bytes change_bytes) (full_taken limit sent next h (rest_of C M end w b left))); long = g.writes.same; same = g.same }

    pub last_stop : (writer : Writer) (left dist next sent : ℕ) → Sending writer left dist next sent → left ≡ 0 → Put first (to_write 0 next₀ left₀) writer
    unfolding rest_of run_bytes
    last_stop writer zero dist next sent g h = record { wrote = left_done g.writes refl; long = g.writes.same; same = g.same }
    last_stop writer (suc left) dist next sent g h = absurd (no h)
      where
        no : suc left ≡ 0 → ⊥
        no h = omega (arith, h)

    module _ (writer : Writer) (left dist next sent number start part rest left' dist' : ℕ) (g : Sending writer left dist next sent) (h : ltb limit sent ≡ false) (long : length b ≡ C)
        (r : NextMessage C M end w b left dist number start part rest left' dist') where
      abbrev this : List Change
      this = send_msg next (msg number (take part (drop start b) ++ take rest b))

      more : to_write sent next left ≡ run_bytes change_bytes this ++ to_write (sent + (part + rest)) (number + 1) left'
      more =
          ap (run_bytes change_bytes) (taken_more limit C M end w b left dist next sent number start part rest left' dist' h long r)
          ∙ run_append change_bytes this (taken limit (sent + (part + rest)) (number + 1) (rest_of C M end w b left'))

      pub has_room : first.at + sizes (taken limit 0 next₀ (rest_of C M end w b left₀)) ≤ length first.out.now → writer.at + sizes (skip_to next number) + 13 + part + rest ≤ length writer.out.now
      has_room k =
          let room : writer.at + length (run_bytes change_bytes this) ≤ length writer.out.now =
          left_room (run_bytes change_bytes this) (to_write (sent + (part + rest)) (number + 1) left') g.writes more
          (omega (arith, k, changes_size (taken limit 0 next₀ (rest_of C M end w b left₀)))) in
          omega (arith, room, changes_size this, sizes_append (skip_to next number) (record_msg number (take part (drop start b) ++ take rest b) ∷ []), piece_of C M end w b left dist number start part rest left' dist' long r)

      pub goes_on : (next_writer : Writer) → Put writer (run_bytes change_bytes this) next_writer → Sending next_writer left' dist' (number + 1) (sent + (part + rest))
      goes_on next_writer p = record { stands = r.stands; sums = omega (arith, g.sums, r.nearer); writes = left_step g.writes p.wrote more; same = p.same ∙ g.same }
