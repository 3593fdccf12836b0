-- Writing a change piece by piece. Assumes nothing.
use mathlib.Core.Path.{◌≡◌, refl, sym}
use mathlib.Core.List.{List, [], ◌∷◌, ◌++◌, append_assoc, append-nil}
use Prim.Native.Nat.{ℕ, ◌+◌, ◌-◌, ◌≤◌, ◌<◌}
use native.Mathlib.Omega.{arith}
use lib.ListN.{length, take, drop, length-append, length-take, length-drop}
use borrow.Author.Tests.{lt-ltb, le-ltb}
use Rattle.model_frame.specs.Bytes.{bytes_of}
use Rattle.model_frame.specs.Frame.{record_msg}
use Rattle.model_frame.specs.Parse.{run_bytes}
use Rattle.model_frame.specs.Writing.{blob_bytes, change_bytes}
use Rattle.model_frame.specs.Sizes.{sizes}
use Rattle.model_frame.proofs.Runs.{run_append}
use Rattle.model_frame.proofs.Sizes.{changes_size}
use Rattle.model_session.specs.Whole.{skip_to, send_msg}
use Rattle.store_log.specs.Log.{msg}
use Rattle.base_laws.proofs.Little.{write_none}
use Rattle.base_bytes.specs.declared.writer.Writer.{Writer}
use Rattle.base_bytes.specs.Put.{Put}
use Rattle.base_bytes.proofs.Puts.{put_on}

-- nothing was written
pub put_none : (w : Writer) → Put w [] w
put_none w = record { wrote = record { bytes = sym (write_none w.out.now w.at); past = omega arith }; long = refl; same = refl }

-- a record's number and length, then its message
pub put_recorded : {w v u : Writer} (n k : ℕ) {xs : List ℕ} → length xs ≡ k → Put w (4 ∷ bytes_of 8 n ++ bytes_of 4 k) v → Put v xs u → Put w (change_bytes (record_msg n xs)) u
unfolding change_bytes blob_bytes
put_recorded n k {xs} f p q = rw (f, ← (append_assoc (bytes_of 8 n) (bytes_of 4 k) xs)) (put_on p q)

-- a bare record, or none
pub put_skipped : {w v : Writer} (next n : ℕ) → next < n → Put w (5 ∷ bytes_of 8 (n - 1)) v → Put w (run_bytes change_bytes (skip_to next n)) v
unfolding run_bytes change_bytes
put_skipped next n h p = rw (lt-ltb next n h, append-nil (5 ∷ bytes_of 8 (n - 1))) p

pub skip_nothing : (w : Writer) (next n : ℕ) → n ≤ next → Put w (run_bytes change_bytes (skip_to next n)) w
unfolding run_bytes
skip_nothing w next n h = rw (le-ltb next n h) (put_none w)

-- a message in two parts of the ring
pub piece_length : (b : List ℕ) (start first rest : ℕ) → start + first ≤ length b → rest ≤ length b → length (take first (drop start b) ++ take rest b) ≡ first + rest
piece_length b start first rest h g = omega (arith, length-append (take first (drop start b)) (take rest b), length-take first (drop start b), length-drop start b, length-take rest b)

pub put_sending : {w v u : Writer} (next n : ℕ) (xs : List ℕ) → Put w (run_bytes change_bytes (skip_to next n)) v → Put v (change_bytes (record_msg n xs)) u → Put w (run_bytes change_bytes (send_msg next (msg n xs))) u
unfolding run_bytes
put_sending next n xs p q = rw (run_append change_bytes (skip_to next n) (record_msg n xs ∷ []), append-nil (change_bytes (record_msg n xs))) (put_on p q)

-- where the bare record ends
pub skip_past : {w v : Writer} (next n : ℕ) → Put w (run_bytes change_bytes (skip_to next n)) v → v.at ≡ w.at + sizes (skip_to next n)
skip_past next n p = omega (arith, p.wrote.past, changes_size (skip_to next n))
