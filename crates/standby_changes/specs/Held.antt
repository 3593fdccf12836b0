-- What the functions over a run of changes answer. Assumes nothing.
use Rattle.std.specs.Prelude as prelude
use Rattle.std.specs.Prelude.{Some, None, ℕ, suc, ◌≡◌, Bool, false, cond, List, ◌∷◌, length, drop, ltb}
use lib.Dec.{T}
use Rattle.model_frame.specs.Bytes.{is_bytes}
use Rattle.model_frame.specs.Frame.{Change}
use Rattle.model_frame.specs.Parse.{run_bytes}
use Rattle.model_frame.specs.Reading.{read_change}
use Rattle.model_frame.specs.Writing.{change_bytes}
use Rattle.model_frame.specs.Sizes.{sizes}
use Rattle.model_session.specs.Session.{fits, top}
use Rattle.frame_op.specs.Answers.{op_of, run_of, held_run}
use Rattle.frame_op.specs.declared.Op.{Op}
use Rattle.frame_op.specs.declared.Run.{Run}

-- each of these is a byte
abbrev pub AreBytes : List ℕ → Type 0
AreBytes s = T (is_bytes s)

-- all of these bytes are changes
abbrev pub TakesAll : ℕ → List ℕ → Type 0
TakesAll version s = sizes (held_run version s) ≡ length s

-- the outgoing number after a Record
abbrev pub outgoing_after : ℕ → prelude.Option ℕ
outgoing_after seq = cond (ltb seq top) (Some (suc seq)) None

-- whether more changes follow on from there
abbrev pub fits_from : prelude.Option ℕ → List Change → Bool
fits_from (Some n) cs = fits n cs
fits_from None cs = false

-- what an operation makes of the next number, whatever its parts of a buffer are
abbrev pub Follows : Op → ℕ → prelude.Option ℕ → Type 0
Follows op next r = (b : List ℕ) (cs : List Change) → fits_from r cs ≡ fits next (op_of b op ∷ cs)

-- the part r of the buffer b where a run stands: it holds the run's changes, as they are written, and nothing else
pub record RunPart (version : ℕ) (b : List ℕ) (run : Run) (r : List ℕ) : Type 0 where
  pub changes : held_run version r ≡ run_of (read_change version) b run
  pub all : TakesAll version r
  pub bytes : r ≡ run_bytes change_bytes (run_of (read_change version) b run)
