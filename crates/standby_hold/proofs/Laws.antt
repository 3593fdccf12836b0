-- The ways out of holding, each over what was found before it. Assumes nothing.
use mathlib.Core.Path.{◌≡◌, refl, sym, ap, ◌∙◌}
use mathlib.Core.Bool.{Bool, true, false, cond, not, ◌&&◌}
use mathlib.Core.List.{List, [], ◌∷◌}
use Rattle.std.specs.Prelude.{Ok, Err}
use Prim.Native.Nat.{ℕ, ◌+◌, ◌-◌, ◌<◌, ◌≤◌, min}
use native.Mathlib.Omega.{arith}
use native.Mathlib.Nat.{sub-zero}
use lib.ListN.{length, take, drop, get_or, length-take}
use lib.Dec.{ltb, eqb}
use borrow.Author.Tests.{lt-ltb, le-ltb, ne_eqb}
use Rattle.model_frame.specs.Bytes.{write}
use Rattle.model_frame.specs.Frame.{Change, set_incoming, set_incoming_in_flight, set_in_flight, record_msg, record_bare, reset, set_created_at, set_marks}
use Rattle.model_frame.specs.Parse.{is_empty}
use Rattle.model_frame.specs.Sizes.{size_of, sizes}
use Rattle.model_session.specs.Session.{message_bytes, top}
use Rattle.model_standby.specs.Standby.{max_whole, starts_with_reset}
use Rattle.frame_op.specs.Answers.{held_run}
use Rattle.model_frame.proofs.Le.{are_bytes, bytes_take}
use Rattle.standby_changes.specs.Held.{TakesAll}
use Rattle.standby_segments.specs.Segments.{Holds, held_changes, held_in}
use Rattle.standby_segments.proofs.Meaning.{held_short}
use Rattle.standby_hold.specs.declared.HoldError.{HoldError}
use Rattle.standby_hold.specs.Holding.{sum_of, hold_refusal_for, HoldIs}

positive : (c : Change) → 0 < size_of c
positive (set_incoming n) = omega arith
positive (set_incoming_in_flight n f) = omega arith
positive (set_in_flight f) = omega arith
positive (record_msg q w) = omega arith
positive (record_bare q) = omega arith
positive reset = omega arith
positive (set_created_at t) = omega arith
positive (set_marks m) = omega arith

-- the first bytes of an area, as they are lent
pub front : (version len : ℕ) (area : Holds) {used : ℕ} → used ≡ sizes (held_changes version area.ends (take (len - 0) (drop 0 area.bytes))) → used ≡ sizes (held_in version area len)
front version len area e = e ∙ ap (λ (k : ℕ). sizes (held_changes version area.ends (take k area.bytes))) (sub-zero len)

pub within : (version len : ℕ) (area : Holds) {used : ℕ} → ((i : ℕ) → get_or area.bytes i 0 < 256) → used ≡ sizes (held_in version area len) → (used ≤ length area.bytes) × (used ≤ len)
within version len area known u =
    let short : sizes (held_in version area len) ≤ length (take len area.bytes) = held_short version area.ends (take len area.bytes) (bytes_take len area.bytes (are_bytes area.bytes known)) in
    (omega (arith, u, short, length-take len area.bytes), omega (arith, u, short, length-take len area.bytes))

-- no changes are no bytes
pub empty_size : (cs : List Change) → is_empty cs ≡ eqb (sizes cs) 0
empty_size [] = refl
empty_size (c ∷ cs) = sym (ne_eqb (sizes (c ∷ cs)) 0 (λ e. no e))
  where
    no : size_of c + sizes cs ≡ 0 → ⊥
    no e = omega (arith, e, positive c)

module _ (version : ℕ) (run : List ℕ) (area : Holds) (len sum : ℕ) {used before more s : ℕ} {lacks : Bool}
    (u : used ≡ sizes (held_in version area len)) (b : before ≡ cond (eqb used 0) 0 sum) (m : more ≡ message_bytes (held_run version run)) (t : s ≡ min (before + more) 18446744073709551615)
    (l : lacks ≡ (eqb used 0 && not (starts_with_reset (held_run version run)))) (all : TakesAll version run) where
  abbrev H : List Change
  H = held_in version area len

  abbrev cs : List Change
  cs = held_run version run

  none : eqb used 0 ≡ is_empty H
  none = ap (λ (k : ℕ). eqb k 0) u ∙ sym (empty_size H)

  total : s ≡ sum_of H sum cs
  total = t ∙ ap (λ (k : ℕ). min (k + more) top) (b ∙ ap (λ (x : Bool). cond x 0 sum) none) ∙ ap (λ (k : ℕ). min (cond (is_empty H) 0 sum + k) top) m

  lacking : lacks ≡ (is_empty H && not (starts_with_reset cs))
  lacking = l ∙ ap (λ (x : Bool). x && not (starts_with_reset cs)) none

  size : length run ≡ sizes cs
  size = sym all

  pub no_reset : lacks ≡ true → HoldIs version run area len sum area.bytes (Err (record { why = HoldError.NoReset; held = record { used = used; sum = s } }))
  no_reset h = record { refusal = sym (ap (λ (x : Bool). cond x 16 (cond (ltb max_whole (sum_of H sum cs)) 17 (cond (ltb (length area.bytes) (sizes H + sizes cs)) 18 0))) (sym lacking ∙ h)); summed = total; ends = u; written = refl }

  past_16 : lacks ≡ false → hold_refusal_for H sum cs (length area.bytes) ≡ cond (ltb max_whole s) 17 (cond (ltb (length area.bytes) (sizes H + sizes cs)) 18 0)
  past_16 h =
      ap (λ (x : Bool). cond x 16 (cond (ltb max_whole (sum_of H sum cs)) 17 (cond (ltb (length area.bytes) (sizes H + sizes cs)) 18 0))) (sym lacking ∙ h)
      ∙ ap (λ (k : ℕ). cond (ltb max_whole k) 17 (cond (ltb (length area.bytes) (sizes H + sizes cs)) 18 0)) (sym total)

  pub too_much : lacks ≡ false → 4294967296 < s → HoldIs version run area len sum area.bytes (Err (record { why = HoldError.TooManyBytes; held = record { used = used; sum = s } }))
  too_much h g = record { refusal = sym (past_16 h ∙ ap (λ (x : Bool). cond x 17 (cond (ltb (length area.bytes) (sizes H + sizes cs)) 18 0)) (lt-ltb max_whole s g)); summed = total; ends = u; written = refl }

  past_17 : lacks ≡ false → s ≤ 4294967296 → hold_refusal_for H sum cs (length area.bytes) ≡ cond (ltb (length area.bytes) (used + length run)) 18 0
  past_17 h g =
      past_16 h ∙ ap (λ (x : Bool). cond x 17 (cond (ltb (length area.bytes) (sizes H + sizes cs)) 18 0)) (le-ltb max_whole s g)
      ∙ ap (λ (k : ℕ). cond (ltb (length area.bytes) (k + sizes cs)) 18 0) (sym u) ∙ ap (λ (k : ℕ). cond (ltb (length area.bytes) (used + k)) 18 0) (sym size)

  pub no_room : lacks ≡ false → s ≤ 4294967296 → length area.bytes < used + length run → HoldIs version run area len sum area.bytes (Err (record { why = HoldError.AreaFull; held = record { used = used; sum = s } }))
  no_room h g r = record { refusal = sym (past_17 h g ∙ ap (λ (x : Bool). cond x 18 0) (lt-ltb (length area.bytes) (used + length run) r)); summed = total; ends = u; written = refl }

  pub held : lacks ≡ false → s ≤ 4294967296 → used + length run ≤ length area.bytes → {bytes' : List ℕ} → bytes' ≡ write area.bytes used run
      → HoldIs version run area len sum bytes' (Ok (record { used = used + length run; sum = s }))
  held h g r {bytes'} w = record {
    refusal = sym (past_17 h g ∙ ap (λ (x : Bool). cond x 18 0) (le-ltb (length area.bytes) (used + length run) r));
    summed = total;
    ends = ap (λ (k : ℕ). k + length run) u;
    written = w ∙ ap (λ (k : ℕ). write area.bytes k run) u;
  }
