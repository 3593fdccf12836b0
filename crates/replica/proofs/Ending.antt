-- What a call over the areas as one record says of the slices that were lent for it. Assumes nothing.
use Prim.Native.Nat.{ℕ}
use mathlib.Core.Path.{◌≡◌, sym, subst, ◌∙◌}
use mathlib.Core.List.{List}
use Rattle.standby_segments.specs.Segments.{Holds, hold_areas}
use Rattle.standby_row.specs.declared.Bound.{Bound}
use Rattle.model_standby.specs.State.{Call}
use Rattle.standby_counters.specs.declared.Replica.{Replica}
use Rattle.standby_state.specs.declared.Settings.{Settings}
use Rattle.standby_state.specs.declared.Answer.{Answer}
use Rattle.std.specs.Prelude.{T, Option}
use Rattle.standby_row.specs.declared.lookup.Lookup.{Lookup}
use Rattle.standby_step.specs.Lowest.{lowest_told}
use Rattle.model_frame.specs.Bytes.{is_bytes}
use Rattle.standby_call.specs.declared.Call.{Call as DeclaredCall}
use Rattle.standby_call.specs.Call.{call_of}
use Rattle.standby_step.specs.Calls.{Called}
use Rattle.standby_step.proofs.Lowest.{BytesOf}

-- the slices at the end, by whichever names
pub at_end : {s : Settings} {call : Call} {c c' : Replica} {row row' : List Bound} {w x x' b y y' : List ℕ} {h z : Holds} {p q : List ℕ} {a : Answer} → Called s call c c' row row' w x b y h z a
    → x' ≡ x → y' ≡ y → p ≡ z.bytes → q ≡ z.ends → Called s call c c' row row' w x' b y' h (hold_areas p q) a
at_end {s} {call} {c} {c'} {row} {row'} {w} {x} {x'} {b} {y} {y'} {h} {z} {p} {q} {a} g d e f i =
    subst (λ (u : List ℕ). Called s call c c' row row' w u b y' h (hold_areas p q) a) (sym d)
    (subst (λ (u : List ℕ). Called s call c c' row row' w x b u h (hold_areas p q) a) (sym e)
    (subst (λ (u : Holds). Called s call c c' row row' w x b y h u a) (sym (λ j. record { bytes = f j; ends = i j })) g))

-- a call that carries a frame hands in its bytes
pub bytes_of_call : (call : DeclaredCall) (f : List ℕ) → T (is_bytes f) → BytesOf (call_of call f)
bytes_of_call DeclaredCall.OnFrameHeld f h = h
bytes_of_call DeclaredCall.OnFrame f h = h
bytes_of_call (DeclaredCall.Flush n) f h = tt
bytes_of_call (DeclaredCall.DisconnectedFrom n) f h = tt
bytes_of_call DeclaredCall.Promote f h = tt
bytes_of_call DeclaredCall.PromoteUnchecked f h = tt

-- what is handed up, of the slices by whichever names
pub told_at : (s : Settings) (seen : Lookup) (call : Call) (w' b' : List ℕ) (a : Answer) {w b : List ℕ} {t : Option ℕ} → t ≡ lowest_told s seen call w b a → w ≡ w' → b ≡ b' → t ≡ lowest_told s seen call w' b' a
told_at s seen call w' b' a e f g = e ∙ (λ i. lowest_told s seen call (f i) (g i) a)
