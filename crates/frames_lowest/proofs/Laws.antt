-- A line's lowest message on hand, and its text. Assumes nothing.
use mathlib.Core.Path.{◌≡◌, refl, sym, ap, subst, ◌∙◌}
use mathlib.Core.Bool.{Bool, true, not}
use borrow.Author.Tests.{ne_eqb}
use mathlib.Core.List.{List, [], ◌∷◌, ◌++◌}
use mathlib.Core.Option.{Option, none, some}
use Prim.Native.Nat.{ℕ, ◌+◌, ◌^◌, ◌≤◌, ◌<◌}
use native.Mathlib.Omega.{arith}
use lib.ListN.{length, take, drop, set, length-append}
use lib.Seq.{take_at}
use Rattle.std.specs.Prelude.{Some, None, decimal}
use Rattle.std.specs.Prelude as std
use Rattle.std.proofs.lemmas.Fmt.{length-decimal-le}
use Rattle.model_text.specs.Hex.{line_bytes}
use Rattle.base_laws.specs.Wrote.{Wrote}
use Rattle.base_laws.proofs.Little.{write_is}
use Rattle.base_flags.specs.Flag.{is_set}
use Rattle.base_hex.specs.Lines.{Puts}
use Rattle.standby_row.specs.declared.Bound.{Bound}
use Rattle.standby_counters.specs.declared.Replica.{Replica}
use Rattle.standby_state.specs.declared.Answer.{Answer}
use Rattle.standby_state.specs.Exact.{HandsUp}
use Rattle.standby_state.specs.Outcomes.{settings_of}
use Rattle.standby_step.specs.Calls.{room_all, standby_of, allowed_all}
use Rattle.model_lines.specs.Program.{lowest_text, lowest_on, lowest_step}
use Rattle.frames_line.specs.Answering.{no_ends, the_settings, HearsCall, Hears}
use Rattle.frames_lowest.specs.Telling.{record_text, heard_text, TellsLine}

-- ---- texts

pub few_digits : (n : ℕ) → n < 18446744073709551616 → length (decimal n) ≤ 20
few_digits n h = length-decimal-le 20 n (omega arith) (omega arith) (omega arith)

pub put_text : {x out o : List ℕ} {k : ℕ} → Wrote out 0 x o k → length x ≤ length out → Puts x out o k
put_text {x} {out} w fit = record { count = omega (arith, w.past); wrote = w.bytes ∙ write_is out 0 x (omega arith) ∙ ap (λ (n : ℕ). x ++ drop n out) none_before }
  where
    none_before : 0 + length x ≡ length x
    none_before = omega arith

pub put_hyphen : (out : List ℕ) → 1 ≤ length out → Puts (45 ∷ []) out (set out 0 45) 1
put_hyphen [] h = absurd (no h)
  where
    no : 1 ≤ 0 → ⊥
    no h = omega (arith, h)
put_hyphen (x ∷ out) h = record { count = refl; wrote = refl }

front : {t out out' : List ℕ} {n : ℕ} → Puts t out out' n → take n out' ≡ t
front {t} {out} {out'} {n} p = ap (take n) p.wrote ∙ take_at t (drop (length t) out) n (sym p.count)

pub no_number : (a : Answer) {out out' : List ℕ} {n : ℕ} → a.has_lowest ≡ 0 → Puts (45 ∷ []) out out' n → Puts (record_text a) out out' n
no_number a {out} {out'} {n} e p = subst (λ (t : List ℕ). Puts t out out' n) (ap (λ (f : ℕ). std.cond (is_set f) (decimal a.lowest) (lowest_text none)) (sym e)) p

pub a_number : (a : Answer) {out out' : List ℕ} {n : ℕ} → (a.has_lowest ≡ 0 → ⊥) → Puts (decimal a.lowest) out out' n → Puts (record_text a) out out' n
a_number a {out} {out'} {n} e p = subst (λ (t : List ℕ). Puts t out out' n) (ap (λ (f : Bool). std.cond (not f) (decimal a.lowest) (lowest_text none)) (sym (ne_eqb a.has_lowest 0 e))) p

-- ---- a line

record_is : (t : Option ℕ) (a : Answer) → HandsUp t a → record_text a ≡ lowest_text t
record_is none a h = ap (λ (f : ℕ). std.cond (is_set f) (decimal a.lowest) (lowest_text none)) h.flag
record_is (some n) a h = (λ i. std.cond (is_set (h.flag i)) (decimal (h.number i)) (lowest_text none))

module _ (l : List ℕ) (c : Replica) (row : List Bound) (w b h out : List ℕ) where
  line_is : (c' : Replica) (row' : List Bound) (w' b' h' : List ℕ) {x : List ℕ} (o : std.Option Answer) → Hears l c c' row row' w w' b b' h h' o → x ≡ heard_text o → allowed_all the_settings row w b h ≡ true
      → record { state = standby_of the_settings c' row' w' b' (no_ends h'); text = x } ≡ lowest_step (settings_of the_settings (room_all row h)) (standby_of the_settings c row w b (no_ends h)) l
  line_is c' row' w' b' h' None q e ok =
      (λ j. record { state = standby_of the_settings (q.1 j) (q.2 j) (q.3 j) (q.4 j) (no_ends (q.5 j)); text = e j })
      ∙ sym (ap (lowest_on (settings_of the_settings (room_all row h)) (standby_of the_settings c row w b (no_ends h))) q.0)
  line_is c' row' w' b' h' (Some a) q e ok =
      let p = q.call.steps ok in
      (λ j. record { state = (p.is j).state; text = (e ∙ record_is _ a p.lowest) j })
      ∙ sym (ap (lowest_on (settings_of the_settings (room_all row h)) (standby_of the_settings c row w b (no_ends h))) q.read)

  pub tells : {c' : Replica} {row' : List Bound} {w' b' h' out' : List ℕ} (o : std.Option Answer) {n : ℕ} → Hears l c c' row row' w w' b b' h h' o → Puts (heard_text o) out out' n → TellsLine l c c' row row' w w' b b' h h' out out' n
  tells {c'} {row'} {w'} {b'} {h'} o q p = record { answer = o; hears = q; puts = p; is = line_is c' row' w' b' h' o q (front p) }

-- the text lies in the output area
pub told_fits : {l : List ℕ} {c c' : Replica} {row row' : List Bound} {w w' b b' h h' out out' : List ℕ} {n : ℕ} → TellsLine l c c' row row' w w' b b' h h' out out' n → n ≤ length out'
told_fits {out = out} {out' = out'} {n = n} k =
    let all : length out' ≡ length (heard_text k.answer) + length (drop (length (heard_text k.answer)) out) = ap (λ (x : List ℕ). length x) k.puts.wrote ∙ length-append (heard_text k.answer) (drop (length (heard_text k.answer)) out) in
    omega (arith, k.puts.count, all)
