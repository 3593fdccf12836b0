-- Times and the end never fall, time alone loses nothing, and when a renewal is due.
-- Assumes nothing.
use mathlib.Core.Path.{◌≡◌, refl, sym, ap, ◌∙◌}
use mathlib.Core.Bool.{Bool, true, false, cond, not, ◌&&◌, ◌||◌, true≢false}
use mathlib.Core.List.{List, [], ◌∷◌}
use Prim.Native.Nat.{ℕ, ◌+◌, ◌-◌, ◌/◌, ◌<◌, ◌≤◌, min}
use native.Mathlib.Omega.{arith}
use native.Mathlib.Nat.{le_trans, le_refl}
use lib.Dec.{eqb, leb, ltb}
use borrow.Author.Tests.{ltb-true, ltb-false, leb-true, le-leb, le-ltb, ne_eqb, eqb-false, not-true}
use Rattle.std.proofs.lemmas.Bool.{or_parts, and_parts}
use Rattle.model_lease.specs.Lease.{top, Lease, Due, Outcome, renewed, failed, deposed, Attempt, end_from, made, is_due, at, end_after, loses, after, Asked, renewal, is_early}
use Rattle.model_lease.specs.History.{LeaseCall, question, attempted, step, run, time_after, last_time}
use Rattle.model_lease.proofs.History.{by_cases, asked_early, asked_taken, question_early, question_taken, attempt_early, attempt_taken}

either : (P : Lease → Type 0) (b : Bool) (l m : Lease) → P l → P m → P (cond b l m)
either P true l m p q = p
either P false l m p q = q

-- an attempt that is taken: its times don't fall
in_order : (last : ℕ) (a : Attempt) → is_early last a ≡ false → (last ≤ a.start) × (a.start ≤ a.now)
in_order last a e =
    let n = or_parts (ltb a.start last) (ltb a.now a.start) e in
    (ltb-false a.start last n.0, ltb-false a.now a.start n.1)

-- ---- the end never falls, from the making on

-- the end is that of a start, which isn't past the last time
pub record Started (l : Lease) : Type 0 where
  pub start : ℕ
  pub until : l.until ≡ end_from start l.duration
  pub past : start ≤ l.last

abbrev Rises : Lease → Lease → Type 0
Rises l m = Started m × (l.until ≤ m.until)

rises_same : (l : Lease) → Started l → Rises l l
rises_same l s = (s, le_refl l.until)

rises_at : (l : Lease) (now : ℕ) → l.last ≤ now → Started l → Rises l (at now l)
rises_at l now le s = (record { start = s.start; until = s.until; past = le_trans s.past le }, le_refl l.until)

end_from_rises : (s start d : ℕ) → s ≤ start → end_from s d ≤ end_from start d
end_from_rises s start d le = omega arith

rises_to : (l : Lease) (start now : ℕ) (lost : Bool) (o : Outcome) → l.last ≤ start → start ≤ now → Started l
    → Rises l (record { duration = l.duration; until = end_after l start o; last = now; lost = lost })
rises_to l start now lost renewed low high s =
    (record { start = start; until = refl; past = high }, rw s.until (end_from_rises s.start start l.duration (le_trans s.past low)))
rises_to l start now lost failed low high s = (record { start = s.start; until = s.until; past = le_trans s.past (le_trans low high) }, le_refl l.until)
rises_to l start now lost deposed low high s = (record { start = s.start; until = s.until; past = le_trans s.past (le_trans low high) }, le_refl l.until)

rises_after : (l : Lease) (a : Attempt) → l.last ≤ a.start → a.start ≤ a.now → Started l → Rises l (after l a)
rises_after l a low high s =
    either (Rises l) l.lost (at a.now l)
    (record { duration = l.duration; until = end_after l a.start a.outcome; last = a.now; lost = loses l.until a.now a.outcome })
    (rises_at l a.now (le_trans low high) s)
    (rises_to l a.start a.now (loses l.until a.now a.outcome) a.outcome low high s)

rises : (l : Lease) (c : LeaseCall) → Started l → Rises l (step l c)
rises l (question now) s =
    by_cases (Rises l (step l (question now))) (ltb now l.last)
    (λ e. rw (question_early l now e) (rises_same l s))
    (λ e. rw (question_taken l now e) (rises_at l now (ltb-false now l.last e) s))
rises l (attempted a) s =
    by_cases (Rises l (step l (attempted a))) (is_early l.last a)
    (λ e. rw (attempt_early l a e) (rises_same l s))
    (λ e. let o = in_order l.last a e in rw (attempt_taken l a e) (rises_after l a o.0 o.1 s))

rises_all : (l : Lease) (cs : List LeaseCall) → Started l → Rises l (run l cs)
rises_all l [] s = rises_same l s
rises_all l (c ∷ cs) s =
    let r = rises l c s in
    let q = rises_all (step l c) cs r.0 in
    (q.0, le_trans r.1 q.1)

pub end_never_falls : (d s : ℕ) (cs more : List LeaseCall) → (run (made d s) cs).until ≤ (run (run (made d s) cs) more).until
end_never_falls d s cs more =
    (rises_all (run (made d s) cs) more (rises_all (made d s) cs (record { start = s; until = refl; past = le_refl s })).0).1

-- ---- the times: the lease has the last one that the list handed in, and it never falls; the duration stays

after_last : (l : Lease) (a : Attempt) → ((after l a).last ≡ a.now) × ((after l a).duration ≡ l.duration)
after_last l a =
    either (λ (m : Lease). (m.last ≡ a.now) × (m.duration ≡ l.duration)) l.lost (at a.now l)
    (record { duration = l.duration; until = end_after l a.start a.outcome; last = a.now; lost = loses l.until a.now a.outcome })
    (refl, refl) (refl, refl)

step_last : (l : Lease) (c : LeaseCall) → ((step l c).last ≡ time_after l.last c) × ((step l c).duration ≡ l.duration)
step_last l (question now) =
    by_cases (((step l (question now)).last ≡ time_after l.last (question now)) × ((step l (question now)).duration ≡ l.duration)) (ltb now l.last)
    (λ e. rw (question_early l now e, e) (refl, refl))
    (λ e. rw (question_taken l now e, e) (refl, refl))
step_last l (attempted a) =
    by_cases (((step l (attempted a)).last ≡ time_after l.last (attempted a)) × ((step l (attempted a)).duration ≡ l.duration)) (is_early l.last a)
    (λ e. rw (attempt_early l a e, e) (refl, refl))
    (λ e. rw (attempt_taken l a e, e) (after_last l a))

pub run_last : (l : Lease) (cs : List LeaseCall) → ((run l cs).last ≡ last_time l.last cs) × ((run l cs).duration ≡ l.duration)
run_last l [] = (refl, refl)
run_last l (c ∷ cs) =
    let r = step_last l c in
    let q = run_last (step l c) cs in
    (q.0 ∙ ap (λ (n : ℕ). last_time n cs) r.0, q.1 ∙ r.1)

time_rises : (last : ℕ) (c : LeaseCall) → last ≤ time_after last c
time_rises last (question now) =
    by_cases (last ≤ time_after last (question now)) (ltb now last) (λ e. rw e (le_refl last)) (λ e. rw e (ltb-false now last e))
time_rises last (attempted a) =
    by_cases (last ≤ time_after last (attempted a)) (is_early last a) (λ e. rw e (le_refl last))
    (λ e. let o = in_order last a e in rw e (le_trans o.0 o.1))

pub times_never_fall : (last : ℕ) (cs : List LeaseCall) → last ≤ last_time last cs
times_never_fall last [] = le_refl last
times_never_fall last (c ∷ cs) = le_trans (time_rises last c) (times_never_fall (time_after last c) cs)

-- ---- time alone loses nothing, and no success does

pub question_keeps : (l : Lease) (now : ℕ) → ((step l (question now)).lost ≡ l.lost) × ((step l (question now)).until ≡ l.until)
question_keeps l now =
    by_cases (((step l (question now)).lost ≡ l.lost) × ((step l (question now)).until ≡ l.until)) (ltb now l.last)
    (λ e. rw (question_early l now e) (refl, refl))
    (λ e. rw (question_taken l now e) (refl, refl))

pub success_keeps : (l : Lease) (start now : ℕ) → l.lost ≡ false → (step l (attempted (record { start = start; now = now; outcome = renewed }))).lost ≡ false
success_keeps l start now e =
    let a : Attempt = record { start = start; now = now; outcome = renewed } in
    by_cases ((step l (attempted a)).lost ≡ false) (is_early l.last a)
    (λ t. ap (λ (m : Lease). m.lost) (attempt_early l a t) ∙ e)
    (λ t. ap (λ (m : Lease). m.lost) (attempt_taken l a t) ∙ both l.lost e)
  where
    both : (b : Bool) → b ≡ false → (cond {A = Lease} b (record { duration = l.duration; until = l.until; last = now; lost = b }) (record { duration = l.duration; until = end_from start l.duration; last = now; lost = false })).lost ≡ false
    both true e = e
    both false e = refl

-- ---- when a renewal is due

-- no more than half, rounded down: twice what is left is no more than the duration
pub half : (left d : ℕ) → (left ≤ d / 2 → left + left ≤ d) × (left + left ≤ d → left ≤ d / 2)
half left d = (λ h. omega arith, λ h. omega arith)

pub due_only : (l : Lease) (now : ℕ) → is_due l now ≡ true → Due l now
due_only l now e =
    let p = and_parts (not l.lost) (not (eqb l.duration top) && leb (l.until - now) (l.duration / 2)) e in
    let q = and_parts (not (eqb l.duration top)) (leb (l.until - now) (l.duration / 2)) p.1 in
    record {
      held = not-true l.lost p.0;
      ends = eqb-false l.duration top (not-true (eqb l.duration top) q.0);
      left = (half (l.until - now) l.duration).0 (leb-true (l.until - now) (l.duration / 2) q.1);
    }

pub due_if : (l : Lease) (now : ℕ) → Due l now → is_due l now ≡ true
due_if l now u =
    let held : l.lost ≡ false = u.held in
    let ends : eqb l.duration top ≡ false = ne_eqb l.duration top u.ends in
    let left : leb (l.until - now) (l.duration / 2) ≡ true = le-leb (l.until - now) (l.duration / 2) ((half (l.until - now) l.duration).1 u.left) in
    rw (held, ends, left)
